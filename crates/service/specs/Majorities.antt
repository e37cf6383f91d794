-- Whether enough nodes of a service are up, and since when they are not.
use Rattle.std.specs.Prelude.{ℕ, suc, ◌+◌, ◌-◌, Bool, true, false, nat_le, Option, Some, None, ◌≡◌, refl}

-- more than half of all
abbrev pub is_majority : ℕ → ℕ → Bool
is_majority up all = nat_le (suc all) (up + up)

-- since when there is none: as before if there is none again
abbrev pub lost_since : Option ℕ → ℕ → Bool → Option ℕ
lost_since before now true = None
lost_since None now false = Some now
lost_since (Some since) now false = Some since

-- whether there has been none for so long
abbrev pub is_over : Option ℕ → ℕ → ℕ → Bool
is_over None now limit = false
is_over (Some since) now limit = nat_le limit (now - since)

two_of_three : is_majority 2 3 ≡ true
two_of_three = refl

two_of_four : is_majority 2 4 ≡ false
two_of_four = refl

none_of_one : is_majority 0 1 ≡ false
none_of_one = refl

again_up : lost_since (Some 5) 9 true ≡ None
again_up = refl

still_down : lost_since (Some 5) 9 false ≡ Some 5
still_down = refl

down_at_last : lost_since None 9 false ≡ Some 9
down_at_last = refl

at_the_limit : is_over (Some 500) 30500 30000 ≡ true
at_the_limit = refl

just_before : is_over (Some 501) 30500 30000 ≡ false
just_before = refl
