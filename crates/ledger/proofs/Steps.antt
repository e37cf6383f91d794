-- Steps of reading that did not fail.
use Rattle.std.proofs.Common.{◌≡◌, ℕ, Bool, true, false, cond, List, Option, Some, None, Result, Ok, Err, refl, ap}
use Rattle.ledger.specs.declared.malformed.Malformed.{Malformed}
use Rattle.ledger.specs.declared.malformed.Malformed.TheVariants as malformed
use Rattle.ledger.specs.Reading.{Reading, ◌>>=◌, keeping, known}

-- the value of a step that did not fail
pub bind_ok : {X Y : Type 0} (r : Result X Malformed) (f : X → Result Y Malformed) (y : Y) → (r >>= f) ≡ Ok y → (x : X) × (r ≡ Ok x) × (f x ≡ Ok y)
bind_ok (Ok x) f y e = (x, refl, e)
bind_ok (Err d) f y e = absurd cc

abbrev done : {X : Type 0} → X → Result X Malformed
done x = Ok x

pub ok_is : {X : Type 0} (x y : X) → done x ≡ done y → x ≡ y
ok_is x y e = cc

-- a test that did not fail
pub guard_ok : {X : Type 0} (b : Bool) (f : Malformed) (x y : X) → cond b (Err f) (Ok x) ≡ Ok y → (b ≡ false) × (x ≡ y)
guard_ok true f x y e = absurd cc
guard_ok false f x y e = (refl, cc)

pub passed : {X : Type 0} (b : Bool) (f : Malformed) (x y : X) → cond b (Ok x) (Err f) ≡ Ok y → (b ≡ true) × (x ≡ y)
passed true f x y e = (refl, cc)
passed false f x y e = absurd cc

-- what was read under a rule was read, and keeps it
pub kept_ok : {X : Type 0} (rule : X → Bool) (read : Reading X) (x : X × List ℕ) → keeping rule read ≡ Ok x → (read ≡ Ok x) × (rule x.0 ≡ true)
kept_ok rule (Ok y) x e =
    let p = passed (rule y.0) malformed.Field y x e in
    (ap (λ z. Ok z) p.1, rw (← p.1) p.0)
kept_ok rule (Err f) x e = absurd cc

pub known_ok : {X : Type 0} (f : Malformed) (o : Option X) (x : X) → known f o ≡ Ok x → o ≡ Some x
known_ok f (Some y) x e = cc
known_ok f None x e = absurd cc

pub kept_again : {X : Type 0} (rule : X → Bool) (read : Reading X) (x : X × List ℕ) → read ≡ Ok x → rule x.0 ≡ true → keeping rule read ≡ Ok x
kept_again rule read x e passes = rw (e, passes) refl

-- a value and the rest
abbrev pub gave : {X : Type 0} → X → List ℕ → Reading X
gave x rest = Ok (x, rest)
