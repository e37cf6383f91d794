-- When a node that is alone in its process ticks.
use Rattle.std.specs.Prelude.{ℕ, ◌+◌, ◌*◌, Bool, true, false, ◌||◌, nat_le, if◌then◌else◌, ◌≡◌, refl}

-- 1 and 32 seconds, in milliseconds
abbrev pub shortest_rest : ℕ
shortest_rest = 1000

abbrev pub longest_rest : ℕ
longest_rest = 32000

-- for how long it has rested since its last tick, and how long it rests while it hears too few others
pub record Pace : Type 0 where
  pub rested : ℕ
  pub rest : ℕ

abbrev pub new_pace : Pace
new_pace = record { rested = 0; rest = shortest_rest }

-- whether it ticks after so much time. A node that hears a majority ticks if it is busy, and once a second at least
abbrev pub is_due : Pace → ℕ → Bool → Bool → Bool
is_due p passed busy true = busy || nat_le shortest_rest (p.rested + passed)
is_due p passed busy false = nat_le p.rest (p.rested + passed)

-- the next rest: without a majority twice as long, up to the longest
abbrev pub next_rest : ℕ → Bool → ℕ
next_rest rest true = shortest_rest
next_rest rest false = if nat_le longest_rest (2 * rest) then longest_rest else 2 * rest

abbrev pub paced : Pace → ℕ → Bool → Bool → Pace
paced p passed busy majority = if is_due p passed busy majority
    then record { rested = 0; rest = next_rest p.rest majority }
    else record { rested = p.rested + passed; rest = p.rest }

busy_among_others : is_due new_pace 20 true true ≡ true
busy_among_others = refl

busy_alone : is_due new_pace 20 true false ≡ false
busy_alone = refl

a_second_alone : paced (record { rested = 980; rest = 1000 }) 20 true false ≡ record { rested = 0; rest = 2000 }
a_second_alone = refl

at_the_longest : next_rest 32000 false ≡ 32000
at_the_longest = refl

heard_again : next_rest 32000 true ≡ 1000
heard_again = refl
