-- The order of ballots.
use Rattle.std.specs.Prelude.{◌≡◌, refl, ℕ, ◌+◌, ◌-◌, ◌^◌, ◌<◌, ◌≤◌, ◌⊎◌, Bool, true, false, Option, Some, None, ◌==◌, ◌&&◌, ◌||◌, nat_lt, if◌then◌else◌}

pub record BallotNumber : Type 0 where
  pub round : ℕ
  pub leader : ℕ

-- a is below b: by the round, then by the leader
abbrev pub Below : BallotNumber → BallotNumber → Type 0
Below a b = (a.round < b.round) ⊎ ((a.round ≡ b.round) × (a.leader < b.leader))

-- a is b or below it
abbrev pub AtMost : BallotNumber → BallotNumber → Type 0
AtMost a b = (a.round < b.round) ⊎ ((a.round ≡ b.round) × (a.leader ≤ b.leader))

-- the test of Below
abbrev pub below : BallotNumber → BallotNumber → Bool
below a b = nat_lt a.round b.round || (a.round == b.round && nat_lt a.leader b.leader)

abbrev pub same_ballot : BallotNumber → BallotNumber → Bool
same_ballot a b = a.round == b.round && a.leader == b.leader

-- this node's ballot of the round after the seen one
abbrev pub next_ballot : BallotNumber → ℕ → Option BallotNumber
next_ballot seen me = if nat_lt (seen.round + 1) (2 ^ 64) then Some (record { round = seen.round + 1; leader = me }) else None

-- worked examples
next_of_four : next_ballot (record { round = 4; leader = 2 }) 1 ≡ Some (record { round = 5; leader = 1 })
next_of_four = refl

next_of_last : next_ballot (record { round = 2 ^ 64 - 1; leader = 2 }) 1 ≡ None
next_of_last = refl

round_first : below (record { round = 0; leader = 9 }) (record { round = 1; leader = 1 }) ≡ true
round_first = refl

then_leader : below (record { round = 1; leader = 2 }) (record { round = 1; leader = 1 }) ≡ false
then_leader = refl
