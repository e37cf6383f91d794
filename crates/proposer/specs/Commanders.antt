-- Commanders.
use Rattle.std.specs.Prelude.{◌≡◌, refl, ℕ, List, [], ◌∷◌, Bool, true, false, Some, ◌==◌, ◌&&◌}
use Rattle.std.specs.Option.{option_map_or}
use Rattle.ballot.specs.Ballots.{BallotNumber, same_ballot}
use Rattle.ballot.specs.Lists.{IsIn}
use Rattle.ballot.specs.Nodes.{in_cluster, is_among, AreDistinct, IsMajority}
use Rattle.ballot.specs.declared.message.Vote.{Vote}
use Rattle.proposer.specs.declared.commander.Verdict.{Verdict}
use Rattle.proposer.specs.declared.commander.Verdict.TheVariants.{Waiting, Decided, Preempted, Stale}
use Rattle.proposer.specs.Quorums.{Pending, Step, Waits, Wins, Yields, Ignores, left_by, counted_if_due}

-- a commander that waits: its ballot and slot, and the acceptors counted, the last first
pub record CommanderState : Type 0 where
  pub ballot : BallotNumber
  pub slot : ℕ
  pub heard : List ℕ

-- it has counted none
abbrev pub new_commander : BallotNumber → ℕ → CommanderState
new_commander b slot = record { ballot = b; slot = slot; heard = [] }

-- a commander that waits hears a vote
abbrev pub commander_hears : ℕ → CommanderState → ℕ → Vote → Step CommanderState (Unit {0})
commander_hears size k from v =
    let fits : Bool = same_ballot v.asked k.ballot && v.slot == k.slot in
    counted_if_due size k.ballot k.heard from fits v.ballot (record k { heard = from ∷ k.heard }) tt

-- a vote that comes after the end changes nothing
abbrev pub commander_step : Pending CommanderState → ℕ → Vote → Step CommanderState (Unit {0})
commander_step commander from v = option_map_or (λ k. commander_hears commander.size k from v) commander.state Ignores

-- what the commander answers
abbrev pub verdict_of : Step CommanderState (Unit {0}) → Verdict
verdict_of (Waits k) = Waiting
verdict_of (Wins r) = Decided
verdict_of (Yields b) = Preempted b
verdict_of Ignores = Stale

-- the vote is counted: an acceptor of the cluster that wasn't counted votes for the commander's ballot and slot
abbrev pub IsCounted : ℕ → CommanderState → ℕ → Vote → Type 0
IsCounted size k from v =
    (in_cluster size from ≡ true) × (v.asked ≡ k.ballot) × (v.slot ≡ k.slot) × (v.ballot ≡ k.ballot) × (is_among from k.heard ≡ false)

-- the commander after these answers, each with its sender
abbrev pub commander_after : Pending CommanderState → List (ℕ × Vote) → Pending CommanderState
commander_after commander [] = commander
commander_after commander (a ∷ answers) =
    commander_after (record { size = commander.size; state = left_by commander.state (commander_step commander a.0 a.1) }) answers

-- these answers of the acceptors that k counts: each is of the cluster, none is counted twice, and each voted for b and the slot in one of them
pub record HasVotes (answers : List (ℕ × Vote)) (size : ℕ) (b : BallotNumber) (slot : ℕ) (k : CommanderState) : Type 0 where
  pub mine : k.ballot ≡ b
  pub its_slot : k.slot ≡ slot
  pub distinct : AreDistinct size k.heard
  pub voted : (node : ℕ) → is_among node k.heard ≡ true → (v : Vote) × IsIn (node, v) answers × (v.asked ≡ b) × (v.slot ≡ slot) × (v.ballot ≡ b)

-- a majority has voted for b and the slot in these answers
abbrev pub IsDecision : List (ℕ × Vote) → ℕ → BallotNumber → ℕ → Type 0
IsDecision answers size b slot = (k : CommanderState) × HasVotes answers size b slot k × IsMajority size (λ node. is_among node k.heard)

-- a worked example: of the votes of 2, 2, 3 and 1 of three nodes the third decides
abbrev opening : Pending CommanderState
opening = record { size = 3; state = Some (new_commander (record { round = 0; leader = 1 }) 1) }

abbrev its_vote : Vote
its_vote = record { asked = record { round = 0; leader = 1 }; slot = 1; ballot = record { round = 0; leader = 1 } }

abbrev hearing : Pending CommanderState → ℕ → Pending CommanderState
hearing k from = record { size = k.size; state = left_by k.state (commander_step k from its_vote) }

first : verdict_of (commander_step opening 2 its_vote) ≡ Waiting
first = refl

again : verdict_of (commander_step (hearing opening 2) 2 its_vote) ≡ Stale
again = refl

other : verdict_of (commander_step (hearing (hearing opening 2) 2) 3 its_vote) ≡ Decided
other = refl

late : verdict_of (commander_step (hearing (hearing (hearing opening 2) 2) 3) 1 its_vote) ≡ Stale
late = refl
