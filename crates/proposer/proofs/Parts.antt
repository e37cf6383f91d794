-- Parts of what a scout and a commander do with an answer, by names.
use Rattle.std.proofs.Common.{ℕ, ◌*◌, List, ◌∷◌, length, Bool, Option, if◌then◌else◌}
use Rattle.std.specs.Prelude.{nat_lt}
use Rattle.std.specs.Option.{option_map_or}
use mathlib.Core.Bool.{not, ◌&&◌, ◌||◌}
use Rattle.ballot.specs.Ballots.{BallotNumber, below}
use Rattle.ballot.specs.Nodes.{in_cluster, is_among}
use Rattle.ballot.specs.PValues.{joined}
use Rattle.ballot.specs.declared.pvalue.PValue.{PValue}
use Rattle.ballot.specs.declared.message.Promise.{Promise}
use Rattle.proposer.specs.Quorums.{Step, Waits, Wins, Yields, Ignores}
use Rattle.proposer.specs.Scouts.{ScoutState}
use Rattle.proposer.specs.Commanders.{CommanderState}

module _ {S R : Type 0} where
  -- an answer that comes after the end changes nothing
  abbrev pub while_waiting : Option S → (S → Step S R) → Step S R
  while_waiting old step = option_map_or step old Ignores

  -- the tests of an answer, and what it leads to once it is counted
  abbrev pub answered : ℕ → BallotNumber → List ℕ → ℕ → Bool → BallotNumber → Step S R → Step S R
  answered size mine heard from fits b counted =
      if not (in_cluster size from && fits) then Ignores
      else if below mine b then Yields b
      else if below b mine || is_among from heard then Ignores
      else counted

-- whether so many acceptors are more than half
abbrev pub is_quorum : ℕ → List ℕ → Bool
is_quorum size heard = nat_lt size (2 * length heard)

-- the commander that has counted one acceptor more
abbrev pub with_vote : CommanderState → ℕ → CommanderState
with_vote k from = record k { heard = from ∷ k.heard }

abbrev pub commander_counts : ℕ → CommanderState → Step CommanderState (Unit {0})
commander_counts size k = if is_quorum size k.heard then Wins tt else Waits k

module _ {C : Type 0} where
  -- the scout that has counted one acceptor more
  abbrev pub with_promise : {A : Type 0} → (C → C → Bool) → ScoutState C → ℕ → Promise C A → ScoutState C
  with_promise eq s from p = record s { heard = from ∷ s.heard; pvalues = joined eq s.pvalues p.accepted }

  abbrev pub scout_counts : ℕ → ScoutState C → Step (ScoutState C) (List (PValue C))
  scout_counts size s = if is_quorum size s.heard then Wins s.pvalues else Waits s
