-- Waiting for the answers of more than half of the acceptors.
use Rattle.std.specs.Prelude.{ℕ, ◌*◌, List, ◌∷◌, length, Bool, true, false, not, Option, Some, None, ◌&&◌, ◌||◌, nat_lt, if◌then◌else◌}
use Rattle.ballot.specs.Ballots.{BallotNumber, below}
use Rattle.ballot.specs.Nodes.{in_cluster, is_among}

-- what waits in a cluster of this size, and nothing once the wait has ended
pub record Pending (S : Type 0) : Type 0 where
  pub size : ℕ
  pub state : Option S

-- what an answer leads to
pub data Step (S R : Type 0) : Type 0 where
  -- it is counted, and more are needed
  Waits : (state : S) → Step S R
  -- it is counted, and makes a majority
  Wins : (result : R) → Step S R
  -- a higher ballot ends the wait
  Yields : (ballot : BallotNumber) → Step S R
  -- it changes nothing
  Ignores : Step S R

module _ {S R : Type 0} where
  -- what waits after an answer
  abbrev pub left_by : Option S → Step S R → Option S
  left_by old (Waits s) = Some s
  left_by old Ignores = old
  left_by old _ = None

  -- whether the answer is counted
  abbrev pub is_counted : Step S R → Bool
  is_counted (Waits s) = true
  is_counted (Wins r) = true
  is_counted _ = false

  -- the tests of an answer, in their order: mine is the ballot that waits, heard are the acceptors counted, fits says whether what was asked is
  -- what the answer is to, and b is the answer's ballot. Once it is counted, `now` waits, or with more than half of the cluster the result is won
  abbrev pub counted_if_due : ℕ → BallotNumber → List ℕ → ℕ → Bool → BallotNumber → S → R → Step S R
  counted_if_due size mine heard from fits b now result =
      if not (in_cluster size from && fits) then Ignores
      else if below mine b then Yields b
      else if below b mine || is_among from heard then Ignores
      else if nat_lt size (2 * length (from ∷ heard)) then Wins result
      else Waits now
