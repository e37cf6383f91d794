-- The index of a union.
use Rattle.std.specs.Prelude.{ℕ, List, Option, IsSome}
use Rattle.ballot.specs.Ballots.{BallotNumber}
use Rattle.ballot.specs.Lists.{IsIn}
use Rattle.ballot.specs.declared.pvalue.PValue.{PValue}

-- the index has a place for the slot and ballot of each pvalue
pub record HasPlaces {C : Type 0} (place : ℕ × BallotNumber → Option ℕ) (pvalues : List (PValue C)) : Type 0 where
  pub each : (p : PValue C) → IsIn p pvalues → IsSome (place (p.slot, p.ballot))
