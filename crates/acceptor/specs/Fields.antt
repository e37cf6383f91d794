-- What an acceptor keeps for its slots, seen as pvalues.
use Rattle.std.specs.Prelude.{ℕ, List, map}
use Rattle.ballot.specs.declared.pvalue.PValue.{PValue}
use Rattle.acceptor.specs.declared.acceptor.Accepted.{Accepted}

module _ {C : Type 0} where
  abbrev pub pvalue_at : ℕ × Accepted C → PValue C
  pvalue_at e = record { ballot = e.1.ballot; slot = e.0; command = e.1.command }

  abbrev pub pvalues_of : List (ℕ × Accepted C) → List (PValue C)
  pvalues_of es = map pvalue_at es
