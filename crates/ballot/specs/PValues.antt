-- Lists of pvalues that hold equal ones once. Commands are compared by eq.
use Rattle.std.specs.Prelude.{List, [], ◌∷◌, ◌++◌, fold, Bool, ◌==◌, ◌&&◌, if◌then◌else◌}
use Rattle.std.specs.List.{list_any}
use Rattle.ballot.specs.Ballots.{same_ballot}
use Rattle.ballot.specs.declared.pvalue.PValue.{PValue}

module _ {C : Type 0} where
  abbrev pub same_pvalue : (C → C → Bool) → PValue C → PValue C → Bool
  same_pvalue eq p q = same_ballot p.ballot q.ballot && (p.slot == q.slot && eq p.command q.command)

  -- whether one of the pvalues equals p
  abbrev pub has_pvalue : (C → C → Bool) → PValue C → List (PValue C) → Bool
  has_pvalue eq p ps = list_any (same_pvalue eq p) ps

  -- p at the end, unless an equal one is there
  abbrev pub added : (C → C → Bool) → List (PValue C) → PValue C → List (PValue C)
  added eq ps p = if list_any (same_pvalue eq p) ps then ps else ps ++ p ∷ []

  -- those of ps, then those of qs that are new, in their order
  abbrev pub joined : (C → C → Bool) → List (PValue C) → List (PValue C) → List (PValue C)
  joined eq ps qs = fold (added eq) ps qs
