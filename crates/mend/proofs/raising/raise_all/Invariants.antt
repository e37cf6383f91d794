use Rattle.std.proofs.Common.{◌≡◌, ℕ, List, length}
use Rattle.maildrop.specs.Kept.{kept_for}
use Rattle.mend.specs.Raising.{names_in, raised_by}
use Rattle.mend.proofs.raising.raise_all.Given as goal

-- what is raised for the names that are left makes all of it
abbrev pub invariant-loop-name : goal.invariant-loop-name
invariant-loop-name l = (name : List ℕ) → raised_by l.raise name (kept_for name l.kept) l.rest ≡ raised_by l.raise name (kept_for name l.initial.kept) (names_in l.initial.kept)

abbrev pub decreases-loop-name : goal.decreases-loop-name
decreases-loop-name l = length l.rest
