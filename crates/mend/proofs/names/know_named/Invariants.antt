use Rattle.std.proofs.Common.{◌≡◌, ℕ, List}
use Rattle.maildrop.specs.Kept.{kept_for}
use Rattle.mend.proofs.names.know_named.Given as goal

-- nothing has changed but names
abbrev pub invariant-loop-i : goal.invariant-loop-i
invariant-loop-i l = (name : List ℕ) → kept_for name l.kept ≡ kept_for name l.initial.kept
