use Rattle.std.proofs.Common.{◌≡◌, drop}
use Rattle.std.specs.List.{list_any}
use Rattle.audit.specs.Turns.{is_untold}
use Rattle.audit.proofs.check.has_untold.Given as goal

abbrev pub invariant-loop-entry : goal.invariant-loop-entry
invariant-loop-entry g l = list_any is_untold l.entries ≡ list_any is_untold (drop l.entry-index l.entries)
