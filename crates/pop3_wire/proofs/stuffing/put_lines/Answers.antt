use Rattle.std.proofs.Common.{sym, ◌∙◌}
use Rattle.pop3_wire.proofs.Undotted.{block-on_wire}
use Rattle.pop3_wire.proofs.stuffing.put_lines.Goals as goal

pub returns-then-not-has_dots : goal.returns-then-not-has_dots
returns-then-not-has_dots g c =
    rw (← block-on_wire c.args.text.now (sym c.has_dots.ensures ∙ c.if-not-has_dots.true), ← c.block.ensures) c.put.ensures
