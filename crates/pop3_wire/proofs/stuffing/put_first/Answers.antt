use Rattle.std.proofs.Common.{◌∙◌}
use Rattle.pop3_wire.proofs.Tops.{first-next}
use Rattle.pop3_wire.proofs.stuffing.put_first.Goals as goal

pub loop-left-preserved : goal.loop-left-preserved
loop-left-preserved g c =
    first-next c.loop-left.left c.loop-left.bytes.items c.put_line.new.bytes.items c.in-Some.line.now c.next_line.new.self c.loop-left.lines c.loop-left-test.true c.in-Some.ensures.0 c.in_ok-put_line.ensures
    ∙ c.loop-left.invariant
