use Rattle.std.proofs.Common.{ap}
use Rattle.std.specs.Prelude.{is_some}
use Rattle.node.specs.Nodes.{NodeValue}
use Rattle.audit.proofs.Replaying.{stepped, plain_stops}
use Rattle.audit.proofs.replay.step.Goals as goal

pub returns-in-Ok-clause-runs : goal.returns-in-Ok-clause-runs
returns-in-Ok-clause-runs g c =
    let plain = plain_stops c.args.input c.requires.plain in
    stepped c.args.node.now c.step.new.self c.args.input c.requires.runs plain.0 plain.1 c.in-Ok.ensures.log c.in-Ok.ensures.stops c.in-Ok.ensures.answers

pub returns-in-Err-clause-stopped : goal.returns-in-Err-clause-stopped
returns-in-Err-clause-stopped g c = ap (λ (n : NodeValue g.row.A.Denot). is_some n.stopped) c.in-Err.ensures.err
