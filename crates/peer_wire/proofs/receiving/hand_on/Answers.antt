use Rattle.std.proofs.Common.{◌≡◌, length, drop, sym, ap, ◌∙◌, arith}
use Rattle.std.proofs.lemmas.List.{drop-drop, length-drop}
use Rattle.peer_frames.specs.Reading.{frame_at}
use Rattle.peer_frames.proofs.WholeFrames.{found}
use Rattle.peer_wire.proofs.FramesInARow.{one_handed, frame_length, within_limit}
use Rattle.peer_wire.proofs.receiving.hand_on.Goals as goal

pub loop-preserved : goal.loop-preserved
loop-preserved g c =
    let mid = drop c.loop.used c.args.bytes.now in
    let back : c.split_at.result.1.now ≡ mid = c.split_at.ensures.back in
    let s = rw c.in-Ok-Some.field-0-is at c.in-Ok-Some.ensures.used in
    let exact = rw c.in-Ok-Some.field-0-is at c.in-Ok-Some.ensures.exact in
    let len = frame_length {A = g.row.A.Denot} c.split_at.result.1.now c.in-Ok-Some.envelope c.in-Ok-Some.len s in
    let short = within_limit {A = g.row.A.Denot} c.args.longest c.in-Ok-Some.len c.split_at.result.1.now c.in-Ok-Some.envelope s (sym c.claims.ensures ∙ c.if-claims.false) in
    let is : frame_at mid ≡ found c.in-Ok-Some.envelope c.in-Ok-Some.len = rw (← back) exact in
    record {
      within = omega (arith, s.within, ap length back, length-drop c.loop.used c.args.bytes.now, c.loop.invariant.within);
      few = omega (arith, len.1, c.loop.invariant.few);
      turns = omega (arith, len.1, c.loop.invariant.turns);
      handed = rw (← drop-drop c.in-Ok-Some.len c.loop.used c.args.bytes.now)
          (one_handed c.args.inbox.now c.loop.inbox c.arrive-taken.new.self c.args.bytes.now mid c.loop.count c.in-Ok-Some.envelope c.in-Ok-Some.len c.loop.invariant.handed c.arrive-taken.ensures is short);
    }
