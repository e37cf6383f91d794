use Rattle.peer_frames.proofs.WholeFrames.{begins_with_frame}
use Rattle.std.proofs.Common.{arith}
use Rattle.peer_frames.proofs.decoding.decode.Goals as goal

pub returns-clause-used : goal.returns-clause-used
returns-clause-used g c = begins_with_frame {A = g.row.A.Denot} c.args.bytes.now c.frame_of.result (λ i. omega (arith, c.type_inv.bytes i)) c.frame_of.ensures.exact
