use Rattle.peer_frames.proofs.WholeFrames.{prefix_is_none}
use Rattle.peer_frames.proofs.laws.frames_are_not_read_in_part.Goals as goal

pub returns : goal.returns
returns g c = λ v e k h small short. prefix_is_none {A = g.row.A.Denot} v e k h small short
