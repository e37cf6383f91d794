use Rattle.peer_frames.proofs.WholeFrames.{frame_again}
use Rattle.peer_frames.proofs.laws.frames_are_read_back.Goals as goal

pub returns : goal.returns
returns g c = λ v e rest h small. frame_again {A = g.row.A.Denot} v e rest h small
