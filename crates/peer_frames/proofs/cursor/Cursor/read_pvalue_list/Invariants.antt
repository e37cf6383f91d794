use Rattle.std.proofs.Common.{◌≡◌, ◌-◌}
use Rattle.peer_frames.specs.Reading.{pvalue_at, many_at}
use Rattle.peer_frames.proofs.Loops.{with_front}
use Rattle.peer_frames.proofs.cursor.Cursor.read_pvalue_list.Given as goal

abbrev pub invariant-loop : goal.invariant-loop
invariant-loop g l = with_front l.pvalues.items (many_at (pvalue_at l.version) (l.count - l.counter) l.self) ≡ many_at (pvalue_at l.version) l.count l.fn.self
