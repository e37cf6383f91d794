use Rattle.std.proofs.Common.{◌∙◌}
use Rattle.pop3_wire.proofs.Feeding.{take_room}
use Rattle.pop3_wire.proofs.line_reader.keep.Goals as goal

pub returns : goal.returns
returns c = rw c.unwrap.ensures at c.try_extend_from_slice.ensures.ok ∙ take_room 512 _ _ _ _ c.remaining_capacity.ensures c.min-fitting.ensures
