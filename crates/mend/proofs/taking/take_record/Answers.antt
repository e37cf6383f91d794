use Rattle.mend.proofs.Takings.{on_ok, single_taken}
use Rattle.mend.proofs.taking.take_record.Goals as goal

pub returns-else-is_batched : goal.returns-else-is_batched
returns-else-is_batched c =
    on_ok c.take_payload.result (single_taken c.args.is_batched c.args.payload.now c.args.kept.now c.take_payload.new.kept c.if-is_batched.false) c.take_payload.ensures
