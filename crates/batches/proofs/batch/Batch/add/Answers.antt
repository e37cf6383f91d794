use Rattle.std.proofs.Common.{◌∙◌, drop, length, ap, sym, arith}
use Rattle.records.specs.declared.place.TheConstants.{RECORD_HEAD}
use Rattle.batches.proofs.Contents.{still_content, one_more}
use Rattle.batches.proofs.batch.Batch.add.Goals as goal

pub invariant_of-self : goal.invariant_of-self
invariant_of-self g c =
    let old = drop RECORD_HEAD c.self.inside.bytes.items in
    let new = drop RECORD_HEAD c.put_whole.new.bytes.items in
    still_content c.put_whole.result old new c.args.payload.now c.self.invariant (omega (arith, c.requires, ap length c.self.view_is)) c.put_whole.ensures.ok c.put_whole.ensures.kept

pub returns-clause-added : goal.returns-clause-added
returns-clause-added g c = λ payloads is.
    one_more c.put_whole.result (drop RECORD_HEAD c.self.inside.bytes.items) (drop RECORD_HEAD c.put_whole.new.bytes.items) c.args.payload.now c.put_whole.ensures.ok payloads (c.self.view_is ∙ is)
