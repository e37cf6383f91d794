use Rattle.std.proofs.Common.{◌≡◌, ◌∙◌, [], drop, length, sym, ap, arith}
use Rattle.std.proofs.lemmas.List.{drop_all}
use Rattle.records.specs.declared.place.TheConstants.{RECORD_HEAD}
use Rattle.batches.proofs.batch.make_room.Goals as goal

pub returns-in_err-extend_from_slice-clause-content : goal.returns-in_err-extend_from_slice-clause-content
returns-in_err-extend_from_slice-clause-content g c =
    let none : c.extend_from_slice.new.self.items ≡ [] = c.in_err-extend_from_slice.ensures.items ∙ c.clear.ensures.items in
    ap (drop RECORD_HEAD) none ∙ sym (drop_all RECORD_HEAD c.args.bytes.now.items (grind (arith, c.if-len-lt-RECORD_HEAD.true, c.len.ensures)))
