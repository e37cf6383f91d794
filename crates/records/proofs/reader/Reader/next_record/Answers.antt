use Rattle.std.proofs.Common.{◌≡◌, ◌+◌, length, drop, Some, ap, sym, ◌∙◌, arith}
use Rattle.std.proofs.lemmas.List.{length-drop}
use Rattle.records.specs.declared.place.TheConstants.{FRAME}
use Rattle.records.specs.Reading.{record_at}
use Rattle.records.specs.Readers.{Kept}
use Rattle.records.proofs.More.{record_within}
use Rattle.records.proofs.Readers.{step_record}
use Rattle.records.proofs.reader.Reader.next_record.Goals as goal

pub pass-requires : goal.pass-requires
pass-requires g c =
    let within = record_within c.args.salt c.self.inside.place c.get-unread.result.now (c.in-Some.payload.now, c.in-Some.field-0-1.now) (sym c.in-Some.ensures) in
    let kept : length c.self.inside.unread ≡ length c.args.self.now.bytes = ap (λ (k : Kept). length k.bytes) c.self.view_is in
    omega (arith, within, kept, ap length c.get-unread.ensures, c.len.ensures, ap length c.in_ok-payload.ensures.items)

pub returns-in-Some-clause-read : goal.returns-in-Some-clause-read
returns-in-Some-clause-read g c = λ bytes given h.
    let some : Some (c.in-Some.payload.now, c.in-Some.field-0-1.now) ≡ record_at c.args.salt c.self.inside.place c.self.inside.unread =
    c.in-Some.ensures ∙ ap (record_at c.args.salt c.self.inside.place) c.get-unread.ensures in
    let size : c.len.result ≡ length c.in-Some.payload.now = omega (arith, c.len.ensures, ap length c.in_ok-payload.ensures.items) in
    step_record bytes given c.self.inside.phase c.args.salt c.self.inside.place c.self.inside.unread c.in-Some.payload.now c.in-Some.field-0-1.now c.in_ok-payload.payload.items c.args.self.now c.pass.new.self c.len.result c.self.view_is c.requires some c.in_ok-payload.ensures.items size c.pass.ensures h

pub returns-in-Some-clause-fewer : goal.returns-in-Some-clause-fewer
returns-in-Some-clause-fewer g c =
    let within = record_within c.args.salt c.self.inside.place c.get-unread.result.now (c.in-Some.payload.now, c.in-Some.field-0-1.now) (sym c.in-Some.ensures) in
    let kept : length c.self.inside.unread ≡ length c.args.self.now.bytes = ap (λ (k : Kept). length k.bytes) c.self.view_is in
    let left : length c.pass.new.self.bytes ≡ length (drop (FRAME + c.len.result) c.args.self.now.bytes) = ap (λ (k : Kept). length k.bytes) c.pass.ensures in
    omega (arith, within, kept, left, length-drop (FRAME + c.len.result) c.args.self.now.bytes, ap length c.get-unread.ensures, c.len.ensures, ap length c.in_ok-payload.ensures.items)
