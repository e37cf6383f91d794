use Rattle.std.proofs.Common.{◌≡◌, ap, sym, ◌∙◌}
use Rattle.std.proofs.lemmas.Bool.{true≢false}
use Rattle.std.proofs.lemmas.Slice.Eq.{bytes_eq-Decides}
use Rattle.store.specs.Notes.{note_bytes}
use Rattle.store.specs.declared.note.CleanNote.{CleanNote}
use Rattle.store.proofs.Notes.{found_note}
use Rattle.store.proofs.note.parse_note.Goals as goal

pub returns-clause-read_back : goal.returns-clause-read_back
returns-clause-read_back c note fits is =
    let found : c.in-Some.note ≡ note = found_note c.in-Some.note note (sym c.in-Some.is ∙ c.numbers_in.ensures note fits is) in
    let same : c.as_slice.result.now ≡ c.args.bytes.now = c.as_slice.ensures.value ∙ (c.in_ok-spelled.ensures ∙ (ap (λ (n : CleanNote). note_bytes n) found ∙ sym is)) in
    absurd (true≢false (sym ((bytes_eq-Decides c.as_slice.result.now c.args.bytes.now).1 same) ∙ (sym c.eq.ensures ∙ c.if-eq.false)))
