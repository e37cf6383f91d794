use Rattle.std.proofs.Common.{◌∙◌}
use Rattle.store.proofs.Notes.{length-again, number_again, salt_again, same_note, size_again}
use Rattle.store.proofs.note.numbers_in.Goals as goal

pub returns-then-bytes-ne-SIZE : goal.returns-then-bytes-ne-SIZE
returns-then-bytes-ne-SIZE c note fits is = absurd (c.if-bytes-ne-SIZE.true (length-again c.args.bytes.now note fits is))

pub returns : goal.returns
returns c note fits is =
    let bytes = c.args.bytes.now in
    same_note note _ (c.number_at.ensures ∙ number_again bytes note fits is) (c.number_at-2.ensures ∙ salt_again bytes note fits is) (c.number_at-3.ensures ∙ size_again bytes note fits is)
