use Rattle.std.proofs.Common.{◌≡◌, true, [], None, Err, sym, ap, ◌∙◌, refl}
use Rattle.mboxrd.specs.Reader.{is_begun}
use Rattle.mboxrd.specs.declared.error.MboxError.TheVariants.{NoFromLine}
use Rattle.mboxrd.proofs.ReaderLemmas.{read_of-whole, read_of-none, failed_reads_none}
use Rattle.mboxrd.proofs.reading.read.Goals as goal

pub returns-then-not-is_mailbox-clause-refused : goal.returns-then-not-is_mailbox-clause-refused
returns-then-not-is_mailbox-clause-refused g c = (λ _. read_of-none c.args.bytes.now (sym c.is_mailbox.ensures ∙ c.if-not-is_mailbox.true), λ _. refl)

pub returns-in-Ok-clause-value : goal.returns-in-Ok-clause-value
returns-in-Ok-clause-value g c = c.finish.ensures.value c.args.bytes.now (c.in-Ok.ensures.kept [] c.new-reader.ensures)

pub returns-in-Ok-clause-refused : goal.returns-in-Ok-clause-refused
returns-in-Ok-clause-refused g c = c.finish.ensures.refused c.args.bytes.now (c.in-Ok.ensures.kept [] c.new-reader.ensures)

pub returns-in-Err-clause-refused : goal.returns-in-Err-clause-refused
returns-in-Err-clause-refused g c =
    let begun : is_begun None c.args.bytes.now ≡ true = sym c.is_mailbox.ensures ∙ c.if-not-is_mailbox.false in (
      λ wrong. let same : c.in-Err.error ≡ NoFromLine = cc wrong in failed_reads_none c.args.bytes.now NoFromLine ((c.in-Err.ensures.refused [] c.new-reader.ensures).0 (ap (λ e. Err e) same)),
      λ wrong. absurd (read_of-whole c.args.bytes.now begun wrong),
    )
