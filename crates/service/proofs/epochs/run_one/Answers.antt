use Rattle.std.proofs.Common.{◌∙◌, sym, subst}
use Rattle.std.specs.Io.KnownBytes.{Appends}
use Rattle.service.specs.Epochs.{epoch_lines}
use Rattle.service.proofs.epochs.run_one.Goals as goal

pub returns-clause-told : goal.returns-clause-told
returns-clause-told g c start told good =
    let so = c.add_or_end.ensures in
    let after = g.W.Write.contents c.tell_or_abandon-is_over.new.writer in
    let before = c.tell_or_abandon-is_over.ensures.told start (c.run_next.ensures.told start told) (sym so.good ∙ good) in
    (subst (λ n. Appends start.written after (epoch_lines n)) (sym so.told) before.0, so.first ∙ before.1)
