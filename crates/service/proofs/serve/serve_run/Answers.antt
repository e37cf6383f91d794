use Rattle.std.proofs.Common.{◌≡◌, ◌∙◌, Err, ap, sym, subst}
use Rattle.std.specs.Io.KnownBytes.{Appends}
use Rattle.session.proofs.Streams.{appends_join}
use Rattle.ports.specs.Faults.{status_at}
use Rattle.ports.specs.declared.fault.Fault.TheVariants as fault
use Rattle.service.specs.Epochs.{epoch_lines}
use Rattle.service.proofs.Found.{carried}
use Rattle.service.proofs.serve.serve_run.Goals as goal

pub returns-in-Err-clause-values : goal.returns-in-Err-clause-values
returns-in-Err-clause-values g c bad =
    let refused : c.run.result ≡ Err fault.Value = c.run.ensures.values bad in
    let is = c.in-Err.is in
    let same : c.in-Err.fault ≡ fault.Value = cc in
    c.fail.ensures.status ∙ ap status_at same

pub returns-in-Ok-clause-told : goal.returns-in-Ok-clause-told
returns-in-Ok-clause-told g c zero =
    let so = c.tell_end.ensures in
    let before = g.W.Write.contents c.args.writer.now in
    let middle = g.W.Write.contents c.run.new.writer in
    appends_join before middle _ (epoch_lines c.tell_end.result.epochs) _
    (subst (λ n. Appends before middle (epoch_lines n)) (sym (so.epochs zero)) (c.in-Ok.ensures.told (so.good zero))) (so.told zero)

pub returns-in-Ok-clause-legal : goal.returns-in-Ok-clause-legal
returns-in-Ok-clause-legal g c zero =
    let so = c.tell_end.ensures in
    carried _ _ _ _ _ _ _ _ _ _ _ _ _ (so.epochs zero) (so.logs zero) (so.transcripts zero) (so.greeted zero) (c.in-Ok.ensures.legal (so.legal zero) (so.good zero))
