use Rattle.std.specs.Prelude.{is_some}
use Rattle.std.proofs.Common.{◌≡◌, true, Err, IfOk, ap, subst}
use Rattle.ports.specs.declared.fault.Fault.TheVariants as fault
use Rattle.settings.specs.Options.{limits_of}
use Rattle.service.specs.Epochs.{FoundLegal}
use Rattle.service.specs.declared.verdict.Verdict.TheVariants.{Legal}
use Rattle.service.proofs.serve.run.Goals as goal

pub returns-in-Err : goal.returns-in-Err
returns-in-Err g c = record {
  values = λ bad. let wrong = c.in-Err.ensures.value.1 bad in let same : c.in-Err.fault ≡ fault.Value = cc wrong in ap (λ e. Err e) same;
  told = tt;
  legal = tt;
}

pub returns-in-Ok-clause-legal : goal.returns-in-Ok-clause-legal
returns-in-Ok-clause-legal g c =
    let its = c.in-Ok.settings in
    let so = c.in-Ok.ensures in
    let options = c.args.options.now in
    let result = c.run_with.result in
    subst
    (λ nodes. IfOk result (λ end. end.left.verdict ≡ Legal → end.is_good ≡ true → FoundLegal nodes options.window (limits_of options) options.keys (is_some options.data) end.epochs end.left.logs.items end.left.transcripts.items end.left.greeted))
    so.cluster
    (subst
    (λ window. IfOk result (λ end. end.left.verdict ≡ Legal → end.is_good ≡ true → FoundLegal its.cluster window (limits_of options) options.keys (is_some options.data) end.epochs end.left.logs.items end.left.transcripts.items end.left.greeted))
    so.window
    (subst
    (λ limits. IfOk result (λ end. end.left.verdict ≡ Legal → end.is_good ≡ true → FoundLegal its.cluster its.window limits options.keys (is_some options.data) end.epochs end.left.logs.items end.left.transcripts.items end.left.greeted))
    so.limits
    (subst
    (λ keys. IfOk result (λ end. end.left.verdict ≡ Legal → end.is_good ≡ true → FoundLegal its.cluster its.window its.limits keys (is_some options.data) end.epochs end.left.logs.items end.left.transcripts.items end.left.greeted))
    so.keys c.run_with.ensures.legal)))
