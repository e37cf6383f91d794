use Rattle.std.proofs.Common.{◌∙◌, List, ℕ, ap, subst}
use Rattle.store.specs.Running.{IsCommitted}
use Rattle.store.proofs.Additions.{ended}
use Rattle.store.proofs.running.Running.finish.Goals as goal

pub returns-clause-ended : goal.returns-clause-ended
returns-clause-ended g c =
    let synced = g.D.Device.synced in
    let salt = c.args.self.salt in
    let old = synced c.args.self.file.device in
    let new = synced c.commit.new.self.file.device in
    let same = ap synced (c.into_device-2.ensures ∙ ap (λ r. r.file.device) c.self.view_is) in
    let kept = subst (λ (b : List ℕ). IsCommitted salt old b new) c.new.ensures (c.commit.ensures.kept c.if-not-commit.false) in
    ended salt c.args.self.size old (synced c.into_device-2.result) c.ended-before.ensures.numbered.running (same ∙ kept)
