use Rattle.std.proofs.Common.{◌≡◌, ◌∙◌, [], true, false, sym, subst}
use Rattle.std.specs.Prelude.{is_some}
use Rattle.std.specs.Io.KnownBytes.{Appends}
use Rattle.service.specs.Epochs.{HasLedIfGood, PastValue, TellsOn, epoch_lines, no_past}
use Rattle.service.proofs.Found.{found, told_since}
use Rattle.service.proofs.serve.run_life.Goals as goal

pub returns-in-Ok-clause-told : goal.returns-in-Ok-clause-told
returns-in-Ok-clause-told g c well =
    let so = c.judge.ensures in
    let past : PastValue = c.run_epochs-ran.new.past in
    let before = g.W.Write.contents c.args.writer.now in
    let after = g.W.Write.contents c.run_epochs-ran.new.writer in
    let told : TellsOn before after (no_past c.args.kept) past = subst (λ p. TellsOn before after p past) c.in_ok-past.ensures c.in-Ok.ensures.told in
    subst (λ n. Appends before after (epoch_lines n)) (sym so.told) (told_since before after c.args.kept past told (sym so.good ∙ well)).0

pub returns-in-Ok-clause-legal : goal.returns-in-Ok-clause-legal
returns-in-Ok-clause-legal g c =
    let end = c.judge.result in
    let so = c.judge.ensures in
    let folder = c.args.options.now.data in
    let past : PastValue = c.run_epochs-ran.new.past in
    let before = g.W.Write.contents c.args.writer.now in
    let after = g.W.Write.contents c.run_epochs-ran.new.writer in
    let told : TellsOn before after (no_past c.args.kept) past = subst (λ p. TellsOn before after p past) c.in_ok-past.ensures c.in-Ok.ensures.told in
    let begins : end.is_good ≡ true → is_some folder ≡ false → past.first ≡ [] = λ well none.
    (told_since before after c.args.kept past told (sym so.good ∙ well)).1 ∙ c.requires.kept none in
    found _ _ _ _ _ end.left.verdict end.epochs end.is_good end.left.logs.items end.left.transcripts.items end.left.greeted (is_some folder) begins c.in-Ok.last.ended
    (subst HasLedIfGood c.past-in-Ok.view_is c.past-in-Ok.invariant) c.in-Ok.ensures.last.0 c.in-Ok.ensures.last.1
    so.told so.good so.legal so.order so.logs so.transcripts so.greeted
