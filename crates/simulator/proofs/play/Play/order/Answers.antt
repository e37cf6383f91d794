use Rattle.std.proofs.Common.{◌∙◌, ap, refl, sym, subst}
use Rattle.std.specs.declared.alloc.Global.{Global}
use Rattle.std.proofs.lemmas.Result.{on_ok_weaker}
use Rattle.simulator.specs.Plays.{Play, order_by}
use Rattle.simulator.specs.Told.{IsWritten}
use Rattle.world.specs.Values.{WorldValue}
use Rattle.simulator.proofs.Telling.{order_known, order_unknown}
use Rattle.simulator.proofs.play.Play.order.Goals as goal

pub returns-in-Some : goal.returns-in-Some
returns-in-Some c =
    let there = order_known c.args.node c.world.result.now c.args.self.now c.in-Some.performed.now
    (ap (λ (v : WorldValue Global). v.world) c.world.ensures ∙ ap (λ (p : Play Global). p.world) c.self.view_is)
    (ap (λ (v : WorldValue Global). v.crashed) c.world.ensures ∙ ap (λ (p : Play Global). p.crashed) c.self.view_is)
    c.in-Some.ensures.value c.in-Some.ensures.known in
    on_ok_weaker c.order.result
    (λ written. subst (λ o. IsWritten (order_by c.args.node c.args.self.now o) c.args.self.now c.args.report.now c.order.new.self) (sym there) (refl, written)) c.order.ensures.ok

pub returns-in-None : goal.returns-in-None
returns-in-None c =
    let none = order_unknown c.args.node c.world.result.now c.args.self.now
    (ap (λ (v : WorldValue Global). v.world) c.world.ensures ∙ ap (λ (p : Play Global). p.world) c.self.view_is)
    (ap (λ (v : WorldValue Global). v.crashed) c.world.ensures ∙ ap (λ (p : Play Global). p.crashed) c.self.view_is)
    c.in-None.ensures.known in
    on_ok_weaker c.refusal.result
    (λ written. subst (λ o. IsWritten (order_by c.args.node c.args.self.now o) c.args.self.now c.args.report.now c.refusal.new.self) (sym none) (refl, written)) c.refusal.ensures.ok
