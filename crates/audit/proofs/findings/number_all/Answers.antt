use Rattle.std.proofs.Common.{◌≡◌, ◌∙◌, suc, length, Some, refl, sym, ap, subst, add-one, arith}
use Rattle.std.specs.Prelude.{slice_get}
use Rattle.node.specs.declared.log.NodeLog.{NodeLog}
use Rattle.audit.specs.Numbers.{AreNumbered}
use Rattle.audit.specs.declared.numbers.Numbers.{Numbers}
use Rattle.audit.proofs.Entries.{nothing, pushed_onto}
use Rattle.audit.proofs.Finding.{got}
use Rattle.audit.proofs.Numbering.{length_more}
use Rattle.audit.proofs.findings.number_all.Goals as goal

pub loop-place-init : goal.loop-place-init
loop-place-init g c = record {
  count = ap length c.in_ok-numbers.ensures.items;
  each = nothing (λ n (its : Numbers g.row.A.Denot). (log : NodeLog g.row.A.Denot) → slice_get c.args.logs.now n ≡ Some log → AreNumbered log (length log.inputs) its.tickets.items its.places.entries) c.in_ok-numbers.numbers.items c.in_ok-numbers.ensures.items;
}

pub loop-place-preserved : goal.loop-place-preserved
loop-place-preserved g c =
    let logs = c.args.logs.now in
    let place = c.loop-place.place in
    let own = c.in_ok-own.own in
    let log = c.index-logs-place.result in
    let its = got logs logs place log refl c.loop-place-test.true c.index-logs-place.is in
    record {
      count = ap length c.in_ok-push.ensures.items ∙ length_more c.loop-place.numbers.items own ∙ ap suc c.loop-place.invariant.count ∙ sym (add-one place);
      each = pushed_onto (λ n (its : Numbers g.row.A.Denot). (log : NodeLog g.row.A.Denot) → slice_get logs n ≡ Some log → AreNumbered log (length log.inputs) its.tickets.items its.places.entries) c.loop-place.numbers.items c.push.new.self.items own place c.loop-place.invariant.count c.in_ok-push.ensures.items c.loop-place.invariant.each
          (λ other at. subst (λ (l : NodeLog g.row.A.Denot). AreNumbered l (length l.inputs) own.tickets.items own.places.entries) (same_some log other (sym its ∙ at)) c.in_ok-own.ensures);
    }
  where
    same_some : {X : Type 0} (x y : X) → Some x ≡ Some y → x ≡ y
    same_some x y e = cc

pub returns : goal.returns
returns g c = record {
  count = let low = c.loop-place-test.false in let high = c.loop-place.auto.place-end in omega (arith, c.loop-place.invariant.count, low, high);
  each = λ n log its at of. c.loop-place.invariant.each n its of log at;
}
