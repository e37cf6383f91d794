use Rattle.std.proofs.Common.{◌≡◌, ◌∙◌, suc, length, refl, ap, sym, add-one, arith}
use Rattle.audit.proofs.Entries.{nothing, pushed_onto}
use Rattle.audit.proofs.Numbering.{length_more}
use Rattle.audit.proofs.Stepping.{none_known}
use Rattle.audit.proofs.pass.none_answered.Goals as goal

pub loop-init : goal.loop-init
loop-init g c = record {
  count = ap length c.in_ok-answered.ensures.items;
  none = nothing (λ i k. k ≡ 0) c.in_ok-answered.answered.items c.in_ok-answered.ensures.items;
}

pub loop-preserved : goal.loop-preserved
loop-preserved g c = record {
  count = ap length c.in_ok-push.ensures.items ∙ length_more c.loop.answered.items 0 ∙ ap suc c.loop.invariant.count ∙ sym (add-one c.loop.counter);
  none = pushed_onto (λ i k. k ≡ 0) c.loop.answered.items c.push.new.self.items 0 c.loop.counter c.loop.invariant.count c.in_ok-push.ensures.items c.loop.invariant.none refl;
}

pub returns : goal.returns
returns g c test =
    let size : length c.loop.answered.items ≡ length c.args.transcripts.now = omega arith in
    none_known test c.args.transcripts.now c.loop.answered.items size c.loop.invariant.none
