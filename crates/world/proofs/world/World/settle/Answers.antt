use Rattle.std.proofs.Common.{◌≡◌, suc, ◌+◌, ◌-◌, ◌∙◌, sym, ap, subst, arith}
use Rattle.runs.specs.Worlds.{settled}
use Rattle.world.proofs.Settled.{at, next_uncrashed, settled_next, settled_ends}
use Rattle.world.proofs.world.World.settle.Goals as goal

pub loop-events-preserved : goal.loop-events-preserved
loop-events-preserved g c =
    let n = c.loop-events.events in
    let next : suc n ≡ n + 1 = omega arith in
    record {
      so_far =
          subst (λ k. settled k c.args.self.now.world ≡ at k c.step.new.self.world) next
          (settled_next n c.args.self.now.world c.loop-events.self.world c.in-Some.event c.loop-events.invariant.so_far (sym c.in-Some.ensures.value) ∙ ap (at (suc n)) (sym c.in_default-step.ensures.ok));
      crashed =
          c.in_default-step.ensures.crashed
          ∙ next_uncrashed c.loop-events.self.world.service 0 c.in-Some.event c.loop-events.self.crashed (sym c.in-Some.ensures.value) ∙ c.loop-events.invariant.crashed;
    }

pub returns-in_default-clause-settled : goal.returns-in_default-clause-settled
returns-in_default-clause-settled g c =
    let n = c.loop-events.events in
    settled_ends n (c.args.limit - n) c.args.self.now.world c.loop-events.self.world c.loop-events.invariant.so_far (sym c.in_default.ensures.value) c.args.limit (omega (arith, c.loop-events-test.true))
