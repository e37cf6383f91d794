use Rattle.std.proofs.Common.{ap, sym, subst}
use Rattle.world.specs.Hosts.{network_of}
use Rattle.world.specs.Scheduling.{AreFewest}
use Rattle.world.proofs.index.pass_over.Goals as goal
use Rattle.world.proofs.index.pass_over.Goals.{then-not-is_up, else-not-is_up}

pub loop-place-preserved : goal.loop-place-preserved
loop-place-preserved g c =
    elim c.if-not-is_up.branch [
      | then-not-is_up w ↦ subst (AreFewest (network_of c.args.nodes.now)) (sym (ap (λ v. v.items) w.index-is)) w.refresh.ensures
      | else-not-is_up w ↦ subst (AreFewest (network_of c.args.nodes.now)) (sym (ap (λ v. v.items) w.index-is)) c.loop-place.invariant
    ]
