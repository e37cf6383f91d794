use Rattle.runs.specs.Settling.{all_performed}
use Rattle.world.proofs.WholeRuns.{pushed_next, performed_there}
use Rattle.world.proofs.world.World.all_performed.Goals as goal

pub loop-place-preserved : goal.loop-place-preserved
loop-place-preserved g c =
    let w = c.args.self.now.world.service in
    pushed_next _ c.loop-place.all.items c.push.new.self.items c.in_ok-copy_of.field-0 (all_performed w) c.loop-place.place c.in-Some-performed.performed.now
    c.in_ok-push.ensures.items c.loop-place.invariant c.in_ok-copy_of.ensures
    (performed_there w c.loop-place.place c.in-Some.node c.in-Some-performed.performed.now c.in-Some.ensures.value c.in-Some-performed.ensures.value)
