use Rattle.std.proofs.Common.{◌∙◌, ◌≡◌, Some, None, sym, ap, subst}
use Rattle.std.proofs.lemmas.Iterator.Adapters.{YieldsList-from_vec}
use Rattle.std.proofs.lemmas.Iterator.Consumers.{YieldsList-so_far, YieldsList-turn}
use Rattle.runs.specs.Refusals.{step_refusal}
use Rattle.runs.specs.Settling.{first_refusal}
use Rattle.runs.specs.Worlds.{World, stepped}
use Rattle.world.proofs.WholeRuns.{map_same, split_there, none_refused, cause, ran_more, none_more, refused_there}
use Rattle.world.proofs.whole_run.step_all.Goals as goal

pub returns-in-Err-clause-refused : goal.returns-in-Err-clause-refused
returns-in-Err-clause-refused g c =
    let all = c.args.events.items in
    let so = c.loop-event.invariant in
    let event = c.in-Some.event in
    let road = YieldsList-from_vec {s = c.into_iter-event-iterator.result} all c.into_iter-event-iterator.ensures.into_iter_gives.0 (c.into_iter-event-iterator.ensures.into_iter_gives.1 ∙ c.args.events.ok.0) in
    let front = YieldsList-so_far road c.loop-event.yielded c.loop-event.event-iterator c.loop-event.yielded_by in
    let turn = YieldsList-turn road c.loop-event.yielded c.loop-event.event-iterator c.loop-event.yielded_by _ c.next.new.self event c.in-Some.is c.next.ensures.steps in
    let whole = split_there all c.loop-event.yielded event (sym (map_same c.loop-event.yielded) ∙ front) turn.0 turn.1 in
    cause (step_refusal c.loop-event.world.world.config c.loop-event.world.world.service event) (first_refusal c.args.world.now.world all) c.step.result c.in-Err.error c.in-Err.is c.step.ensures.refused c.in-Err.ensures.memory
    (λ reason e. ap (first_refusal c.args.world.now.world) whole
    ∙ refused_there c.args.world.now.world c.loop-event.yielded _ event reason so.possible (subst (λ (v : World g.row.A.Denot). step_refusal v.config v.service event ≡ Some reason) so.so_far e))

pub loop-event-preserved : goal.loop-event-preserved
loop-event-preserved g c =
    let so = c.loop-event.invariant in
    let event = c.in-Some.event in
    let legal = none_refused (step_refusal c.loop-event.world.world.config c.loop-event.world.world.service event) c.step.result c.in_default.field-0 c.step.ensures.refused c.in_default.is in
    record {
      can_next = tt;
      finite = tt;
      so_far = c.in_default.ensures.ok ∙ ap (λ (v : World g.row.A.Denot). stepped v event) so.so_far ∙ sym (ran_more c.args.world.now.world c.loop-event.yielded event);
      possible = none_more c.args.world.now.world c.loop-event.yielded event so.possible (subst (λ (v : World g.row.A.Denot). step_refusal v.config v.service event ≡ None) so.so_far legal);
    }
