use Rattle.std.proofs.Common.{rules, ◌≡◌, ◌∙◌, [], ◌∷◌, ◌++◌, length, subst, sym}
use Rattle.std.specs.Prelude.{vec_len}
use Rattle.std.proofs.lemmas.Iterator.Adapters.{YieldsList-from_vec}
use Rattle.std.proofs.lemmas.Iterator.Consumers.{YieldsList-end}
use Rattle.audit.proofs.Answered.{AreOutcomes, one_more, all_left, map_same}
use Rattle.audit.proofs.outcomes.outcomes_of.Goals as goal

pub loop-replay-preserved : goal.loop-replay-preserved
loop-replay-preserved g c = record {
  can_next = tt;
  finite = tt;
  so_far = subst (AreOutcomes (c.loop-replay.yielded ++ c.in-Some.replay ∷ [])) (sym c.in_ok-push.ensures.items) (one_more c.loop-replay.yielded c.loop-replay.outcomes.items c.in-Some.replay c.into_outcomes.result c.loop-replay.invariant.so_far c.into_outcomes.ensures.begun c.into_outcomes.ensures.left);
}

pub returns : goal.returns
returns g c = λ logs transcripts replayed.
    let items = c.into_iter-replay-iterator.ensures.into_iter_gives.0 in
    let count : vec_len c.args.replays ≡ length c.args.replays.items = search rules in
    let len = c.into_iter-replay-iterator.ensures.into_iter_gives.1 ∙ count in
    let seen = YieldsList-end (YieldsList-from_vec {s = c.into_iter-replay-iterator.result} c.args.replays.items items len) c.loop-replay.yielded c.loop-replay.replay-iterator c.loop-replay.yielded_by _ c.next.new.self c.in-None.is c.next.ensures.steps in
    all_left logs transcripts c.args.replays.items c.loop-replay.outcomes.items replayed (subst (λ rs. AreOutcomes rs c.loop-replay.outcomes.items) (sym (map_same c.loop-replay.yielded) ∙ seen.0) c.loop-replay.invariant.so_far)
