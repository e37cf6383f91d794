use Rattle.std.proofs.Common.{◌≡◌, ◌∙◌, ◌++◌, ◌∷◌, [], ◌+◌, true, Option, Some, None, is_some, IfSome, ap, subst, sym, map-id}
use Rattle.std.proofs.lemmas.Iterator.Adapters.{YieldsList-from_vec}
use Rattle.std.proofs.lemmas.Iterator.Consumers.{YieldsList-end}
use Rattle.std.proofs.lemmas.List.{length_push}
use Rattle.std.specs.Arc.{arc_value}
use Rattle.std.specs.List.{AllZip}
use Rattle.cluster.proofs.Zips.{zip_push}
use Rattle.cluster.proofs.sessions.start_all.Goals as goal

-- what holds of a thread, if there is one, holds of it all at once
all_of : {T : Type 0} (P Q R : T → Type 0) (o : Option T) → IfSome o P → IfSome o Q → IfSome o R → IfSome o (λ x. P x × Q x × R x)
all_of P Q R None p q r = tt
all_of P Q R (Some x) p q r = (p, q, r)

pub loop-job-preserved : goal.loop-job-preserved
loop-job-preserved g c =
    let so = c.loop-job.invariant in
    let jobs = c.loop-job.yielded in
    let new = c.start.ensures in
    record {
      can_next = tt;
      finite = tt;
      count = c.push_reserved.ensures.len ∙ ap (λ n. n + 1) so.count ∙ sym (length_push jobs c.in-Some.job);
      room = c.push_reserved.ensures.capacity ∙ so.room;
      started = subst (λ threads. AllZip (λ job thread. IfSome thread (λ thread. (is_some job.desk ≡ true)
          × (arc_value thread.promise.accounts.value ≡ arc_value job.accounts) × (thread.promise.stamp ≡ job.job.stamp)))
          (jobs ++ c.in-Some.job ∷ []) threads)
          (sym c.push_reserved.ensures.items)
          (zip_push _ jobs c.loop-job.threads.items c.in-Some.job c.start.result so.started (all_of _ _ _ c.start.result new.here new.accounts new.stamp));
    }

pub returns-clause-count : goal.returns-clause-count
returns-clause-count g c =
    let end = YieldsList-end (YieldsList-from_vec {s = c.into_iter-job-iterator.result} c.args.jobs.items c.into_iter-job-iterator.ensures.into_iter_gives.0 (c.into_iter-job-iterator.ensures.into_iter_gives.1 ∙ c.args.jobs.ok.0))
    c.loop-job.yielded c.loop-job.job-iterator c.loop-job.yielded_by _ c.next.new.self c.in-None.is c.next.ensures.steps in
    c.loop-job.invariant.count ∙ end.1 ∙ sym c.args.jobs.ok.0

pub returns-clause-started : goal.returns-clause-started
returns-clause-started g c =
    let end = YieldsList-end (YieldsList-from_vec {s = c.into_iter-job-iterator.result} c.args.jobs.items c.into_iter-job-iterator.ensures.into_iter_gives.0 (c.into_iter-job-iterator.ensures.into_iter_gives.1 ∙ c.args.jobs.ok.0))
    c.loop-job.yielded c.loop-job.job-iterator c.loop-job.yielded_by _ c.next.new.self c.in-None.is c.next.ensures.steps in
    rw (← end.0, map-id) c.loop-job.invariant.started
