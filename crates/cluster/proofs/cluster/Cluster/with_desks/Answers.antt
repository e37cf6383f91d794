use Rattle.std.proofs.Common.{◌≡◌, ◌∙◌, ◌++◌, ◌∷◌, [], ◌+◌, is_some, ap, subst, sym, map-id}
use Rattle.std.proofs.lemmas.Iterator.Adapters.{YieldsList-from_vec}
use Rattle.std.proofs.lemmas.Iterator.Consumers.{YieldsList-end}
use Rattle.std.proofs.lemmas.List.{length_push}
use Rattle.std.specs.Arc.{arc_value}
use Rattle.std.specs.List.{AllZip}
use Rattle.ballot.specs.Nodes.{is_among}
use Rattle.cluster.proofs.Zips.{zip_push}
use Rattle.cluster.proofs.cluster.Cluster.with_desks.Goals as goal

pub loop-job-preserved : goal.loop-job-preserved
loop-job-preserved g c =
    let so = c.loop-job.invariant in
    let jobs = c.loop-job.yielded in
    let new = c.in_ok-with_desk.ensures in
    record {
      can_next = tt;
      finite = tt;
      count = c.in_ok-push.ensures.len ∙ ap (λ n. n + 1) so.count ∙ sym (length_push jobs c.in-Some.job);
      ready = subst (λ ready. AllZip (λ job ready. (ready.job ≡ job) × (is_some ready.desk ≡ is_among job.node c.args.self.now) × (arc_value ready.accounts ≡ arc_value c.args.accounts.now))
          (jobs ++ c.in-Some.job ∷ []) ready)
          (sym c.in_ok-push.ensures.items)
          (zip_push _ jobs c.loop-job.ready.items c.in-Some.job c.in_ok-with_desk.field-0 so.ready (new.job, new.desk, new.accounts));
    }

pub returns-clause-count : goal.returns-clause-count
returns-clause-count g c =
    let end = YieldsList-end (YieldsList-from_vec {s = c.into_iter-job-iterator.result} c.args.jobs.items c.into_iter-job-iterator.ensures.into_iter_gives.0 (c.into_iter-job-iterator.ensures.into_iter_gives.1 ∙ c.args.jobs.ok.0))
    c.loop-job.yielded c.loop-job.job-iterator c.loop-job.yielded_by _ c.next.new.self c.in-None.is c.next.ensures.steps in
    c.loop-job.invariant.count ∙ end.1 ∙ sym c.args.jobs.ok.0

pub returns-clause-ready : goal.returns-clause-ready
returns-clause-ready g c =
    let end = YieldsList-end (YieldsList-from_vec {s = c.into_iter-job-iterator.result} c.args.jobs.items c.into_iter-job-iterator.ensures.into_iter_gives.0 (c.into_iter-job-iterator.ensures.into_iter_gives.1 ∙ c.args.jobs.ok.0))
    c.loop-job.yielded c.loop-job.job-iterator c.loop-job.yielded_by _ c.next.new.self c.in-None.is c.next.ensures.steps in
    rw (← end.0, map-id) c.loop-job.invariant.ready
