use Rattle.std.proofs.Common.{◌≡◌, length, true, is_some, IfSome, vec_len, vec_capacity}
use Rattle.std.specs.Arc.{arc_value}
use Rattle.std.specs.List.{AllZip}
use Rattle.cluster.proofs.sessions.start_all.Given as goal

-- the jobs so far have their threads
abbrev pub invariant-loop-job : goal.invariant-loop-job
invariant-loop-job g l = record {
  can_next : (goal.iterator-loop-job g).can_next l.job-iterator;
  finite : (goal.iterator-loop-job g).is_finite l.job-iterator;
  count : vec_len l.threads ≡ length l.yielded;
  room : vec_capacity l.threads ≡ vec_capacity l.initial.threads;
  started : AllZip (λ job thread. IfSome thread (λ thread. (is_some job.desk ≡ true)
      × (arc_value thread.promise.accounts.value ≡ arc_value job.accounts) × (thread.promise.stamp ≡ job.job.stamp))) l.yielded l.threads.items;
}
