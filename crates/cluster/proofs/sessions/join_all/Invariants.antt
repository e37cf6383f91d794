use Rattle.std.proofs.Common.{◌≡◌, length, IfSome, IsSomeAnd, vec_len, vec_capacity}
use Rattle.std.specs.Arc.{arc_value}
use Rattle.std.specs.List.{AllZip}
use Rattle.session.specs.Serve.{IsTranscript}
use Rattle.cluster.proofs.sessions.join_all.Given as goal

-- the threads so far have left what they promised
abbrev pub invariant-loop-thread : goal.invariant-loop-thread
invariant-loop-thread g l = record {
  can_next : (goal.iterator-loop-thread g).can_next l.thread-iterator;
  finite : (goal.iterator-loop-thread g).is_finite l.thread-iterator;
  count : vec_len l.answers ≡ length l.yielded;
  room : vec_capacity l.answers ≡ vec_capacity l.initial.answers;
  joined : AllZip (λ thread answer. IfSome answer (λ transcript. IsSomeAnd thread (λ thread.
      IsTranscript (arc_value thread.promise.accounts.value) thread.promise.stamp transcript))) l.yielded l.answers.items;
}
