use Rattle.std.proofs.Common.{◌≡◌, length, is_some, vec_len}
use Rattle.std.specs.Arc.{arc_value}
use Rattle.std.specs.List.{AllZip}
use Rattle.ballot.specs.Nodes.{is_among}
use Rattle.cluster.proofs.cluster.Cluster.with_desks.Given as goal

-- the jobs so far are ready
abbrev pub invariant-loop-job : goal.invariant-loop-job
invariant-loop-job g l = record {
  can_next : (goal.iterator-loop-job g).can_next l.job-iterator;
  finite : (goal.iterator-loop-job g).is_finite l.job-iterator;
  count : vec_len l.ready ≡ length l.yielded;
  ready : AllZip (λ job ready. (ready.job ≡ job) × (is_some ready.desk ≡ is_among job.node l.self) × (arc_value ready.accounts ≡ arc_value l.accounts)) l.yielded l.ready.items;
}
