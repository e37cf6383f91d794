use Rattle.std.proofs.Common.{is_some, ap}
use Rattle.std.specs.Arc.{arc_value}
use Rattle.cluster.proofs.Jobs.{IsStarted, started, served}
use Rattle.cluster.proofs.Zips.{zip_through}
use Rattle.cluster.proofs.cluster.Cluster.sessions.Goals as goal

pub returns : goal.returns
returns g c =
    let accounts = arc_value c.args.accounts.now in
    let nodes = c.args.self.now in
    record {
      served = zip_through _ _ _
          (λ job thread answer is_started is_joined. served (λ t. arc_value t.promise.accounts.value) (λ t. t.promise.stamp) nodes accounts job.node job.stamp thread answer is_started is_joined)
          c.args.jobs.items c.start_all.result.items c.join_all.result.items
          (zip_through _ _ (λ job thread. IsStarted (λ t. arc_value t.promise.accounts.value) (λ t. t.promise.stamp) nodes accounts job.node job.stamp thread)
          (λ job ready thread is_ready is_started. started (λ t. arc_value t.promise.accounts.value) (λ t. t.promise.stamp) nodes accounts job.node job.stamp
          ready.job.stamp (arc_value ready.accounts) (is_some ready.desk) thread is_ready.1 is_ready.2 (ap (λ j. j.stamp) is_ready.0) is_started)
          c.args.jobs.items c.in_ok-ready.ready.items c.start_all.result.items c.in_ok-ready.ensures.ready c.start_all.ensures.started)
          c.join_all.ensures.joined;
    }
