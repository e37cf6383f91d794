use Rattle.linearizability.proofs.Runs.{run_grows, run_chosen}
use Rattle.linearizability.proofs.what_is_decided_stays.Goals as goal

pub returns : goal.returns
returns g c = record { chosen = run_chosen; order = run_grows }
