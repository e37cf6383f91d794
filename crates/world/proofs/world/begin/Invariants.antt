use Rattle.std.proofs.Common.{◌≡◌, ◌≤◌}
use Rattle.world.specs.Kept.{new_hosts}
use Rattle.runs.specs.Services.{opening_of}
use Rattle.world.proofs.world.begin.Given as goal

abbrev pub invariant-loop-place : goal.invariant-loop-place
invariant-loop-place g l = record {
  size : l.place-end ≡ l.config.cluster;
  last : l.place-end ≤ 9;
  within : l.place ≤ l.place-end;
  begun : l.hosts.items ≡ new_hosts (opening_of l.config) 1 l.place;
}
