use Rattle.std.proofs.Common.{◌≡◌, ◌∙◌, ap, length, replicate, rules}
use Rattle.runs.specs.Services.{opening_of}
use Rattle.world.proofs.CatchingUp.{begun_current}
use Rattle.world.proofs.Crashes.{begun_crashes}
use Rattle.world.proofs.Keeping.{begun, begun_world}
use Rattle.world.proofs.world.World.new.Goals as goal

pub invariant_of-result : goal.invariant_of-result
invariant_of-result g c =
    let list = c.in_ok-hosts.hosts.items in
    let count : c.len-nodes.result ≡ length list = search rules in (
      begun c.args.config list c.new.result c.in_ok-new.field-0.entries c.new-3.result.entries c.in_ok-hosts.ensures c.new.ensures c.in_ok-new.ensures.empty c.new-3.ensures.empty,
      begun_current (opening_of c.args.config) c.args.config.cluster list c.new.result c.in_ok-new.field-0.entries c.in_ok-new.field-0.waiting c.in_ok-hosts.ensures c.new.ensures c.in_ok-new.ensures.empty
          (c.in_ok-new.ensures.heard ∙ ap (λ n. replicate n 0) count),
    )

pub returns-clause-world : goal.returns-clause-world
returns-clause-world g c = begun_world c.args.config c.in_ok-hosts.hosts.items c.new.result c.in_ok-new.field-0.entries c.new-3.result.entries c.in_ok-hosts.ensures c.new.ensures c.in_ok-new.ensures.empty c.new-3.ensures.empty

pub returns-clause-crashed : goal.returns-clause-crashed
returns-clause-crashed g c = begun_crashes (opening_of c.args.config) c.args.config.cluster c.in_ok-hosts.hosts.items c.new.result c.in_ok-hosts.ensures c.new.ensures
