use Rattle.std.proofs.Common.{◌∙◌, sym}
use Rattle.world.specs.Hosts.{network_of}
use Rattle.runs.specs.Messages.{log_of}
use Rattle.runs.specs.Refusals.{collect_refusal}
use Rattle.world.proofs.Refusing.{collect_stranded, refused_found, refused_absent}
use Rattle.world.proofs.refusal.of_collect.Goals as goal

pub returns-in-Some : goal.returns-in-Some
returns-in-Some g c =
    let it = c.in-Some.connection.now in
    c.collect_refusal.ensures (log_of it.node (network_of c.args.hosts.now).logs) c.is_up.ensures c.is_answered.ensures
    ∙ sym (refused_found c.args.hosts.now c.args.connections.now.entries c.args.session collect_refusal collect_stranded it (sym c.in-Some.ensures.value))

pub returns-in-None : goal.returns-in-None
returns-in-None g c = sym (refused_absent c.args.hosts.now c.args.connections.now.entries c.args.session collect_refusal (sym c.in-None.ensures.value))

pub is_answered-requires : goal.is_answered-requires
is_answered-requires g c id awaits = c.requires c.args.session c.in-Some.connection.now id (sym c.in-Some.ensures.value) awaits
