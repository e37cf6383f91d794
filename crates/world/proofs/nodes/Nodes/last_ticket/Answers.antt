use Rattle.std.proofs.Common.{◌∙◌, refl}
use Rattle.world.specs.Hosts.{Hosts, crashes_of}
use Rattle.world.proofs.Crashes.{crash_at, crash_at_place, no_crash_at}
use Rattle.world.proofs.HostList.{got, got_none, found_log, no_log}
use Rattle.world.proofs.nodes.Nodes.last_ticket.Goals as goal

pub returns-in-Some : goal.returns-in-Some
returns-in-Some g c =
    let hosts = c.self.inside.hosts.items in
    let w : Hosts g.row.A.Denot = record { hosts = hosts; sent = c.self.inside.sent } in
    let found = got c.deref.result.now hosts c.place_of.result c.in-Some.host.now c.deref.ensures.value c.in-Some.ensures.lookup.3.0 c.in-Some.ensures.lookup.1 in
    let crash = crash_at_place (crashes_of w) c.place_of.result c.args.node c.place_of.ensures ∙ crash_at w c.place_of.result c.in-Some.host.now found in
    rw (← c.self.view_is, found_log hosts c.place_of.result c.args.node c.in-Some.host.now c.place_of.ensures found, crash) c.last_ticket.ensures

pub returns-in-None : goal.returns-in-None
returns-in-None g c =
    let hosts = c.self.inside.hosts.items in
    let w : Hosts g.row.A.Denot = record { hosts = hosts; sent = c.self.inside.sent } in
    let none = got_none c.deref.result.now hosts c.place_of.result c.deref.ensures.value c.in-None.ensures.lookup.3 in
    let crash = crash_at_place (crashes_of w) c.place_of.result c.args.node c.place_of.ensures ∙ no_crash_at w c.place_of.result none in
    rw (← c.self.view_is, no_log hosts c.place_of.result c.args.node c.place_of.ensures none, crash) refl
