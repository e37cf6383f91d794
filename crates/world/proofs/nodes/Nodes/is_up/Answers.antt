use Rattle.std.proofs.Common.{◌∙◌, ap, sym}
use Rattle.runs.specs.Messages.{is_up}
use Rattle.world.proofs.HostList.{got, got_none, found_log, no_log}
use Rattle.world.proofs.nodes.Nodes.is_up.Goals as goal

pub returns-in-Some : goal.returns-in-Some
returns-in-Some g c =
    let hosts = c.self.inside.hosts.items in
    let found = got c.deref.result.now hosts c.place_of.result c.in-Some.host.now c.deref.ensures.value c.in-Some.ensures.lookup.3.0 c.in-Some.ensures.lookup.1 in
    rw (← c.self.view_is) (c.is_up.ensures ∙ ap is_up (sym (found_log hosts c.place_of.result c.args.node c.in-Some.host.now c.place_of.ensures found)))

pub returns-in-None : goal.returns-in-None
returns-in-None g c =
    let hosts = c.self.inside.hosts.items in
    let none = got_none c.deref.result.now hosts c.place_of.result c.deref.ensures.value c.in-None.ensures.lookup.3 in
    rw (← c.self.view_is) (ap is_up (sym (no_log hosts c.place_of.result c.args.node c.place_of.ensures none)))
