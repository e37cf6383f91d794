use Rattle.std.proofs.Common.{refl}
use Rattle.world.proofs.Crashes.{crash_at, no_crash_at}
use Rattle.world.proofs.HostList.{got, got_none, logged_at, none_at, performed_at}
use Rattle.world.proofs.nodes.Nodes.performed_at.Goals as goal

pub returns-in-Some-clause-value : goal.returns-in-Some-clause-value
returns-in-Some-clause-value g c =
    let hosts = c.self.inside.hosts.items in
    let found = got c.deref.result.now hosts c.args.place c.in-Some.host.now c.deref.ensures.value c.in-Some.ensures.lookup.3.0 c.in-Some.ensures.lookup.1 in
    rw (← c.self.view_is) (performed_at c.performed.result (λ p. p.now) _ c.in-Some.host.now.log (logged_at hosts c.args.place c.in-Some.host.now found) c.performed.ensures.value)

pub returns-in-Some-clause-known : goal.returns-in-Some-clause-known
returns-in-Some-clause-known g c =
    let hosts = c.self.inside.hosts.items in
    let found = got c.deref.result.now hosts c.args.place c.in-Some.host.now c.deref.ensures.value c.in-Some.ensures.lookup.3.0 c.in-Some.ensures.lookup.1 in
    rw (← c.self.view_is, logged_at hosts c.args.place c.in-Some.host.now found, crash_at (record { hosts = hosts; sent = c.self.inside.sent }) c.args.place c.in-Some.host.now found) c.performed.ensures.known

pub returns-in-None-clause-known : goal.returns-in-None-clause-known
returns-in-None-clause-known g c =
    let hosts = c.self.inside.hosts.items in
    let none = got_none c.deref.result.now hosts c.args.place c.deref.ensures.value c.in-None.ensures.lookup.3 in
    rw (← c.self.view_is, none_at hosts c.args.place none, no_crash_at (record { hosts = hosts; sent = c.self.inside.sent }) c.args.place none) refl
