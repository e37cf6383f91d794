use Rattle.std.proofs.Common.{sym, subst, refl}
use Rattle.node.specs.declared.input.Input.TheVariants.{Crash}
use Rattle.world.specs.Hosts.{HasAnswerAt}
use Rattle.world.proofs.HostList.{got, got_none, host_crashes, no_host_takes, answers_set}
use Rattle.world.proofs.Crashes.{same_crashes}
use Rattle.world.proofs.nodes.Nodes.cut.Goals as goal

pub returns-clause-network : goal.returns-clause-network
returns-clause-network g c =
    let hosts = c.self.inside.hosts.items in
    let found = got hosts hosts c.place_of.result c.in-Some.host.now refl c.in-Some.ensures.item.3.0 c.in-Some.ensures.value in
    rw (← c.self.view_is)
    (host_crashes (record { hosts = hosts; sent = c.self.inside.sent }) c.args.node c.place_of.result c.in-Some.host.now c.cut.new.self c.self.inside.sent c.place_of.ensures found c.cut.ensures.log refl)

pub returns-clause-answers : goal.returns-clause-answers
returns-clause-answers g c n id has =
    let hosts = c.self.inside.hosts.items in
    let found = got hosts hosts c.place_of.result c.in-Some.host.now refl c.in-Some.ensures.item.3.0 c.in-Some.ensures.value in
    answers_set (record { hosts = hosts; sent = c.self.inside.sent }) c.place_of.result c.in-Some.host.now c.cut.new.self c.self.inside.sent found id (c.cut.ensures.answers id) n
    (subst (λ w. HasAnswerAt n id w) (sym c.self.view_is) has)

pub returns-in_default-clause-network : goal.returns-in_default-clause-network
returns-in_default-clause-network g c =
    let hosts = c.self.inside.hosts.items in
    let none = got_none hosts hosts c.place_of.result refl c.in_default.ensures.item.3 in
    rw (← c.self.view_is) (no_host_takes (record { hosts = hosts; sent = c.self.inside.sent }) c.args.node c.place_of.result Crash c.place_of.ensures none)

pub returns-clause-crashed : goal.returns-clause-crashed
returns-clause-crashed g c =
    let hosts = c.self.inside.hosts.items in
    let found = got hosts hosts c.place_of.result c.in-Some.host.now refl c.in-Some.ensures.item.3.0 c.in-Some.ensures.value in
    rw (← c.self.view_is) (same_crashes (record { hosts = hosts; sent = c.self.inside.sent }) c.place_of.result c.in-Some.host.now c.cut.new.self c.self.inside.sent found c.cut.ensures.crashed)
