use Rattle.std.proofs.Common.{sym, subst, refl}
use Rattle.world.specs.Hosts.{HasAnswerAt}
use Rattle.world.proofs.HostList.{got, got_none, on_ok_both, on_err_both, found_log, no_log, host_takes, host_crashes, no_host_takes, answers_set}
use Rattle.std.proofs.lemmas.Result.{on_ok_weaker, on_err_weaker}
use Rattle.world.proofs.Crashes.{same_crashes, takes_crash, none_crashes}
use Rattle.world.proofs.nodes.Nodes.take.Goals as goal

pub returns-clause-ok : goal.returns-clause-ok
returns-clause-ok g c =
    let hosts = c.self.inside.hosts.items in
    let found = got hosts hosts c.place_of.result c.in-Some.host.now refl c.in-Some.ensures.item.3.0 c.in-Some.ensures.value in
    rw (← c.self.view_is)
    (on_ok_both c.take_if_up.result (host_takes (record { hosts = hosts; sent = c.self.inside.sent }) c.args.node c.place_of.result c.in-Some.host.now c.take_if_up.new.self c.take_if_up.new.sent c.args.input c.place_of.ensures found)
    c.take_if_up.ensures.log c.take_if_up.ensures.sent)

pub returns-clause-ticket : goal.returns-clause-ticket
returns-clause-ticket g c =
    let hosts = c.self.inside.hosts.items in
    let found = got hosts hosts c.place_of.result c.in-Some.host.now refl c.in-Some.ensures.item.3.0 c.in-Some.ensures.value in
    rw (← c.self.view_is, found_log hosts c.place_of.result c.args.node c.in-Some.host.now c.place_of.ensures found) c.take_if_up.ensures.ticket

pub returns-clause-err : goal.returns-clause-err
returns-clause-err g c =
    let hosts = c.self.inside.hosts.items in
    let found = got hosts hosts c.place_of.result c.in-Some.host.now refl c.in-Some.ensures.item.3.0 c.in-Some.ensures.value in
    rw (← c.self.view_is)
    (on_err_both c.take_if_up.result (host_crashes (record { hosts = hosts; sent = c.self.inside.sent }) c.args.node c.place_of.result c.in-Some.host.now c.take_if_up.new.self c.take_if_up.new.sent c.place_of.ensures found)
    c.take_if_up.ensures.crashed c.take_if_up.ensures.unsent)

pub returns-clause-answers : goal.returns-clause-answers
returns-clause-answers g c n id has =
    let hosts = c.self.inside.hosts.items in
    let found = got hosts hosts c.place_of.result c.in-Some.host.now refl c.in-Some.ensures.item.3.0 c.in-Some.ensures.value in
    answers_set (record { hosts = hosts; sent = c.self.inside.sent }) c.place_of.result c.in-Some.host.now c.take_if_up.new.self c.take_if_up.new.sent found id (c.take_if_up.ensures.answers id) n
    (subst (λ w. HasAnswerAt n id w) (sym c.self.view_is) has)

pub returns-in_default-clause-ok : goal.returns-in_default-clause-ok
returns-in_default-clause-ok g c =
    let hosts = c.self.inside.hosts.items in
    let none = got_none hosts hosts c.place_of.result refl c.in_default.ensures.item.3 in
    rw (← c.self.view_is) (no_host_takes (record { hosts = hosts; sent = c.self.inside.sent }) c.args.node c.place_of.result c.args.input c.place_of.ensures none)

pub returns-in_default-clause-ticket : goal.returns-in_default-clause-ticket
returns-in_default-clause-ticket g c =
    let hosts = c.self.inside.hosts.items in
    let none = got_none hosts hosts c.place_of.result refl c.in_default.ensures.item.3 in
    rw (← c.self.view_is, no_log hosts c.place_of.result c.args.node c.place_of.ensures none) refl

pub returns-clause-crashed : goal.returns-clause-crashed
returns-clause-crashed g c =
    let hosts = c.self.inside.hosts.items in
    let found = got hosts hosts c.place_of.result c.in-Some.host.now refl c.in-Some.ensures.item.3.0 c.in-Some.ensures.value in
    rw (← c.self.view_is)
    (on_ok_weaker c.take_if_up.result (takes_crash (record { hosts = hosts; sent = c.self.inside.sent }) c.args.node c.place_of.result c.in-Some.host.now c.take_if_up.new.self c.take_if_up.new.sent c.args.input c.place_of.ensures found)
    c.take_if_up.ensures.input)

pub returns-clause-uncrashed : goal.returns-clause-uncrashed
returns-clause-uncrashed g c =
    let hosts = c.self.inside.hosts.items in
    let found = got hosts hosts c.place_of.result c.in-Some.host.now refl c.in-Some.ensures.item.3.0 c.in-Some.ensures.value in
    rw (← c.self.view_is)
    (on_err_weaker c.take_if_up.result (same_crashes (record { hosts = hosts; sent = c.self.inside.sent }) c.place_of.result c.in-Some.host.now c.take_if_up.new.self c.take_if_up.new.sent found)
    c.take_if_up.ensures.cut)

pub returns-in_default-clause-crashed : goal.returns-in_default-clause-crashed
returns-in_default-clause-crashed g c =
    let hosts = c.self.inside.hosts.items in
    let none = got_none hosts hosts c.place_of.result refl c.in_default.ensures.item.3 in
    rw (← c.self.view_is) (none_crashes (record { hosts = hosts; sent = c.self.inside.sent }) c.args.node c.place_of.result c.args.input c.place_of.ensures none)
