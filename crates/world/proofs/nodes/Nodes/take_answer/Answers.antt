use Rattle.std.proofs.Common.{◌∙◌, ap, sym, subst, refl}
use Rattle.world.specs.Hosts.{HasAnswerAt}
use Rattle.runs.specs.Worlds.{answer_at}
use Rattle.world.proofs.HostList.{got, found_log, answer_found, same_logs, answers_set}
use Rattle.world.proofs.Crashes.{same_crashes}
use Rattle.world.proofs.nodes.Nodes.take_answer.Goals as goal

pub returns-clause-answer : goal.returns-clause-answer
returns-clause-answer g c has =
    let hosts = c.self.inside.hosts.items in
    let found = got hosts hosts c.place_of.result c.in-Some.host.now refl c.in-Some.ensures.item.3.0 c.in-Some.ensures.value in
    let here = answer_found (record { hosts = hosts; sent = c.self.inside.sent }) c.args.node c.place_of.result c.in-Some.host.now c.place_of.ensures found c.args.id (subst (λ w. HasAnswerAt c.args.node c.args.id w) (sym c.self.view_is) has) in
    rw (← c.self.view_is) (c.take_answer.ensures.answer here ∙ ap (λ o. answer_at o c.args.id) (sym (found_log hosts c.place_of.result c.args.node c.in-Some.host.now c.place_of.ensures found)))

pub returns-clause-network : goal.returns-clause-network
returns-clause-network g c =
    let hosts = c.self.inside.hosts.items in
    let found = got hosts hosts c.place_of.result c.in-Some.host.now refl c.in-Some.ensures.item.3.0 c.in-Some.ensures.value in
    rw (← c.self.view_is) (same_logs (record { hosts = hosts; sent = c.self.inside.sent }) c.place_of.result c.in-Some.host.now c.take_answer.new.self found c.take_answer.ensures.log)

pub returns-clause-others : goal.returns-clause-others
returns-clause-others g c n other apart has =
    let hosts = c.self.inside.hosts.items in
    let found = got hosts hosts c.place_of.result c.in-Some.host.now refl c.in-Some.ensures.item.3.0 c.in-Some.ensures.value in
    answers_set (record { hosts = hosts; sent = c.self.inside.sent }) c.place_of.result c.in-Some.host.now c.take_answer.new.self c.self.inside.sent found other (c.take_answer.ensures.others other apart) n
    (subst (λ w. HasAnswerAt n other w) (sym c.self.view_is) has)

pub returns-clause-crashed : goal.returns-clause-crashed
returns-clause-crashed g c =
    let hosts = c.self.inside.hosts.items in
    let found = got hosts hosts c.place_of.result c.in-Some.host.now refl c.in-Some.ensures.item.3.0 c.in-Some.ensures.value in
    rw (← c.self.view_is) (same_crashes (record { hosts = hosts; sent = c.self.inside.sent }) c.place_of.result c.in-Some.host.now c.take_answer.new.self c.self.inside.sent found c.take_answer.ensures.crashed)
