use Rattle.std.proofs.Common.{◌∙◌, ap, sym, subst}
use Rattle.std.specs.Prelude.{is_some}
use Rattle.world.specs.Hosts.{HasAnswerAt}
use Rattle.runs.specs.Worlds.{answer_at}
use Rattle.world.proofs.HostList.{got, got_none, found_log, no_log, answer_found}
use Rattle.world.proofs.nodes.Nodes.has_answer.Goals as goal

pub returns-in-Some : goal.returns-in-Some
returns-in-Some g c has =
    let hosts = c.self.inside.hosts.items in
    let found = got c.deref.result.now hosts c.place_of.result c.in-Some.host.now c.deref.ensures.value c.in-Some.ensures.lookup.3.0 c.in-Some.ensures.lookup.1 in
    let here = answer_found (record { hosts = hosts; sent = c.self.inside.sent }) c.args.node c.place_of.result c.in-Some.host.now c.place_of.ensures found c.args.id (subst (λ w. HasAnswerAt c.args.node c.args.id w) (sym c.self.view_is) has) in
    rw (← c.self.view_is) (c.has_answer.ensures here ∙ ap (λ o. is_some (answer_at o c.args.id)) (sym (found_log hosts c.place_of.result c.args.node c.in-Some.host.now c.place_of.ensures found)))

pub returns-in-None : goal.returns-in-None
returns-in-None g c has =
    let hosts = c.self.inside.hosts.items in
    let none = got_none c.deref.result.now hosts c.place_of.result c.deref.ensures.value c.in-None.ensures.lookup.3 in
    rw (← c.self.view_is) (ap (λ o. is_some (answer_at o c.args.id)) (sym (no_log hosts c.place_of.result c.args.node c.place_of.ensures none)))
