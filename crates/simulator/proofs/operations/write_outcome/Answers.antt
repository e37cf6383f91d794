use Rattle.std.proofs.Common.{sym, ap, ◌∙◌}
use Rattle.std.specs.declared.alloc.Global.{Global}
use Rattle.maildrop.specs.Ticket.{Ticket}
use Rattle.runs.specs.Worlds.{World}
use Rattle.simulator.proofs.Following.{same_id_of, taken_followed, took, took_some}
use Rattle.simulator.proofs.operations.write_outcome.Goals as goal

pub returns-in-Some-clause-followed : goal.returns-in-Some-clause-followed
returns-in-Some-clause-followed c ids at so =
    let w = c.args.world.now.world in
    let asked = same_id_of c.args.id c.get-user.result.0 c.get-user.result.1 c.get-user.ensures.user c.get-user.ensures.ticket in
    let node = c.get-node.ensures.node ∙ ap (λ (t : Ticket). t.node) c.get-user.ensures.ticket in
    let both = took w c.take_outcome.new.self.world c.get-node.result.0 c.args.id _ c.take_outcome.result asked node c.take_outcome.ensures.outcome c.take_outcome.ensures.world in
    let then = took_some w c.take_outcome.new.self.world c.args.id c.in-Some.outcome (sym c.in-Some.is ∙ both.0) both.1 in
    (taken_followed w c.take_outcome.new.self.world ids c.args.waiting.now c.remove.new.self c.args.place c.args.id so at
    (ap (λ (v : World Global). v.config) then) (ap (λ (v : World Global). v.service) then) (ap (λ (v : World Global). v.operations) then) c.remove.ensures.others c.remove.ensures.commands c.remove.ensures.heard).0

pub returns-in-Some-clause-current : goal.returns-in-Some-clause-current
returns-in-Some-clause-current c ids at so current =
    let w = c.args.world.now.world in
    let asked = same_id_of c.args.id c.get-user.result.0 c.get-user.result.1 c.get-user.ensures.user c.get-user.ensures.ticket in
    let node = c.get-node.ensures.node ∙ ap (λ (t : Ticket). t.node) c.get-user.ensures.ticket in
    let both = took w c.take_outcome.new.self.world c.get-node.result.0 c.args.id _ c.take_outcome.result asked node c.take_outcome.ensures.outcome c.take_outcome.ensures.world in
    let then = took_some w c.take_outcome.new.self.world c.args.id c.in-Some.outcome (sym c.in-Some.is ∙ both.0) both.1 in
    (taken_followed w c.take_outcome.new.self.world ids c.args.waiting.now c.remove.new.self c.args.place c.args.id so at
    (ap (λ (v : World Global). v.config) then) (ap (λ (v : World Global). v.service) then) (ap (λ (v : World Global). v.operations) then) c.remove.ensures.others c.remove.ensures.commands c.remove.ensures.heard).1 current
