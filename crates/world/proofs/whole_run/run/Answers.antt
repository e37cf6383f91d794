use Rattle.std.proofs.Common.{◌∙◌, sym, ap, length, subst}
use Rattle.ballot.specs.Lists.{IsIn}
use Rattle.runs.specs.Settling.{ran, all_performed}
use Rattle.runs.specs.Worlds.{World, new_world}
use Rattle.runs.proofs.Decisions.{all_decided, decided_submitted}
use Rattle.world.proofs.WholeRuns.{always, answered_so, ran_count, ran_nodes, ran_projected}
use Rattle.world.proofs.whole_run.run.Goals as goal

pub run_in-requires : goal.run_in-requires
run_in-requires g c =
    c.get-nodes.ensures.value
    ∙ sym (ap (λ (w : World g.row.A.Denot). length (ran w c.args.events.items).service.network.logs) c.in_ok-world.ensures.world ∙ ran_count c.args.config c.args.events.items)

pub returns-clause-projected : goal.returns-clause-projected
returns-clause-projected g c = always c.run_in.result (λ session client at. ran_projected c.args.config c.args.events.items session client at)

pub returns-clause-decided : goal.returns-clause-decided
returns-clause-decided g c =
    let is = ap (λ (w : World g.row.A.Denot). ran w c.args.events.items) c.in_ok-world.ensures.world in
    answered_so c.run_in.result _ _
    (λ runs performed commands h.
    let same = performed ∙ ap (λ (w : World g.row.A.Denot). all_performed w.service) is in
    all_decided c.args.config (ran (new_world c.args.config) c.args.events.items).service (ran_nodes c.args.config c.args.events.items) commands (subst (λ lists. IsIn commands lists) same h)) c.run_in.ensures.performed

pub returns-clause-submitted : goal.returns-clause-submitted
returns-clause-submitted g c =
    always c.run_in.result (decided_submitted c.args.config (ran (new_world c.args.config) c.args.events.items).service (ran_nodes c.args.config c.args.events.items))
