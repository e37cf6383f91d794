use Rattle.std.proofs.Common.{◌∙◌, sym, ap, Some}
use Rattle.node.specs.Replay.{acts}
use Rattle.node.specs.declared.input.Input.{Input}
use Rattle.node.specs.declared.input.Input.TheVariants.{Arrive}
use Rattle.node.proofs.Views.{moved_to}
use Rattle.node.proofs.step.act.Goals as goal
use Rattle.node.proofs.step.act.Goals.{in-Arrive+in_ok-copy-in-Arrive+in_ok-sends-in-Arrive, in-Tick+in_ok-sends-in-Tick, in-Campaign+in_ok-sends-in-Campaign, in-Crash}

pub returns-in-Submit-clause-sends : goal.returns-in-Submit-clause-sends
returns-in-Submit-clause-sends g c n is = rw c.in-Submit.is (c.submit.ensures.sends n is)

pub returns-clause-node : goal.returns-clause-node
returns-clause-node g c n is =
    elim c.match-input.branch [
      | in-Arrive+in_ok-copy-in-Arrive+in_ok-sends-in-Arrive w ↦
          w.roles-is ∙ w.in_ok-sends-in-Arrive.ensures.node n is
          ∙ ap (λ (i : Input g.row.A.Denot). Some (acts c.args.log.now.opening.me c.args.log.now.inputs n i).after) (ap Arrive w.in_ok-copy-in-Arrive.ensures.value ∙ sym w.in-Arrive.is)
      | in-Tick+in_ok-sends-in-Tick w ↦ rw w.in-Tick.is (w.roles-is ∙ w.in_ok-sends-in-Tick.ensures.node ∙ is)
      | in-Campaign+in_ok-sends-in-Campaign w ↦ rw w.in-Campaign.is (w.roles-is ∙ moved_to _ _ _ n is w.in_ok-sends-in-Campaign.ensures.node)
      | in-Crash w ↦ rw w.in-Crash.is (w.roles-is ∙ is)
    ]

pub returns-clause-sends : goal.returns-clause-sends
returns-clause-sends g c n is =
    elim c.match-input.branch [
      | in-Arrive+in_ok-copy-in-Arrive+in_ok-sends-in-Arrive w ↦
          w.sends-is ∙ w.in_ok-sends-in-Arrive.ensures.sends n is
          ∙ ap (λ (i : Input g.row.A.Denot). (acts c.args.log.now.opening.me c.args.log.now.inputs n i).sends) (ap Arrive w.in_ok-copy-in-Arrive.ensures.value ∙ sym w.in-Arrive.is)
      | in-Tick+in_ok-sends-in-Tick w ↦ rw w.in-Tick.is (w.sends-is ∙ w.in_ok-sends-in-Tick.ensures.sends n is)
      | in-Campaign+in_ok-sends-in-Campaign w ↦ rw w.in-Campaign.is (w.sends-is ∙ w.in_ok-sends-in-Campaign.ensures.sends n is)
      | in-Crash w ↦ rw w.in-Crash.is (w.sends-is ∙ w.new-sends.ensures)
    ]
