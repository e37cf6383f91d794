-- What makes a service linearizable. The object is the table of all users' maildrops.
use Rattle.std.specs.Prelude.{◌≡◌, ℕ, List, [], ◌∷◌, map, Some, ⊤}
use Rattle.ballot.specs.Lists.{IsIn}
use Rattle.maildrop.specs.CommandId.{CommandId}
use Rattle.maildrop.specs.Same.{identity_of}
use Rattle.maildrop.specs.declared.command.Command.{Command}
use Rattle.maildrop.specs.declared.op.Op.{Op}
use Rattle.maildrop.specs.declared.outcome.Outcome.{Outcome}
use Rattle.node.specs.Nodes.{answered}
use Rattle.node.specs.Outcomes.{IsOutcomeOf}
use Rattle.node.specs.Submits.{IsSubmitted}
use Rattle.node.specs.declared.log.NodeLog.{NodeLog}
use Rattle.session.specs.Prefix.{IsPrefix}
use Rattle.runs.specs.Decisions.{WereSubmitted}
use Rattle.runs.specs.Messages.{log_of}
use Rattle.runs.specs.Projection.{decided}
use Rattle.runs.specs.Services.{Service, opening_of}
use Rattle.runs.specs.declared.config.Config.{Config}

module _ {A : Type 0} where
  -- some node has got this answer for the command
  pub record IsAnswered (w : Service A) (id : CommandId) (answer : Outcome A) : Type 0 where
    pub node : ℕ
    pub log : NodeLog A
    pub its_log : log_of node w.network.logs ≡ Some log
    pub got : answered log id ≡ Some answer

  -- the command wasn't submitted yet: the node of its ticket has no submission of it, of whatever operation
  abbrev pub IsNew : Service A → CommandId → Type 0
  IsNew w id = (log : NodeLog A) (op : Op A) → log_of id.ticket.node w.network.logs ≡ Some log → IsSubmitted log id op → ⊥

  -- the command stands in the order
  abbrev pub StandsIn : CommandId → List (ℕ × Command A) → Type 0
  StandsIn id order = IsIn id (map (λ p. identity_of p.1) order)

  -- no command stands in the order twice
  abbrev pub StandOnce : List (ℕ × Command A) → Type 0
  StandOnce [] = ⊤
  StandOnce (p ∷ order) = (StandsIn (identity_of p.1) order → ⊥) × StandOnce order

  -- one command stands in the order, and the other not before it: a front of the order has the one and not the other
  pub record Precedes (one other : CommandId) (order : List (ℕ × Command A)) : Type 0 where
    pub front : List (ℕ × Command A)
    pub begins : IsPrefix front order
    pub has : StandsIn one front
    pub lacks : StandsIn other front → ⊥

  -- the decided order has each command once, and only commands that were submitted; each answer that a node has got is that of
  -- its user's maildrop after the user's commands that stand before it there
  pub record IsLinearized (cfg : Config A) (w : Service A) : Type 0 where
    pub once : StandOnce (decided cfg w)
    pub submitted : WereSubmitted w (decided cfg w)
    pub answers : (id : CommandId) (answer : Outcome A) → IsAnswered w id answer →
        IsOutcomeOf (opening_of cfg) (decided cfg w) id answer
