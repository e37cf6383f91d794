-- The decisions that a log told its node.
use Rattle.std.specs.Prelude.{ℕ, ◌==◌, List, [], ◌∷◌, ◌++◌, if◌then◌else◌}
use Rattle.ballot.specs.declared.message.Message.{Message}
use Rattle.ballot.specs.declared.message.Message.TheVariants.{Decision}
use Rattle.maildrop.specs.declared.command.Command.{Command}
use Rattle.node.specs.Replay.{is_crash}
use Rattle.node.specs.declared.input.Input.{Input}
use Rattle.node.specs.declared.input.Input.TheVariants.{Arrive}

module _ {A : Type 0} where
  -- the decision that a message tells, with its slot
  abbrev pub decision_in : Message (Command A) A → List (ℕ × Command A)
  decision_in (Decision s c) = (s, c) ∷ []
  decision_in _ = []

  -- the decision that an input tells node me: a message to another node tells it none
  abbrev pub told_by : ℕ → Input A → List (ℕ × Command A)
  told_by me (Arrive e) = if e.to == me then decision_in e.message else []
  told_by me _ = []

  -- the decisions that node me was told before it crashed, in the order in which they came
  abbrev pub told_decisions : ℕ → List (Input A) → List (ℕ × Command A)
  told_decisions me [] = []
  told_decisions me (i ∷ is) = if is_crash i then [] else told_by me i ++ told_decisions me is
