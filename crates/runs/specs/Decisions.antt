-- What contracts say of what the nodes of a service have decided.
use Rattle.std.specs.Prelude.{◌≡◌, ℕ, List}
use Rattle.ballot.specs.Lists.{IsIn}
use Rattle.ballot.specs.declared.message.Message.TheVariants.{Decision}
use Rattle.maildrop.specs.declared.command.Command.{Command}
use Rattle.session.specs.Prefix.{IsPrefix}
use Rattle.runs.specs.Chosen.{IsChosen}
use Rattle.runs.specs.Messages.{WasSubmitted, envelopes}
use Rattle.runs.specs.Projection.{decided}
use Rattle.runs.specs.Services.{Service}
use Rattle.runs.specs.declared.config.Config.{Config}

module _ {A : Type 0} where
  -- the command is chosen in the slot, by the messages that the nodes of the service have sent
  abbrev pub IsChosenAt : Config A → Service A → ℕ → Command A → Type 0
  IsChosenAt cfg w slot c = IsChosen cfg.cluster (envelopes w.network) slot c

  -- at most one command is chosen in a slot
  abbrev pub ChoosesOne : Config A → Service A → Type 0
  ChoosesOne cfg w = (slot : ℕ) (c d : Command A) → IsChosenAt cfg w slot c → IsChosenAt cfg w slot d → c ≡ d

  -- each Decision that was sent carries a command that is chosen in its slot
  abbrev pub TellsChosen : Config A → Service A → Type 0
  TellsChosen cfg w = (from to slot : ℕ) (c : Command A) →
      IsIn (record { from = from; to = to; message = Decision slot c }) (envelopes w.network) → IsChosenAt cfg w slot c

  -- each command that is chosen was submitted
  abbrev pub ChoosesSubmitted : Config A → Service A → Type 0
  ChoosesSubmitted cfg w = (slot : ℕ) (c : Command A) → IsChosenAt cfg w slot c → WasSubmitted w.network.logs c

  -- the decided order begins so
  abbrev pub IsDecidedFirst : Config A → Service A → List (ℕ × Command A) → Type 0
  IsDecidedFirst cfg w commands = IsPrefix commands (decided cfg w)

  -- each of these lists is how it begins
  abbrev pub AreDecidedFirst : Config A → Service A → List (List (ℕ × Command A)) → Type 0
  AreDecidedFirst cfg w lists = (commands : List (ℕ × Command A)) → IsIn commands lists → IsDecidedFirst cfg w commands

  -- each of these commands was submitted
  abbrev pub WereSubmitted : Service A → List (ℕ × Command A) → Type 0
  WereSubmitted w commands = (slot : ℕ) (c : Command A) → IsIn (slot, c) commands → WasSubmitted w.network.logs c

  -- what is decided stays so, and more comes after
  abbrev pub KeepsDecided : Config A → Service A → Service A → Type 0
  KeepsDecided cfg w later = IsPrefix (decided cfg w) (decided cfg later)
