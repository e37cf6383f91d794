-- Services one after another: each opens with what a node of the one before it left.
use Rattle.std.specs.Prelude.{◌≡◌, ℕ, List, [], ◌∷◌, ◌++◌, map, Some, is_some, ⊤, if◌then◌else◌}
use Rattle.maildrop.specs.Kept.{KeptTable, with_others_of}
use Rattle.maildrop.specs.Maildrop.{Maildrop}
use Rattle.maildrop.specs.Office.{kept_of}
use Rattle.maildrop.specs.Reopening.{Step, Performs, Reopens, after_steps}
use Rattle.maildrop.specs.declared.command.Command.{Command}
use Rattle.apop.specs.Login.{account_named}
use Rattle.node.specs.Outcomes.{own_of}
use Rattle.node.specs.Replay.{replayed}
use Rattle.node.specs.declared.log.NodeLog.{NodeLog}
use Rattle.runs.specs.Messages.{log_of}
use Rattle.runs.specs.Services.{Happening, run_of}
use Rattle.runs.specs.declared.config.Config.{Config}

-- a service that has ended, and the node whose maildrops the next one opens with
pub record Epoch (A : Type 0) : Type 0 where
  pub config : Config A
  pub happenings : List (Happening A)
  pub node : ℕ
  pub log : NodeLog A

module _ {A : Type 0} where
  -- what a service hands on: the maildrops as the node of this log has them, and what was kept of users without an account
  abbrev pub handed_on : Config A → NodeLog A → KeptTable A
  handed_on cfg log = with_others_of (kept_of (replayed log).replica.machine) cfg.kept

  -- the user's own commands that the node of this log has performed
  abbrev pub own_performed : NodeLog A → List ℕ → List (Command A)
  own_performed log user = own_of user (replayed log).replica.performed

  -- a service that opens with what the node of an ended one left
  pub record IsNext (epoch : Epoch A) (next : Config A) : Type 0 where
    pub its_log : log_of epoch.node (run_of epoch.config epoch.happenings).network.logs ≡ Some epoch.log
    pub opens : next.kept ≡ handed_on epoch.config epoch.log

  -- what a service does with a user's maildrop, if the user has an account there: it opens it and performs the user's commands
  abbrev pub steps_in : Config A → NodeLog A → List ℕ → List (Step A)
  steps_in cfg log user =
      if is_some (account_named cfg.accounts user)
      then Reopens cfg.limits cfg.keys ∷ map (λ c. Performs c) (own_performed log user)
      else []

  -- the first service of a life, or the last one if no epoch has ended
  abbrev pub first_of : List (Epoch A) → Config A → Config A
  first_of [] last = last
  first_of (epoch ∷ epochs) last = epoch.config

  -- these services ran one after another, each opened with what the one before it left, and the last one opens so too
  abbrev pub IsLife : List (Epoch A) → Config A → Type 0
  IsLife [] last = ⊤
  IsLife (epoch ∷ epochs) last = IsNext epoch (first_of epochs last) × IsLife epochs last

  -- what all these services did with a user's maildrop
  abbrev pub steps_of : List (Epoch A) → List ℕ → List (Step A)
  steps_of [] user = []
  steps_of (epoch ∷ epochs) user = steps_in epoch.config epoch.log user ++ steps_of epochs user

  -- the maildrop with which the last service of a life opens, if it began as this one: a server alone with it has performed
  -- the user's commands of all epochs
  abbrev pub lived : Maildrop A → List (Epoch A) → List ℕ → Config A → Maildrop A
  lived maildrop epochs user last = after_steps maildrop (steps_of epochs user ++ Reopens last.limits last.keys ∷ [])
