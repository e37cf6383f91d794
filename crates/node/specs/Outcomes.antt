-- What a user's maildrop alone answers.
use Rattle.std.specs.Prelude.{◌≡◌, ℕ, List, ◌∷◌, ◌++◌, map, filter, false, Option}
use Rattle.std.specs.Str.{bytes_eq}
use Rattle.maildrop.specs.CommandId.{CommandId}
use Rattle.maildrop.specs.Maildrop.{Maildrop}
use Rattle.maildrop.specs.Office.{maildrop_of, maildrop_after_all, outcome_at}
use Rattle.maildrop.specs.Same.{identity_of}
use Rattle.maildrop.specs.declared.command.Command.{Command}
use Rattle.maildrop.specs.declared.outcome.Outcome.{Outcome}
use Rattle.replica.specs.Replicas.{has_identity}
use Rattle.node.specs.Replay.{mail_rules, first_users}
use Rattle.node.specs.declared.log.Opening.{Opening}

module _ {A : Type 0} where
  -- the user's maildrop as it begins, if the user has one
  abbrev pub first_maildrop : Opening A → List ℕ → Option (Maildrop A)
  first_maildrop opening name = maildrop_of name (first_users opening)

  -- of commands with their slots those for the user
  abbrev pub own_of : List ℕ → List (ℕ × Command A) → List (Command A)
  own_of name commands = filter (λ c. bytes_eq c.user name) (map (λ p. p.1) commands)

  -- the first of these commands that has the identity, and its outcome: that of its user's maildrop alone, after the user's own commands before it
  pub record IsOutcomeOf (opening : Opening A) (commands : List (ℕ × Command A)) (id : CommandId) (answer : Outcome A) : Type 0 where
    pub before : List (ℕ × Command A)
    pub after : List (ℕ × Command A)
    pub slot : ℕ
    pub command : Command A
    pub order : commands ≡ before ++ (slot, command) ∷ after
    pub its : identity_of command ≡ id
    pub none_before : has_identity mail_rules id before ≡ false
    pub outcome : answer ≡ outcome_at (maildrop_after_all (first_maildrop opening command.user) (own_of command.user before)) command
