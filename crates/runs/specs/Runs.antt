-- What is decided in a run.
use Rattle.std.specs.Prelude.{◌≡◌, refl, ℕ, List, [], ◌∷◌, ◌++◌, Some, option_map}
use Rattle.maildrop.specs.declared.command.Command.{Command}
use Rattle.maildrop.specs.declared.op.Op.TheVariants.{Take}
use Rattle.maildrop.specs.Limits.{Limits}
use Rattle.maildrop.specs.Same.{identity_of}
use Rattle.maildrop.specs.declared.outcome.Outcome.TheVariants.{Taken}
use Rattle.node.specs.Nodes.{answered}
use Rattle.node.specs.Replay.{mail_rules, replayed}
use Rattle.node.specs.declared.log.Opening.{Opening}
use Rattle.runs.specs.Chosen.{IsChosen}
use Rattle.runs.specs.Decided.{decided_order}
use Rattle.runs.specs.Messages.{NodeEvent, Submits, Arrives, Campaigns, network_of, envelopes, log_of}

module _ {A : Type 0} where
  -- the command is chosen in the slot, in the run of these events
  abbrev pub IsChosenIn : Opening A → List (NodeEvent A) → ℕ → Command A → Type 0
  IsChosenIn first events slot c = IsChosen first.cluster (envelopes (network_of first events)) slot c

  -- the decided order of the run, each command with its slot
  abbrev pub order_of : Opening A → List (NodeEvent A) → List (ℕ × Command A)
  order_of first events = decided_order mail_rules first.cluster (envelopes (network_of first events))

-- a worked example: a service of one node, which is given a command and asks to lead. Each message arrives once
module _ (A : Type 0) (limits : Limits) where
  abbrev alone : Opening A
  alone = record { me = 1; cluster = 1; window = 5; names = (97 ∷ []) ∷ []; limits = limits; kept = []; keys = 0 }

  abbrev its_command : Command A
  its_command = record { user = 97 ∷ []; ticket = record { node = 1; seq = 1 }; op = Take }

  abbrev before_the_vote : List (NodeEvent A)
  before_the_vote = Submits 1 (97 ∷ []) Take ∷ Campaigns 1 ∷ Arrives 0 ∷ Arrives 1 ∷ Arrives 2 ∷ []

  -- no acceptor has voted
  not_yet : order_of alone before_the_vote ≡ []
  not_yet = refl

  abbrev with_the_vote : List (NodeEvent A)
  with_the_vote = Submits 1 (97 ∷ []) Take ∷ Campaigns 1 ∷ Arrives 0 ∷ Arrives 1 ∷ Arrives 2 ∷ Arrives 3 ∷ []

  -- its vote is a majority
  chooses : order_of alone with_the_vote ≡ (1, its_command) ∷ []
  chooses = refl

  -- the decision comes back to it. It performs the command, and its answer is there: the lock, and no messages
  abbrev until_the_answer : List (NodeEvent A)
  until_the_answer = Submits 1 (97 ∷ []) Take ∷ Campaigns 1 ∷ Arrives 0 ∷ Arrives 1 ∷ Arrives 2 ∷ Arrives 3 ∷ Arrives 4 ∷ Arrives 5 ∷ []

  performs : option_map (λ log. (replayed log).replica.performed) (log_of 1 (network_of alone until_the_answer).logs) ≡ Some ((1, its_command) ∷ [])
  performs = refl

  answers : option_map (λ log. answered log (identity_of its_command)) (log_of 1 (network_of alone until_the_answer).logs) ≡ Some (Some (Taken []))
  answers = refl

  -- of three nodes the first alone has accepted its user's command when the second asks to lead, for which another one is proposed: the first one is chosen
  abbrev three : Opening A
  three = record { me = 1; cluster = 3; window = 5; names = []; limits = limits; kept = []; keys = 0 }

  abbrev before_the_last_vote : List (NodeEvent A)
  before_the_last_vote =
      Submits 1 (97 ∷ []) Take ∷ Campaigns 1 ∷ Arrives 3 ∷ Arrives 4 ∷ Arrives 6 ∷ Arrives 7 ∷ Arrives 0 ∷ Arrives 8
      ∷ Campaigns 2 ∷ Submits 2 (98 ∷ []) Take ∷ Arrives 16 ∷ Arrives 12 ∷ Arrives 13 ∷ Arrives 18 ∷ Arrives 19 ∷ Arrives 21 ∷ []

  one_vote_is_missing : order_of three before_the_last_vote ≡ []
  one_vote_is_missing = refl

  taken_over : order_of three (before_the_last_vote ++ Arrives 22 ∷ []) ≡ (1, its_command) ∷ []
  taken_over = refl
