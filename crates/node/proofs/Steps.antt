-- A node that runs, and one step of it.
use Rattle.std.proofs.Common.{◌≡◌, ℕ, List, [], false, Option, Some, None, refl, ap, ◌∙◌, sym}
use Rattle.std.specs.List.{list_any}
use Rattle.ballot.specs.declared.message.Envelope.{Envelope}
use Rattle.maildrop.specs.CommandId.{CommandId}
use Rattle.maildrop.specs.declared.command.Command.{Command}
use Rattle.node.specs.Replay.{NodeState, NodeMove, new_node, acts, is_crash, takes, sent_from, sends_of}
use Rattle.node.specs.Nodes.{logged, stops_after, answer_of, answer_after, awaited_in, ArePassed, IsKept}
use Rattle.node.specs.declared.input.Input.{Input}
use Rattle.node.specs.declared.log.NodeLog.{NodeLog}
use Rattle.node.specs.declared.log.Opening.{Opening}
use Rattle.node.specs.declared.stopped.Stopped.{Stopped}
use Rattle.node.proofs.Held.{answers_follow}
use Rattle.node.proofs.Kept.{new_current, same_sends, kept_after}

module _ {A : Type 0} where
  -- a node that has taken no input
  pub begun : (o : Opening A) (inputs : List (Input A)) (roles : Option (NodeState A)) (given : List (List ℕ × ℕ)) → inputs ≡ [] → roles ≡ Some (new_node o) → given ≡ []
      → IsKept (record { opening = o; inputs = inputs }) roles given None
  begun o inputs roles given none new free = rw (none, new, free) (new_current o, refl)

  -- if there was no crash, an input acts
  takes_acts : (me : ℕ) (before : List (Input A)) (n : NodeState A) (i : Input A) → list_any is_crash before ≡ false → takes me before n i ≡ acts me before n i
  takes_acts me before n i h = rw h refl

  module _ (log : NodeLog A) (i : Input A) (roles roles' : Option (NodeState A)) (given given' : List (List ℕ × ℕ)) where
    abbrev Works : Type 0
    Works = (n : NodeState A) → roles ≡ Some n → roles' ≡ Some (acts log.opening.me log.inputs n i).after

    went : IsKept log roles given None → Works → (n : NodeState A) → roles ≡ Some n → roles' ≡ Some (takes log.opening.me log.inputs n i).after
    went h works n is = works n is ∙ ap (λ (m : NodeMove A). Some m.after) (sym (takes_acts log.opening.me log.inputs n i h.1))

    -- the input is taken
    pub step_kept : (log' : NodeLog A) (stopped : Option Stopped) → IsKept log roles given None → Works → ArePassed i given given' → log' ≡ logged log i → stopped ≡ stops_after i → IsKept log' roles' given' stopped
    step_kept log' stopped h works passed same stops = rw (same, stops) (kept_after log i roles roles' given given' h (went h works) passed)

    pub step_sends : (sends : List (Envelope (Command A) A)) → IsKept log roles given None
        → ((n : NodeState A) → roles ≡ Some n → sends ≡ sent_from log.opening.me (acts log.opening.me log.inputs n i).sends) → sends ≡ sends_of log i
    step_sends sends h says =
        says h.0.node h.0.works
        ∙ ap (sent_from log.opening.me) (ap (λ (m : NodeMove A). m.sends) (sym (takes_acts log.opening.me log.inputs h.0.node i h.1)) ∙ same_sends log i roles given h.0)

    pub step_answers : (stopped : Option Stopped) → IsKept log roles given None → Works → stopped ≡ stops_after i → stops_after i ≡ None → (id : CommandId)
        → answer_of id (awaited_in stopped roles') ≡ answer_after log i id (answer_of id (awaited_in None roles))
    step_answers stopped h works stops runs id =
        ap (λ (s : Option Stopped). answer_of id (awaited_in s roles')) (stops ∙ runs)
        ∙ ap (λ (rs : Option (NodeState A)). answer_of id (awaited_in None rs)) (went h works h.0.node h.0.works)
        ∙ answers_follow log i roles given h.0 id
        ∙ ap (λ (rs : Option (NodeState A)). answer_after log i id (answer_of id (awaited_in None rs))) (sym h.0.works)
