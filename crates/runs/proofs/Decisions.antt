-- What the nodes of a service have decided, by the run that leads to it.
use Rattle.std.proofs.Common.{◌≡◌, ℕ, suc, List, [], ◌∷◌, Option, Some, None, refl, sym, subst, inl, inr, ⊎_elim, map}
use Rattle.std.specs.Prelude.{◌⊎◌, slice_get}
use Rattle.std.proofs.lemmas.List.{append-nil}
use Rattle.ballot.specs.Lists.{IsIn}
use Rattle.ballot.specs.declared.message.Message.TheVariants.{Decision}
use Rattle.ballot.proofs.Member.{in_left}
use Rattle.maildrop.specs.declared.command.Command.{Command}
use Rattle.node.specs.Replay.{mail_rules, replayed}
use Rattle.node.specs.declared.log.NodeLog.{NodeLog}
use Rattle.session.specs.Prefix.{IsPrefix}
use Rattle.runs.specs.Chosen.{IsChosen}
use Rattle.runs.specs.Clients.{Client, client_of}
use Rattle.runs.specs.Decided.{decided_order}
use Rattle.runs.specs.Decisions.{IsChosenAt, ChoosesOne, TellsChosen, ChoosesSubmitted, IsDecidedFirst, AreDecidedFirst, WereSubmitted, KeepsDecided}
use Rattle.runs.specs.Interrupted.{IsSessionLost, IsItsCrashed, IsAddresseeCrashed, IsInterrupted}
use Rattle.runs.specs.Messages.{WasSubmitted, envelopes, log_of}
use Rattle.runs.specs.Projection.{decided}
use Rattle.runs.specs.Runs.{IsChosenIn}
use Rattle.runs.specs.Services.{Service, Happening, Occurs, Lost, happens, opening_of}
use Rattle.runs.specs.Settling.{all_performed}
use Rattle.runs.specs.Worlds.{IsReached, performed_by, performed_in}
use Rattle.runs.specs.declared.config.Config.{Config}
use Rattle.runs.specs.declared.event.Event.{Event}
use Rattle.runs.specs.declared.event.Event.TheVariants as event
use Rattle.runs.specs.declared.sent.Sent.{Sent}
use Rattle.runs.proofs.Logs.{some_same}
use Rattle.runs.proofs.ServiceRuns.{AreOfRun, decided_grows}
use Rattle.runs.proofs.Serving.{every_service}
use Rattle.runs.proofs.Theorems.{one_command, told_chosen, performed_prefix, order_chosen, chosen_submitted}

-- what is in the list of what is made of each stands there of one
in_made : {X Y : Type 0} (f : X → Y) (xs : List X) (y : Y) → IsIn y (map f xs) → (k : ℕ) × (x : X) × (slice_get xs k ≡ Some x) × (f x ≡ y)
in_made f [] y h = absurd h
in_made f (x ∷ xs) y h = ⊎_elim (λ q. (0, x, refl, q)) (λ t. let r = in_made f xs y t in (suc r.0, r.1, r.2, r.3)) h

module _ {A : Type 0} where
  -- the nodes of a service that some run has reached are those of a run of nodes
  pub reached_nodes : (cfg : Config A) (w : Service A) → IsReached cfg w → AreOfRun cfg w
  reached_nodes cfg w reached = subst (λ (s : Service A). AreOfRun cfg s) reached.1 (every_service cfg reached.0).nodes

  module _ (cfg : Config A) (w : Service A) (run : AreOfRun cfg w) where
    in_run : (slot : ℕ) (c : Command A) → IsChosenAt cfg w slot c → IsChosenIn (opening_of cfg) run.0 slot c
    in_run slot c h = subst (λ n. IsChosen cfg.cluster (envelopes n) slot c) run.1 h

    of_run : (slot : ℕ) (c : Command A) → IsChosenIn (opening_of cfg) run.0 slot c → IsChosenAt cfg w slot c
    of_run slot c h = subst (λ n. IsChosen cfg.cluster (envelopes n) slot c) (sym run.1) h

    pub chooses_one : ChoosesOne cfg w
    chooses_one slot c d x y = one_command (opening_of cfg) run.0 slot c d (in_run slot c x) (in_run slot d y)

    pub tells_chosen : TellsChosen cfg w
    tells_chosen from to slot c h =
        of_run slot c
        (told_chosen (opening_of cfg) run.0 from to slot c
        (subst (λ n. IsIn (record { from = from; to = to; message = Decision slot c }) (envelopes n)) run.1 h))

    pub chooses_submitted : ChoosesSubmitted cfg w
    chooses_submitted slot c h = subst (λ n. WasSubmitted n.logs c) (sym run.1) (chosen_submitted (opening_of cfg) run.0 slot c (in_run slot c h))

    decided_chosen : (slot : ℕ) (c : Command A) → IsIn (slot, c) (decided cfg w) → IsChosenAt cfg w slot c
    decided_chosen slot c h =
        of_run slot c (order_chosen (opening_of cfg) run.0 slot c (subst (λ n. IsIn (slot, c) (decided_order mail_rules cfg.cluster (envelopes n))) run.1 h))

    pub decided_submitted : WereSubmitted w (decided cfg w)
    decided_submitted slot c h = chooses_submitted slot c (decided_chosen slot c h)

    pub front_submitted : (commands : List (ℕ × Command A)) → IsDecidedFirst cfg w commands → WereSubmitted w commands
    front_submitted commands front slot c h = decided_submitted slot c (subst (λ all. IsIn (slot, c) all) front.1 (in_left (slot, c) commands front.0 h))

    log_decided : (node : ℕ) (log : NodeLog A) → log_of node w.network.logs ≡ Some log → IsDecidedFirst cfg w (replayed log).replica.performed
    log_decided node log at =
        subst (λ n. IsPrefix (replayed log).replica.performed (decided_order mail_rules cfg.cluster (envelopes n))) (sym run.1)
        (performed_prefix (opening_of cfg) run.0 node log (subst (λ n. log_of node n.logs ≡ Some log) run.1 at))

    pub performed_decided : (node : ℕ) (commands : List (ℕ × Command A)) → performed_by w node ≡ Some commands → IsDecidedFirst cfg w commands
    performed_decided node commands e =
        go (log_of node w.network.logs) refl e
      where
        go : (o : Option (NodeLog A)) → log_of node w.network.logs ≡ o → performed_in o ≡ Some commands → IsDecidedFirst cfg w commands
        go None at q = absurd (cc)
        go (Some log) at q = subst (λ xs. IsDecidedFirst cfg w xs) (some_same (replayed log).replica.performed commands q) (log_decided node log at)

    pub all_decided : AreDecidedFirst cfg w (all_performed w)
    all_decided commands h =
        let x = in_made (λ (log : NodeLog A). (replayed log).replica.performed) w.network.logs commands h in
        subst (λ xs. IsDecidedFirst cfg w xs) x.3 (log_decided (suc x.0) x.1 x.2)

    keeps : KeepsDecided cfg w w
    keeps = ([], append-nil (decided cfg w))

    module _ (later : Service A) where
      pub same_decided : later ≡ w → KeepsDecided cfg w later
      same_decided same = subst (λ s. KeepsDecided cfg w s) (sym same) keeps

      pub happened_decided : (h : Happening A) → later ≡ happens cfg w h → KeepsDecided cfg w later
      happened_decided h moved = subst (λ s. KeepsDecided cfg w s) (sym moved) (decided_grows cfg w h run)

      crash_decided : (node : ℕ) → later ≡ happens cfg w (Occurs (event.Crash node)) → KeepsDecided cfg w later
      crash_decided node moved = happened_decided (Occurs (event.Crash node)) moved

      lost_decided : (session : ℕ) → later ≡ happens cfg w (Lost session) → KeepsDecided cfg w later
      lost_decided session moved = happened_decided (Lost session) moved

      its_decided : (c : Option (Client A)) → IsItsCrashed cfg c w later → KeepsDecided cfg w later
      its_decided None h = absurd h
      its_decided (Some c) h = crash_decided c.node h

      addressee_decided : (sent : Option (Sent A)) → IsAddresseeCrashed cfg sent w later → KeepsDecided cfg w later
      addressee_decided None h = absurd h
      addressee_decided (Some sent) h = crash_decided sent.envelope.to h

      line_decided : (session : ℕ) → IsSessionLost cfg session w later ⊎ IsItsCrashed cfg (client_of session w.clients) w later → KeepsDecided cfg w later
      line_decided session (inl lost) = lost_decided session lost
      line_decided session (inr crashed) = its_decided (client_of session w.clients) crashed

      pub cut_decided : (e : Event A) → IsInterrupted cfg e w later → KeepsDecided cfg w later
      cut_decided (event.Connect session node stamp) h = same_decided h
      cut_decided (event.Line session line) h = line_decided session h
      cut_decided (event.Hangup session) h = its_decided (client_of session w.clients) h
      cut_decided (event.Collect session) h = lost_decided session h
      cut_decided (event.Mail node user text key) h = crash_decided node h
      cut_decided (event.Break node user) h = crash_decided node h
      cut_decided (event.Arrive which) h = addressee_decided (slice_get w.network.sent which) h
      cut_decided (event.Tick node) h = crash_decided node h
      cut_decided (event.Campaign node) h = crash_decided node h
      cut_decided (event.Crash node) h = crash_decided node h
