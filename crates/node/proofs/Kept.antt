-- What a node's type keeps, from its opening on and through each input.
use Rattle.std.proofs.Common.{◌≡◌, refl, ap, ◌∙◌, sym, subst, ℕ, ◌+◌, List, [], ◌∷◌, ◌++◌, Bool, true, false, Option, Some, None}
use Rattle.std.specs.List.{list_any}
use Rattle.std.specs.Prelude.{◌||◌, ◌↔◌, IfSome}
use Rattle.std.proofs.lemmas.Bool.{true≢false}
use Rattle.maildrop.specs.CommandId.{CommandId}
use Rattle.maildrop.specs.Office.{User}
use Rattle.replica.specs.Calls.{AreAnswers, awaited_for}
use Rattle.replica.specs.Taken as replica
use Rattle.replica.proofs.History.{always_answers}
use Rattle.replica.specs.Replicas.{is_waiting}
use Rattle.replica.proofs.Left.{left_itself, taken_left}
use Rattle.replica.proofs.Waiting.{waiting_left}
use Rattle.node.specs.Replay.{NodeState, MailReplica, mail_rules, new_node, takes, replayed, counts, is_crash}
use Rattle.node.specs.Tickets.{tickets_of}
use Rattle.node.specs.Nodes.{logged, taken_of, stops_after, AreGiven, IsButTaken, IsCurrent, IsKept, IsKnown, EndsInCrash}
use Rattle.node.specs.declared.stopped.Stopped.{Stopped}
use Rattle.node.specs.declared.stopped.Stopped.TheVariants.{Crashed, Memory, TicketsUsed}
use Rattle.node.specs.declared.input.Input.TheVariants.{Submit, Arrive, Tick, Campaign, Crash}
use Rattle.node.specs.declared.input.Input.{Input}
use Rattle.node.specs.declared.log.NodeLog.{NodeLog}
use Rattle.node.specs.declared.log.Opening.{Opening}
use Rattle.node.proofs.Orders.{ids_total}
use Rattle.node.proofs.Alike.{first, takes_alike}
use Rattle.node.proofs.Replaying.{replayed-push, submits_of-push}

module _ {A : Type 0} where
  itself : (first : List (User A)) (r : MailReplica A) → AreAnswers mail_rules first r → replica.IsButTaken mail_rules first r r
  itself first r h = record { here = h; there = h; same = refl; left = λ i. left_itself (awaited_for mail_rules i r) }

  -- a node that has taken no input
  pub new_current : (o : Opening A) → IsCurrent (record { opening = o; inputs = [] }) (Some (new_node o)) []
  new_current o =
      record {
        node = new_node o;
        works = refl;
        replay = record { acceptor = refl; leader = refl; replica = itself (first o) (new_node o).replica (always_answers A mail_rules ids_total o.me o.cluster o.window (first o) []) };
        tickets = λ name. refl;
      }

  -- one input more
  pub next_current : (log : NodeLog A) (i : Input A) (roles roles' : Option (NodeState A)) (given given' : List (List ℕ × ℕ)) → IsCurrent log roles given
      → ((n : NodeState A) → roles ≡ Some n → roles' ≡ Some (takes log.opening.me log.inputs n i).after)
      → ((name : List ℕ) → tickets_of name given' ≡ counts name i + tickets_of name given)
      → IsCurrent (logged log i) roles' given'
  next_current log i roles roles' given given' h works tickets =
      record {
        node = (takes log.opening.me log.inputs h.node i).after;
        works = works h.node h.works;
        replay = subst (λ (n : NodeState A). IsButTaken log.opening (takes log.opening.me log.inputs h.node i).after n) (sym (replayed-push log i)) (takes_alike log.opening log.opening.me log.inputs h.node (replayed log) i h.replay).node;
        tickets = λ name. tickets name ∙ ap (λ n. counts name i + n) (h.tickets name) ∙ sym (submits_of-push name log.inputs i);
      }

  -- and what is sent is what the log leads to
  pub same_sends : (log : NodeLog A) (i : Input A) (roles : Option (NodeState A)) (given : List (List ℕ × ℕ)) (h : IsCurrent log roles given)
      → (takes log.opening.me log.inputs h.node i).sends ≡ (takes log.opening.me log.inputs (replayed log) i).sends
  same_sends log i roles given h = (takes_alike log.opening log.opening.me log.inputs h.node (replayed log) i h.replay).sends

  -- an answer is taken
  pub taken_current : (log : NodeLog A) (id : CommandId) (roles roles' : Option (NodeState A)) (given : List (List ℕ × ℕ)) → IsCurrent log roles given
      → ((n : NodeState A) → roles ≡ Some n → roles' ≡ Some (taken_of id n))
      → IsCurrent log roles' given
  taken_current log id roles roles' given h works =
      record {
        node = taken_of id h.node;
        works = works h.node h.works;
        replay = record { acceptor = h.replay.acceptor; leader = h.replay.leader; replica = taken_left A mail_rules ids_total (first log.opening) id h.node.replica (replayed log).replica h.replay.replica };
        tickets = h.tickets;
      }

  -- a log has a crash if its last input is one, or one stands before
  pub crash-push : (is : List (Input A)) (i : Input A) → list_any is_crash is ≡ false → list_any is_crash (is ++ i ∷ []) ≡ is_crash i
  crash-push [] i h = last (is_crash i)
    where
      last : (t : Bool) → (t || false) ≡ t
      last true = refl
      last false = refl
  crash-push (j ∷ is) i h = front (is_crash j) (list_any is_crash is) h (crash-push is i)
    where
      front : (t u : Bool) → (t || u) ≡ false → (u ≡ false → list_any is_crash (is ++ i ∷ []) ≡ is_crash i) → (t || list_any is_crash (is ++ i ∷ [])) ≡ is_crash i
      front true u h rest = absurd (cc h)
      front false u h rest = rest h

  -- a node waits if its log does
  pub waits_as : (log : NodeLog A) (roles : Option (NodeState A)) (given : List (List ℕ × ℕ)) (h : IsCurrent log roles given) → is_waiting h.node.replica.awaited ≡ is_waiting (replayed log).replica.awaited
  waits_as log roles given h = waiting_left mail_rules ids_total (first log.opening) h.node.replica (replayed log).replica h.replay.replica

  pub current_of : (log : NodeLog A) (roles : Option (NodeState A)) (given : List (List ℕ × ℕ)) (stopped : Option Stopped) → IsKnown stopped → IsKept log roles given stopped → IsCurrent log roles given
  current_of log roles given None known h = h.0
  current_of log roles given (Some Crashed) known h = h.0
  current_of log roles given (Some Memory) known h = absurd known
  current_of log roles given (Some TicketsUsed) known h = h.0

  -- the tickets are those of the log, whatever has stopped the node
  pub given_of : (log : NodeLog A) (roles : Option (NodeState A)) (given : List (List ℕ × ℕ)) (stopped : Option Stopped) → IsKept log roles given stopped → AreGiven log.inputs given
  given_of log roles given None h = h.0.tickets
  given_of log roles given (Some Crashed) h = h.0.tickets
  given_of log roles given (Some Memory) h = h.0
  given_of log roles given (Some TicketsUsed) h = h.0.tickets

  -- a log that ends in a crash has one
  ends_crashed : (is : List (Input A)) → EndsInCrash is → list_any is_crash is ≡ true
  ends_crashed is h = ap (list_any is_crash) h.1 ∙ crash-push h.0 Crash h.2

  not_ended : (is : List (Input A)) → list_any is_crash is ≡ false → EndsInCrash is → ⊥
  not_ended is none h = true≢false (sym (ends_crashed is h) ∙ none)

  pub ended_of : (log : NodeLog A) (roles : Option (NodeState A)) (given : List (List ℕ × ℕ)) (stopped : Option Stopped) → IsKept log roles given stopped → (stopped ≡ Some Crashed) ↔ EndsInCrash log.inputs
  ended_of log roles given None h = (λ e. absurd (cc e), λ ends. absurd (not_ended log.inputs h.1 ends))
  ended_of log roles given (Some Crashed) h = (λ e. h.1, λ ends. refl)
  ended_of log roles given (Some Memory) h = (λ e. absurd (cc e), λ ends. absurd (not_ended log.inputs h.1 ends))
  ended_of log roles given (Some TicketsUsed) h = (λ e. absurd (cc e), λ ends. absurd (not_ended log.inputs h.1 ends))

  pub waits_known : (log : NodeLog A) (roles : Option (NodeState A)) (given : List (List ℕ × ℕ)) (stopped : Option Stopped) (waits : Bool) → IsKept log roles given stopped → IfSome roles (λ (n : NodeState A). waits ≡ is_waiting n.replica.awaited)
      → IsKnown stopped → waits ≡ is_waiting (replayed log).replica.awaited
  waits_known log roles given stopped waits h says known =
      let current = current_of log roles given stopped known h in
      (rw current.works at says) ∙ waits_as log roles given current

  -- the maildrops of a node that is known are those that its log leads to
  pub office_known : (log : NodeLog A) (roles : Option (NodeState A)) (given : List (List ℕ × ℕ)) (stopped : Option Stopped) (users : List (User A)) → IsKept log roles given stopped → IfSome roles (λ (n : NodeState A). users ≡ n.replica.machine)
      → IsKnown stopped → users ≡ (replayed log).replica.machine
  office_known log roles given stopped users h says known =
      let current = current_of log roles given stopped known h in
      (rw current.works at says) ∙ ap (λ (r : MailReplica A). r.machine) current.replay.replica.same

  -- what a type keeps after an input
  pub kept_after : (log : NodeLog A) (i : Input A) (roles roles' : Option (NodeState A)) (given given' : List (List ℕ × ℕ)) → IsKept log roles given None
      → ((n : NodeState A) → roles ≡ Some n → roles' ≡ Some (takes log.opening.me log.inputs n i).after)
      → ((name : List ℕ) → tickets_of name given' ≡ counts name i + tickets_of name given)
      → IsKept (logged log i) roles' given' (stops_after i)
  kept_after log i roles roles' given given' h works tickets =
      go i refl (next_current log i roles roles' given given' h.0 works tickets) (crash-push log.inputs i h.1)
    where
      go : (j : Input A) → i ≡ j → IsCurrent (logged log i) roles' given' → list_any is_crash (log.inputs ++ i ∷ []) ≡ is_crash i → IsKept (logged log i) roles' given' (stops_after j)
      go (Submit name op) same current crash = (current, crash ∙ ap is_crash same)
      go (Arrive e) same current crash = (current, crash ∙ ap is_crash same)
      go Tick same current crash = (current, crash ∙ ap is_crash same)
      go Campaign same current crash = (current, crash ∙ ap is_crash same)
      go Crash same current crash = (current, (log.inputs, ap (λ j. log.inputs ++ j ∷ []) same, h.1))
