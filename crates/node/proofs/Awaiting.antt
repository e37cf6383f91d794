-- A submitted command has its answer once it is performed.
use Rattle.std.proofs.Common.{◌≡◌, ℕ, List, [], ◌∷◌, ◌++◌, Bool, true, false, cond, eqb, Option, Some, None, refl, sym, ap, ◌∙◌, subst, append_assoc}
use Rattle.std.specs.Prelude.{is_some}
use Rattle.std.specs.List.{list_any}
use Rattle.std.specs.Ordering.{is_eq}
use Rattle.std.proofs.lemmas.Bool.{true≢false}
use Rattle.ballot.specs.declared.message.Message.{Message}
use Rattle.ballot.specs.declared.message.Message.TheVariants.{Propose, P1a, P1b, P2a, P2b, Decision, Ask}
use Rattle.maildrop.specs.CommandId.{CommandId, compare_ids}
use Rattle.maildrop.specs.Ticket.{Ticket}
use Rattle.maildrop.specs.Same.{identity_of}
use Rattle.maildrop.specs.Equality.{id_decides}
use Rattle.maildrop.specs.declared.command.Command.{Command}
use Rattle.maildrop.specs.declared.op.Op.{Op}
use Rattle.maildrop.specs.declared.outcome.Outcome.{Outcome}
use Rattle.maildrop.proofs.IdOrder.{ids_eq}
use Rattle.replica.specs.Replicas.{has_identity}
use Rattle.replica.proofs.Parts.{held}
use Rattle.replica.specs.Calls.{awaited_for}
use Rattle.replica.proofs.History.{decided_performs}
use Rattle.replica.proofs.Requested.{requested_for}
use Rattle.node.specs.Replay.{NodeState, NodeMove, mail_rules, hears, acts, is_crash, takes, takes_all, replayed, command_for}
use Rattle.node.specs.Roles.{submits}
use Rattle.ballot.specs.Sends.{stays}
use Rattle.node.specs.Nodes.{logged, lengthened, answered}
use Rattle.node.specs.Submits.{IsSubmitted, log_until}
use Rattle.node.specs.declared.input.Input.{Input}
use Rattle.node.specs.declared.input.Input.TheVariants.{Submit, Arrive, Tick, Campaign, Crash}
use Rattle.node.specs.declared.log.Opening.{Opening}
use Rattle.node.specs.declared.log.NodeLog.{NodeLog}
use Rattle.node.proofs.Orders.{ids_total}
use Rattle.node.proofs.Alike.{first}
use Rattle.node.proofs.Replaying.{replayed-push}
use Rattle.node.proofs.Answering.{Holds, same_awaited, takes_holds, log_holds, replayed_more}
use Rattle.node.proofs.Crashing.{crash_is_last}

module _ {A : Type 0} where
  -- the command's answer is awaited, or there
  abbrev IsAwaited : CommandId → NodeState A → Type 0
  IsAwaited id n = is_some (awaited_for mail_rules id n.replica) ≡ true

  hears_await : (o : Opening A) (before : List (Input A)) (n : NodeState A) (from : ℕ) (m : Message (Command A) A) (id : CommandId) → Holds o before n → IsAwaited id n → IsAwaited id (hears n from m).after
  hears_await o before n from (Decision s c) id h e =
      let performs = decided_performs A mail_rules ids_total (first o) s c n.replica h.answers in
      ap is_some (performs.answers id) ∙ same_awaited _ (awaited_for mail_rules id n.replica) ∙ e
  hears_await o before n from (Propose s c) id h e = e
  hears_await o before n from (P1a b) id h e = e
  hears_await o before n from (P1b p) id h e = e
  hears_await o before n from (P2a p) id h e = e
  hears_await o before n from (P2b v) id h e = e
  hears_await o before n from (Ask s) id h e = e

  acts_await : (o : Opening A) (before : List (Input A)) (n : NodeState A) (i : Input A) (id : CommandId) → Holds o before n → IsAwaited id n → IsAwaited id (acts o.me before n i).after
  acts_await o before n (Submit user op) id h e =
      ap is_some (requested_for A mail_rules ids_total c id n.replica) ∙ go (has_identity mail_rules (identity_of c) n.replica.performed) (is_eq (compare_ids (identity_of c) id))
    where
      c : Command A
      c = command_for o.me user op before

      go : (t u : Bool) → is_some (cond t (awaited_for mail_rules id n.replica) (cond u (Some None) (awaited_for mail_rules id n.replica))) ≡ true
      go true u = e
      go false true = refl
      go false false = e
  acts_await o before n (Arrive x) id h e =
      go (eqb x.to o.me)
    where
      go : (t : Bool) → IsAwaited id (cond t (hears n x.from x.message) (stays n)).after
      go true = hears_await o before n x.from x.message id h e
      go false = e
  acts_await o before n Tick id h e = e
  acts_await o before n Campaign id h e = e
  acts_await o before n Crash id h e = e

  takes_await : (o : Opening A) (before : List (Input A)) (n : NodeState A) (i : Input A) (id : CommandId) → Holds o before n → IsAwaited id n → IsAwaited id (takes o.me before n i).after
  takes_await o before n i id h e =
      go (list_any is_crash before)
    where
      go : (t : Bool) → IsAwaited id (cond t (stays n) (acts o.me before n i)).after
      go true = e
      go false = acts_await o before n i id h e

  all_await : (o : Opening A) (before : List (Input A)) (n : NodeState A) (is : List (Input A)) (id : CommandId) → Holds o before n → IsAwaited id n → IsAwaited id (takes_all o.me before n is)
  all_await o before n [] id h e = e
  all_await o before n (i ∷ is) id h e = all_await o (before ++ i ∷ []) (takes o.me before n i).after is id (takes_holds o before n i h) (takes_await o before n i id h e)

  module _ (log : NodeLog A) (id : CommandId) (op : Op A) (submit : IsSubmitted log id op)
      (unperformed : has_identity mail_rules id (replayed (log_until log submit.before)).replica.performed ≡ false) where
    abbrev until : NodeLog A
    until = log_until log submit.before

    abbrev with_it : NodeLog A
    with_it = logged until (Submit id.user op)

    abbrev c : Command A
    c = command_for log.opening.me id.user op submit.before

    its : identity_of c ≡ id
    its = ap (λ (t : Ticket). record { user = id.user; ticket = t }) (sym submit.ticket)

    whole : lengthened with_it submit.after ≡ log
    whole =
        ap (λ (is : List (Input A)). record { opening = log.opening; inputs = is })
        (append_assoc submit.before (Submit id.user op ∷ []) submit.after ∙ sym submit.inputs)

    -- its answer is awaited once it is submitted
    awaited_then : list_any is_crash submit.before ≡ false → IsAwaited id (replayed with_it)
    awaited_then up =
        subst (IsAwaited id) (sym (replayed-push until (Submit id.user op) ∙ ap (λ (m : NodeMove A). m.after) acted))
        (ap is_some (requested_for A mail_rules ids_total c id (replayed until).replica) ∙ rw (new, here) refl)
      where
        acted : takes log.opening.me submit.before (replayed until) (Submit id.user op) ≡ submits (replayed until) c
        acted = rw up refl

        new : has_identity mail_rules (identity_of c) (replayed until).replica.performed ≡ false
        new = ap (λ (i : CommandId). has_identity mail_rules i (replayed until).replica.performed) its ∙ unperformed

        here : is_eq (compare_ids (identity_of c) id) ≡ true
        here = ids_eq (identity_of c) id ∙ (id_decides (identity_of c) id).1 its

    pub answered_then : has_identity mail_rules id (replayed log).replica.performed ≡ true → is_some (answered log id) ≡ true
    answered_then performed =
        go (list_any is_crash submit.before) refl
      where
        there : (w : Option (Option (Outcome A))) → awaited_for mail_rules id (replayed log).replica ≡ w → is_some w ≡ true → is_some (held w) ≡ true
        there None e some = absurd (true≢false (sym some))
        there (Some None) e some = absurd (true≢false (sym performed ∙ (log_holds log).answers.waiting id e))
        there (Some (Some a)) e some = refl

        go : (t : Bool) → list_any is_crash submit.before ≡ t → is_some (answered log id) ≡ true
        go true q =
            let ended : replayed log ≡ replayed until =
            ap (λ (is : List (Input A)). replayed (record { opening = log.opening; inputs = is })) submit.inputs ∙ crash_is_last until (Submit id.user op ∷ submit.after) q in
            absurd (true≢false (sym performed ∙ (ap (λ (n : NodeState A). has_identity mail_rules id n.replica.performed) ended ∙ unperformed)))
        go false q =
            let all : IsAwaited id (takes_all log.opening.me with_it.inputs (replayed with_it) submit.after) =
            all_await log.opening with_it.inputs (replayed with_it) submit.after id (log_holds with_it) (awaited_then q) in
            there (awaited_for mail_rules id (replayed log).replica) refl
            (subst (IsAwaited id) (sym (replayed_more with_it submit.after) ∙ ap replayed whole) all)
