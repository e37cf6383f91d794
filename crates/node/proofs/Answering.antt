-- What holds of the answers that a log leads to.
use Rattle.std.proofs.Common.{◌≡◌, ℕ, List, [], ◌∷◌, ◌++◌, Bool, true, false, cond, eqb, Option, Some, None, refl, ap, ◌∙◌, sym, subst, append_assoc}
use Rattle.std.specs.Prelude.{is_some}
use Rattle.std.specs.List.{list_any}
use Rattle.std.specs.Ordering.{is_eq}
use Rattle.std.proofs.lemmas.List.{append-nil}
use Rattle.ballot.specs.declared.message.Message.{Message}
use Rattle.ballot.specs.declared.message.Message.TheVariants.{Propose, P1a, P1b, P2a, P2b, Decision, Ask}
use Rattle.replica.specs.Replicas.{has_identity}
use Rattle.replica.proofs.Parts.{held}
use Rattle.replica.specs.Calls.{Requests, Decides, answered_with, awaited_for, AreAnswers}
use Rattle.replica.proofs.History.{called_answers, answers_new, decided_performs, requests_add_none}
use Rattle.replica.proofs.Requested.{requested_for}
use Rattle.maildrop.specs.CommandId.{CommandId, compare_ids}
use Rattle.maildrop.specs.Same.{identity_of}
use Rattle.maildrop.specs.Equality.{id_decides}
use Rattle.maildrop.specs.declared.command.Command.{Command}
use Rattle.maildrop.specs.declared.op.Op.{Op}
use Rattle.maildrop.specs.declared.outcome.Outcome.{Outcome}
use Rattle.maildrop.proofs.IdOrder.{ids_eq}
use Rattle.node.specs.Replay.{NodeState, mail_rules, new_node, hears, acts, is_crash, takes, takes_all, replayed, command_for}
use Rattle.node.specs.Roles.{submits}
use Rattle.node.specs.Nodes.{lengthened, answer_of, answered}
use Rattle.node.specs.Submits.{IsSubmitted}
use Rattle.node.specs.declared.input.Input.{Input}
use Rattle.node.specs.declared.input.Input.TheVariants.{Submit, Arrive, Tick, Campaign, Crash}
use Rattle.node.specs.declared.log.Opening.{Opening}
use Rattle.node.specs.declared.log.NodeLog.{NodeLog}
use Rattle.node.proofs.Orders.{ids_total}
use Rattle.node.proofs.Alike.{first}
use Rattle.node.proofs.Submitting.{submitted_later, submitted_here}

module _ {A : Type 0} where
  -- what is awaited is what was submitted, and answers are those of the maildrops
  pub record Holds (o : Opening A) (before : List (Input A)) (n : NodeState A) : Type 0 where
    pub answers : AreAnswers mail_rules (first o) n.replica
    pub submitted : (id : CommandId) → is_some (awaited_for mail_rules id n.replica) ≡ true → (op : Op A) × IsSubmitted (record { opening = o; inputs = before }) id op

  holds_later : (o : Opening A) (before more : List (Input A)) (n : NodeState A) → Holds o before n → Holds o (before ++ more) n
  holds_later o before more n h =
      record {
        answers = h.answers;
        submitted = λ id some. let found = h.submitted id some in (found.0, submitted_later (record { opening = o; inputs = before }) more id found.0 found.1);
      }

  pub same_awaited : (x : Option (Outcome A)) (w : Option (Option (Outcome A))) → is_some (answered_with x w) ≡ is_some w
  same_awaited x None = refl
  same_awaited x (Some None) = refl
  same_awaited x (Some (Some a)) = refl

  hears_holds : (o : Opening A) (before : List (Input A)) (n : NodeState A) (from : ℕ) (m : Message (Command A) A) → Holds o before n → Holds o before (hears n from m).after
  hears_holds o before n from (Decision s c) h =
      let performs = decided_performs A mail_rules ids_total (first o) s c n.replica h.answers in
      record {
        answers = called_answers A mail_rules ids_total (first o) (Decides s c) n.replica h.answers;
        submitted = λ id some. h.submitted id (sym (same_awaited _ (awaited_for mail_rules id n.replica)) ∙ sym (ap is_some (performs.answers id)) ∙ some);
      }
  hears_holds o before n from (Propose s c) h = record { answers = h.answers; submitted = h.submitted }
  hears_holds o before n from (P1a b) h = record { answers = h.answers; submitted = h.submitted }
  hears_holds o before n from (P1b p) h = record { answers = h.answers; submitted = h.submitted }
  hears_holds o before n from (P2a p) h = record { answers = h.answers; submitted = h.submitted }
  hears_holds o before n from (P2b v) h = record { answers = h.answers; submitted = h.submitted }
  hears_holds o before n from (Ask s) h = h

  submits_holds : (o : Opening A) (before : List (Input A)) (n : NodeState A) (user : List ℕ) (op : Op A) → Holds o before n → Holds o (before ++ Submit user op ∷ []) (submits n (command_for o.me user op before)).after
  submits_holds o before n user op h =
      record {
        answers = called_answers A mail_rules ids_total (first o) (Requests c) n.replica h.answers;
        submitted = λ id some. go id (has_identity mail_rules (identity_of c) n.replica.performed) (is_eq (compare_ids (identity_of c) id)) refl (sym (ap is_some (requested_for A mail_rules ids_total c id n.replica)) ∙ some);
      }
    where
      c : Command A
      c = command_for o.me user op before

      Submitted : CommandId → Type 0
      Submitted id = (x : Op A) × IsSubmitted (record { opening = o; inputs = before ++ Submit user op ∷ [] }) id x

      go : (id : CommandId) (t u : Bool) → is_eq (compare_ids (identity_of c) id) ≡ u → is_some (cond t (awaited_for mail_rules id n.replica) (cond u (Some None) (awaited_for mail_rules id n.replica))) ≡ true → Submitted id
      go id true u q some = (holds_later o before (Submit user op ∷ []) n h).submitted id some
      go id false false q some = (holds_later o before (Submit user op ∷ []) n h).submitted id some
      go id false true q some =
          let same : identity_of c ≡ id = (id_decides (identity_of c) id).0 (sym (ids_eq (identity_of c) id) ∙ q) in
          subst Submitted same (op, record { before = before; after = []; inputs = refl; ticket = refl })

  acts_holds : (o : Opening A) (before : List (Input A)) (n : NodeState A) (i : Input A) → Holds o before n → Holds o (before ++ i ∷ []) (acts o.me before n i).after
  acts_holds o before n (Submit user op) h = submits_holds o before n user op h
  acts_holds o before n (Arrive e) h =
      holds_later o before (Arrive e ∷ []) _ (go (eqb e.to o.me))
    where
      go : (t : Bool) → Holds o before (cond t (hears n e.from e.message) (record { after = n; sends = [] })).after
      go true = hears_holds o before n e.from e.message h
      go false = h
  acts_holds o before n Tick h = holds_later o before (Tick ∷ []) n h
  acts_holds o before n Campaign h = holds_later o before (Campaign ∷ []) _ (record { answers = h.answers; submitted = h.submitted })
  acts_holds o before n Crash h = holds_later o before (Crash ∷ []) n h

  pub takes_holds : (o : Opening A) (before : List (Input A)) (n : NodeState A) (i : Input A) → Holds o before n → Holds o (before ++ i ∷ []) (takes o.me before n i).after
  takes_holds o before n i h =
      go (list_any is_crash before)
    where
      go : (t : Bool) → Holds o (before ++ i ∷ []) (cond t (record { after = n; sends = [] }) (acts o.me before n i)).after
      go true = holds_later o before (i ∷ []) n h
      go false = acts_holds o before n i h

  all_hold : (o : Opening A) (before : List (Input A)) (n : NodeState A) (is : List (Input A)) → Holds o before n → Holds o (before ++ is) (takes_all o.me before n is)
  all_hold o before n [] h = holds_later o before [] n h
  all_hold o before n (i ∷ is) h =
      subst (λ (xs : List (Input A)). Holds o xs (takes_all o.me (before ++ i ∷ []) (takes o.me before n i).after is)) (append_assoc before (i ∷ []) is)
      (all_hold o (before ++ i ∷ []) (takes o.me before n i).after is (takes_holds o before n i h))

  pub log_holds : (log : NodeLog A) → Holds log.opening log.inputs (replayed log)
  log_holds log =
      let o : Opening A = log.opening in
      all_hold o [] (new_node o) log.inputs (record { answers = answers_new A mail_rules ids_total o.me o.cluster o.window (first o); submitted = λ id some. absurd (cc some) })

  pub held_is : (w : Option (Option (Outcome A))) (a : Outcome A) → held w ≡ Some a → w ≡ Some (Some a)
  held_is None a e = absurd (cc e)
  held_is (Some None) a e = absurd (cc e)
  held_is (Some (Some b)) a e = let same : b ≡ a = cc e in ap (λ x. Some (Some x)) same

  -- an answer is that of an operation that was submitted
  pub answered_submitted : (log : NodeLog A) (id : CommandId) (a : Outcome A) → answered log id ≡ Some a → (op : Op A) × IsSubmitted log id op
  answered_submitted log id a e = (log_holds log).submitted id (ap is_some (held_is _ a e))

  pub answered_here : (log : NodeLog A) (id : CommandId) (a : Outcome A) → answered log id ≡ Some a → id.ticket.node ≡ log.opening.me
  answered_here log id a e = let submit = answered_submitted log id a e in submitted_here log id submit.0 submit.1

  -- answers stay
  abbrev Keeps : CommandId → Outcome A → NodeState A → NodeState A → Type 0
  Keeps id a n m = answer_of id n.replica.awaited ≡ Some a → answer_of id m.replica.awaited ≡ Some a

  hears_keeps : (o : Opening A) (before : List (Input A)) (n : NodeState A) (from : ℕ) (m : Message (Command A) A) (id : CommandId) (a : Outcome A) → Holds o before n → Keeps id a n (hears n from m).after
  hears_keeps o before n from (Decision s c) id a h e =
      let performs = decided_performs A mail_rules ids_total (first o) s c n.replica h.answers in
      ap held (performs.answers id ∙ ap (answered_with _) (held_is (awaited_for mail_rules id n.replica) a e))
  hears_keeps o before n from (Propose s c) id a h e = e
  hears_keeps o before n from (P1a b) id a h e = e
  hears_keeps o before n from (P1b p) id a h e = e
  hears_keeps o before n from (P2a p) id a h e = e
  hears_keeps o before n from (P2b v) id a h e = e
  hears_keeps o before n from (Ask s) id a h e = e

  acts_keeps : (o : Opening A) (before : List (Input A)) (n : NodeState A) (i : Input A) (id : CommandId) (a : Outcome A) → Holds o before n → Keeps id a n (acts o.me before n i).after
  acts_keeps o before n (Submit user op) id a h e = requests_add_none A mail_rules ids_total (first o) (command_for o.me user op before) n.replica h.answers id ∙ e
  acts_keeps o before n (Arrive x) id a h e =
      go (eqb x.to o.me)
    where
      go : (t : Bool) → answer_of id (cond t (hears n x.from x.message) (record { after = n; sends = [] })).after.replica.awaited ≡ Some a
      go true = hears_keeps o before n x.from x.message id a h e
      go false = e
  acts_keeps o before n Tick id a h e = e
  acts_keeps o before n Campaign id a h e = e
  acts_keeps o before n Crash id a h e = e

  takes_keeps : (o : Opening A) (before : List (Input A)) (n : NodeState A) (i : Input A) (id : CommandId) (a : Outcome A) → Holds o before n → Keeps id a n (takes o.me before n i).after
  takes_keeps o before n i id a h e =
      go (list_any is_crash before)
    where
      go : (t : Bool) → answer_of id (cond t (record { after = n; sends = [] }) (acts o.me before n i)).after.replica.awaited ≡ Some a
      go true = e
      go false = acts_keeps o before n i id a h e

  all_keep : (o : Opening A) (before : List (Input A)) (n : NodeState A) (is : List (Input A)) (id : CommandId) (a : Outcome A) → Holds o before n → Keeps id a n (takes_all o.me before n is)
  all_keep o before n [] id a h e = e
  all_keep o before n (i ∷ is) id a h e = all_keep o (before ++ i ∷ []) (takes o.me before n i).after is id a (takes_holds o before n i h) (takes_keeps o before n i id a h e)

  pub takes_all-append : (me : ℕ) (before : List (Input A)) (n : NodeState A) (is more : List (Input A)) → takes_all me before n (is ++ more) ≡ takes_all me (before ++ is) (takes_all me before n is) more
  takes_all-append me before n [] more = ap (λ (xs : List (Input A)). takes_all me xs n more) (sym (append-nil before))
  takes_all-append me before n (i ∷ is) more =
      takes_all-append me (before ++ i ∷ []) (takes me before n i).after is more
      ∙ ap (λ (xs : List (Input A)). takes_all me xs (takes_all me (before ++ i ∷ []) (takes me before n i).after is) more) (append_assoc before (i ∷ []) is)

  pub replayed_more : (log : NodeLog A) (more : List (Input A)) → replayed (lengthened log more) ≡ takes_all log.opening.me log.inputs (replayed log) more
  replayed_more log more = takes_all-append log.opening.me [] (new_node log.opening) log.inputs more

  pub answered_stays : (log : NodeLog A) (more : List (Input A)) (id : CommandId) (a : Outcome A) → answered log id ≡ Some a → answered (lengthened log more) id ≡ Some a
  answered_stays log more id a e =
      ap (λ (n : NodeState A). answer_of id n.replica.awaited) (replayed_more log more) ∙ all_keep log.opening log.inputs (replayed log) more id a (log_holds log) e
