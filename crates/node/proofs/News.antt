-- What a longer log brings: more commands that its node has performed, and answers to these alone, which weren't performed before.
use Rattle.std.proofs.Common.{◌≡◌, ℕ, List, [], ◌∷◌, ◌++◌, Bool, true, false, cond, eqb, Option, Some, None, refl, sym, ap, ◌∙◌, subst, inl, inr, ⊎_elim, append_assoc}
use Rattle.std.specs.Prelude.{◌⊎◌, ◌||◌, is_some}
use Rattle.std.specs.List.{list_any}
use Rattle.std.proofs.lemmas.List.{append-nil}
use Rattle.std.proofs.lemmas.List.Folds.{list_any-append}
use Rattle.std.proofs.lemmas.Bool.{true≢false}
use Rattle.std.specs.Ordering.{is_eq}
use Rattle.ballot.specs.declared.message.Message.{Message}
use Rattle.ballot.specs.declared.message.Message.TheVariants.{Propose, P1a, P1b, P2a, P2b, Decision, Ask}
use Rattle.maildrop.specs.CommandId.{CommandId, compare_ids}
use Rattle.maildrop.specs.Same.{identity_of}
use Rattle.maildrop.specs.declared.command.Command.{Command}
use Rattle.maildrop.specs.declared.outcome.Outcome.{Outcome}
use Rattle.replica.specs.Replicas.{has_identity}
use Rattle.replica.proofs.Parts.{held}
use Rattle.replica.specs.Calls.{answered_with, awaited_for, answer_among}
use Rattle.replica.proofs.Answered.{has_answer}
use Rattle.replica.specs.Replicas as replica
use Rattle.replica.specs.Parts.{with_request}
use Rattle.replica.proofs.History.{decided_performs, proposes_alike, requests_add_none}
use Rattle.node.specs.Nodes.{lengthened, answer_of, answered}
use Rattle.node.specs.Replay.{NodeState, mail_rules, hears, acts, is_crash, takes, takes_all, replayed, command_for}
use Rattle.ballot.specs.Sends.{stays}
use Rattle.node.specs.declared.input.Input.{Input}
use Rattle.node.specs.declared.input.Input.TheVariants.{Submit, Arrive, Tick, Campaign, Crash}
use Rattle.node.specs.declared.log.Opening.{Opening}
use Rattle.node.specs.declared.log.NodeLog.{NodeLog}
use Rattle.node.proofs.Orders.{ids_total}
use Rattle.node.proofs.Alike.{first}
use Rattle.node.proofs.Answering.{Holds, takes_holds, log_holds, replayed_more}

module _ {A : Type 0} where
  -- the node has performed more, and has got answers to these commands alone; none of those that got one was performed before
  pub record Brings (n later : NodeState A) : Type 0 where
    pub more : List (ℕ × Command A)
    pub performed : later.replica.performed ≡ n.replica.performed ++ more
    pub answers : (id : CommandId) → is_some (answer_of id later.replica.awaited) ≡ true → (is_some (answer_of id n.replica.awaited) ≡ true) ⊎ (has_identity mail_rules id more ≡ true)
    pub new : (id : CommandId) → answer_of id n.replica.awaited ≡ None → is_some (answer_of id later.replica.awaited) ≡ true → has_identity mail_rules id n.replica.performed ≡ false

  -- if the answers stayed none has come
  none_came : {X : Type 0} (before after : Option (Outcome A)) → after ≡ before → before ≡ None → is_some after ≡ true → X
  none_came before after same none some = absurd (true≢false (sym some ∙ ap is_some (same ∙ none)))

  brings_nothing : (n later : NodeState A) → later.replica ≡ n.replica → Brings n later
  brings_nothing n later same =
      record {
        more = [];
        performed = ap (λ r. r.performed) same ∙ sym (append-nil n.replica.performed);
        answers = λ id some. inl (sym (ap (λ r. is_some (answer_of id r.awaited)) same) ∙ some);
        new = λ id none some. none_came (answer_of id n.replica.awaited) (answer_of id later.replica.awaited) (ap (λ r. answer_of id r.awaited) same) none some;
      }

  brings_both : (a b c : NodeState A) → Brings a b → Brings b c → Brings a c
  brings_both a b c p q =
      record {
        more = p.more ++ q.more;
        performed = q.performed ∙ (ap (λ ps. ps ++ q.more) p.performed ∙ append_assoc a.replica.performed p.more q.more);
        answers = λ id some.
            ⊎_elim
            (λ (x : is_some (answer_of id b.replica.awaited) ≡ true).
            ⊎_elim
            (λ (y : is_some (answer_of id a.replica.awaited) ≡ true). inl y)
            (λ (y : has_identity mail_rules id p.more ≡ true). inr (list_any-append (λ (e : ℕ × Command A). is_eq (compare_ids (identity_of e.1) id)) p.more q.more ∙ ap (λ t. t || has_identity mail_rules id q.more) y))
            (p.answers id x))
            (λ (x : has_identity mail_rules id q.more ≡ true).
            inr (list_any-append (λ (e : ℕ × Command A). is_eq (compare_ids (identity_of e.1) id)) p.more q.more ∙ either_true (has_identity mail_rules id p.more) (has_identity mail_rules id q.more) x))
            (q.answers id some);
        new = λ id none some. was_new id none some (answer_of id b.replica.awaited) refl;
      }
    where
      either_true : (t u : Bool) → u ≡ true → (t || u) ≡ true
      either_true true u e = refl
      either_true false u e = e

      neither_true : (t u : Bool) → (t || u) ≡ false → t ≡ false
      neither_true true u e = e
      neither_true false u e = refl

      was_new : (id : CommandId) → answer_of id a.replica.awaited ≡ None → is_some (answer_of id c.replica.awaited) ≡ true
          → (w : Option (Outcome A)) → answer_of id b.replica.awaited ≡ w → has_identity mail_rules id a.replica.performed ≡ false
      was_new id none some (Some x) e = p.new id none (ap is_some e)
      was_new id none some None e =
          neither_true (has_identity mail_rules id a.replica.performed) (has_identity mail_rules id p.more)
          (sym (list_any-append (λ (x : ℕ × Command A). is_eq (compare_ids (identity_of x.1) id)) a.replica.performed p.more)
          ∙ (sym (ap (has_identity mail_rules id) p.performed) ∙ q.new id e some))

  decision_brings : (o : Opening A) (before : List (Input A)) (n : NodeState A) (from s : ℕ) (c : Command A) → Holds o before n → Brings n (hears n from (Decision s c)).after
  decision_brings o before n from s c h =
      let performs = decided_performs A mail_rules ids_total (first o) s c n.replica h.answers in
      record {
        more = performs.more;
        performed = performs.performed;
        answers = λ id some.
            go id performs.more (awaited_for mail_rules id n.replica) (answer_among mail_rules id n.replica.machine performs.more) refl
            (sym (ap (λ w. is_some (held w)) (performs.answers id)) ∙ some);
        new = λ id none some.
            was_new id (awaited_for mail_rules id n.replica) (answer_among mail_rules id n.replica.machine performs.more) refl none
            (sym (ap (λ w. is_some (held w)) (performs.answers id)) ∙ some);
      }
    where
      go : (id : CommandId) (more : List (ℕ × Command A)) (w : Option (Option (Outcome A))) (a : Option (Outcome A)) → answer_among mail_rules id n.replica.machine more ≡ a
          → is_some (held (answered_with a w)) ≡ true → (is_some (held w) ≡ true) ⊎ (has_identity mail_rules id more ≡ true)
      go id more None a e some = absurd (cc some)
      go id more (Some (Some x)) a e some = inl refl
      go id more (Some None) None e some = absurd (cc some)
      go id more (Some None) (Some x) e some = inr (has_answer mail_rules id n.replica.machine more x e)

      -- only what is awaited without an answer gets one, and that isn't performed
      was_new : (id : CommandId) (w : Option (Option (Outcome A))) (a : Option (Outcome A)) → awaited_for mail_rules id n.replica ≡ w
          → held w ≡ None → is_some (held (answered_with a w)) ≡ true → has_identity mail_rules id n.replica.performed ≡ false
      was_new id None a e none some = absurd (cc some)
      was_new id (Some None) a e none some = h.answers.waiting id e
      was_new id (Some (Some x)) a e none some = absurd (cc none)

  hears_brings : (o : Opening A) (before : List (Input A)) (n : NodeState A) (from : ℕ) (m : Message (Command A) A) → Holds o before n → Brings n (hears n from m).after
  hears_brings o before n from (Decision s c) h = decision_brings o before n from s c h
  hears_brings o before n from (Propose s c) h = brings_nothing n _ refl
  hears_brings o before n from (P1a b) h = brings_nothing n _ refl
  hears_brings o before n from (P1b p) h = brings_nothing n _ refl
  hears_brings o before n from (P2a p) h = brings_nothing n _ refl
  hears_brings o before n from (P2b v) h = brings_nothing n _ refl
  hears_brings o before n from (Ask s) h = brings_nothing n n refl

  acts_brings : (o : Opening A) (before : List (Input A)) (n : NodeState A) (i : Input A) → Holds o before n → Brings n (acts o.me before n i).after
  acts_brings o before n (Submit user op) h =
      let c : Command A = command_for o.me user op before in
      record {
        more = [];
        performed = (proposes_alike A mail_rules (with_request c (replica.awaiting mail_rules c n.replica))).performed ∙ sym (append-nil n.replica.performed);
        answers = λ id some. inl (sym (ap is_some (requests_add_none A mail_rules ids_total (first o) c n.replica h.answers id)) ∙ some);
        new = λ id none some. none_came _ _ (requests_add_none A mail_rules ids_total (first o) c n.replica h.answers id) none some;
      }
  acts_brings o before n (Arrive x) h =
      go (eqb x.to o.me)
    where
      go : (t : Bool) → Brings n (cond t (hears n x.from x.message) (stays n)).after
      go true = hears_brings o before n x.from x.message h
      go false = brings_nothing n n refl
  acts_brings o before n Tick h = brings_nothing n n refl
  acts_brings o before n Campaign h = brings_nothing n _ refl
  acts_brings o before n Crash h = brings_nothing n n refl

  takes_brings : (o : Opening A) (before : List (Input A)) (n : NodeState A) (i : Input A) → Holds o before n → Brings n (takes o.me before n i).after
  takes_brings o before n i h =
      go (list_any is_crash before)
    where
      go : (t : Bool) → Brings n (cond t (stays n) (acts o.me before n i)).after
      go true = brings_nothing n n refl
      go false = acts_brings o before n i h

  all_bring : (o : Opening A) (before : List (Input A)) (n : NodeState A) (is : List (Input A)) → Holds o before n → Brings n (takes_all o.me before n is)
  all_bring o before n [] h = brings_nothing n n refl
  all_bring o before n (i ∷ is) h =
      let next : NodeState A = (takes o.me before n i).after in
      brings_both n next (takes_all o.me (before ++ i ∷ []) next is) (takes_brings o before n i h) (all_bring o (before ++ i ∷ []) next is (takes_holds o before n i h))

  pub longer_brings : (log : NodeLog A) (more : List (Input A)) → Brings (replayed log) (replayed (lengthened log more))
  longer_brings log more = subst (Brings (replayed log)) (sym (replayed_more log more)) (all_bring log.opening log.inputs (replayed log) more (log_holds log))

  -- what is answered is performed
  pub answered_performed : (log : NodeLog A) (id : CommandId) → is_some (answered log id) ≡ true → has_identity mail_rules id (replayed log).replica.performed ≡ true
  answered_performed log id some =
      go (awaited_for mail_rules id (replayed log).replica) refl some
    where
      go : (w : Option (Option (Outcome A))) → awaited_for mail_rules id (replayed log).replica ≡ w → is_some (held w) ≡ true → has_identity mail_rules id (replayed log).replica.performed ≡ true
      go None e some = absurd (cc some)
      go (Some None) e some = absurd (cc some)
      go (Some (Some a)) e some = has_answer mail_rules id (first log.opening) (replayed log).replica.performed a ((log_holds log).answers.answered id a e)

  -- what gets an answer wasn't performed
  pub answered_new : (log : NodeLog A) (more : List (Input A)) (id : CommandId) → answered log id ≡ None → is_some (answered (lengthened log more) id) ≡ true → has_identity mail_rules id (replayed log).replica.performed ≡ false
  answered_new log more id none some = (longer_brings log more).new id none some
