-- Each answer of a log is the outcome that its user's maildrop alone gives.
use Rattle.std.proofs.Common.{◌≡◌, ℕ, List, [], ◌∷◌, ◌++◌, Bool, true, false, cond, Some, refl, sym, ap, ◌∙◌, subst, append_assoc}
use Rattle.std.specs.Ordering.{is_eq}
use Rattle.std.specs.Str.{bytes_eq}
use Rattle.std.proofs.lemmas.List.Folds.{list_any-append}
use Rattle.std.proofs.lemmas.Slice.Eq.{bytes_eq-Decides}
use Rattle.replica.specs.Replicas.{has_identity}
use Rattle.replica.specs.Calls.{after_all, answer_among, awaited_for}
use Rattle.maildrop.specs.CommandId.{CommandId, compare_ids}
use Rattle.maildrop.specs.Same.{identity_of}
use Rattle.maildrop.specs.Equality.{id_decides}
use Rattle.maildrop.specs.Office.{User, maildrop_of, maildrop_after, maildrop_after_all, outcome_at, outcome_in, users_after}
use Rattle.maildrop.specs.declared.command.Command.{Command}
use Rattle.maildrop.specs.declared.outcome.Outcome.{Outcome}
use Rattle.maildrop.proofs.IdOrder.{ids_eq}
use Rattle.maildrop.proofs.Isolation.{maildrop_of-own, maildrop_of-other}
use Rattle.node.specs.Replay.{mail_rules, replayed}
use Rattle.node.specs.Nodes.{answered}
use Rattle.node.specs.Outcomes.{first_maildrop, own_of, IsOutcomeOf}
use Rattle.node.specs.declared.log.NodeLog.{NodeLog}
use Rattle.node.specs.declared.log.Opening.{Opening}
use Rattle.node.proofs.Alike.{first}
use Rattle.node.proofs.Answering.{log_holds, held_is}

module _ {A : Type 0} where
  -- the maildrop of a user in the table, after commands of all users
  pub own_maildrop : (name : List ℕ) (users : List (User A)) (ps : List (ℕ × Command A)) → maildrop_of name (after_all mail_rules users ps) ≡ maildrop_after_all (maildrop_of name users) (own_of name ps)
  own_maildrop name users [] = refl
  own_maildrop name users (p ∷ ps) =
      go (bytes_eq p.1.user name) refl (own_maildrop name (users_after users p.1) ps)
    where
      go : (t : Bool) → bytes_eq p.1.user name ≡ t → maildrop_of name (after_all mail_rules (users_after users p.1) ps) ≡ maildrop_after_all (maildrop_of name (users_after users p.1)) (own_of name ps) →
          maildrop_of name (after_all mail_rules (users_after users p.1) ps) ≡ maildrop_after_all (maildrop_of name users) (cond t (p.1 ∷ own_of name ps) (own_of name ps))
      go true e h =
          let same : p.1.user ≡ name = (bytes_eq-Decides p.1.user name).0 e in
          h ∙ ap (λ m. maildrop_after_all m (own_of name ps))
          (subst (λ u. maildrop_of u (users_after users p.1) ≡ maildrop_after (maildrop_of u users) p.1) same (maildrop_of-own users p.1))
      go false e h = h ∙ ap (λ m. maildrop_after_all m (own_of name ps)) (maildrop_of-other name users p.1 e)

  -- and what a log leaves of it
  pub left_maildrop : (log : NodeLog A) (name : List ℕ) → maildrop_of name (replayed log).replica.machine ≡ maildrop_after_all (first_maildrop log.opening name) (own_of name (replayed log).replica.performed)
  left_maildrop log name = ap (maildrop_of name) (log_holds log).answers.machine ∙ own_maildrop name (first log.opening) (replayed log).replica.performed

  -- what is among the answers to commands, one after another
  among : (o : Opening A) (id : CommandId) (before ps : List (ℕ × Command A)) (a : Outcome A) → has_identity mail_rules id before ≡ false →
      answer_among mail_rules id (after_all mail_rules (first o) before) ps ≡ Some a → IsOutcomeOf o (before ++ ps) id a
  among o id before [] a none e = absurd (cc e)
  among o id before (p ∷ ps) a none e =
      go (is_eq (compare_ids (identity_of p.1) id)) refl
      (λ n f. subst (λ xs. IsOutcomeOf o xs id a) (append_assoc before (p ∷ []) ps) (among o id (before ++ p ∷ []) ps a n f))
      e
    where
      go : (t : Bool) → is_eq (compare_ids (identity_of p.1) id) ≡ t →
          (has_identity mail_rules id (before ++ p ∷ []) ≡ false → answer_among mail_rules id (after_all mail_rules (first o) (before ++ p ∷ [])) ps ≡ Some a → IsOutcomeOf o (before ++ p ∷ ps) id a) →
          cond t (Some (outcome_in (after_all mail_rules (first o) before) p.1)) (answer_among mail_rules id (users_after (after_all mail_rules (first o) before) p.1) ps) ≡ Some a →
          IsOutcomeOf o (before ++ p ∷ ps) id a
      go true q ih f =
          let its : identity_of p.1 ≡ id = (id_decides (identity_of p.1) id).0 (sym (ids_eq (identity_of p.1) id) ∙ q) in
          let is : outcome_in (after_all mail_rules (first o) before) p.1 ≡ a = cc f in
          record {
            before = before;
            after = ps;
            slot = p.0;
            command = p.1;
            order = refl;
            its = its;
            none_before = none;
            outcome = sym is ∙ ap (λ m. outcome_at m p.1) (own_maildrop p.1.user (first o) before);
          }
      go false q ih f =
          ih (list_any-append (λ (x : ℕ × Command A). is_eq (compare_ids (identity_of x.1) id)) before (p ∷ []) ∙ rw (none, q) refl)
          (subst (λ (us : List (User A)). answer_among mail_rules id us ps ≡ Some a) (sym (after_push before (first o))) f)
        where
          after_push : (xs : List (ℕ × Command A)) (us : List (User A)) → after_all mail_rules us (xs ++ p ∷ []) ≡ users_after (after_all mail_rules us xs) p.1
          after_push [] us = refl
          after_push (x ∷ xs) us = after_push xs (users_after us x.1)

  pub answered_outcome : (log : NodeLog A) (id : CommandId) (a : Outcome A) → answered log id ≡ Some a → IsOutcomeOf log.opening (replayed log).replica.performed id a
  answered_outcome log id a e =
      among log.opening id [] (replayed log).replica.performed a refl ((log_holds log).answers.answered id a (held_is (awaited_for mail_rules id (replayed log).replica) a e))
