-- The answer that a node has got is what the user's own commands bring under the ticket of its command.
use Rattle.std.proofs.Common.{◌≡◌, ℕ, List, [], ◌∷◌, ◌++◌, Bool, true, false, Option, Some, refl, sym, ap, ◌∙◌, subst, cond}
use Rattle.std.specs.Prelude.{◌&&◌, ◌||◌}
use Rattle.std.specs.Ordering.{is_eq}
use Rattle.std.specs.Str.{bytes_eq}
use Rattle.std.proofs.lemmas.Slice.Eq.{bytes_eq-Decides}
use Rattle.replica.specs.Replicas.{has_identity}
use Rattle.maildrop.specs.CommandId.{CommandId, compare_ids}
use Rattle.maildrop.specs.Equality.{ticket_decides}
use Rattle.maildrop.specs.Maildrop.{Maildrop}
use Rattle.maildrop.specs.Office.{maildrop_after, maildrop_after_all, outcome_at}
use Rattle.maildrop.specs.Same.{identity_of}
use Rattle.maildrop.specs.Ticket.{Ticket, same_ticket}
use Rattle.maildrop.specs.declared.command.Command.{Command}
use Rattle.maildrop.specs.declared.outcome.Outcome.{Outcome}
use Rattle.maildrop.proofs.IdOrder.{ids_eq}
use Rattle.node.specs.Replay.{mail_rules}
use Rattle.node.specs.declared.log.Opening.{Opening}
use Rattle.session.specs.Alone.{outcome_of}
use Rattle.session.specs.Prefix.{IsPrefix}
use Rattle.session.proofs.Longer.{outcome-stays}
use Rattle.node.specs.Outcomes.{IsOutcomeOf, first_maildrop, own_of}

module _ {A : Type 0} where
  pub own_append : (user : List ℕ) (xs ys : List (ℕ × Command A)) → own_of user (xs ++ ys) ≡ own_of user xs ++ own_of user ys
  own_append user [] ys = refl
  own_append user (x ∷ xs) ys =
      go (bytes_eq x.1.user user) (own_append user xs ys)
    where
      go : (t : Bool) → own_of user (xs ++ ys) ≡ own_of user xs ++ own_of user ys →
          cond t (x.1 ∷ own_of user (xs ++ ys)) (own_of user (xs ++ ys)) ≡ cond t (x.1 ∷ own_of user xs) (own_of user xs) ++ own_of user ys
      go true e = ap (λ cs. x.1 ∷ cs) e
      go false e = e

  -- of the commands before, none has the ticket
  found : (id : CommandId) (maildrop : Option (Maildrop A)) (before after : List (ℕ × Command A)) (slot : ℕ) (c : Command A) →
      identity_of c ≡ id → has_identity mail_rules id before ≡ false →
      outcome_of maildrop id.ticket (own_of id.user (before ++ (slot, c) ∷ after)) ≡ Some (outcome_at (maildrop_after_all maildrop (own_of id.user before)) c)
  found id maildrop [] after slot c its none =
      let user : bytes_eq c.user id.user ≡ true = (bytes_eq-Decides c.user id.user).1 (ap (λ x. x.user) its) in
      let ticket : same_ticket c.ticket id.ticket ≡ true = (ticket_decides c.ticket id.ticket).1 (ap (λ x. x.ticket) its) in
      rw user (rw ticket refl)
  found id maildrop (p ∷ before) after slot c its none =
      go (bytes_eq p.1.user id.user) (same_ticket p.1.ticket id.ticket) (is_eq (compare_ids (identity_of p.1) id)) refl (ids_eq (identity_of p.1) id) none
      (λ n. found id (maildrop_after maildrop p.1) before after slot c its n) (λ n. found id maildrop before after slot c its n)
    where
      go : (t s e : Bool) → same_ticket p.1.ticket id.ticket ≡ s → e ≡ (t && s) → (e || has_identity mail_rules id before) ≡ false →
          (has_identity mail_rules id before ≡ false →
          outcome_of (maildrop_after maildrop p.1) id.ticket (own_of id.user (before ++ (slot, c) ∷ after)) ≡ Some (outcome_at (maildrop_after_all (maildrop_after maildrop p.1) (own_of id.user before)) c)) →
          (has_identity mail_rules id before ≡ false →
          outcome_of maildrop id.ticket (own_of id.user (before ++ (slot, c) ∷ after)) ≡ Some (outcome_at (maildrop_after_all maildrop (own_of id.user before)) c)) →
          outcome_of maildrop id.ticket (cond t (p.1 ∷ own_of id.user (before ++ (slot, c) ∷ after)) (own_of id.user (before ++ (slot, c) ∷ after)))
          ≡ Some (outcome_at (maildrop_after_all maildrop (cond t (p.1 ∷ own_of id.user before) (own_of id.user before))) c)
      go false s true f q n own other = absurd (cc)
      go false s false f q n own other = other n
      go true true true f q n own other = absurd (cc)
      go true true false f q n own other = absurd (cc)
      go true false true f q n own other = absurd (cc)
      go true false false f q n own other = rw f (own n)

  pub own_outcome : (first : Opening A) (order : List (ℕ × Command A)) (id : CommandId) (o : Outcome A) → IsOutcomeOf first order id o →
      outcome_of (first_maildrop first id.user) id.ticket (own_of id.user order) ≡ Some o
  own_outcome first order id o h =
      let user : h.command.user ≡ id.user = ap (λ x. x.user) h.its in
      let is : outcome_of (first_maildrop first id.user) id.ticket (own_of id.user (h.before ++ (h.slot, h.command) ∷ h.after))
      ≡ Some (outcome_at (maildrop_after_all (first_maildrop first id.user) (own_of id.user h.before)) h.command) =
      found id (first_maildrop first id.user) h.before h.after h.slot h.command h.its h.none_before in
      ap (λ xs. outcome_of (first_maildrop first id.user) id.ticket (own_of id.user xs)) h.order ∙ is
      ∙ sym (ap Some (h.outcome ∙ ap (λ u. outcome_at (maildrop_after_all (first_maildrop first u) (own_of u h.before)) h.command) user))

  -- and what is decided after changes nothing
  pub outcome_later : (first : Opening A) (user : List ℕ) (ticket : Ticket) (o : Outcome A) (order later : List (ℕ × Command A)) → IsPrefix order later →
      outcome_of (first_maildrop first user) ticket (own_of user order) ≡ Some o → outcome_of (first_maildrop first user) ticket (own_of user later) ≡ Some o
  outcome_later first user ticket o order later front e =
      subst (λ cs. outcome_of (first_maildrop first user) ticket cs ≡ Some o) (sym (own_append user order front.0) ∙ ap (own_of user) front.1)
      (outcome-stays (first_maildrop first user) ticket (own_of user order) (own_of user front.0) o e)
