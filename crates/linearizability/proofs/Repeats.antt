-- What is performed once stands once, and where a command stands in an order.
use Rattle.std.proofs.Common.{◌≡◌, ℕ, List, [], ◌∷◌, ◌++◌, Bool, true, false, refl, sym, ap, ◌∙◌, subst, inl, inr, ⊎_elim, cond}
use Rattle.std.specs.Prelude.{◌||◌}
use Rattle.std.specs.Ordering.{is_eq}
use Rattle.std.proofs.lemmas.Bool.{true≢false}
use Rattle.std.proofs.lemmas.Cmp.{tied_itself}
use Rattle.std.proofs.lemmas.List.Folds.{list_any-append}
use Rattle.ballot.specs.Lists.{IsIn}
use Rattle.maildrop.specs.CommandId.{CommandId, compare_ids}
use Rattle.maildrop.specs.Same.{identity_of}
use Rattle.maildrop.specs.declared.command.Command.{Command}
use Rattle.replica.specs.Replicas.{has_identity, once}
use Rattle.node.specs.Replay.{mail_rules}
use Rattle.node.proofs.Orders.{ids_total}
use Rattle.linearizability.specs.Linearized.{StandsIn, StandOnce}

neither : (a b : Bool) → (a || (b || false)) ≡ false → (a ≡ false) × (b ≡ false)
neither true b e = absurd (true≢false e)
neither false true e = absurd (true≢false e)
neither false false e = (refl, refl)

module _ {A : Type 0} where
  -- if none has the identity, none before the last has it, nor has the last
  none_of : (id : CommandId) (before : List (ℕ × Command A)) (p : ℕ × Command A) →
      has_identity mail_rules id (before ++ p ∷ []) ≡ false →
      (has_identity mail_rules id before ≡ false) × (is_eq (compare_ids (identity_of p.1) id) ≡ false)
  none_of id before p e =
      neither (has_identity mail_rules id before) (is_eq (compare_ids (identity_of p.1) id))
      (sym (list_any-append (λ (q : ℕ × Command A). is_eq (compare_ids (identity_of q.1) id)) before (p ∷ [])) ∙ e)

  -- what is kept didn't come before
  kept_new : (before ps : List (ℕ × Command A)) (id : CommandId) →
      StandsIn id (once mail_rules before ps) → has_identity mail_rules id before ≡ false
  kept_new before [] id h = absurd h
  kept_new before (p ∷ ps) id h =
      go (has_identity mail_rules (identity_of p.1) before) refl (kept_new before ps id) (kept_new (before ++ p ∷ []) ps id) h
    where
      go : (t : Bool) → has_identity mail_rules (identity_of p.1) before ≡ t →
          (StandsIn id (once mail_rules before ps) → has_identity mail_rules id before ≡ false) →
          (StandsIn id (once mail_rules (before ++ p ∷ []) ps) → has_identity mail_rules id (before ++ p ∷ []) ≡ false) →
          StandsIn id (cond t (once mail_rules before ps) (p ∷ once mail_rules (before ++ p ∷ []) ps)) →
          has_identity mail_rules id before ≡ false
      go true e a b k = a k
      go false e a b k =
          ⊎_elim
          (λ (q : identity_of p.1 ≡ id). subst (λ i. has_identity mail_rules i before ≡ false) q e)
          (λ later. (none_of id before p (b later)).0)
          k

  pub each_once : (before ps : List (ℕ × Command A)) → StandOnce (once mail_rules before ps)
  each_once before [] = tt
  each_once before (p ∷ ps) =
      go (has_identity mail_rules (identity_of p.1) before) (each_once before ps) (each_once (before ++ p ∷ []) ps)
    where
      again : StandsIn (identity_of p.1) (once mail_rules (before ++ p ∷ []) ps) → ⊥
      again h =
          let id = identity_of p.1 in
          true≢false (sym (ap is_eq (tied_itself ids_total id)) ∙ (none_of id before p (kept_new (before ++ p ∷ []) ps id h)).1)

      go : (t : Bool) → StandOnce (once mail_rules before ps) → StandOnce (once mail_rules (before ++ p ∷ []) ps) →
          StandOnce (cond t (once mail_rules before ps) (p ∷ once mail_rules (before ++ p ∷ []) ps))
      go true a b = a
      go false a b = (again, b)

  pub stands_between : (before after : List (ℕ × Command A)) (p : ℕ × Command A) (id : CommandId) →
      identity_of p.1 ≡ id → StandsIn id (before ++ p ∷ after)
  stands_between [] after p id e = inl e
  stands_between (q ∷ before) after p id e = inr (stands_between before after p id e)

  -- an identity that stands in an order is that of a command there
  pub stands_as : (order : List (ℕ × Command A)) (id : CommandId) → StandsIn id order →
      (slot : ℕ) × (c : Command A) × IsIn (slot, c) order × (identity_of c ≡ id)
  stands_as [] id h = absurd h
  stands_as (p ∷ order) id h =
      ⊎_elim
      (λ (e : identity_of p.1 ≡ id). (p.0, p.1, inl refl, e))
      (λ later. let x = stands_as order id later in (x.0, x.1, inr x.2, x.3))
      h
