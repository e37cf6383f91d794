-- Where a script's next entry stands in a session that keeps step.
use Rattle.std.proofs.Common.{◌≡◌, ℕ, List, [], ◌∷◌, ◌++◌, Option, None, refl, sym, ap, ◌∙◌, subst, inl, inr}
use Rattle.audit.specs.Case.{Turn, Plain, Asks, EndsIfHangup, Case, key_in}
use Rattle.ballot.specs.Lists.{IsIn}
use Rattle.audit.specs.Right.{IsRight, HasNoLine, AreRight}
use Rattle.audit.proofs.Basics.{in_left}
use Rattle.audit.proofs.Earlier.{keys_both}
use Rattle.audit.proofs.Walk.{StartsAsking}

module _ {S I E K O L : Type 0} (a : Case S I E K O L) where
  abbrev pub HasNoKey : List (Turn I K O L) → Type 0
  HasNoKey [] = Unit {0}
  HasNoKey (Plain l ∷ ts) = HasNoKey ts
  HasNoKey (Asks l x k o ∷ ts) = ⊥

  pub no_key : (ts : List (Turn I K O L)) → ((k : K) → IsIn k (key_in a ts) → ⊥) → HasNoKey ts
  no_key [] h = tt
  no_key (Plain l ∷ ts) h = no_key ts h
  no_key (Asks l x k o ∷ ts) h = h k (inl refl)

  pub nothing_left : (ts : List (Turn I K O L)) → HasNoKey ts → StartsAsking a ts → ts ≡ []
  nothing_left [] h s = refl
  nothing_left (Plain l ∷ ts) h s = absurd s
  nothing_left (Asks l x k o ∷ ts) h s = absurd h

  pub nothing_said : (ts : List (Turn I K O L)) → HasNoKey ts → HasNoLine a ts → ts ≡ []
  nothing_said [] h s = refl
  nothing_said (Plain l ∷ ts) h s = absurd s
  nothing_said (Asks l x k o ∷ ts) h s = absurd h

  pub record Aligned (k : K) (t : Turn I K O L) (done left before after : List (Turn I K O L)) : Type 0 where
    pub between : List (Turn I K O L)
    pub no_keys : HasNoKey between
    pub before_is : before ≡ done ++ between
    pub left_is : left ≡ between ++ t ∷ after

  key_tail : (k : K) (t : Turn I K O L) (ts : List (Turn I K O L)) → IsIn k (key_in a ts) → IsIn k (key_in a (t ∷ ts))
  key_tail k (Plain l) ts h = h
  key_tail k (Asks l x k' o) ts h = inr h

  pub aligned : (P : K → Type 0) (l : Option L) (x : I) (k : K) (o : Option O) (done left before after : List (Turn I K O L)) → done ++ left ≡ before ++ Asks l x k o ∷ after → ((k' : K) → IsIn k' (key_in a done) → P k') → ((k' : K) → IsIn k' (key_in a left) → P k' → ⊥) → ((k' : K) → IsIn k' (key_in a before) → P k') → (P k → ⊥) → Aligned k (Asks l x k o) done left before after
  aligned P l x k o [] left before after e past ahead bef new =
      record {
        between = before;
        no_keys = no_key before (λ k' h. ahead k' (subst (λ us. IsIn k' (key_in a us)) (sym e) (subst (λ ks. IsIn k' ks) (sym (keys_both a before (Asks l x k o ∷ after))) (in_left k' (key_in a before) _ h))) (bef k' h));
        before_is = refl;
        left_is = e;
      }
  aligned P l x k o (d ∷ ds) left [] after e past ahead bef new =
      let q : d ≡ Asks l x k o = cc in
      let h : IsIn k (key_in a (d ∷ ds)) = subst (λ u. IsIn k (key_in a (u ∷ ds))) (sym q) (inl refl) in
      absurd (new (past k h))
  aligned P l x k o (d ∷ ds) left (b ∷ bs) after e past ahead bef new =
      let q : d ≡ b = cc in
      let es : ds ++ left ≡ bs ++ Asks l x k o ∷ after = cc in
      let r = aligned P l x k o ds left bs after es (λ k' h. past k' (key_tail k' d ds h)) ahead (λ k' h. bef k' (key_tail k' b bs h)) new in
      record {
        between = r.between;
        no_keys = r.no_keys;
        before_is = ap (λ us. b ∷ us) r.before_is ∙ ap (λ u. u ∷ ds ++ r.between) (sym q);
        left_is = r.left_is;
      }

  pub at_once : (us : List (Turn I K O L)) (t : Turn I K O L) (after : List (Turn I K O L)) → HasNoKey us → StartsAsking a (us ++ t ∷ after) → us ≡ []
  at_once [] t after h s = refl
  at_once (Plain l ∷ us) t after h s = absurd s
  at_once (Asks l x k o ∷ us) t after h s = absurd h

  pub right_at : (n : ℕ) (us : List (Turn I K O L)) (l : Option L) (x : I) (k : K) (o : Option O) (after : List (Turn I K O L)) → AreRight a n (us ++ Asks l x k o ∷ after) → IsRight a n x k o × (o ≡ None → HasNoLine a after) × EndsIfHangup l o after × AreRight a n after
  right_at n [] l x k o after h = h
  right_at n (Plain l' ∷ us) l x k o after h = right_at n us l x k o after h
  right_at n (Asks l' x' k' o' ∷ us) l x k o after h = right_at n us l x k o after h.3
