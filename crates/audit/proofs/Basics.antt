-- Lists, functions with one value put, and what grows with a placing.
use Rattle.std.proofs.Common.{◌≡◌, ◌⊎◌, ℕ, zero, suc, ◌≤◌, List, [], ◌∷◌, ◌++◌, Bool, true, false, Option, Some, None, refl, sym, ap, subst, inl, inr, ⊎_elim, cond, arith}
use Rattle.std.specs.Prelude.{slice_get, ◌==◌, is_some, nat_le}
use Rattle.std.specs.List.{list_any, list_all}
use Rattle.std.proofs.lemmas.Bool.{or_cases, eqb-true, eq-eqb, and_parts, and_from, or_left, or_right, true≢false, cases_Bool, leb-true, leb-false}
use Rattle.audit.specs.Case.{Case, next, after_next, sends_next, state_at, sent_at}
use Rattle.audit.specs.Placing.{put, was_sent, is_answered}
use Rattle.ballot.specs.Lists.{IsIn}
use Rattle.audit.specs.Laws.{Laws}

pub in_left : {A : Type 0} (x : A) (xs ys : List A) → IsIn x xs → IsIn x (xs ++ ys)
in_left x [] ys h = absurd h
in_left x (y ∷ xs) ys h = ⊎_elim (λ e. inl e) (λ t. inr (in_left x xs ys t)) h

pub in_right : {A : Type 0} (x : A) (xs ys : List A) → IsIn x ys → IsIn x (xs ++ ys)
in_right x [] ys h = h
in_right x (y ∷ xs) ys h = inr (in_right x xs ys h)

pub in_either : {A : Type 0} (x : A) (xs ys : List A) → IsIn x (xs ++ ys) → IsIn x xs ⊎ IsIn x ys
in_either x [] ys h = inr h
in_either x (y ∷ xs) ys h =
    ⊎_elim (λ e. inl (inl e)) (λ t. ⊎_elim (λ l. inl (inr l)) (λ r. inr r) (in_either x xs ys t)) h

pub in_got : {A : Type 0} (xs : List A) (k : ℕ) (x : A) → slice_get xs k ≡ Some x → IsIn x xs
in_got [] k x e = absurd (cc)
in_got (y ∷ xs) zero x e = inl (cc)
in_got (y ∷ xs) (suc k) x e = inr (in_got xs k x e)

pub any_in : {A : Type 0} (f : A → Bool) (xs : List A) (x : A) → IsIn x xs → f x ≡ true → list_any f xs ≡ true
any_in f [] x h e = absurd h
any_in f (y ∷ ys) x h e =
    ⊎_elim (λ (q : y ≡ x). or_left (f y) (list_any f ys) (subst (λ z. f z ≡ true) (sym q) e)) (λ t. or_right (f y) (list_any f ys) (any_in f ys x t e)) h

pub all_from : {A : Type 0} (f : A → Bool) (xs : List A) → ((x : A) → IsIn x xs → f x ≡ true) → list_all f xs ≡ true
all_from f [] h = refl
all_from f (y ∷ ys) h = and_from (f y) (list_all f ys) (h y (inl refl)) (all_from f ys (λ x t. h x (inr t)))

pub all_in : {A : Type 0} (f : A → Bool) (xs : List A) (x : A) → list_all f xs ≡ true → IsIn x xs → f x ≡ true
all_in f [] x e h = absurd h
all_in f (y ∷ ys) x e h =
    let a = and_parts (f y) (list_all f ys) e in
    ⊎_elim (λ (q : y ≡ x). subst (λ z. f z ≡ true) q a.0) (λ t. all_in f ys x a.1 t) h

pub any_back : {A : Type 0} (f : A → Bool) (xs : List A) → list_any f xs ≡ true → (x : A) × IsIn x xs × (f x ≡ true)
any_back f [] e = absurd (true≢false (sym e))
any_back f (y ∷ ys) e = ⊎_elim (λ (h : f y ≡ true). (y, inl refl, h)) (λ t. let r = any_back f ys t in (r.0, inr r.1, r.2)) (or_cases (f y) (list_any f ys) e)

-- each value after one is put
pub put_each : {A : Type 0} (P : ℕ → A → Type 0) (f : ℕ → A) (n : ℕ) (x : A) → P n x → ((m : ℕ) → P m (f m)) → (m : ℕ) → P m (put f n x m)
put_each P f n x new old m =
    go (m == n) refl
  where
    go : (t : Bool) → (m == n) ≡ t → P m (cond t x (f m))
    go true e = subst (λ k. P k x) (sym (eqb-true m n e)) new
    go false e = old m

pub climbs : (P : ℕ → Type 0) → ((j : ℕ) → P j → P (suc j)) → (k k' : ℕ) → k ≤ k' → P k → P k'
climbs P up k zero h p =
    let e : k ≡ 0 = omega arith in
    subst P e p
climbs P up k (suc j) h p =
    go (climbs P up k j) (cases_Bool (nat_le k j))
  where
    go : (k ≤ j → P k → P j) → (nat_le k j ≡ true) ⊎ (nat_le k j ≡ false) → P (suc j)
    go f (inl e) = up j (f (leb-true k j e) p)
    go f (inr e) =
        let l = leb-false k j e in
        let q : k ≡ suc j = omega arith in
        subst P q p

abbrev pub IsBelow : (ℕ → ℕ) → (ℕ → ℕ) → Type 0
IsBelow p q = (n : ℕ) → p n ≤ q n

pub put_here : (f : ℕ → ℕ) (n x : ℕ) → put f n x n ≡ x
put_here f n x = rw (eq-eqb n n refl) refl

module _ {S I E K O L : Type 0} (a : Case S I E K O L) where
  pub sent_more : (e : E) (n k k' : ℕ) → k ≤ k' → IsIn e (sent_at a n k) → IsIn e (sent_at a n k')
  sent_more e n k k' h = climbs (λ j. IsIn e (sent_at a n j)) (λ j i. in_left e (sent_at a n j) (sends_next a (state_at a n j) (next a n j)) i) k k' h

  answered_next : Laws a → (s : S) (o : Option I) (key : K) (v : O) → a.answer s key ≡ Some v → a.answer (after_next a s o) key ≡ Some v
  answered_next laws s None key v h = h
  answered_next laws s (Some x) key v h = laws.stays s x key v h

  pub answer_more : Laws a → (n : ℕ) (key : K) (v : O) (k k' : ℕ) → k ≤ k' → a.answer (state_at a n k) key ≡ Some v → a.answer (state_at a n k') key ≡ Some v
  answer_more laws n key v k k' h = climbs (λ j. a.answer (state_at a n j) key ≡ Some v) (λ j i. answered_next laws (state_at a n j) (next a n j) key v i) k k' h

  pub some_of : (o : Option O) → is_some o ≡ true → (v : O) × (o ≡ Some v)
  some_of None e = absurd (true≢false (sym e))
  some_of (Some v) e = (v, refl)

  pub answered_more : Laws a → (p q : ℕ → ℕ) → IsBelow p q → (key : K) → is_answered a p key ≡ true → is_answered a q key ≡ true
  answered_more laws p q below key h =
      let v = some_of (a.answer (state_at a (a.home key) (p (a.home key))) key) h in
      ap is_some (answer_more laws (a.home key) key v.0 (p (a.home key)) (q (a.home key)) (below (a.home key)) v.1)

  pub sent_from : Laws a → (p : ℕ → ℕ) (e : E) (n : ℕ) → IsIn n a.nodes → IsIn e (sent_at a n (p n)) → was_sent a p e ≡ true
  sent_from laws p e n at h =
      any_in (λ m. list_any (λ e'. a.same_message e' e) (sent_at a m (p m))) a.nodes n at
      (any_in (λ e'. a.same_message e' e) (sent_at a n (p n)) e h (laws.message_same e))
