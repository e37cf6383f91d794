-- Inputs can be placed until none can be placed.
use Rattle.std.proofs.Common.{◌≡◌, ◌⊎◌, ℕ, zero, suc, ◌+◌, ◌<◌, ◌≤◌, length, List, [], ◌∷◌, Bool, true, false, Option, Some, None, if◌then◌else◌, refl, sym, subst, inl, inr, ⊎_elim, cond, arith}
use Rattle.std.specs.Prelude.{◌&&◌}
use Rattle.std.specs.List.{list_all}
use Rattle.std.proofs.lemmas.Bool.{true≢false}
use Rattle.audit.specs.Case.{Case, next}
use Rattle.audit.specs.Placing.{put, can_place, is_met, is_stuck, IsPlacing}
use Rattle.ballot.specs.Lists.{IsIn}
use Rattle.audit.proofs.Basics.{IsBelow, put_each, all_in}
use Rattle.audit.proofs.Walk.{put_at}
use Rattle.audit.proofs.Sweep.{got_below}

-- how many inputs of these nodes are placed
abbrev pub total : List ℕ → (ℕ → ℕ) → ℕ
total [] p = 0
total (n ∷ ns) p = p n + total ns p

pub total_below : (ns : List ℕ) (p q : ℕ → ℕ) → IsBelow p q → total ns p ≤ total ns q
total_below [] p q h = omega arith
total_below (n ∷ ns) p q h =
    let x = h n in
    let y = total_below ns p q h in
    omega (arith, x, y)

grows : (p : ℕ → ℕ) (n m : ℕ) → p m ≤ put p n (suc (p n)) m
grows p n = put_each (λ m v. p m ≤ v) p n (suc (p n)) (omega arith) (λ m. omega arith)

pub total_up : (ns : List ℕ) (p : ℕ → ℕ) (n : ℕ) → IsIn n ns → suc (total ns p) ≤ total ns (put p n (suc (p n)))
total_up [] p n h = absurd h
total_up (m ∷ ns) p n h =
    ⊎_elim
    (λ (e : m ≡ n).
    let x : put p n (suc (p n)) m ≡ suc (p m) = subst (λ k. put p n (suc (p n)) k ≡ suc (p k)) (sym e) (put_at p n (suc (p n))) in
    let y = total_below ns p (put p n (suc (p n))) (grows p n) in
    omega (arith, x, y))
    (λ t.
    let x = grows p n m in
    let y = total_up ns p n t in
    omega (arith, x, y))
    h

module _ {S I E K O L : Type 0} (a : Case S I E K O L) where
  -- the first node whose next input can be placed
  abbrev first_that_can : (ℕ → ℕ) → List ℕ → Option ℕ
  first_that_can p [] = None
  first_that_can p (n ∷ ns) = if can_place a p n then Some n else first_that_can p ns

  abbrev placed_at : (ℕ → ℕ) → Option ℕ → ℕ → ℕ
  placed_at p None = p
  placed_at p (Some n) = put p n (suc (p n))

  -- k turns, each of which places one input, or nothing if none can be placed
  abbrev pub settled : ℕ → ℕ → ℕ
  settled zero = λ n. 0
  settled (suc k) = placed_at (settled k) (first_that_can (settled k) a.nodes)

  -- as many turns as there are inputs, and one
  abbrev pub enough : ℕ
  enough = suc (total a.nodes (λ n. length (a.logs n)))

module _ {S I E K O L : Type 0} (a : Case S I E K O L) where
  none_can : (p : ℕ → ℕ) (ns : List ℕ) → first_that_can a p ns ≡ None → list_all (λ n. cond (can_place a p n) false true) ns ≡ true
  none_can p [] = λ h. refl
  none_can p (n ∷ ns) =
      go (can_place a p n) (none_can p ns)
    where
      go : (t : Bool) → (first_that_can a p ns ≡ None → list_all (λ n. cond (can_place a p n) false true) ns ≡ true) → cond t (Some n) (first_that_can a p ns) ≡ None → (cond t false true && list_all (λ n. cond (can_place a p n) false true) ns) ≡ true
      go true f h = absurd (cc)
      go false f h = f h

  one_can : (p : ℕ → ℕ) (ns : List ℕ) (n : ℕ) → first_that_can a p ns ≡ Some n → IsIn n ns × (can_place a p n ≡ true)
  one_can p [] n = λ h. absurd (cc)
  one_can p (m ∷ ns) n =
      go (can_place a p m) refl (one_can p ns n)
    where
      go : (t : Bool) → can_place a p m ≡ t → (first_that_can a p ns ≡ Some n → IsIn n ns × (can_place a p n ≡ true)) → cond t (Some m) (first_that_can a p ns) ≡ Some n → IsIn n (m ∷ ns) × (can_place a p n ≡ true)
      go true e f h =
          let q : m ≡ n = cc in
          (inl q, subst (λ z. can_place a p z ≡ true) q e)
      go false e f h = let r = f h in (inr r.0, r.1)

  -- what holds after each turn
  record Turned (k : ℕ) (p : ℕ → ℕ) : Type 0 where
    order : List ℕ
    placing : IsPlacing a order p
    below : IsBelow p (λ n. length (a.logs n))
    so_far : (is_stuck a p ≡ true) ⊎ (k ≤ total a.nodes p)

  pub can_below : (p : ℕ → ℕ) (n : ℕ) → can_place a p n ≡ true → p n < length (a.logs n)
  can_below p n =
      go (next a n (p n)) refl
    where
      go : (o : Option I) → next a n (p n) ≡ o → is_met a p n o ≡ true → p n < length (a.logs n)
      go None e h = absurd (true≢false (sym h))
      go (Some x) e h = got_below (a.logs n) (p n) x e

  turn : (k : ℕ) (p : ℕ → ℕ) → Turned k p → (o : Option ℕ) → first_that_can a p a.nodes ≡ o → Turned (suc k) (placed_at a p o)
  turn k p t None e = record { order = t.order; placing = t.placing; below = t.below; so_far = inl (none_can p a.nodes e) }
  turn k p t (Some n) e =
      let c = one_can p a.nodes n e in
      record {
        order = n ∷ t.order;
        placing = (p, t.placing, c.1, refl);
        below = put_each (λ m v. v ≤ length (a.logs m)) p n (suc (p n)) (can_below p n c.1) t.below;
        so_far = ⊎_elim
            (λ (s : is_stuck a p ≡ true). absurd (not_stuck a.nodes c.0 c.1 s))
            (λ (l : k ≤ total a.nodes p). let u = total_up a.nodes p n c.0 in inr (omega (arith, l, u)))
            t.so_far;
      }
    where
      not_stuck : (ns : List ℕ) → IsIn n ns → can_place a p n ≡ true → list_all (λ m. cond (can_place a p m) false true) ns ≡ true → ⊥
      not_stuck ns h c s = contrary (can_place a p n) c (all_in (λ m. cond (can_place a p m) false true) ns n s h)
        where
          contrary : (t : Bool) → t ≡ true → cond t false true ≡ true → ⊥
          contrary true e f = true≢false (sym f)
          contrary false e f = true≢false (sym e)

  turns : (k : ℕ) → Turned k (settled a k)
  turns zero = record { order = []; placing = refl; below = λ n. omega arith; so_far = inr (omega arith) }
  turns (suc k) = turn k (settled a k) (turns k) (first_that_can a (settled a k) a.nodes) refl

  pub settles : (ns : List ℕ) × IsPlacing a ns (settled a (enough a)) × (is_stuck a (settled a (enough a)) ≡ true)
  settles =
      let t = turns (enough a) in
      let most = total_below a.nodes (settled a (enough a)) (λ n. length (a.logs n)) t.below in
      (t.order, t.placing, ⊎_elim (λ s. s) (λ (l : enough a ≤ total a.nodes (settled a (enough a))). absurd (too_many _ _ l most)) t.so_far)
    where
      too_many : (i j : ℕ) → suc i ≤ j → j ≤ i → ⊥
      too_many i j h l = absurd (omega arith)
