-- How many nodes pass a test, and that two majorities share one.
use Rattle.std.proofs.Common.{◌≡◌, ◌⊎◌, ℕ, zero, suc, ◌+◌, ◌<◌, ◌≤◌, List, [], ◌∷◌, length, Bool, true, false, refl, sym, ap, ◌∙◌, subst, inl, inr, ⊎_elim, arith, cond, eqb}
use mathlib.Core.Bool.{◌||◌}
use Rattle.std.proofs.lemmas.Bool.{eq-eqb, ne_eqb, and_parts, and_from, true≢false, cases_eq, ltb-true, leb-true, lt-ltb, le-leb}
use Rattle.ballot.specs.Nodes.{count_to, is_among, in_cluster, AreDistinct, IsMajority}

-- some node of the cluster passes both tests
abbrev pub Share : ℕ → (ℕ → Bool) → (ℕ → Bool) → Type 0
Share size f g = (n : ℕ) × (in_cluster size n ≡ true) × (f n ≡ true) × (g n ≡ true)

wider : (size : ℕ) (f g : ℕ → Bool) → Share size f g → Share (suc size) f g
wider size f g (n, inside, a, b) =
    let p = and_parts _ _ inside in
    let l : n ≤ size = leb-true n size p.1 in
    (n, and_from _ _ p.0 (le-leb n (suc size) (omega arith)), a, b)

share_or_few : (n : ℕ) (f g : ℕ → Bool) → Share n f g ⊎ (count_to n f + count_to n g ≤ n)
share_or_few zero f g = inr (omega arith)
share_or_few (suc n) f g =
    go (f (suc n)) (g (suc n)) refl refl (share_or_few n f g)
  where
    go : (s t : Bool) → f (suc n) ≡ s → g (suc n) ≡ t → Share n f g ⊎ (count_to n f + count_to n g ≤ n) → Share (suc n) f g ⊎ (count_to (suc n) f + count_to (suc n) g ≤ suc n)
    go true true p q h = inl (suc n, and_from _ _ (lt-ltb 0 (suc n) (omega arith)) (le-leb (suc n) (suc n) (omega arith)), p, q)
    go true false p q h = ⊎_elim (λ x. inl (wider n f g x)) (λ (l : count_to n f + count_to n g ≤ n). inr (rw (p, q) (omega arith))) h
    go false true p q h = ⊎_elim (λ x. inl (wider n f g x)) (λ (l : count_to n f + count_to n g ≤ n). inr (rw (p, q) (omega arith))) h
    go false false p q h = ⊎_elim (λ x. inl (wider n f g x)) (λ (l : count_to n f + count_to n g ≤ n). inr (rw (p, q) (omega arith))) h

-- two majorities share a node
pub majorities_share : (n : ℕ) (f g : ℕ → Bool) → IsMajority n f → IsMajority n g → Share n f g
majorities_share n f g a b = ⊎_elim (λ x. x) (λ (l : count_to n f + count_to n g ≤ n). absurd (omega arith)) (share_or_few n f g)

-- a cluster has no more nodes than its size
pub count_within : (n : ℕ) (f : ℕ → Bool) → count_to n f ≤ n
count_within zero f = omega arith
count_within (suc n) f =
    go (f (suc n)) (count_within n f)
  where
    go : (t : Bool) → count_to n f ≤ n → cond t 1 0 + count_to n f ≤ suc n
    go true l = omega arith
    go false l = omega arith

same_count : (n : ℕ) (f g : ℕ → Bool) → ((m : ℕ) → m ≤ n → f m ≡ g m) → count_to n f ≡ count_to n g
same_count zero f g h = refl
same_count (suc n) f g h =
    let a = same_count n f g (λ m l. h m (omega arith)) in
    let b = h (suc n) (omega arith) in
    λ i. cond (b i) 1 0 + a i

one_more : (n k : ℕ) (f : ℕ → Bool) → 0 < k → k ≤ n → f k ≡ false → count_to n (λ m. eqb m k || f m) ≡ suc (count_to n f)
one_more zero k f pos l e = absurd (omega arith)
one_more (suc n) k f pos l e =
    ⊎_elim
    (λ (q : suc n ≡ k).
    let e' : f (suc n) ≡ false = subst (λ j. f j ≡ false) (sym q) e in
    let rest : count_to n (λ m. eqb m k || f m) ≡ count_to n f = same_count n (λ m. eqb m k || f m) f (λ m b. let ne : m ≡ k → ⊥ = omega arith in rw (ne_eqb m k ne) refl) in
    rw (eq-eqb (suc n) k q, e') (omega arith))
    (λ (ne : suc n ≡ k → ⊥).
    let ih : count_to n (λ m. eqb m k || f m) ≡ suc (count_to n f) = one_more n k f pos (omega arith) e in
    rw (ne_eqb (suc n) k ne) (omega arith))
    (cases_eq (suc n) k)

-- distinct nodes of a cluster are as many as its nodes that are among them
pub nodes_counted : (size : ℕ) (ns : List ℕ) → AreDistinct size ns → count_to size (λ n. is_among n ns) ≡ length ns
nodes_counted size [] h = none size
  where
    none : (n : ℕ) → count_to n (λ m. false) ≡ 0
    none zero = refl
    none (suc n) = let e : count_to n (λ m. false) ≡ 0 = none n in omega arith
nodes_counted size (k ∷ ns) h =
    let inside = and_parts _ _ h.0 in
    one_more size k (λ n. is_among n ns) (ltb-true 0 k inside.0) (leb-true k size inside.1) h.1 ∙ ap suc (nodes_counted size ns h.2)

pub length-AreDistinct : (size : ℕ) (ns : List ℕ) → AreDistinct size ns → length ns ≤ size
length-AreDistinct size ns h =
    let e = nodes_counted size ns h in
    let l = count_within size (λ n. is_among n ns) in
    subst (λ k. k ≤ size) e l

-- a test that passes more nodes counts more
pub count_more : (n : ℕ) (f g : ℕ → Bool) → ((k : ℕ) → f k ≡ true → g k ≡ true) → count_to n f ≤ count_to n g
count_more zero f g h = omega arith
count_more (suc n) f g h =
    go (f (suc n)) (g (suc n)) refl refl (count_more n f g h)
  where
    go : (s t : Bool) → f (suc n) ≡ s → g (suc n) ≡ t → count_to n f ≤ count_to n g → cond s 1 0 + count_to n f ≤ cond t 1 0 + count_to n g
    go true true p q l = omega arith
    go true false p q l = absurd (true≢false (sym (h (suc n) p) ∙ q))
    go false true p q l = omega arith
    go false false p q l = omega arith
