-- Where no entry names what an earlier one named, each key is named once.
use Rattle.std.proofs.Common.{◌≡◌, ℕ, zero, suc, ◌+◌, List, [], ◌∷◌, ◌++◌, Bool, true, false, Option, Some, None, refl, sym, ap, ◌∙◌, subst, inl, inr, ⊎_elim, cond, arith}
use Rattle.std.specs.Prelude.{slice_get, ◌==◌, ◌&&◌, ◌||◌, not, length}
use Rattle.std.proofs.lemmas.Bool.{true≢false, and_parts, or_cases, or_left, or_right, eqb-true}
use Rattle.audit.specs.Case.{Turn, Plain, Asks, Case, next, state_at, key_in, turns_of, count_in, keys_among}
use Rattle.ballot.specs.Lists.{IsIn}
use Rattle.audit.specs.Laws.{Laws}
use Rattle.audit.specs.Order.{AreTicketed}
use Rattle.audit.specs.Right.{IsRight, AreRight, NoneWrong}
use Rattle.audit.specs.Wrong.{turns_at, seat, is_key, is_submit, has_submit, is_outcome, is_seen, is_good, are_good, seen_after, first_node, node_of, first_wrong, IsScript}
use Rattle.audit.proofs.Basics.{in_left, in_right}

module _ {S I E K O L : Type 0} (a : Case S I E K O L) (laws : Laws a) where
  -- no key of the list is in what was seen, nor twice in it
  abbrev pub clean : List K → List K → Bool
  clean seen [] = true
  clean seen (k ∷ ks) = not (is_seen a seen k) && clean (k ∷ seen) ks

  contrary : (t : Bool) → t ≡ true → not t ≡ true → ⊥
  contrary true e f = true≢false (sym f)
  contrary false e f = true≢false (sym e)

  pub count_none : (seen ks : List K) (k : K) → is_seen a seen k ≡ true → clean seen ks ≡ true → count_in a k ks ≡ 0
  count_none seen [] k = λ h c. refl
  count_none seen (k' ∷ ks) k =
      go (a.same_key k' k) refl (count_none (k' ∷ seen) ks k)
    where
      go : (t : Bool) → a.same_key k' k ≡ t → ((a.same_key k' k || is_seen a seen k) ≡ true → clean (k' ∷ seen) ks ≡ true → count_in a k ks ≡ 0) → is_seen a seen k ≡ true → (not (is_seen a seen k') && clean (k' ∷ seen) ks) ≡ true → cond t (suc (count_in a k ks)) (count_in a k ks) ≡ 0
      go true e f h c =
          let p = and_parts (not (is_seen a seen k')) (clean (k' ∷ seen) ks) c in
          absurd (contrary (is_seen a seen k') (subst (λ z. is_seen a seen z ≡ true) (sym (laws.same_key k' k e)) h) p.0)
      go false e f h c = f (or_right (a.same_key k' k) (is_seen a seen k) h) (and_parts (not (is_seen a seen k')) (clean (k' ∷ seen) ks) c).1

  pub count_one : (seen ks : List K) (k : K) → clean seen ks ≡ true → IsIn k ks → count_in a k ks ≡ 1
  count_one seen [] k = λ c h. absurd h
  count_one seen (k' ∷ ks) k =
      go (a.same_key k' k) refl (count_one (k' ∷ seen) ks k)
    where
      go : (t : Bool) → a.same_key k' k ≡ t → (clean (k' ∷ seen) ks ≡ true → IsIn k ks → count_in a k ks ≡ 1) → (not (is_seen a seen k') && clean (k' ∷ seen) ks) ≡ true → IsIn k (k' ∷ ks) → cond t (suc (count_in a k ks)) (count_in a k ks) ≡ 1
      go true e f c h =
          let p = and_parts (not (is_seen a seen k')) (clean (k' ∷ seen) ks) c in
          ap (λ z. suc z) (count_none (k' ∷ seen) ks k (or_left (a.same_key k' k) (is_seen a seen k) e) p.1)
      go false e f c h =
          let p = and_parts (not (is_seen a seen k')) (clean (k' ∷ seen) ks) c in
          ⊎_elim (λ (q : k' ≡ k). absurd (true≢false (sym (subst (λ z. a.same_key z k ≡ true) (sym q) (laws.key_same k)) ∙ e))) (λ t. f p.1 t) h

  -- what the tests of all scripts say of their keys
  clean_on : (n : ℕ) (seen : List K) (ts : List (Turn I K O L)) (more : List K) → are_good a n seen ts ≡ true → clean (seen_after a seen ts) more ≡ true → clean seen (key_in a ts ++ more) ≡ true
  clean_on n seen [] more g c = c
  clean_on n seen (Plain l ∷ ts) more g c = clean_on n seen ts more g c
  clean_on n seen (Asks l x k o ∷ ts) more g c =
      let p = and_parts (is_good a n seen x k o) (are_good a n (k ∷ seen) ts) g in
      let q = and_parts (has_submit a (a.home k) k x _) _ p.0 in
      let r = and_parts (not (is_seen a seen k)) _ q.1 in
      both (not (is_seen a seen k)) (clean (k ∷ seen) (key_in a ts ++ more)) r.0 (clean_on n (k ∷ seen) ts more p.1 c)
    where
      both : (x y : Bool) → x ≡ true → y ≡ true → (x && y) ≡ true
      both true y e f = f
      both false y e f = absurd (true≢false (sym e))

  pub all_clean : (i : ℕ) (seen : List K) (ss : List (Option (List (Turn I K O L)))) → first_wrong a i seen ss ≡ None → clean seen (keys_among a ss) ≡ true
  all_clean i seen [] = λ h. refl
  all_clean i seen (s ∷ ss) =
      go (not (a.loose i) && are_good a (node_of a (turns_of a s)) seen (turns_of a s)) refl (all_clean (suc i) (seen_after a seen (turns_of a s)) ss)
    where
      go : (t : Bool) → (not (a.loose i) && are_good a (node_of a (turns_of a s)) seen (turns_of a s)) ≡ t → (first_wrong a (suc i) (seen_after a seen (turns_of a s)) ss ≡ None → clean (seen_after a seen (turns_of a s)) (keys_among a ss) ≡ true) → cond t (first_wrong a (suc i) (seen_after a seen (turns_of a s)) ss) (Some i) ≡ None → clean seen (key_in a (turns_of a s) ++ keys_among a ss) ≡ true
      go true e f h = clean_on (node_of a (turns_of a s)) seen (turns_of a s) (keys_among a ss) (and_parts (not (a.loose i)) _ e).1 (f h)
      go false e f h = absurd (cc)

  -- so each key of a script is named once
  pub named_once : (k : K) → first_wrong a 0 [] a.scripts ≡ None → IsIn k (keys_among a a.scripts) → count_in a k (keys_among a a.scripts) ≡ 1
  named_once k h at = count_one [] (keys_among a a.scripts) k (all_clean 0 [] a.scripts h) at

  submit_back : (n : ℕ) (k : K) (x : I) (j : ℕ) → has_submit a n k x j ≡ true → (i : ℕ) × (next a n i ≡ Some x) × (a.key_of (state_at a n i) x ≡ Some k)
  submit_back n k x zero h = absurd (true≢false (sym h))
  submit_back n k x (suc j) h =
      ⊎_elim (λ t. here (next a n j) refl t) (λ t. submit_back n k x j t) (or_cases (is_submit a (state_at a n j) k x (next a n j)) (has_submit a n k x j) h)
    where
      key_back : (u : Option K) → is_key a k u ≡ true → u ≡ Some k
      key_back None t = absurd (true≢false (sym t))
      key_back (Some k') t = ap (λ z. Some z) (laws.same_key k' k t)

      here : (o : Option I) → next a n j ≡ o → is_submit a (state_at a n j) k x o ≡ true → (i : ℕ) × (next a n i ≡ Some x) × (a.key_of (state_at a n i) x ≡ Some k)
      here None e t = absurd (true≢false (sym t))
      here (Some y) e t =
          let p = and_parts (is_key a k (a.key_of (state_at a n j) y)) (a.same_input y x) t in
          let q = laws.same_input y x p.1 in
          (j, e ∙ ap (λ z. Some z) q, subst (λ z. a.key_of (state_at a n j) z ≡ Some k) q (key_back (a.key_of (state_at a n j) y) p.0))

  outcome_back : (o found : Option O) → is_outcome a o found ≡ true → (v : O) → o ≡ Some v → found ≡ Some v
  outcome_back None found h v e = absurd (cc)
  outcome_back (Some w) None h v e = absurd (true≢false (sym h))
  outcome_back (Some w) (Some z) h v e =
      let q = laws.same_outcome w z h in
      let r : w ≡ v = cc in
      ap (λ u. Some u) (sym q ∙ r)

  is_right : (n : ℕ) (seen : List K) (x : I) (k : K) (o : Option O) → is_good a n seen x k o ≡ true → a.brought x ≡ None → a.locks x ≡ true → count_in a k (keys_among a a.scripts) ≡ 1 → IsRight a n x k o
  is_right n seen x k o g brings locks once =
      let p = and_parts (has_submit a (a.home k) k x (length (a.logs (a.home k)))) _ g in
      let q = and_parts (not (is_seen a seen k)) _ p.1 in
      let r = and_parts (a.home k == n) _ q.1 in
      record {
        mine = eqb-true (a.home k) n r.0;
        brings = brings;
        locks = locks;
        submit = submit_back (a.home k) k x (length (a.logs (a.home k))) p.0;
        once = once;
        outcome = λ v e. outcome_back o _ r.1 v e;
      }

  are_right : (n : ℕ) (seen : List K) (ts : List (Turn I K O L)) → are_good a n seen ts ≡ true → IsScript a ts → ((k : K) → IsIn k (key_in a ts) → count_in a k (keys_among a a.scripts) ≡ 1) → AreRight a n ts
  are_right n seen [] g s once = tt
  are_right n seen (Plain l ∷ ts) g s once = are_right n seen ts g s once
  are_right n seen (Asks l x k o ∷ ts) g s once =
      let p = and_parts (is_good a n seen x k o) (are_good a n (k ∷ seen) ts) g in
      (is_right n seen x k o p.0 s.0 s.1 (once k (inl refl)), s.2, s.3, are_right n (k ∷ seen) ts p.1 s.4 (λ k' h. once k' (inr h)))

  good_at : (i : ℕ) (seen : List K) (ss : List (Option (List (Turn I K O L)))) → first_wrong a i seen ss ≡ None → (j : ℕ) (s : Option (List (Turn I K O L))) → slice_get ss j ≡ Some s → (seen' : List K) × (are_good a (node_of a (turns_of a s)) seen' (turns_of a s) ≡ true)
  good_at i seen [] = λ h j s e. absurd (cc)
  good_at i seen (s ∷ ss) =
      go (not (a.loose i) && are_good a (node_of a (turns_of a s)) seen (turns_of a s)) refl (good_at (suc i) (seen_after a seen (turns_of a s)) ss)
    where
      go : (t : Bool) → (not (a.loose i) && are_good a (node_of a (turns_of a s)) seen (turns_of a s)) ≡ t → (first_wrong a (suc i) (seen_after a seen (turns_of a s)) ss ≡ None → (j : ℕ) (s' : Option (List (Turn I K O L))) → slice_get ss j ≡ Some s' → (seen' : List K) × (are_good a (node_of a (turns_of a s')) seen' (turns_of a s') ≡ true)) → cond t (first_wrong a (suc i) (seen_after a seen (turns_of a s)) ss) (Some i) ≡ None → (j : ℕ) (s' : Option (List (Turn I K O L))) → slice_get (s ∷ ss) j ≡ Some s' → (seen' : List K) × (are_good a (node_of a (turns_of a s')) seen' (turns_of a s') ≡ true)
      go true e f h zero s' is =
          let q : s ≡ s' = cc in
          (seen, subst (λ z. are_good a (node_of a (turns_of a z)) seen (turns_of a z) ≡ true) q (and_parts (not (a.loose i)) _ e).1)
      go true e f h (suc j) s' is = f h j s' is
      go false e f h j s' is = absurd (cc)

  not_true : (t : Bool) → not t ≡ true → t ≡ false
  not_true true e = absurd (true≢false (sym e))
  not_true false e = refl

  not_loose : (i : ℕ) (seen : List K) (ss : List (Option (List (Turn I K O L)))) → first_wrong a i seen ss ≡ None → (j k : ℕ) (s : Option (List (Turn I K O L))) → k ≡ i + j → slice_get ss j ≡ Some s → a.loose k ≡ false
  not_loose i seen [] = λ h j k s at e. absurd (cc)
  not_loose i seen (s ∷ ss) =
      go (not (a.loose i) && are_good a (node_of a (turns_of a s)) seen (turns_of a s)) refl (not_loose (suc i) (seen_after a seen (turns_of a s)) ss)
    where
      go : (t : Bool) → (not (a.loose i) && are_good a (node_of a (turns_of a s)) seen (turns_of a s)) ≡ t → (first_wrong a (suc i) (seen_after a seen (turns_of a s)) ss ≡ None → (j k : ℕ) (s' : Option (List (Turn I K O L))) → k ≡ suc i + j → slice_get ss j ≡ Some s' → a.loose k ≡ false) → cond t (first_wrong a (suc i) (seen_after a seen (turns_of a s)) ss) (Some i) ≡ None → (j k : ℕ) (s' : Option (List (Turn I K O L))) → k ≡ i + j → slice_get (s ∷ ss) j ≡ Some s' → a.loose k ≡ false
      go true e f h zero k s' at is =
          let here : k ≡ i = omega (arith, at) in
          ap a.loose here ∙ not_true (a.loose i) (and_parts (not (a.loose i)) _ e).0
      go true e f h (suc j) k s' at is = f h j k s' (omega (arith, at)) is
      go false e f h j k s' at is = absurd (cc)

  pub ticketed : first_wrong a 0 [] a.scripts ≡ None → AreTicketed a
  ticketed h i s e = let at : i ≡ 0 + i = omega arith in not_loose 0 [] a.scripts h i i s at e

  among : (ss : List (Option (List (Turn I K O L)))) (j : ℕ) (ts : List (Turn I K O L)) (k : K) → slice_get ss j ≡ Some (Some ts) → IsIn k (key_in a ts) → IsIn k (keys_among a ss)
  among [] j ts k e h = absurd (cc)
  among (s ∷ ss) zero ts k e h =
      let q : s ≡ Some ts = cc in
      in_left k (key_in a (turns_of a s)) (keys_among a ss) (subst (λ z. IsIn k (key_in a (turns_of a z))) (sym q) h)
  among (s ∷ ss) (suc j) ts k e h = in_right k (key_in a (turns_of a s)) (keys_among a ss) (among ss j ts k e h)

  -- the node of a session is one of those with a log
  node_there : (n : ℕ) (seen : List K) (ts : List (Turn I K O L)) → are_good a n seen ts ≡ true → IsIn (first_node a a.nodes) a.nodes → IsIn (node_of a ts) a.nodes
  node_there n seen [] g first = first
  node_there n seen (Plain l ∷ ts) g first = node_there n seen ts g first
  node_there n seen (Asks l x k o ∷ ts) g first =
      let p = and_parts (is_good a n seen x k o) (are_good a n (k ∷ seen) ts) g in
      let q = and_parts (has_submit a (a.home k) k x (length (a.logs (a.home k)))) _ p.0 in
      let m = submit_back (a.home k) k x (length (a.logs (a.home k))) q.0 in
      laws.there (a.home k) m.0 x m.1

  pub none_wrong : IsIn (first_node a a.nodes) a.nodes → ((i : ℕ) (ts : List (Turn I K O L)) → slice_get a.scripts i ≡ Some (Some ts) → IsScript a ts) → first_wrong a 0 [] a.scripts ≡ None → NoneWrong a (seat a)
  none_wrong first fit h i ts e =
      let g = good_at 0 [] a.scripts h i (Some ts) e in
      subst (λ u. IsIn (node_of a (turns_at a u)) a.nodes × AreRight a (node_of a (turns_at a u)) ts) (sym e)
      (node_there (node_of a ts) g.0 ts g.1 first, are_right (node_of a ts) g.0 ts g.1 (fit i ts e) (λ k t. named_once k h (among a.scripts i ts k e t)))
