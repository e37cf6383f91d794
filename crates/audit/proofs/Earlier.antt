-- The first turn that names a key, if exactly one does.
use Rattle.std.proofs.Common.{◌≡◌, ℕ, zero, suc, ◌+◌, ◌≤◌, List, [], ◌∷◌, ◌++◌, Bool, true, false, Option, Some, None, refl, sym, ap, ◌∙◌, subst, ⊎_elim, cond, arith}
use Rattle.std.specs.Prelude.{slice_get}
use Rattle.std.proofs.lemmas.Bool.{true≢false}
use Rattle.audit.specs.Case.{Turn, Plain, Asks, Case, key_in, earlier_in, put_before, turns_of, or_else, earlier_among, count_in, keys_among}
use Rattle.ballot.specs.Lists.{IsIn}
use Rattle.audit.specs.Laws.{Laws}

module _ {S I E K O L : Type 0} (a : Case S I E K O L) where
  pub keys_both : (xs ys : List (Turn I K O L)) → key_in a (xs ++ ys) ≡ key_in a xs ++ key_in a ys
  keys_both [] ys = refl
  keys_both (Plain l ∷ xs) ys = keys_both xs ys
  keys_both (Asks l x k o ∷ xs) ys = ap (λ ks. k ∷ ks) (keys_both xs ys)

  pub count_both : (k : K) (xs ys : List K) → count_in a k (xs ++ ys) ≡ count_in a k xs + count_in a k ys
  count_both k [] ys = omega arith
  count_both k (x ∷ xs) ys =
      go (a.same_key x k) (count_both k xs ys)
    where
      go : (t : Bool) → count_in a k (xs ++ ys) ≡ count_in a k xs + count_in a k ys → cond t (suc (count_in a k (xs ++ ys))) (count_in a k (xs ++ ys)) ≡ cond t (suc (count_in a k xs)) (count_in a k xs) + count_in a k ys
      go true e = omega arith
      go false e = e

  none_in : (k : K) (ts : List (Turn I K O L)) → count_in a k (key_in a ts) ≡ 0 → earlier_in a k ts ≡ None
  none_in k [] = λ h. refl
  none_in k (Plain l ∷ ts) = λ h. none_in k ts h
  none_in k (Asks l x k' o ∷ ts) =
      go (a.same_key k' k) (none_in k ts)
    where
      go : (t : Bool) → (count_in a k (key_in a ts) ≡ 0 → earlier_in a k ts ≡ None) → cond t (suc (count_in a k (key_in a ts))) (count_in a k (key_in a ts)) ≡ 0 → cond t (Some []) (put_before a k' (earlier_in a k ts)) ≡ None
      go true f h = absurd (omega arith)
      go false f h = ap (put_before a k') (f h)

  found_in : Laws a → (k : K) (before ts : List (Turn I K O L)) (l : Option L) (x : I) (o : Option O) → count_in a k (key_in a before) ≡ 0 → earlier_in a k (before ++ Asks l x k o ∷ ts) ≡ Some (key_in a before)
  found_in laws k [] ts l x o =
      λ h. go (a.same_key k k) (laws.key_same k)
    where
      go : (t : Bool) → t ≡ true → cond t (Some []) (put_before a k (earlier_in a k ts)) ≡ Some []
      go true e = refl
      go false e = absurd (true≢false (sym e))
  found_in laws k (Plain l' ∷ before) ts l x o = λ h. found_in laws k before ts l x o h
  found_in laws k (Asks l' x' k' o' ∷ before) ts l x o =
      go (a.same_key k' k) (found_in laws k before ts l x o)
    where
      go : (t : Bool) → (count_in a k (key_in a before) ≡ 0 → earlier_in a k (before ++ Asks l x k o ∷ ts) ≡ Some (key_in a before))
          → cond t (suc (count_in a k (key_in a before))) (count_in a k (key_in a before)) ≡ 0
          → cond t (Some []) (put_before a k' (earlier_in a k (before ++ Asks l x k o ∷ ts))) ≡ Some (k' ∷ key_in a before)
      go true f h = absurd (omega arith)
      go false f h = ap (put_before a k') (f h)

  count_self : Laws a → (k : K) (ks : List K) → count_in a k (k ∷ ks) ≡ suc (count_in a k ks)
  count_self laws k ks =
      go (a.same_key k k) (laws.key_same k)
    where
      go : (t : Bool) → t ≡ true → cond t (suc (count_in a k ks)) (count_in a k ks) ≡ suc (count_in a k ks)
      go true e = refl
      go false e = absurd (true≢false (sym e))

  -- a script in which a turn names the key
  count_script : Laws a → (k : K) (before ts : List (Turn I K O L)) (l : Option L) (x : I) (o : Option O) → count_in a k (key_in a (before ++ Asks l x k o ∷ ts)) ≡ suc (count_in a k (key_in a before) + count_in a k (key_in a ts))
  count_script laws k before ts l x o =
      let e = ap (count_in a k) (keys_both before (Asks l x k o ∷ ts)) in
      let f = count_both k (key_in a before) (k ∷ key_in a ts) in
      let g = count_self laws k (key_in a ts) in
      omega (arith, e, f, g)

  count_there : Laws a → (k : K) (ss : List (Option (List (Turn I K O L)))) (i : ℕ) (before ts : List (Turn I K O L)) (l : Option L) (x : I) (o : Option O) → slice_get ss i ≡ Some (Some (before ++ Asks l x k o ∷ ts)) → 1 ≤ count_in a k (keys_among a ss)
  count_there laws k [] i before ts l x o h = absurd (cc)
  count_there laws k (s ∷ ss) zero before ts l x o h =
      let q : s ≡ Some (before ++ Asks l x k o ∷ ts) = cc in
      let e = ap (λ (r : Option (List (Turn I K O L))). count_in a k (key_in a (turns_of a r))) q in
      let f = count_script laws k before ts l x o in
      let g = count_both k (key_in a (turns_of a s)) (keys_among a ss) in
      omega (arith, e, f, g)
  count_there laws k (s ∷ ss) (suc i) before ts l x o h =
      let f = count_there laws k ss i before ts l x o h in
      let g = count_both k (key_in a (turns_of a s)) (keys_among a ss) in
      omega (arith, f, g)

  pub earlier_is : Laws a → (k : K) (ss : List (Option (List (Turn I K O L)))) (i : ℕ) (before ts : List (Turn I K O L)) (l : Option L) (x : I) (o : Option O) → slice_get ss i ≡ Some (Some (before ++ Asks l x k o ∷ ts)) → count_in a k (keys_among a ss) ≡ 1 → earlier_among a k ss ≡ Some (key_in a before)
  earlier_is laws k [] i before ts l x o h one = absurd (cc)
  earlier_is laws k (s ∷ ss) zero before ts l x o h one =
      let q : s ≡ Some (before ++ Asks l x k o ∷ ts) = cc in
      let e = ap (λ (r : Option (List (Turn I K O L))). count_in a k (key_in a (turns_of a r))) q in
      let f = count_script laws k before ts l x o in
      let g = count_both k (key_in a (turns_of a s)) (keys_among a ss) in
      let z : count_in a k (key_in a before) ≡ 0 = omega (arith, e, f, g, one) in
      let r = found_in laws k before ts l x o z in
      subst (λ (u : Option (List (Turn I K O L))). or_else a (earlier_in a k (turns_of a u)) (earlier_among a k ss) ≡ Some (key_in a before)) (sym q) (ap (λ u. or_else a u (earlier_among a k ss)) r)
  earlier_is laws k (s ∷ ss) (suc i) before ts l x o h one =
      let f = count_there laws k ss i before ts l x o h in
      let g = count_both k (key_in a (turns_of a s)) (keys_among a ss) in
      let z : count_in a k (key_in a (turns_of a s)) ≡ 0 = omega (arith, f, g, one) in
      let y : count_in a k (keys_among a ss) ≡ 1 = omega (arith, z, g, one) in
      let r = none_in k (turns_of a s) z in
      ap (λ u. or_else a u (earlier_among a k ss)) r ∙ earlier_is laws k ss i before ts l x o h y

  -- two turns that name a key that is named once are of one session
  pub one_place : Laws a → (k : K) (ss : List (Option (List (Turn I K O L)))) (i i' : ℕ) (b r b' r' : List (Turn I K O L)) (l l' : Option L) (x x' : I) (o o' : Option O) → slice_get ss i ≡ Some (Some (b ++ Asks l x k o ∷ r)) → slice_get ss i' ≡ Some (Some (b' ++ Asks l' x' k o' ∷ r')) → count_in a k (keys_among a ss) ≡ 1 → i ≡ i'
  one_place laws k [] i i' b r b' r' l l' x x' o o' h h' one = absurd (cc)
  one_place laws k (s ∷ ss) zero zero b r b' r' l l' x x' o o' h h' one = refl
  one_place laws k (s ∷ ss) zero (suc i') b r b' r' l l' x x' o o' h h' one =
      let q : s ≡ Some (b ++ Asks l x k o ∷ r) = cc in
      let e = ap (λ (u : Option (List (Turn I K O L))). count_in a k (key_in a (turns_of a u))) q in
      let f = count_script laws k b r l x o in
      let g = count_both k (key_in a (turns_of a s)) (keys_among a ss) in
      let d = count_there laws k ss i' b' r' l' x' o' h' in
      absurd (omega (arith, e, f, g, d, one))
  one_place laws k (s ∷ ss) (suc i) zero b r b' r' l l' x x' o o' h h' one =
      let q : s ≡ Some (b' ++ Asks l' x' k o' ∷ r') = cc in
      let e = ap (λ (u : Option (List (Turn I K O L))). count_in a k (key_in a (turns_of a u))) q in
      let f = count_script laws k b' r' l' x' o' in
      let g = count_both k (key_in a (turns_of a s)) (keys_among a ss) in
      let d = count_there laws k ss i b r l x o h in
      absurd (omega (arith, e, f, g, d, one))
  one_place laws k (s ∷ ss) (suc i) (suc i') b r b' r' l l' x x' o o' h h' one =
      let g = count_both k (key_in a (turns_of a s)) (keys_among a ss) in
      let d = count_there laws k ss i b r l x o h in
      let y : count_in a k (keys_among a ss) ≡ 1 = omega (arith, g, d, one) in
      ap (λ j. suc j) (one_place laws k ss i i' b r b' r' l l' x x' o o' h h' y)

  -- a script in which a turn names the key once names it nowhere after
  pub not_after : Laws a → (k : K) (ss : List (Option (List (Turn I K O L)))) (i : ℕ) (b r : List (Turn I K O L)) (l : Option L) (x : I) (o : Option O) → slice_get ss i ≡ Some (Some (b ++ Asks l x k o ∷ r)) → count_in a k (keys_among a ss) ≡ 1 → IsIn k (key_in a r) → ⊥
  not_after laws k [] i b r l x o h one at = absurd (cc)
  not_after laws k (s ∷ ss) zero b r l x o h one at =
      let q : s ≡ Some (b ++ Asks l x k o ∷ r) = cc in
      let e = ap (λ (u : Option (List (Turn I K O L))). count_in a k (key_in a (turns_of a u))) q in
      let f = count_script laws k b r l x o in
      let g = count_both k (key_in a (turns_of a s)) (keys_among a ss) in
      let d = count_in_some (key_in a r) at in
      absurd (omega (arith, e, f, g, d, one))
    where
      count_in_some : (ks : List K) → IsIn k ks → 1 ≤ count_in a k ks
      count_in_some [] = λ t. absurd t
      count_in_some (k' ∷ ks) =
          go (a.same_key k' k) refl (count_in_some ks)
        where
          go : (t : Bool) → a.same_key k' k ≡ t → (IsIn k ks → 1 ≤ count_in a k ks) → IsIn k (k' ∷ ks) → 1 ≤ cond t (suc (count_in a k ks)) (count_in a k ks)
          go true e f h = omega arith
          go false e f h = ⊎_elim (λ (q : k' ≡ k). absurd (true≢false (sym (subst (λ z. a.same_key z k ≡ true) (sym q) (laws.key_same k)) ∙ e))) (λ t. f t) h
  not_after laws k (s ∷ ss) (suc i) b r l x o h one at =
      let g = count_both k (key_in a (turns_of a s)) (keys_among a ss) in
      let d = count_there laws k ss i b r l x o h in
      let y : count_in a k (keys_among a ss) ≡ 1 = omega (arith, g, d, one) in
      not_after laws k ss i b r l x o h y at

  -- where a key is, as a turn
  pub record Spot (k : K) (ts : List (Turn I K O L)) : Type 0 where
    pub before : List (Turn I K O L)
    pub line : Option L
    pub input : I
    pub outcome : Option O
    pub rest : List (Turn I K O L)
    pub is : ts ≡ before ++ Asks line input k outcome ∷ rest

  pub spot : (k : K) (ts : List (Turn I K O L)) → IsIn k (key_in a ts) → Spot k ts
  spot k [] h = absurd h
  spot k (Plain l ∷ ts) h =
      let r = spot k ts h in
      record { before = Plain l ∷ r.before; line = r.line; input = r.input; outcome = r.outcome; rest = r.rest; is = ap (λ us. Plain l ∷ us) r.is }
  spot k (Asks l x k' o ∷ ts) h =
      ⊎_elim
      (λ (e : k' ≡ k). record { before = []; line = l; input = x; outcome = o; rest = ts; is = ap (λ z. Asks l x z o ∷ ts) e })
      (λ t. let r = spot k ts t in record { before = Asks l x k' o ∷ r.before; line = r.line; input = r.input; outcome = r.outcome; rest = r.rest; is = ap (λ us. Asks l x k' o ∷ us) r.is })
      h

  pub record Earlier (k : K) (ts : List (Turn I K O L)) (ks : List K) : Type 0 where
    pub at : Spot k ts
    pub keys : key_in a at.before ≡ ks

  earlier_back : Laws a → (k : K) (ts : List (Turn I K O L)) (ks : List K) → earlier_in a k ts ≡ Some ks → Earlier k ts ks
  earlier_back laws k [] = λ ks h. absurd (cc)
  earlier_back laws k (Plain l ∷ ts) = λ ks h.
      let e = earlier_back laws k ts ks h in
      let r = e.at in
      record { at = record { before = Plain l ∷ r.before; line = r.line; input = r.input; outcome = r.outcome; rest = r.rest; is = ap (λ us. Plain l ∷ us) r.is }; keys = e.keys }
  earlier_back laws k (Asks l x k' o ∷ ts) =
      go (a.same_key k' k) refl (earlier_in a k ts) (earlier_back laws k ts)
    where
      go : (t : Bool) → a.same_key k' k ≡ t → (u : Option (List K)) → ((ks : List K) → u ≡ Some ks → Earlier k ts ks) → (ks : List K) → cond t (Some []) (put_before a k' u) ≡ Some ks → Earlier k (Asks l x k' o ∷ ts) ks
      go true e u f ks h = record { at = record { before = []; line = l; input = x; outcome = o; rest = ts; is = ap (λ z. Asks l x z o ∷ ts) (laws.same_key k' k e) }; keys = cc }
      go false e None f ks h = absurd (cc)
      go false e (Some us) f ks h =
          let p = f us refl in
          let r = p.at in
          let q : k' ∷ us ≡ ks = cc in
          record { at = record { before = Asks l x k' o ∷ r.before; line = r.line; input = r.input; outcome = r.outcome; rest = r.rest; is = ap (λ vs. Asks l x k' o ∷ vs) r.is }; keys = ap (λ vs. k' ∷ vs) p.keys ∙ q }

  pub record Found (k : K) (ss : List (Option (List (Turn I K O L)))) (ks : List K) : Type 0 where
    pub session : ℕ
    pub script : List (Turn I K O L)
    pub there : slice_get ss session ≡ Some (Some script)
    pub earlier : Earlier k script ks

  pub found : Laws a → (k : K) (ss : List (Option (List (Turn I K O L)))) (ks : List K) → earlier_among a k ss ≡ Some ks → Found k ss ks
  found laws k [] = λ ks h. absurd (cc)
  found laws k (s ∷ ss) =
      go s (earlier_in a k (turns_of a s)) refl (earlier_among a k ss) (found laws k ss)
    where
      go : (s : Option (List (Turn I K O L))) (u : Option (List K)) → earlier_in a k (turns_of a s) ≡ u → (v : Option (List K)) → ((ks : List K) → v ≡ Some ks → Found k ss ks) → (ks : List K) → or_else a u v ≡ Some ks → Found k (s ∷ ss) ks
      go s None e v f ks h =
          let r = f ks h in
          record { session = suc r.session; script = r.script; there = r.there; earlier = r.earlier }
      go None (Some us) e v f ks h = absurd (cc)
      go (Some ts) (Some us) e v f ks h =
          record { session = 0; script = ts; there = refl; earlier = earlier_back laws k ts ks (e ∙ h) }
