-- What a node has performed is how the decided order begins, and the decided order only grows.
use Rattle.std.proofs.Common.{◌≡◌, ℕ, ◌-◌, ◌*◌, ◌≤◌, List, [], ◌∷◌, ◌++◌, length, Bool, true, false, Option, Some, None, is_some, refl, sym, ap, ◌∙◌, subst, inl, inr, ⊎_elim, arith, cond, map}
use Rattle.std.specs.List.{filter}
use Rattle.std.specs.Ordering.{nat_cmp, is_eq}
use Rattle.std.specs.Cmp.{nat_cmp_is}
use Rattle.std.specs.declared.cmp.Ordering.TheVariants.{Equal}
use Rattle.std.proofs.lemmas.Bool.{true≢false, ltb-true, lt-ltb}
use Rattle.ballot.specs.Lists.{IsIn}
use Rattle.ballot.specs.Nodes.{count_to}
use Rattle.ballot.specs.declared.pvalue.PValue.{PValue}
use Rattle.ballot.specs.declared.message.Envelope.{Envelope}
use Rattle.leader.proofs.Slots.{at_slot-among}
use Rattle.replica.specs.Replicas.{Rules, ReplicaState, is_decided, first_slots, once, IsFrontOf}
use Rattle.ballot.specs.Slots.{at_slot}
use Rattle.replica.proofs.Slots.{first_slots-same}
use Rattle.runs.specs.Chosen.{asked, voted, is_chosen, chosen, IsChosenBy, IsChosen}
use Rattle.session.specs.Prefix.{IsPrefix}
use Rattle.runs.specs.Decided.{first_gap, decided_order}
use Rattle.runs.proofs.Chosen.{chosen_more}
use Rattle.runs.proofs.Invariant.{Roles, Sound}
use Rattle.runs.proofs.Agree.{agree}
use Rattle.runs.proofs.Gaps.{below_gap, gap_from, front_first}

module _ {X : Type 0} where
  in_filter : (test : X → Bool) (xs : List X) (x : X) → IsIn x (filter test xs) → IsIn x xs × (test x ≡ true)
  in_filter test [] x h = absurd h
  in_filter test (y ∷ xs) x h =
      go (test y) refl (in_filter test xs x) h
    where
      go : (t : Bool) → test y ≡ t → (IsIn x (filter test xs) → IsIn x xs × (test x ≡ true)) → IsIn x (cond t (y ∷ filter test xs) (filter test xs)) → IsIn x (y ∷ xs) × (test x ≡ true)
      go true e ih k = ⊎_elim (λ (q : y ≡ x). (inl q, subst (λ (z : X). test z ≡ true) q e)) (λ t. let r = ih t in (inr r.0, r.1)) k
      go false e ih k = let r = ih k in (inr r.0, r.1)

  filter_in : (test : X → Bool) (xs : List X) (x : X) → IsIn x xs → test x ≡ true → IsIn x (filter test xs)
  filter_in test [] x h t = absurd h
  filter_in test (y ∷ xs) x h t =
      go (test y) refl (filter_in test xs x) h
    where
      go : (b : Bool) → test y ≡ b → (IsIn x xs → test x ≡ true → IsIn x (filter test xs)) → IsIn x (y ∷ xs) → IsIn x (cond b (y ∷ filter test xs) (filter test xs))
      go true e ih k = ⊎_elim (λ q. inl q) (λ j. inr (ih j t)) k
      go false e ih k = ⊎_elim (λ (q : y ≡ x). absurd (true≢false (sym (subst (λ (z : X). test z ≡ true) (sym q) t) ∙ e))) (λ j. ih j t) k

module _ {X Y : Type 0} where
  in_map : (f : X → Y) (xs : List X) (y : Y) → IsIn y (map f xs) → (x : X) × IsIn x xs × (f x ≡ y)
  in_map f [] y h = absurd h
  in_map f (x ∷ xs) y h = ⊎_elim (λ q. (x, inl refl, q)) (λ t. let r = in_map f xs y t in (r.0, inr r.1, r.2)) h

  map_in : (f : X → Y) (xs : List X) (x : X) → IsIn x xs → IsIn (f x) (map f xs)
  map_in f [] x h = absurd h
  map_in f (z ∷ xs) x h = ⊎_elim (λ q. inl (ap f q)) (λ t. inr (map_in f xs x t)) h

-- something stands at the slot of each entry
among-at_slot : {X : Type 0} (s : ℕ) (x : X) (es : List (ℕ × X)) → IsIn (s, x) es → is_decided s es ≡ true
among-at_slot s x [] h = absurd h
among-at_slot {X} s x (e ∷ es) h =
    go (is_eq (nat_cmp s e.0)) refl (among-at_slot s x es) h
  where
    go : (t : Bool) → is_eq (nat_cmp s e.0) ≡ t → (IsIn (s, x) es → is_decided s es ≡ true) → IsIn (s, x) (e ∷ es) → is_some (cond t (Some e.1) (at_slot s es)) ≡ true
    go true q ih k = refl
    go false q ih k =
        ⊎_elim
        (λ (p : e ≡ (s, x)).
        let same : is_eq (nat_cmp s e.0) ≡ true = subst (λ (y : ℕ × X). is_eq (nat_cmp s y.0) ≡ true) (sym p) (ap is_eq (sym (nat_cmp_is s s Equal refl))) in
        absurd (true≢false (sym same ∙ q)))
        ih
        k

some_of : {X : Type 0} (o : Option X) → is_some o ≡ true → (x : X) × (o ≡ Some x)
some_of None e = absurd (true≢false (sym e))
some_of (Some x) e = (x, refl)

module _ {C A : Type 0} where
  -- what stands in the list of chosen commands is chosen
  pub listed_chosen : (size : ℕ) (sent : List (Envelope C A)) (s : ℕ) (c : C) → at_slot s (chosen size sent) ≡ Some c → IsChosen size sent s c
  listed_chosen size sent s c e =
      let x = in_map (λ (p : PValue C). (p.slot, p.command)) (filter (is_chosen size sent) (asked sent)) (s, c) (at_slot-among s c (chosen size sent) e) in
      let p : PValue C = x.0 in
      let y = in_filter (is_chosen size sent) (asked sent) p x.1 in
      let by : IsChosenBy size sent p = (y.0, ltb-true size (2 * count_to size (voted sent p.ballot p.slot)) y.1) in
      let is : p ≡ record { ballot = p.ballot; slot = s; command = c } = λ i. record { ballot = p.ballot; slot = (x.2 i).0; command = (x.2 i).1 } in
      (p.ballot, subst (IsChosenBy size sent) is by)

  -- and what is chosen stands there
  pub chosen_listed : (w : Roles C A) → Sound w → (s : ℕ) (c : C) → IsChosen w.size w.sent s c → at_slot s (chosen w.size w.sent) ≡ Some c
  chosen_listed w i s c h =
      let p : PValue C = record { ballot = h.0; slot = s; command = c } in
      let among : IsIn (s, c) (chosen w.size w.sent) =
      map_in (λ (q : PValue C). (q.slot, q.command)) (filter (is_chosen w.size w.sent) (asked w.sent)) p
      (filter_in (is_chosen w.size w.sent) (asked w.sent) p h.1.0 (lt-ltb w.size (2 * count_to w.size (voted w.sent h.0 s)) h.1.1)) in
      let found = some_of (at_slot s (chosen w.size w.sent)) (among-at_slot s c (chosen w.size w.sent) among) in
      found.1 ∙ ap (λ d. Some d) (agree w i s found.0 c (listed_chosen w.size w.sent s found.0 found.1) h)

module _ {C I R M A : Type 0} (rules : Rules C I R M) where
  -- if all that it keeps is chosen, a replica has performed how the decided order begins
  pub performed_first : (w : Roles C A) → Sound w → (r : ReplicaState C I R M) → IsFrontOf rules r.decisions r → ((s : ℕ) (c : C) → at_slot s r.decisions ≡ Some c → IsChosen w.size w.sent s c) →
      IsPrefix r.performed (decided_order rules w.size w.sent)
  performed_first w i r front known =
      subst (λ xs. IsPrefix xs (decided_order rules w.size w.sent)) (sym same) (front_first rules r.slot_out (chosen w.size w.sent) front.begins (λ s low high. is_there s (front.gapless s low high)))
    where
      here : (s : ℕ) → is_decided s r.decisions ≡ true → at_slot s r.decisions ≡ at_slot s (chosen w.size w.sent)
      here s d = let x = some_of (at_slot s r.decisions) d in x.1 ∙ sym (chosen_listed w i s x.0 (known s x.0 x.1))

      is_there : (s : ℕ) → is_decided s r.decisions ≡ true → is_decided s (chosen w.size w.sent) ≡ true
      is_there s d = ap is_some (sym (here s d)) ∙ d

      same : r.performed ≡ once rules [] (first_slots (r.slot_out - 1) (chosen w.size w.sent))
      same =
          let begins : 1 ≤ r.slot_out = front.begins in
          front.performed ∙ ap (once rules []) (first_slots-same (r.slot_out - 1) r.decisions (chosen w.size w.sent) (λ s low high. here s (front.gapless s low (omega arith))))

  -- the decided order only grows
  pub order_grows : (w : Roles C A) (more : List (Envelope C A)) (later : Roles C A) → Sound later → later.size ≡ w.size → later.sent ≡ w.sent ++ more →
      IsPrefix (decided_order rules w.size w.sent) (decided_order rules later.size later.sent)
  order_grows w more later i same_size same_sent =
      subst (λ xs. IsPrefix xs (decided_order rules later.size later.sent)) (sym same) (front_first rules n now low (λ s l h. is_there s (below_gap (length before) 1 before s l h)))
    where
      before : List (ℕ × C)
      before = chosen w.size w.sent

      now : List (ℕ × C)
      now = chosen later.size later.sent

      n : ℕ
      n = first_gap (length before) 1 before

      low : 1 ≤ n
      low = gap_from (length before) 1 before

      stays : (s : ℕ) (c : C) → IsChosen w.size w.sent s c → IsChosen later.size later.sent s c
      stays s c h = subst (λ k. IsChosen k later.sent s c) (sym same_size) (subst (λ es. IsChosen w.size es s c) (sym same_sent) (chosen_more w.size w.sent more s c h))

      here : (s : ℕ) → is_decided s before ≡ true → at_slot s before ≡ at_slot s now
      here s d = let x = some_of (at_slot s before) d in x.1 ∙ sym (chosen_listed later i s x.0 (stays s x.0 (listed_chosen w.size w.sent s x.0 x.1)))

      is_there : (s : ℕ) → is_decided s before ≡ true → is_decided s now ≡ true
      is_there s d = ap is_some (sym (here s d)) ∙ d

      same : decided_order rules w.size w.sent ≡ once rules [] (first_slots (n - 1) now)
      same = ap (once rules []) (first_slots-same (n - 1) before now (λ s l h. here s (below_gap (length before) 1 before s l (omega arith))))
