-- The least number of a node that has an input left.
use Rattle.std.proofs.Common.{◌≡◌, ◌⊎◌, ◌∙◌, ℕ, suc, ◌<◌, ◌≤◌, min, length, List, Option, Some, None, IfSome, IsSome, refl, sym, ap, subst, inl, inr, ⊎_elim, arith}
use Rattle.std.specs.Prelude.{slice_get, ◌↔◌}
use Rattle.std.proofs.lemmas.Bool.{cases_lt, true≢false}
use Rattle.node.specs.declared.log.NodeLog.{NodeLog}
use Rattle.audit.specs.Left.{IsLeftAt, IsLeast}
use Rattle.audit.specs.Nodes.{Replayed}

-- the lesser of two is one of them
which_min : (i j : ℕ) → ((min i j ≡ i) × (i ≤ j)) ⊎ ((min i j ≡ j) × (j ≤ i))
which_min i j =
    ⊎_elim (λ (less : i < j). inl (omega (arith, less), omega (arith, less))) (λ (more : j ≤ i). inr (omega (arith, more), more)) (cases_lt i j)

module _ {A : Type 0} (logs : List (NodeLog A)) (replays : List (Replayed A)) where
  -- of the first logs none has an input left
  pub record NoneSoFar (count least : ℕ) : Type 0 where
    pub is : least ≡ 255
    pub none : (n other : ℕ) → n < count → IsLeftAt logs replays n other → ⊥

  -- or this is the least number
  pub record OneSoFar (count least : ℕ) : Type 0 where
    pub positive : 1 ≤ least
    pub within : least ≤ 9
    pub node : ℕ
    pub its : IsLeftAt logs replays node least
    pub lower : (n other : ℕ) → n < count → IsLeftAt logs replays n other → least ≤ other

  pub starts_none : NoneSoFar 0 255
  starts_none = record { is = refl; none = λ n other less h. absurd (omega (arith, less)) }

  module _ (count : ℕ) (log : NodeLog A) (replay : Replayed A) (its : slice_get logs count ≡ Some log) (of_it : slice_get replays count ≡ Some replay) where
    same_log : (other : NodeLog A) → slice_get logs count ≡ Some other → log ≡ other
    same_log other e = same_some log other (sym its ∙ e)
      where
        same_some : (x y : NodeLog A) → Some x ≡ Some y → x ≡ y
        same_some x y e = cc

    same_replay : (other : Replayed A) → slice_get replays count ≡ Some other → replay ≡ other
    same_replay other e = same_some replay other (sym of_it ∙ e)
      where
        same_some : (x y : Replayed A) → Some x ≡ Some y → x ≡ y
        same_some x y e = cc

    -- this log's number, if it has an input left
    its_number : (other : ℕ) → IsLeftAt logs replays count other → log.opening.me ≡ other
    its_number other h = ap (λ (l : NodeLog A). l.opening.me) (same_log h.log h.its) ∙ h.me

    not_left : (other : ℕ) → length log.inputs ≤ replay.placed → IsLeftAt logs replays count other → ⊥
    not_left other done h =
        let inputs = ap (λ (l : NodeLog A). length l.inputs) (same_log h.log h.its) in
        let placed = ap (λ (r : Replayed A). r.placed) (same_replay h.replay h.of_it) in
        let left = h.left in
        absurd (omega (arith, done, inputs, placed, left))

    here : (number : ℕ) → number ≡ log.opening.me → replay.placed < length log.inputs → IsLeftAt logs replays count number
    here number is left = record { log = log; replay = replay; its = its; of_it = of_it; me = sym is; left = left }

    -- of one log more, whose number it is if it has an input left
    lower_then : (least number : ℕ) → number ≡ log.opening.me → least ≤ number → ((n other : ℕ) → n < count → IsLeftAt logs replays n other → least ≤ other) → (n other : ℕ) → n < suc count → IsLeftAt logs replays n other → least ≤ other
    lower_then least number is less lower n other within h =
        ⊎_elim
        (λ (before : n < count). lower n other before h)
        (λ (not_before : count ≤ n).
        let same : n ≡ count = omega (arith, within, not_before) in
        let number_is = its_number other (subst (λ k. IsLeftAt logs replays k other) same h) in
        omega (arith, is, less, number_is))
        (cases_lt n count)

    with_left : (least number : ℕ) → number ≡ log.opening.me → 1 ≤ number → number ≤ 9 → replay.placed < length log.inputs → NoneSoFar count least ⊎ OneSoFar count least → OneSoFar (suc count) (min least number)
    with_left least number is positive within left (inl h) =
        let old = h.is in
        let new : number ≡ min least number = omega (arith, old, within) in
        subst (OneSoFar (suc count)) new (record { positive = positive; within = within; node = count; its = here number is left; lower = lower_then number number is (omega arith) (λ n other less k. absurd (h.none n other less k)) })
    with_left least number is positive within left (inr h) =
        ⊎_elim
        (λ (old : (min least number ≡ least) × (least ≤ number)). subst (OneSoFar (suc count)) (sym old.0) (record { positive = h.positive; within = h.within; node = h.node; its = h.its; lower = lower_then least number is old.1 h.lower }))
        (λ (new : (min least number ≡ number) × (number ≤ least)). subst (OneSoFar (suc count)) (sym new.0) (record {
          positive = positive;
          within = within;
          node = count;
          its = here number is left;
          lower = lower_then number number is (omega arith) (λ n other less k. let low = h.lower n other less k in let high = new.1 in omega (arith, low, high));
        }))
        (which_min least number)

    without_left : (least number : ℕ) → number ≡ 255 → length log.inputs ≤ replay.placed → NoneSoFar count least ⊎ OneSoFar count least → NoneSoFar (suc count) (min least number) ⊎ OneSoFar (suc count) (min least number)
    without_left least number is done (inl h) =
        let old = h.is in
        inl (record {
          is = omega (arith, old, is);
          none = λ n other within k.
              ⊎_elim
              (λ (before : n < count). h.none n other before k)
              (λ (not_before : count ≤ n).
              let same : n ≡ count = omega (arith, within, not_before) in
              not_left other done (subst (λ m. IsLeftAt logs replays m other) same k))
              (cases_lt n count);
        })
    without_left least number is done (inr h) =
        let small = h.within in
        let same : least ≡ min least number = omega (arith, is, small) in
        inr (subst (OneSoFar (suc count)) same (record {
          positive = h.positive;
          within = h.within;
          node = h.node;
          its = h.its;
          lower = λ n other within k.
              ⊎_elim
              (λ (before : n < count). h.lower n other before k)
              (λ (not_before : count ≤ n).
              let same : n ≡ count = omega (arith, within, not_before) in
              absurd (not_left other done (subst (λ m. IsLeftAt logs replays m other) same k)))
              (cases_lt n count);
        }))

    -- one log more
    pub least_then : (least number : ℕ) → (replay.placed < length log.inputs → number ≡ log.opening.me) → (replay.placed < length log.inputs → (1 ≤ number) × (number ≤ 9)) → (length log.inputs ≤ replay.placed → number ≡ 255) → NoneSoFar count least ⊎ OneSoFar count least
        → NoneSoFar (suc count) (min least number) ⊎ OneSoFar (suc count) (min least number)
    least_then least number its_own range no_number h =
        ⊎_elim
        (λ (left : replay.placed < length log.inputs). inr (with_left least number (its_own left) (range left).0 (range left).1 left h))
        (λ (done : length log.inputs ≤ replay.placed). without_left least number (no_number done) done h)
        (cases_lt replay.placed (length log.inputs))

  -- of all logs
  pub least_is : (count n least : ℕ) (result : Option ℕ) → count ≤ n → NoneSoFar n least ⊎ OneSoFar n least → (IsSome result ↔ ((1 ≤ least) × (least ≤ 9))) → IfSome result (λ number. number ≡ least) → IsLeast logs replays count result
  least_is count n least None past (inl h) valid value = λ m other within k. h.none m other (omega (arith, within, past)) k
  least_is count n least None past (inr h) valid value = absurd (true≢false (sym (valid.1 (h.positive, h.within))))
  least_is count n least (Some number) past (inl h) valid value =
      let range = (valid.0 refl).1 in
      let old = h.is in
      absurd (omega (arith, range, old))
  least_is count n least (Some number) past (inr h) valid value = (
    (h.node, subst (IsLeftAt logs replays h.node) (sym value) h.its),
    λ m other within k. let low = h.lower m other (omega (arith, within, past)) k in omega (arith, low, value),
  )
