-- What stands at the slots 1, 2, .. without a gap, before what stands ahead of it.
use Rattle.std.proofs.Common.{◌≡◌, ◌≢◌, ℕ, zero, suc, ◌+◌, ◌-◌, ◌<◌, ◌≤◌, List, [], ◌∷◌, ◌++◌, length, Bool, true, false, Option, Some, None, is_some, refl, sym, ap, ◌∙◌, subst, ⊎_elim, arith, cond}
use Rattle.std.specs.List.{enumerate_from, slice_get}
use Rattle.std.specs.Ordering.{MatchOrdering, nat_cmp, is_eq}
use Rattle.std.specs.declared.cmp.Ordering.{Ordering}
use Rattle.std.specs.declared.cmp.Ordering.TheVariants.{Less, Equal, Greater}
use Rattle.std.proofs.lemmas.Bool.{cases_eq, cases_lt, true≢false}
use Rattle.std.proofs.lemmas.Cmp.{ranked}
use Rattle.std.proofs.lemmas.List.{append_assoc, length-append}
use Rattle.std.proofs.lemmas.List.FromFn.{length-enumerate_from}
use Rattle.std.specs.Prelude.{Result, Ok, Err, OnOk, OnErr, ◌⊎◌}
use Rattle.ballot.specs.declared.slot.TheConstants.{LAST_SLOT}
use Rattle.replica.specs.Replicas.{is_decided, IsAhead, AreSlots}
use Rattle.ballot.specs.Slots.{at_slot, with_slot}
use Rattle.replica.specs.Parts.{with_decided}
use Rattle.replica.proofs.Slots.{same_slot, other_slot, either, at_slot-append, at_slot-with_other, slots_kept}

pub on_ok_of : {T E P : Type 0} (r : Result T E) → P → OnOk r P
on_ok_of (Ok x) p = p
on_ok_of (Err e) p = tt

pub on_err_of : {T E P : Type 0} (r : Result T E) → P → OnErr r P
on_err_of (Ok x) p = tt
on_err_of (Err e) p = p

below : (s t : ℕ) → s < t → nat_cmp s t ≡ Less
below s t lt =
    go (nat_cmp s t) (ranked s t (nat_cmp s t) refl)
  where
    go : (o : Ordering) → MatchOrdering o (s < t) (s ≡ t) (t < s) → o ≡ Less
    go Less h = refl
    go Equal h = absurd (omega (arith, lt, h))
    go Greater h = absurd (omega (arith, lt, h))

above : (s t : ℕ) → t < s → nat_cmp s t ≡ Greater
above s t gt =
    go (nat_cmp s t) (ranked s t (nat_cmp s t) refl)
  where
    go : (o : Ordering) → MatchOrdering o (s < t) (s ≡ t) (t < s) → o ≡ Greater
    go Less h = absurd (omega (arith, gt, h))
    go Equal h = absurd (omega (arith, gt, h))
    go Greater h = refl

module _ {X : Type 0} where
  numbered-append : (n : ℕ) (xs ys : List X) → enumerate_from n (xs ++ ys) ≡ enumerate_from n xs ++ enumerate_from (n + length xs) ys
  numbered-append n [] ys = ap (λ m. enumerate_from m ys) (omega arith)
  numbered-append n (x ∷ xs) ys =
      let same : (n + 1) + length xs ≡ n + length (x ∷ xs) = omega arith in
      ap (λ es. (n, x) ∷ es) (numbered-append (n + 1) xs ys ∙ ap (λ m. enumerate_from (n + 1) xs ++ enumerate_from m ys) same)

  -- what stands at a slot of the front
  at_front : (n k : ℕ) (xs : List X) → at_slot (n + k) (enumerate_from n xs) ≡ slice_get xs k
  at_front n k [] = refl
  at_front n zero (x ∷ xs) =
      let same : n + 0 ≡ n = omega arith in
      rw (same, same_slot n) refl
  at_front n (suc k) (x ∷ xs) =
      let other : n + suc k ≢ n = λ p. absurd (omega (arith, p)) in
      let same : n + suc k ≡ (n + 1) + k = omega arith in
      rw (other_slot n (n + suc k) other) (ap (λ s. at_slot s (enumerate_from (n + 1) xs)) same ∙ at_front (n + 1) k xs)

  pub at_either : (s : ℕ) (front : List X) (ahead : List (ℕ × X)) → 1 ≤ s → at_slot s (enumerate_from 1 front ++ ahead) ≡ either (slice_get front (s - 1)) (at_slot s ahead)
  at_either s front ahead low =
      let same : 1 + (s - 1) ≡ s = omega (arith, low) in
      at_slot-append s (enumerate_from 1 front) ahead
      ∙ ap (λ (o : Option X). either o (at_slot s ahead)) (ap (λ t. at_slot t (enumerate_from 1 front)) (sym same) ∙ at_front 1 (s - 1) front)

  no_either : (a b : Option X) → is_some (either a b) ≡ false → (is_some a ≡ false) × (is_some b ≡ false)
  no_either None b h = (refl, h)
  no_either (Some x) b h = absurd (true≢false h)

  pub past : (xs : List X) (k : ℕ) → is_some (slice_get xs k) ≡ false → length xs ≤ k
  past [] k h = omega arith
  past (x ∷ xs) zero h = absurd (true≢false h)
  past (x ∷ xs) (suc k) h = let rest : length xs ≤ k = past xs k h in omega (arith, rest)

  -- what comes after the front goes after it
  past_front : (n s : ℕ) (x : X) (xs : List X) (es : List (ℕ × X)) → n + length xs ≤ s → with_slot s x (enumerate_from n xs ++ es) ≡ enumerate_from n xs ++ with_slot s x es
  past_front n s x [] es h = refl
  past_front n s x (y ∷ ys) es h =
      let high : (n + 1) + length ys ≤ s = omega (arith, h) in
      let greater : nat_cmp s n ≡ Greater = above s n (omega (arith, h)) in
      rw greater (ap (λ fs. (n, y) ∷ fs) (past_front (n + 1) s x ys es high))

  -- and before all that is ahead
  before_all : (s : ℕ) (x : X) (es : List (ℕ × X)) → IsAhead s es → with_slot s x es ≡ (s, x) ∷ es
  before_all s x [] h = refl
  before_all s x (e ∷ es) h =
      let first : is_decided e.0 (e ∷ es) ≡ true = rw (same_slot e.0) refl in
      rw (below s e.0 (h e.0 first)) refl

  -- a slot without a decision is after the front
  pub behind_front : (s : ℕ) (front : List X) (ahead : List (ℕ × X)) → 1 ≤ s → is_decided s (enumerate_from 1 front ++ ahead) ≡ false → (length front < s) × (is_decided s ahead ≡ false)
  behind_front s front ahead low free =
      let none = no_either (slice_get front (s - 1)) (at_slot s ahead) (ap is_some (sym (at_either s front ahead low)) ∙ free) in
      let few : length front ≤ s - 1 = past front (s - 1) none.0 in
      (omega (arith, few, low), none.1)

  -- ahead of n, and not next to it
  further : (n : ℕ) (es : List (ℕ × X)) → IsAhead n es → is_decided (n + 1) es ≡ false → IsAhead (n + 1) es
  further n es h none s here =
      let low : n < s = h s here in
      ⊎_elim
      (λ (e : s ≡ n + 1). absurd (true≢false (sym (subst (λ t. is_decided t es ≡ true) e here) ∙ none)))
      (λ (ne : s ≢ n + 1). beyond low ne)
      (cases_eq s (n + 1))
    where
      beyond : n < s → s ≢ n + 1 → n + 1 < s
      beyond low ne =
          ⊎_elim (λ (l : n + 1 < s). l) (λ (l : s ≤ n + 1). absurd (ne (omega (arith, l, low)))) (cases_lt (n + 1) s)

  in_front : (s : ℕ) (x : X) (front : List X) (es : List (ℕ × X)) → s ≡ 1 + length front → enumerate_from 1 front ++ (s, x) ∷ es ≡ enumerate_from 1 (front ++ x ∷ []) ++ es
  in_front s x front es at =
      sym (append_assoc (enumerate_from 1 front) ((s, x) ∷ []) es)
      ∙ ap (λ fs. fs ++ es) (ap (λ t. enumerate_from 1 front ++ (t, x) ∷ []) at ∙ sym (numbered-append 1 front (x ∷ [])))

  length-push : (xs : List X) (x : X) → length (xs ++ x ∷ []) ≡ length xs + 1
  length-push [] x = refl
  length-push (y ∷ ys) x = let rest = length-push ys x in omega (arith, rest)

  -- a decision for the slot after the front goes to the front
  pub front_grows : (s : ℕ) (x : X) (front : List X) (ahead : List (ℕ × X)) → s ≡ 1 + length front → is_decided s (enumerate_from 1 front ++ ahead) ≡ false → IsAhead (length front) ahead
      → with_slot s x (enumerate_from 1 front ++ ahead) ≡ enumerate_from 1 (front ++ x ∷ []) ++ ahead
  front_grows s x front ahead at free h =
      let low : 1 ≤ s = omega (arith, at) in
      let far : IsAhead s ahead = subst (λ n. IsAhead n ahead) (omega (arith, at)) (further (length front) ahead h (subst (λ t. is_decided t ahead ≡ false) (omega (arith, at)) (behind_front s front ahead low free).1)) in
      past_front 1 s x front ahead (omega (arith, at))
      ∙ ap (λ es. enumerate_from 1 front ++ es) (before_all s x ahead far)
      ∙ in_front s x front ahead at

  pub front_is_ahead : (s : ℕ) (x : X) (front : List X) (ahead : List (ℕ × X)) → s ≡ 1 + length front → is_decided s (enumerate_from 1 front ++ ahead) ≡ false → IsAhead (length front) ahead
      → IsAhead (length (front ++ x ∷ [])) ahead
  front_is_ahead s x front ahead at free h =
      let low : 1 ≤ s = omega (arith, at) in
      subst (λ n. IsAhead n ahead) (sym (length-push front x)) (further (length front) ahead h (subst (λ t. is_decided t ahead ≡ false) (omega (arith, at)) (behind_front s front ahead low free).1))

  -- another one stays ahead of it
  pub ahead_grows : (s : ℕ) (x : X) (front : List X) (ahead : List (ℕ × X)) → 1 ≤ s → is_decided s (enumerate_from 1 front ++ ahead) ≡ false
      → with_slot s x (enumerate_from 1 front ++ ahead) ≡ enumerate_from 1 front ++ with_slot s x ahead
  ahead_grows s x front ahead low free = let far = (behind_front s front ahead low free).0 in past_front 1 s x front ahead (omega (arith, far))

  pub ahead_is_ahead : (s n : ℕ) (x : X) (ahead : List (ℕ × X)) → n < s → IsAhead n ahead → IsAhead n (with_slot s x ahead)
  ahead_is_ahead s n x ahead far h t here =
      ⊎_elim
      (λ (e : t ≡ s). subst (λ m. n < m) (sym e) far)
      (λ (ne : t ≢ s). h t (sym (ap is_some (at_slot-with_other s t x ahead ne)) ∙ here))
      (cases_eq t s)

  -- the first of those ahead moves to the front
  pub first_moves : (p : ℕ × X) (front : List X) (rest : List (ℕ × X)) → p.0 ≡ 1 + length front → enumerate_from 1 (front ++ p.1 ∷ []) ++ rest ≡ enumerate_from 1 front ++ p ∷ rest
  first_moves p front rest at = sym (in_front p.0 p.1 front rest at)

  pub rest_is_ahead : (p : ℕ × X) (front : List X) (rest : List (ℕ × X)) → p.0 ≡ 1 + length front → IsAhead (length front) (p ∷ rest) → at_slot p.0 rest ≡ None → IsAhead (length (front ++ p.1 ∷ [])) rest
  rest_is_ahead p front rest at h gone =
      let far : IsAhead (length front) rest = λ t here. h t (still t here) in
      subst (λ n. IsAhead n rest) (sym (length-push front p.1)) (further (length front) rest far (subst (λ t. is_decided t rest ≡ false) (omega (arith, at)) (ap is_some gone)))
    where
      still : (t : ℕ) → is_decided t rest ≡ true → is_decided t (p ∷ rest) ≡ true
      still t here =
          go (is_eq (nat_cmp t p.0))
        where
          go : (b : Bool) → is_some (cond b (Some p.1) (at_slot t rest)) ≡ true
          go true = refl
          go false = here

  -- the front's, else that ahead
  pub get_front : (s : ℕ) (x : X) (front : List X) (ahead : List (ℕ × X)) → 1 ≤ s → slice_get front (s - 1) ≡ Some x → Some x ≡ at_slot s (enumerate_from 1 front ++ ahead)
  get_front s x front ahead low here = sym (at_either s front ahead low ∙ ap (λ (o : Option X). either o (at_slot s ahead)) here)

  pub get_ahead : (s : ℕ) (front : List X) (ahead : List (ℕ × X)) → 1 ≤ s → slice_get front (s - 1) ≡ None → at_slot s ahead ≡ at_slot s (enumerate_from 1 front ++ ahead)
  get_ahead s front ahead low here = sym (at_either s front ahead low ∙ ap (λ (o : Option X). either o (at_slot s ahead)) here)

  pub how_many : (front : List X) (ahead : List (ℕ × X)) → length front + length ahead ≡ length (enumerate_from 1 front ++ ahead)
  how_many front ahead = sym (length-append (enumerate_from 1 front) ahead ∙ ap (λ n. n + length ahead) (length-enumerate_from 1 front))

  -- the first of a list is that of its parts
  first_is : (p : ℕ × X) (s : ℕ) (x : X) (all rest : List (ℕ × X)) → all ≡ p ∷ rest → slice_get all 0 ≡ Some (s, x) → p.0 ≡ s
  first_is p s x all rest parts first =
      let same : Some p ≡ Some (s, x) = sym (ap (λ (es : List (ℕ × X)). slice_get es 0) parts) ∙ first in
      let inner : p ≡ (s, x) = cc same in
      ap (λ (q : ℕ × X). q.0) inner

  pub moves : (p : ℕ × X) (s : ℕ) (x : X) (front : List X) (all rest : List (ℕ × X)) → all ≡ p ∷ rest → slice_get all 0 ≡ Some (s, x) → s ≡ 1 + length front → enumerate_from 1 (front ++ p.1 ∷ []) ++ rest ≡ enumerate_from 1 front ++ all
  moves p s x front all rest parts first at = first_moves p front rest (first_is p s x all rest parts first ∙ at) ∙ ap (λ es. enumerate_from 1 front ++ es) (sym parts)

  pub left_ahead : (p : ℕ × X) (s : ℕ) (x : X) (front : List X) (all rest : List (ℕ × X)) → all ≡ p ∷ rest → slice_get all 0 ≡ Some (s, x) → s ≡ 1 + length front → IsAhead (length front) all → at_slot p.0 rest ≡ None
      → IsAhead (length (front ++ p.1 ∷ [])) rest
  left_ahead p s x front all rest parts first at h gone = rest_is_ahead p front rest (first_is p s x all rest parts first ∙ at) (subst (λ es. IsAhead (length front) es) parts h) gone

  -- whether a decision was kept or not, slots stay slots
  pub slots_still : {T E : Type 0} (s : ℕ) (x : X) (old new : List (ℕ × X)) (r : Result T E) → OnOk r (new ≡ with_slot s x old) → OnErr r ((new ≡ with_slot s x old) ⊎ (new ≡ old))
      → s ≤ LAST_SLOT → is_decided s old ≡ false → AreSlots old → AreSlots new
  slots_still s x old new r ok err low free slots =
      go r ok err
    where
      grown : new ≡ with_slot s x old → AreSlots new
      grown same =
          let new_is : new ≡ with_decided s x old = same ∙ rw free refl in
          subst (AreSlots {X = X}) (sym new_is) (slots_kept s x old low slots)

      go : {T E : Type 0} (r : Result T E) → OnOk r (new ≡ with_slot s x old) → OnErr r ((new ≡ with_slot s x old) ⊎ (new ≡ old)) → AreSlots new
      go (Ok y) ok err = grown ok
      go (Err e) ok err = ⊎_elim (λ (same : new ≡ with_slot s x old). grown same) (λ (same : new ≡ old). subst (AreSlots {X = X}) (sym same) slots) err
