-- Which of a session's entries are answered, counted from the first.
use Rattle.std.proofs.Common.{◌≡◌, ◌⊎◌, ◌∙◌, ℕ, zero, suc, ◌<◌, ◌≤◌, length, List, [], ◌∷◌, ◌++◌, Bool, true, false, Option, Some, None, refl, sym, ap, subst, inl, inr, arith, set, take}
use Rattle.std.specs.Prelude.{slice_get, ◌&&◌}
use Rattle.std.specs.List.{list_all}
use Rattle.std.proofs.lemmas.Bool.{true≢false, and_parts, and_from}
use Rattle.maildrop.specs.CommandId.{CommandId}
use Rattle.maildrop.specs.Ticket.{Ticket}
use Rattle.node.specs.declared.log.NodeLog.{NodeLog}
use Rattle.session.specs.declared.transcript.Asked.{Asked}
use Rattle.session.specs.declared.transcript.Transcript.{Transcript}
use Rattle.audit.specs.Answered.{has_answer_at, is_answered_by, needs_no_more, are_answered, AreAnswered}
use Rattle.audit.specs.Names.{with_key, entry_key, entry_keys}
use Rattle.audit.specs.Nodes.{Replayed}
use Rattle.audit.specs.Records.{place_of}

and_true : (t : Bool) → (t && true) ≡ t
and_true true = refl
and_true false = refl

and_assoc : (s t u : Bool) → (s && (t && u)) ≡ ((s && t) && u)
and_assoc true t u = refl
and_assoc false t u = refl

both_keys : (f : CommandId → Bool) (o : Option CommandId) (ids : List CommandId) → list_all f (with_key o ids) ≡ (needs_no_more f o && list_all f ids)
both_keys f None ids = refl
both_keys f (Some id) ids = refl

pub not_true : (t : Bool) → (t ≡ true → ⊥) → t ≡ false
not_true true h = absurd (h refl)
not_true false h = refl

-- what stands in a list if one is set
pub set_got : {X : Type 0} (xs : List X) (place k : ℕ) (later x : X) → slice_get (set xs place later) k ≡ Some x → ((later ≡ x) × (k ≡ place)) ⊎ (slice_get xs k ≡ Some x)
set_got [] place k later x e = absurd (cc)
set_got (y ∷ xs) zero zero later x e = inl (cc, refl)
set_got (y ∷ xs) zero (suc k) later x e = inr e
set_got (y ∷ xs) (suc place) zero later x e = inr e
set_got (y ∷ xs) (suc place) (suc k) later x e = elim (set_got xs place k later x e) [ inl p ↦ inl (p.0, ap suc p.1) | inr q ↦ inr q ]

pub set_length : {X : Type 0} (xs : List X) (place : ℕ) (later : X) → length (set xs place later) ≡ length xs
set_length [] place later = refl
set_length (x ∷ xs) zero later = refl
set_length (x ∷ xs) (suc place) later = ap suc (set_length xs place later)

module _ {A : Type 0} where
  -- one entry more
  pub one_more : (f : CommandId → Bool) (xs : List (Asked A)) (j : ℕ) (e : Asked A) → slice_get xs j ≡ Some e → are_answered f (suc j) xs ≡ (are_answered f j xs && needs_no_more f (entry_key e))
  one_more f [] j e h = absurd (cc)
  one_more f (y ∷ ys) zero e h =
      let same : y ≡ e = cc in
      both_keys f (entry_key y) [] ∙ and_true (needs_no_more f (entry_key y)) ∙ ap (λ z. needs_no_more f (entry_key z)) same
  one_more f (y ∷ ys) (suc j) e h =
      both_keys f (entry_key y) (entry_keys (take (suc j) ys))
      ∙ ap (λ t. needs_no_more f (entry_key y) && t) (one_more f ys j e h)
      ∙ and_assoc (needs_no_more f (entry_key y)) (are_answered f j ys) (needs_no_more f (entry_key e))
      ∙ ap (λ t. t && needs_no_more f (entry_key e)) (sym (both_keys f (entry_key y) (entry_keys (take j ys))))

  -- if so many are answered, fewer are
  pub fewer : (f : CommandId → Bool) (xs : List (Asked A)) (j k : ℕ) → j ≤ k → are_answered f k xs ≡ true → are_answered f j xs ≡ true
  fewer f [] zero k less h = refl
  fewer f [] (suc j) k less h = refl
  fewer f (y ∷ ys) zero k less h = refl
  fewer f (y ∷ ys) (suc j) zero less h = absurd (omega (arith, less))
  fewer f (y ∷ ys) (suc j) (suc k) less h =
      let within : j ≤ k = omega (arith, less) in
      let both = and_parts (needs_no_more f (entry_key y)) (list_all f (entry_keys (take k ys))) (sym (both_keys f (entry_key y) (entry_keys (take k ys))) ∙ h) in
      both_keys f (entry_key y) (entry_keys (take j ys)) ∙ and_from (needs_no_more f (entry_key y)) (list_all f (entry_keys (take j ys))) both.0 (fewer f ys j k within both.1)

  pub goes_on : (f : CommandId → Bool) (xs : List (Asked A)) (j : ℕ) (e : Asked A) → slice_get xs j ≡ Some e → are_answered f j xs ≡ true → needs_no_more f (entry_key e) ≡ true → are_answered f (suc j) xs ≡ true
  goes_on f xs j e at so_far its = one_more f xs j e at ∙ and_from (are_answered f j xs) (needs_no_more f (entry_key e)) so_far its

  pub stops_at : (f : CommandId → Bool) (xs : List (Asked A)) (j end : ℕ) (e : Asked A) → slice_get xs j ≡ Some e → j < end → needs_no_more f (entry_key e) ≡ false → are_answered f end xs ≡ false
  stops_at f xs j end e at less its =
      not_true (are_answered f end xs) (λ all. true≢false (sym (and_parts (are_answered f j xs) (needs_no_more f (entry_key e)) (sym (one_more f xs j e at) ∙ fewer f xs (suc j) end less all)).1 ∙ its))

  pub known_more : (f : CommandId → Bool) (ts : List (Transcript A)) (counts : List ℕ) (i known : ℕ) (t : Transcript A) → AreAnswered f ts counts → slice_get ts i ≡ Some t → are_answered f known t.asked ≡ true → AreAnswered f ts (set counts i known)
  known_more f ts counts i known t h at all = record {
    count = set_length counts i known ∙ h.count;
    each = λ i' t' known' at' its. elim (set_got counts i i' known known' its) [
      | inl p ↦ subst (λ k. are_answered f k t'.asked ≡ true) p.0 (subst (λ (u : Transcript A). are_answered f known u.asked ≡ true) (same_some t t' (sym at ∙ ap (slice_get ts) (sym p.1) ∙ at')) all)
      | inr q ↦ h.each i' t' known' at' q
    ];
  }
    where
      same_some : (x y : Transcript A) → Some x ≡ Some y → x ≡ y
      same_some x y e = cc

module _ {A : Type 0} where
  -- the replay of the node that got a command
  home_is : (logs : List (NodeLog A)) (id : CommandId) (k node : ℕ) (ticket : Ticket) → k ≡ place_of node logs → node ≡ ticket.node → ticket ≡ id.ticket → k ≡ place_of id.ticket.node logs
  home_is logs id k node ticket place its is = place ∙ ap (λ n. place_of n logs) (its ∙ ap (λ (t : Ticket). t.node) is)

  pub answered_at : (logs : List (NodeLog A)) (replays : List (Replayed A)) (id : CommandId) (k node : ℕ) (ticket : Ticket) (found : Option (Replayed A)) → k ≡ place_of node logs → node ≡ ticket.node → ticket ≡ id.ticket → slice_get replays k ≡ found
      → has_answer_at id found ≡ is_answered_by logs replays id
  answered_at logs replays id k node ticket found place its is got =
      ap (has_answer_at id) (sym got) ∙ ap (λ m. has_answer_at id (slice_get replays m)) (home_is logs id k node ticket place its is)

-- what holds of each item, once one is added
pub pushed : {Y : Type 0} (P : ℕ → Y → Type 0) (ys : List Y) (y : Y) → ((k : ℕ) (v : Y) → slice_get ys k ≡ Some v → P k v) → P (length ys) y → (k : ℕ) (v : Y) → slice_get (ys ++ y ∷ []) k ≡ Some v → P k v
pushed P [] y each new zero v e =
    let same : y ≡ v = cc in
    subst (P 0) same new
pushed P [] y each new (suc k) v e = absurd (cc)
pushed P (z ∷ ys) y each new zero v e = each 0 v e
pushed P (z ∷ ys) y each new (suc k) v e = pushed (λ i. P (suc i)) ys y (λ i w at. each (suc i) w at) new k v e

pub nothing : {Y : Type 0} (P : ℕ → Y → Type 0) (ys : List Y) → ys ≡ [] → (k : ℕ) (v : Y) → slice_get ys k ≡ Some v → P k v
nothing P [] e k v at = absurd (cc)
nothing P (y ∷ ys) e k v at = absurd (cc)

pub pushed_onto : {Y : Type 0} (P : ℕ → Y → Type 0) (ys now : List Y) (y : Y) (n : ℕ) → length ys ≡ n → now ≡ ys ++ y ∷ [] → ((k : ℕ) (v : Y) → slice_get ys k ≡ Some v → P k v) → P n y → (k : ℕ) (v : Y) → slice_get now k ≡ Some v → P k v
pushed_onto P ys now y n count is each new k v at = pushed P ys y each (subst (λ m. P m y) (sym count) new) k v (ap (λ zs. slice_get zs k) (sym is) ∙ at)
