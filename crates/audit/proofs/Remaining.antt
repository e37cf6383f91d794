-- How many inputs are left to be placed.
use Rattle.std.proofs.Common.{◌≡◌, ◌∙◌, ℕ, suc, ◌-◌, ◌<◌, ◌≤◌, length, List, [], ◌∷◌, Bool, true, false, Option, Some, None, refl, sym, ap, subst, ⊎_elim, arith}
use Rattle.std.specs.Prelude.{slice_get, ◌||◌}
use Rattle.std.proofs.lemmas.Bool.{true≢false, cases_lt}
use Rattle.ballot.specs.Lists.{IsIn}
use Rattle.node.specs.declared.log.NodeLog.{NodeLog}
use Rattle.session.specs.declared.transcript.Transcript.{Transcript}
use Rattle.audit.specs.Case.{Case, next}
use Rattle.audit.specs.Laws.{Laws}
use Rattle.audit.specs.Nodes.{counts_of}
use Rattle.audit.specs.Placing.{is_met, can_place, IsPlacing}
use Rattle.audit.specs.Placings.{IsPlaced, IsMoved, HasGone, HavePassed}
use Rattle.audit.specs.Records.{case_of, inputs_in, places_from}
use Rattle.audit.specs.declared.placing.Placing.{Placing}
use Rattle.audit.proofs.Basics.{IsBelow, put_each}
use Rattle.audit.proofs.RealLaws.{real_laws}
use Rattle.audit.proofs.Settled.{total, total_below, total_up, can_below}

module _ {S I E K O L : Type 0} (a : Case S I E K O L) (laws : Laws a) where
  -- no more is placed than there is
  pub placing_below : (order : List ℕ) (p : ℕ → ℕ) → IsPlacing a order p → IsBelow p (λ n. length (a.logs n))
  placing_below [] p e = subst (λ q. IsBelow q (λ n. length (a.logs n))) (sym e) (λ n. omega arith)
  placing_below (n ∷ ns) p (q, steps, can, e) =
      subst (λ r. IsBelow r (λ n. length (a.logs n))) (sym e) (put_each (λ m v. v ≤ length (a.logs m)) q n (suc (q n)) (can_below a q n can) (placing_below ns q steps))

  in_nodes : (p : ℕ → ℕ) (n : ℕ) → can_place a p n ≡ true → IsIn n a.nodes
  in_nodes p n =
      go (next a n (p n)) refl
    where
      go : (o : Option I) → next a n (p n) ≡ o → is_met a p n o ≡ true → IsIn n a.nodes
      go None e h = absurd (true≢false (sym h))
      go (Some x) e h = laws.there n (p n) x e

  placing_counts : (order : List ℕ) (p : ℕ → ℕ) → IsPlacing a order p → length order ≤ total a.nodes p
  placing_counts [] p e = omega arith
  placing_counts (n ∷ ns) p (q, steps, can, e) =
      let before = placing_counts ns q steps in
      let up = total_up a.nodes q n (in_nodes q n can) in
      let same = ap (total a.nodes) e in
      omega (arith, before, up, same)

  pub no_more : (order : List ℕ) (p : ℕ → ℕ) → IsPlacing a order p → length order ≤ total a.nodes (λ n. length (a.logs n))
  no_more order p steps =
      let so_many = placing_counts order p steps in
      let most = total_below a.nodes p (λ n. length (a.logs n)) (placing_below order p steps) in
      omega (arith, so_many, most)

module _ {A : Type 0} where
  abbrev pub inputs_left : List (NodeLog A) → ℕ → ℕ
  inputs_left logs placed = total (places_from 0 logs) (λ n. length (inputs_in (slice_get logs n))) - placed

  -- with one input more fewer are left
  pub fewer_left : (logs : List (NodeLog A)) (transcripts : List (Transcript A)) (new : Placing A) (before : ℕ) → IsPlaced logs transcripts new → before < length new.placements.items → inputs_left logs (length new.placements.items) < inputs_left logs before
  fewer_left logs transcripts new before h more =
      let most = no_more (case_of logs transcripts) (real_laws logs transcripts) h.reached.order _ h.reached.steps in
      let so_many = h.counted in
      omega (arith, most, so_many, more)

module _ {A : Type 0} where
  -- whether anything was placed between two moments
  pub record HasMoved (before now : Placing A) (moved : Bool) : Type 0 where
    pub quiet : moved ≡ false → now ≡ before
    pub busy : moved ≡ true → length before.placements.items < length now.placements.items
    pub grown : length before.placements.items ≤ length now.placements.items

  pub starts : (before : Placing A) → HasMoved before before false
  starts before = record { quiet = λ e. refl; busy = λ e. absurd (true≢false (sym e)); grown = omega arith }

  pub moves : (before now new : Placing A) (moved : Bool) → HasMoved before now moved → length now.placements.items < length new.placements.items → HasMoved before new true
  moves before now new moved h more =
      let so_far = h.grown in
      record { quiet = λ e. absurd (true≢false e); busy = λ e. omega (arith, so_far, more); grown = omega (arith, so_far, more) }

module _ {A : Type 0} (logs : List (NodeLog A)) (transcripts : List (Transcript A)) where
  -- if nothing more comes of a log
  pub has_gone : (before now new : Placing A) (moved : Bool) (n : ℕ) → HasMoved before now moved → IsMoved logs transcripts n now new false → HasGone logs transcripts n before new moved
  has_gone before now new true n h s = subst (λ p. length before.placements.items < length p.placements.items) (sym s.0) (h.busy refl)
  has_gone before now new false n h s = (s.0 ∙ h.quiet refl, s.1)

  pub one_log_more : (before now new : Placing A) (moved gone : Bool) (n : ℕ) → HasMoved before now moved → HasGone logs transcripts n now new gone → HasMoved before new (moved || gone)
  one_log_more before now new true true n h s = moves before now new true h s
  one_log_more before now new false true n h s = moves before now new false h s
  one_log_more before now new true false n h s = subst (λ p. HasMoved before p true) (sym s.0) h
  one_log_more before now new false false n h s = subst (λ p. HasMoved before p false) (sym s.0) h

  -- none of the first logs has an input that can come
  abbrev pub AreStuck : Placing A → Bool → ℕ → Type 0
  AreStuck placing moved count = moved ≡ false → (m : ℕ) → m < count → can_place (case_of logs transcripts) (counts_of placing.replays.items) m ≡ false

  pub one_more_stuck : (now new : Placing A) (moved gone : Bool) (n : ℕ) → AreStuck now moved n → HasGone logs transcripts n now new gone → AreStuck new (moved || gone) (suc n)
  one_more_stuck now new true gone n h s = λ e. absurd (true≢false e)
  one_more_stuck now new false true n h s = λ e. absurd (true≢false e)
  one_more_stuck now new false false n h s = λ e m less.
      ⊎_elim
      (λ (before : m < n). subst (λ p. can_place (case_of logs transcripts) (counts_of p.replays.items) m ≡ false) (sym s.0) (h refl m before))
      (λ (not_before : n ≤ m).
      let same : n ≡ m = omega (arith, less, not_before) in
      subst (λ k. can_place (case_of logs transcripts) (counts_of new.replays.items) k ≡ false) same s.1)
      (cases_lt m n)

  pub have_passed : (before new : Placing A) (moved : Bool) (count n : ℕ) → count ≤ n → HasMoved before new moved → AreStuck new moved n → HavePassed logs transcripts count before new moved
  have_passed before new true count n past h s = h.busy refl
  have_passed before new false count n past h s = (h.quiet refl, λ m less. s refl m (omega (arith, past, less)))
