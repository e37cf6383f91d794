-- Unique ids that are read ascend.
use Rattle.std.proofs.Common.{◌≡◌, ℕ, zero, suc, ◌<◌, List, [], ◌∷◌, length, Option, Some, None, Ok, refl, subst, arith, add-one}
use Rattle.std.specs.List.{slice_index}
use Rattle.std.specs.List.Sorted.{IsStrictlyIncreasing}
use Rattle.std.specs.Int.{w64}
use Rattle.std.proofs.lemmas.Bool.{ltb-true, lt-ltb}
use Rattle.ledger.specs.Reading.{◌>>=◌, number_at, is_above, uid_at, uids_from}
use Rattle.ledger.specs.Fitting.{Rises}
use Rattle.ledger.proofs.Steps.{bind_ok, kept_ok, ok_is}

pub uids_rise : (n : ℕ) (last : Option ℕ) (bytes : List ℕ) (x : List ℕ × List ℕ) → uids_from last n bytes ≡ Ok x → Rises last x.0
unfolding uids_from uid_at
uids_rise zero last bytes x e = subst (λ (y : List ℕ × List ℕ). Rises last y.0) (ok_is _ _ e) tt
uids_rise (suc n) last bytes x e =
    let a = bind_ok (uid_at last bytes) (λ first. uids_from (Some first.0) n first.1 >>= λ others. Ok (first.0 ∷ others.0, others.1)) x e in
    let b = bind_ok (uids_from (Some a.0.0) n a.0.1) (λ others. Ok (a.0.0 ∷ others.0, others.1)) x a.2 in
    let above = kept_ok (is_above last) (number_at w64 bytes) a.0 a.1 in
    subst (λ (y : List ℕ × List ℕ). Rises last y.0) (ok_is _ _ b.2) (above.1, uids_rise n (Some a.0.0) a.0.1 b.0 b.1)

rises_at : (last : Option ℕ) (xs : List ℕ) → Rises last xs → (k : ℕ) → suc k < length xs → slice_index xs k < slice_index xs (suc k)
rises_at last [] h k inside = absurd (omega arith)
rises_at last (x ∷ []) h k inside = absurd (omega arith)
rises_at last (x ∷ y ∷ ys) h zero inside = ltb-true x y h.1.0
rises_at last (x ∷ y ∷ ys) h (suc k) inside = rises_at (Some x) (y ∷ ys) h.1 k (omega arith)

ascending-from_rises : (last : Option ℕ) (xs : List ℕ) → Rises last xs → IsStrictlyIncreasing xs
ascending-from_rises last xs h k inside = rw add-one (rises_at last xs h k (omega arith))

pub uids_ascend : (n : ℕ) (bytes : List ℕ) (x : List ℕ × List ℕ) → uids_from None n bytes ≡ Ok x → IsStrictlyIncreasing x.0
uids_ascend n bytes x e = ascending-from_rises None x.0 (uids_rise n None bytes x e)

-- the order, by the place after a place
by_suc : (xs : List ℕ) → IsStrictlyIncreasing xs → (k : ℕ) → suc k < length xs → slice_index xs k < slice_index xs (suc k)
by_suc xs h k inside = rw add-one at (h k (omega arith))

rises-after : (x : ℕ) (xs : List ℕ) → ((k : ℕ) → suc k < length (x ∷ xs) → slice_index (x ∷ xs) k < slice_index (x ∷ xs) (suc k)) → Rises (Some x) xs
rises-after x [] h = tt
rises-after x (y ∷ ys) h = (lt-ltb x y (h 0 (omega arith)), rises-after y ys (λ k inside. h (suc k) (omega arith)))

pub rises_from_ascending : (xs : List ℕ) → IsStrictlyIncreasing xs → Rises None xs
rises_from_ascending [] h = tt
rises_from_ascending (x ∷ xs) h = (refl, rises-after x xs (by_suc (x ∷ xs) h))
