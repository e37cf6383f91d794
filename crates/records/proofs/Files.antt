-- Records one after another.
use Rattle.std.proofs.Common.{◌≡◌, ℕ, zero, suc, ◌+◌, ◌-◌, ◌<◌, ◌≤◌, Bool, true, cond, List, [], ◌∷◌, ◌++◌, length, take, drop, Option, Some, None, refl, sym, ap, subst, ◌∙◌, append_assoc, arith, inl, inr}
use Rattle.std.specs.Int.{w64, to_be_bytes}
use Rattle.std.proofs.lemmas.Bool.{cases_lt, lt-ltb, le-ltb}
use Rattle.std.proofs.lemmas.List.{append-nil, length-append, length-take, length-drop, take-append-drop, take-append-le}
use Rattle.std.proofs.Math.Seq.{take-append-add}
use Rattle.records.specs.declared.place.TheConstants.{LARGEST_PAYLOAD, FRAME}
use Rattle.records.specs.Spelling.{sum_of, spell, spelled, size_of, ArePayloads}
use Rattle.records.specs.Reading.{head_at, record_at, is_cut}
use Rattle.records.specs.Files.{AreBytes, whole_in, IsFront}
use Rattle.records.proofs.Fields.{some_is, found}
use Rattle.records.proofs.Places.{head, head_again, spell_head, record_takes, record_again, length-spell}

pub length-spelled : (salt at : ℕ) (payloads : List (List ℕ)) → length (spelled salt at payloads) ≡ size_of payloads
length-spelled salt at [] = refl
length-spelled salt at (payload ∷ payloads) = omega (arith, length-append (spell salt at payload) (spelled salt (at + (FRAME + length payload)) payloads), length-spell salt at payload, length-spelled salt (at + (FRAME + length payload)) payloads)

pub spelled_more : (salt at : ℕ) (payloads : List (List ℕ)) (payload : List ℕ) (i : ℕ) → i ≡ at + size_of payloads → spelled salt at (payloads ++ payload ∷ []) ≡ spelled salt at payloads ++ spell salt i payload
spelled_more salt at [] payload i e =
    let same : i ≡ at = omega (arith, e) in
    rw same (append-nil (spell salt at payload))
spelled_more salt at (t ∷ payloads) payload i e =
    ap (λ (x : List ℕ). spell salt at t ++ x) (spelled_more salt (at + (FRAME + length t)) payloads payload i (omega (arith, e)))
    ∙ sym (append_assoc (spell salt at t) (spelled salt (at + (FRAME + length t)) payloads) (spell salt i payload))

pub payloads_more : (payloads : List (List ℕ)) (payload : List ℕ) → ArePayloads payloads → length payload ≤ LARGEST_PAYLOAD → ArePayloads (payloads ++ payload ∷ [])
payloads_more [] payload fits lt = (lt, tt)
payloads_more (t ∷ payloads) payload fits lt = (fits.0, payloads_more payloads payload fits.1 lt)

-- if a record stands here something is read
pub not_none : {A : Type 0} (r : Option A) (x : A) → r ≡ Some x → r ≡ None → ⊥
not_none r x some none = absurd cc

pub stands : (salt at : ℕ) (p : List ℕ) (x r : List ℕ) → length p ≤ LARGEST_PAYLOAD → record_at salt at ((spell salt at p ++ x) ++ r) ≡ Some (p, x ++ r)
stands salt at p x r lt = ap (record_at salt at) (append_assoc (spell salt at p) x r) ∙ record_again salt at p (x ++ r) lt

-- bytes are read in one way
pub one_reading : (salt at : ℕ) (ps qs : List (List ℕ)) (r s : List ℕ) (i j : ℕ) → ArePayloads ps → ArePayloads qs → i ≡ at + size_of ps → j ≡ at + size_of qs
    → record_at salt i r ≡ None → record_at salt j s ≡ None → spelled salt at ps ++ r ≡ spelled salt at qs ++ s → (ps ≡ qs) × (r ≡ s)
one_reading salt at [] [] r s i j f g ei ej n m e = (refl, e)
one_reading salt at [] (q ∷ qs) r s i j f g ei ej n m e =
    let here : i ≡ at = omega (arith, ei) in
    let some : record_at salt at r ≡ Some (q, spelled salt (at + (FRAME + length q)) qs ++ s) = ap (record_at salt at) e ∙ stands salt at q (spelled salt (at + (FRAME + length q)) qs) s g.0 in
    absurd (not_none (record_at salt at r) (q, spelled salt (at + (FRAME + length q)) qs ++ s) some (subst (λ (k : ℕ). record_at salt k r ≡ None) here n))
one_reading salt at (p ∷ ps) [] r s i j f g ei ej n m e =
    let here : j ≡ at = omega (arith, ej) in
    let some : record_at salt at s ≡ Some (p, spelled salt (at + (FRAME + length p)) ps ++ r) = ap (record_at salt at) (sym e) ∙ stands salt at p (spelled salt (at + (FRAME + length p)) ps) r f.0 in
    absurd (not_none (record_at salt at s) (p, spelled salt (at + (FRAME + length p)) ps ++ r) some (subst (λ (k : ℕ). record_at salt k s ≡ None) here m))
one_reading salt at (p ∷ ps) (q ∷ qs) r s i j f g ei ej n m e =
    let x = spelled salt (at + (FRAME + length p)) ps in
    let y = spelled salt (at + (FRAME + length q)) qs in
    let same : found (p, x ++ r) ≡ found (q, y ++ s) = sym (stands salt at p x r f.0) ∙ ap (record_at salt at) e ∙ stands salt at q y s g.0 in
    let pair = some_is (p, x ++ r) (q, y ++ s) same in
    let first : p ≡ q = ap (λ (z : List ℕ × List ℕ). z.0) pair in
    let others : x ++ r ≡ y ++ s = ap (λ (z : List ℕ × List ℕ). z.1) pair in
    let moved : x ++ r ≡ spelled salt (at + (FRAME + length p)) qs ++ s = subst (λ (z : List ℕ). x ++ r ≡ spelled salt (at + (FRAME + length z)) qs ++ s) (sym first) others in
    let long : length p ≡ length q = ap length first in
    let rest = one_reading salt (at + (FRAME + length p)) ps qs r s i j f.1 g.1 (omega (arith, ei)) (omega (arith, ej, long)) n m moved in
    (ap (λ (z : List ℕ). z ∷ ps) first ∙ ap (λ (zs : List (List ℕ)). q ∷ zs) rest.0, rest.1)

none_by : {A : Type 0} (r : Option A) → ((x : A) → r ≡ Some x → ⊥) → r ≡ None
none_by None h = refl
none_by (Some x) h = absurd (h x refl)

-- no record stands here if one is cut short
pub front_none : (salt at : ℕ) (bytes : List ℕ) → AreBytes bytes → IsFront salt at bytes → record_at salt at bytes ≡ None
front_none salt at bytes fits front =
    none_by (record_at salt at bytes) (λ x some.
    let taken = record_takes salt at bytes x fits some in
    let all = spell salt at front.payload in
    let rest = drop front.n all in
    let parts : all ≡ (spell salt at x.0 ++ x.1) ++ rest = sym (take-append-drop front.n all) ∙ ap (λ (z : List ℕ). z ++ rest) (sym front.is ∙ taken.0.parts) in
    let once : record_at salt at (all ++ []) ≡ Some (front.payload, []) = record_again salt at front.payload [] front.fits in
    let again : record_at salt at ((spell salt at x.0 ++ x.1) ++ rest) ≡ Some (x.0, x.1 ++ rest) = stands salt at x.0 x.1 rest taken.1 in
    let same : found (front.payload, []) ≡ found (x.0, x.1 ++ rest) = sym once ∙ ap (record_at salt at) (append-nil all ∙ parts) ∙ again in
    let pair = some_is (front.payload, []) (x.0, x.1 ++ rest) same in
    let empty : 0 ≡ length (x.1 ++ rest) = ap (λ (z : List ℕ × List ℕ). length z.1) pair in
    omega (arith, empty, length-append x.1 rest, length-drop front.n all, length-spell salt at front.payload, front.short))

-- and it is seen that it is cut short
pub front_is_cut : (salt at : ℕ) (bytes : List ℕ) → IsFront salt at bytes → is_cut salt at bytes ≡ true
front_is_cut salt at bytes front =
    let all = spell salt at front.payload in
    let long : length bytes ≡ front.n = ap length front.is ∙ omega (arith, length-take front.n all, length-spell salt at front.payload, front.short) in
    elim (cases_lt front.n 12) [
      | inl lt ↦ rw (lt-ltb (length bytes) 12 (omega (arith, long, lt))) refl
      | inr le ↦
          let body = front.payload ++ to_be_bytes w64 (sum_of salt at front.payload) in
          let split : front.n ≡ length (head salt at (length front.payload)) + (front.n - 12) = omega (arith, le) in
          let parts : bytes ≡ head salt at (length front.payload) ++ take (front.n - 12) body =
          front.is ∙ ap (take front.n) (spell_head salt at front.payload) ∙ ap (λ (k : ℕ). take k (head salt at (length front.payload) ++ body)) split
          ∙ take-append-add (head salt at (length front.payload)) body (front.n - 12) in
          let read : head_at salt at bytes ≡ Some (length front.payload, take (front.n - 12) body) = ap (head_at salt at) parts ∙ head_again salt at (length front.payload) (take (front.n - 12) body) front.fits in
          let less : length (take (front.n - 12) body) < length front.payload + 8 = omega (arith, length-take (front.n - 12) body, front.short, le) in
          rw (le-ltb (length bytes) 12 (omega (arith, long, le)), read, lt-ltb (length (take (front.n - 12) body)) (length front.payload + 8) less) refl
    ]

-- the first bytes of records: those that end in them, and a front of another
pub record IsCutOff (salt at n k : ℕ) (ps : List (List ℕ)) : Type 0 where
  pub rest : List ℕ
  pub parts : take n (spelled salt at ps) ≡ spelled salt at (take k ps) ++ rest
  pub front : (i : ℕ) → i ≡ at + size_of (take k ps) → IsFront salt i rest

nothing : (salt at : ℕ) → IsFront salt at []
nothing salt at = record { payload = []; n = 0; fits = omega arith; short = omega arith; is = refl }

take_none : (n : ℕ) → take {A = ℕ} n [] ≡ []
take_none zero = refl
take_none (suc n) = refl

pub cut_off : (salt at n : ℕ) (ps : List (List ℕ)) (k : ℕ) → ArePayloads ps → whole_in n ps ≡ k → IsCutOff salt at n k ps
cut_off salt at n [] k fits e =
    let none : take {A = List ℕ} k [] ≡ [] = subst (λ (j : ℕ). take {A = List ℕ} j [] ≡ []) e refl in
    record { rest = []; parts = rw none (take_none n); front = λ i here. nothing salt i }
cut_off salt at n (p ∷ ps) k fits e =
    let first = spell salt at p in
    let others = spelled salt (at + (FRAME + length p)) ps in
    elim (cases_lt n (FRAME + length p)) [
      | inl lt ↦
          let zero-is : 0 ≡ k = sym (ap (λ (b : Bool). cond b 0 (suc (whole_in (n - (FRAME + length p)) ps))) (lt-ltb n (FRAME + length p) lt)) ∙ e in
          subst (λ (j : ℕ). IsCutOff salt at n j (p ∷ ps)) zero-is (record {
            rest = take n first;
            parts = take-append-le n first others (omega (arith, length-spell salt at p, lt));
            front = λ i here. record { payload = p; n = n; fits = fits.0; short = lt; is = ap (λ (j : ℕ). take n (spell salt j p)) (omega (arith, here)) };
          })
      | inr le ↦
          let m = n - (FRAME + length p) in
          let more : suc (whole_in m ps) ≡ k = sym (ap (λ (b : Bool). cond b 0 (suc (whole_in m ps))) (le-ltb n (FRAME + length p) le)) ∙ e in
          let rest = cut_off salt (at + (FRAME + length p)) m ps (whole_in m ps) fits.1 refl in
          let split : n ≡ length first + m = omega (arith, length-spell salt at p, le) in
          let parts : take n (first ++ others) ≡ (first ++ spelled salt (at + (FRAME + length p)) (take (whole_in m ps) ps)) ++ rest.rest =
          ap (λ (j : ℕ). take j (first ++ others)) split ∙ take-append-add first others m ∙ ap (λ (x : List ℕ). first ++ x) rest.parts
          ∙ sym (append_assoc first (spelled salt (at + (FRAME + length p)) (take (whole_in m ps) ps)) rest.rest) in
          subst (λ (j : ℕ). IsCutOff salt at n j (p ∷ ps)) more (record {
            rest = rest.rest;
            parts = parts;
            front = λ i here. rest.front i (omega (arith, here));
          })
    ]

pub takes_fit : (k : ℕ) (ps : List (List ℕ)) → ArePayloads ps → ArePayloads (take k ps)
takes_fit zero ps fits = tt
takes_fit (suc k) [] fits = tt
takes_fit (suc k) (p ∷ ps) fits = (fits.0, takes_fit k ps fits.1)

pub spelled-append : (salt at : ℕ) (ps qs : List (List ℕ)) (i : ℕ) → i ≡ at + size_of ps → spelled salt at (ps ++ qs) ≡ spelled salt at ps ++ spelled salt i qs
spelled-append salt at [] qs i e = ap (λ (j : ℕ). spelled salt j qs) (omega (arith, e))
spelled-append salt at (p ∷ ps) qs i e =
    ap (λ (x : List ℕ). spell salt at p ++ x) (spelled-append salt (at + (FRAME + length p)) ps qs i (omega (arith, e)))
    ∙ sym (append_assoc (spell salt at p) (spelled salt (at + (FRAME + length p)) ps) (spelled salt i qs))

pub size-append : (ps qs : List (List ℕ)) → size_of (ps ++ qs) ≡ size_of ps + size_of qs
size-append [] qs = omega arith
size-append (p ∷ ps) qs = omega (arith, size-append ps qs)

pub both_fit : (ps qs : List (List ℕ)) → ArePayloads ps → ArePayloads qs → ArePayloads (ps ++ qs)
both_fit [] qs f g = g
both_fit (p ∷ ps) qs f g = (f.0, both_fit ps qs f.1 g)
