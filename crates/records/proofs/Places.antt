-- What stands at a place of a file.
use Rattle.std.proofs.Common.{◌≡◌, ℕ, ◌+◌, ◌^◌, ◌<◌, ◌≤◌, eqb, ltb, true, not, List, ◌++◌, length, Some, refl, sym, ap, subst, ◌∙◌, append_assoc, arith}
use Rattle.std.specs.Int.{w32, w64, to_be_bytes, to_le_bytes}
use Rattle.std.specs.Hash.DefaultHasher as sip
use Rattle.std.proofs.Math.Nat.{mod-lt}
use Rattle.std.proofs.lemmas.Bool.{eqb-true, eq-eqb, le-ltb, and_parts}
use Rattle.std.proofs.lemmas.Bool.Decides.{nat_tests}
use Rattle.std.proofs.lemmas.List.{length-append}
use Rattle.records.specs.declared.place.TheConstants.{LARGEST_PAYLOAD, FRAME}
use Rattle.records.specs.Spelling.{sum_of, spell}
use Rattle.records.specs.Reading.{◌>>=◌, number_at, part_at, checked, is_head, head_at, record_at}
use Rattle.records.specs.Files.{AreBytes}
use Rattle.records.proofs.Fields.{bind_some, checked_some, Takes, Takes-then, wide32, wide64, number_takes, number_again, part_takes, part_again}

pub sum_fits : (salt at : ℕ) (bytes : List ℕ) → sum_of salt at bytes < 2 ^ 64
unfolding sum_of
sum_fits salt at bytes = mod-lt (sip.finish (sip.write (sip.write (sip.write sip.initial (to_le_bytes w64 salt)) (to_le_bytes w64 at)) bytes)) (omega arith)

pub head_is : (salt at n sum : ℕ) → is_head salt at n sum ≡ true → (n ≤ LARGEST_PAYLOAD) × (sum ≡ sum_of salt at (to_be_bytes w32 n))
head_is salt at n sum is =
    let parts = and_parts (not (ltb LARGEST_PAYLOAD n)) (eqb sum (sum_of salt at (to_be_bytes w32 n))) is in
    (grind (arith, nat_tests, parts.0), eqb-true _ _ parts.1)

head_so : (salt at n : ℕ) → n ≤ LARGEST_PAYLOAD → is_head salt at n (sum_of salt at (to_be_bytes w32 n)) ≡ true
head_so salt at n le = rw (le-ltb LARGEST_PAYLOAD n le, eq-eqb (sum_of salt at (to_be_bytes w32 n)) (sum_of salt at (to_be_bytes w32 n)) refl) refl

abbrev pub head : ℕ → ℕ → ℕ → List ℕ
head salt at n = to_be_bytes w32 n ++ to_be_bytes w64 (sum_of salt at (to_be_bytes w32 n))

pub head_takes : (salt at : ℕ) (bytes : List ℕ) (x : ℕ × List ℕ) → AreBytes bytes → head_at salt at bytes ≡ Some x → Takes bytes (head salt at x.0) x.1 × (x.0 ≤ LARGEST_PAYLOAD)
unfolding head_at
head_takes salt at bytes x fits e =
    let a = bind_some (number_at w32 bytes) (λ n. number_at w64 n.1 >>= λ s. checked (is_head salt at n.0 s.0) (n.0, s.1)) x e in
    let b = bind_some (number_at w64 a.0.1) (λ s. checked (is_head salt at a.0.0 s.0) (a.0.0, s.1)) x a.2 in
    let c = checked_some (is_head salt at a.0.0 b.0.0) (a.0.0, b.0.1) x b.2 in
    let t0 = number_takes w32 (2 ^ 32) wide32 bytes a.0.0 a.0.1 fits a.1 in
    let t1 = number_takes w64 (2 ^ 64) wide64 a.0.1 b.0.0 b.0.1 t0.0.rest_fits b.1 in
    let is = head_is salt at a.0.0 b.0.0 c.0 in
    let both = Takes-then bytes (to_be_bytes w32 a.0.0) a.0.1 (to_be_bytes w64 b.0.0) b.0.1 t0.0 t1.0 in
    let made : Takes bytes (head salt at a.0.0) b.0.1 = subst (λ (s : ℕ). Takes bytes (to_be_bytes w32 a.0.0 ++ to_be_bytes w64 s) b.0.1) is.1 both in
    subst (λ (y : ℕ × List ℕ). Takes bytes (head salt at y.0) y.1 × (y.0 ≤ LARGEST_PAYLOAD)) c.1 (made, is.0)

pub head_again : (salt at n : ℕ) (rest : List ℕ) → n ≤ LARGEST_PAYLOAD → head_at salt at (head salt at n ++ rest) ≡ Some (n, rest)
unfolding head_at
head_again salt at n rest lt =
    let sum = sum_of salt at (to_be_bytes w32 n) in
    let regrouped : head salt at n ++ rest ≡ to_be_bytes w32 n ++ (to_be_bytes w64 sum ++ rest) = append_assoc (to_be_bytes w32 n) (to_be_bytes w64 sum) rest in
    ap (head_at salt at) regrouped ∙ rw (number_again w32 (2 ^ 32) wide32 n (to_be_bytes w64 sum ++ rest) (omega arith), number_again w64 (2 ^ 64) wide64 sum rest (sum_fits salt at (to_be_bytes w32 n)), head_so salt at n lt) refl

-- what is read is spelled so
pub record_takes : (salt at : ℕ) (bytes : List ℕ) (x : List ℕ × List ℕ) → AreBytes bytes → record_at salt at bytes ≡ Some x → Takes bytes (spell salt at x.0) x.1 × (length x.0 ≤ LARGEST_PAYLOAD)
unfolding record_at spell
record_takes salt at bytes x fits e =
    let a = bind_some (head_at salt at bytes) (λ h. part_at h.0 h.1 >>= λ payload. number_at w64 payload.1 >>= λ s. checked (eqb s.0 (sum_of salt at payload.0)) (payload.0, s.1)) x e in
    let b = bind_some (part_at a.0.0 a.0.1) (λ payload. number_at w64 payload.1 >>= λ s. checked (eqb s.0 (sum_of salt at payload.0)) (payload.0, s.1)) x a.2 in
    let c = bind_some (number_at w64 b.0.1) (λ s. checked (eqb s.0 (sum_of salt at b.0.0)) (b.0.0, s.1)) x b.2 in
    let d = checked_some (eqb c.0.0 (sum_of salt at b.0.0)) (b.0.0, c.0.1) x c.2 in
    let t0 = head_takes salt at bytes a.0 fits a.1 in
    let t1 = part_takes a.0.0 a.0.1 b.0.0 b.0.1 t0.0.rest_fits b.1 in
    let t2 = number_takes w64 (2 ^ 64) wide64 b.0.1 c.0.0 c.0.1 t1.0.rest_fits c.1 in
    let right : c.0.0 ≡ sum_of salt at b.0.0 = eqb-true _ _ d.0 in
    let e12 = Takes-then a.0.1 b.0.0 b.0.1 (to_be_bytes w64 c.0.0) c.0.1 t1.0 t2.0 in
    let e02 = Takes-then bytes (head salt at a.0.0) a.0.1 (b.0.0 ++ to_be_bytes w64 c.0.0) c.0.1 t0.0 e12 in
    let summed : Takes bytes (head salt at a.0.0 ++ (b.0.0 ++ to_be_bytes w64 (sum_of salt at b.0.0))) c.0.1 = subst (λ (s : ℕ). Takes bytes (head salt at a.0.0 ++ (b.0.0 ++ to_be_bytes w64 s)) c.0.1) right e02 in
    let counted : Takes bytes (head salt at (length b.0.0) ++ (b.0.0 ++ to_be_bytes w64 (sum_of salt at b.0.0))) c.0.1 = subst (λ (n : ℕ). Takes bytes (head salt at n ++ (b.0.0 ++ to_be_bytes w64 (sum_of salt at b.0.0))) c.0.1) (sym t1.1) summed in
    let spelled : Takes bytes (spell salt at b.0.0) c.0.1 = subst (λ (f : List ℕ). Takes bytes f c.0.1) (append_assoc (to_be_bytes w32 (length b.0.0)) (to_be_bytes w64 (sum_of salt at (to_be_bytes w32 (length b.0.0)))) (b.0.0 ++ to_be_bytes w64 (sum_of salt at b.0.0))) counted in
    subst (λ (y : List ℕ × List ℕ). Takes bytes (spell salt at y.0) y.1 × (length y.0 ≤ LARGEST_PAYLOAD)) d.1 (spelled, omega (arith, t0.1, t1.1))

-- what is spelled so is read, whatever follows
pub record_again : (salt at : ℕ) (payload rest : List ℕ) → length payload ≤ LARGEST_PAYLOAD → record_at salt at (spell salt at payload ++ rest) ≡ Some (payload, rest)
unfolding record_at spell
record_again salt at payload rest lt =
    let size = to_be_bytes w32 (length payload) in
    let mark = to_be_bytes w64 (sum_of salt at size) in
    let sum = sum_of salt at payload in
    let body = payload ++ to_be_bytes w64 sum in
    let one : (size ++ (mark ++ body)) ++ rest ≡ head salt at (length payload) ++ (body ++ rest) = append_assoc size (mark ++ body) rest ∙ ap (λ (t : List ℕ). size ++ t) (append_assoc mark body rest) ∙ sym (append_assoc size mark (body ++ rest)) in
    let two : body ++ rest ≡ payload ++ (to_be_bytes w64 sum ++ rest) = append_assoc payload (to_be_bytes w64 sum) rest in
    ap (record_at salt at) one ∙ rw (head_again salt at (length payload) (body ++ rest) lt, two, part_again payload (to_be_bytes w64 sum ++ rest), number_again w64 (2 ^ 64) wide64 sum rest (sum_fits salt at payload), eq-eqb sum sum refl) refl

pub length-spell : (salt at : ℕ) (payload : List ℕ) → length (spell salt at payload) ≡ FRAME + length payload
unfolding spell
length-spell salt at payload = omega (arith, length-append payload (to_be_bytes w64 (sum_of salt at payload)))

pub spell_head : (salt at : ℕ) (payload : List ℕ) → spell salt at payload ≡ head salt at (length payload) ++ (payload ++ to_be_bytes w64 (sum_of salt at payload))
unfolding spell
spell_head salt at payload = sym (append_assoc (to_be_bytes w32 (length payload)) (to_be_bytes w64 (sum_of salt at (to_be_bytes w32 (length payload)))) (payload ++ to_be_bytes w64 (sum_of salt at payload)))
