-- What stands at a place stays there, whatever bytes follow.
use Rattle.std.proofs.Common.{◌≡◌, ◌⊎◌, ℕ, ◌+◌, ◌<◌, ◌≤◌, eqb, ltb, Bool, true, false, cond, List, ◌++◌, length, take, drop, Option, Some, None, refl, ap, ◌∙◌, arith, inl, inr}
use Rattle.std.specs.Prelude.{is_some}
use Rattle.std.specs.Option.{option_map}
use Rattle.std.specs.Int.{Width, w32, w64, byte_len, from_be_bytes}
use Rattle.std.proofs.lemmas.Bool.{ltb-false, ltb-true, le-ltb}
use Rattle.std.proofs.lemmas.List.{length-append, length-take, length-drop, take-append-le, drop-append-le}
use Rattle.records.specs.declared.place.TheConstants.{LARGEST_PAYLOAD, FRAME}
use Rattle.records.specs.Spelling.{sum_of}
use Rattle.records.specs.Reading.{◌>>=◌, number_at, part_at, checked, is_head, head_at, record_at, passes_end, is_cut}
use Rattle.records.specs.Files.{IsBad, Resumes}
use Rattle.records.proofs.Places.{head_is}
use Rattle.records.proofs.Fields.{bind_some, short_some, checked_some}

-- the same, and more bytes after it
abbrev pub more : {A : Type 0} → List ℕ → A × List ℕ → A × List ℕ
more m x = (x.0, x.1 ++ m)

number_long : (w : Width) (bytes : List ℕ) → byte_len w ≤ length bytes → number_at w bytes ≡ Some (from_be_bytes w (take (byte_len w) bytes), drop (byte_len w) bytes)
number_long w bytes le = rw (le-ltb (length bytes) (byte_len w) le) refl

number_more : (w : Width) (bytes m : List ℕ) → byte_len w ≤ length bytes → number_at w (bytes ++ m) ≡ Some (from_be_bytes w (take (byte_len w) bytes), drop (byte_len w) bytes ++ m)
number_more w bytes m le =
    let long : byte_len w ≤ length (bytes ++ m) = omega (arith, length-append bytes m) in
    rw (le-ltb (length (bytes ++ m)) (byte_len w) long, take-append-le (byte_len w) bytes m le, drop-append-le (byte_len w) bytes m le) refl

part_long : (n : ℕ) (bytes : List ℕ) → n ≤ length bytes → part_at n bytes ≡ Some (take n bytes, drop n bytes)
part_long n bytes le = rw (le-ltb (length bytes) n le) refl

part_more : (n : ℕ) (bytes m : List ℕ) → n ≤ length bytes → part_at n (bytes ++ m) ≡ Some (take n bytes, drop n bytes ++ m)
part_more n bytes m le =
    let long : n ≤ length (bytes ++ m) = omega (arith, length-append bytes m) in
    rw (le-ltb (length (bytes ++ m)) n long, take-append-le n bytes m le, drop-append-le n bytes m le) refl

checked_more : {A : Type 0} (b : Bool) (x : A) (rest m : List ℕ) → checked b (x, rest ++ m) ≡ option_map (more m) (checked b (x, rest))
checked_more true x rest m = refl
checked_more false x rest m = refl

head_more : (salt at : ℕ) (bytes m : List ℕ) → 12 ≤ length bytes → head_at salt at (bytes ++ m) ≡ option_map (more m) (head_at salt at bytes)
unfolding head_at
head_more salt at bytes m le =
    let one : byte_len w32 ≤ length bytes = omega arith in
    let two : byte_len w64 ≤ length (drop 4 bytes) = omega (arith, length-drop 4 bytes) in
    rw (number_more w32 bytes m one, number_long w32 bytes one, number_more w64 (drop 4 bytes) m two, number_long w64 (drop 4 bytes) two)
    (checked_more (is_head salt at (from_be_bytes w32 (take 4 bytes)) (from_be_bytes w64 (take 8 (drop 4 bytes)))) (from_be_bytes w32 (take 4 bytes)) (drop 8 (drop 4 bytes)) m)

-- what follows a head
abbrev after_head : ℕ → ℕ → ℕ × List ℕ → Option (List ℕ × List ℕ)
after_head salt at head = part_at head.0 head.1 >>= λ payload. number_at w64 payload.1 >>= λ s. checked (eqb s.0 (sum_of salt at payload.0)) (payload.0, s.1)

after_head_more : (salt at n : ℕ) (rest m : List ℕ) → n + 8 ≤ length rest → after_head salt at (n, rest ++ m) ≡ option_map (more m) (after_head salt at (n, rest))
after_head_more salt at n rest m le =
    let one : n ≤ length rest = omega arith in
    let two : byte_len w64 ≤ length (drop n rest) = omega (arith, length-drop n rest) in
    rw (part_more n rest m one, part_long n rest one, number_more w64 (drop n rest) m two, number_long w64 (drop n rest) two)
    (checked_more (eqb (from_be_bytes w64 (take 8 (drop n rest))) (sum_of salt at (take n rest))) (take n rest) (drop 8 (drop n rest)) m)

-- bytes that aren't cut are long enough
pub record IsLong (salt at : ℕ) (bytes : List ℕ) : Type 0 where
  pub long : 12 ≤ length bytes
  pub passes : passes_end (head_at salt at bytes) ≡ false

cond_false : (b c : Bool) → cond b true c ≡ false → (b ≡ false) × (c ≡ false)
cond_false true c e = absurd cc
cond_false false c e = (refl, e)

pub long_of : (salt at : ℕ) (bytes : List ℕ) → is_cut salt at bytes ≡ false → IsLong salt at bytes
long_of salt at bytes e =
    let parts = cond_false (ltb (length bytes) 12) (passes_end (head_at salt at bytes)) e in
    record { long = ltb-false _ _ parts.0; passes = parts.1 }

pub not_cut : (salt at : ℕ) (bytes : List ℕ) → IsLong salt at bytes → is_cut salt at bytes ≡ false
not_cut salt at bytes l = rw (le-ltb (length bytes) 12 l.long) l.passes

passes_more : (head : Option (ℕ × List ℕ)) (m : List ℕ) → passes_end head ≡ false → passes_end (option_map (more m) head) ≡ false
passes_more None m e = refl
passes_more (Some head) m e =
    let le : head.0 + 8 ≤ length head.1 = ltb-false _ _ e in
    le-ltb (length (head.1 ++ m)) (head.0 + 8) (omega (arith, length-append head.1 m))

pub cut_more : (salt at : ℕ) (bytes m : List ℕ) → is_cut salt at bytes ≡ false → is_cut salt at (bytes ++ m) ≡ false
cut_more salt at bytes m e =
    let l = long_of salt at bytes e in
    not_cut salt at (bytes ++ m) (record {
      long = omega (arith, length-append bytes m, l.long);
      passes = rw (head_more salt at bytes m l.long) (passes_more (head_at salt at bytes) m l.passes);
    })

bound_more : (salt at : ℕ) (head : Option (ℕ × List ℕ)) (m : List ℕ) → passes_end head ≡ false → (option_map (more m) head >>= after_head salt at) ≡ option_map (more m) (head >>= after_head salt at)
bound_more salt at None m e = refl
bound_more salt at (Some head) m e = after_head_more salt at head.0 head.1 m (ltb-false _ _ e)

pub record_more : (salt at : ℕ) (bytes m : List ℕ) → is_cut salt at bytes ≡ false → record_at salt at (bytes ++ m) ≡ option_map (more m) (record_at salt at bytes)
unfolding record_at
record_more salt at bytes m e =
    let l = long_of salt at bytes e in
    rw (head_more salt at bytes m l.long) (bound_more salt at (head_at salt at bytes) m l.passes)

pub bad_more : (salt at : ℕ) (bytes m : List ℕ) → IsBad salt at bytes → IsBad salt at (bytes ++ m)
bad_more salt at bytes m bad = record {
  none = record_more salt at bytes m bad.whole ∙ ap (option_map (more m)) bad.none;
  whole = cut_more salt at bytes m bad.whole;
}

-- a whole record isn't cut

number_is : (w : Width) (bytes : List ℕ) (x : ℕ × List ℕ) → number_at w bytes ≡ Some x → length bytes ≡ byte_len w + length x.1
number_is w bytes x e =
    let g = short_some (ltb (length bytes) (byte_len w)) (from_be_bytes w (take (byte_len w) bytes), drop (byte_len w) bytes) x e in
    let le : byte_len w ≤ length bytes = ltb-false _ _ g.0 in
    let rest-is : drop (byte_len w) bytes ≡ x.1 = ap (λ (p : ℕ × List ℕ). p.1) g.1 in
    omega (arith, length-drop (byte_len w) bytes, ap length rest-is)

part_is : (n : ℕ) (bytes : List ℕ) (x : List ℕ × List ℕ) → part_at n bytes ≡ Some x → length bytes ≡ n + length x.1
part_is n bytes x e =
    let g = short_some (ltb (length bytes) n) (take n bytes, drop n bytes) x e in
    let le : n ≤ length bytes = ltb-false _ _ g.0 in
    let rest-is : drop n bytes ≡ x.1 = ap (λ (p : List ℕ × List ℕ). p.1) g.1 in
    omega (arith, length-drop n bytes, ap length rest-is)

head_rest : (salt at : ℕ) (bytes : List ℕ) (x : ℕ × List ℕ) → head_at salt at bytes ≡ Some x → length bytes ≡ 12 + length x.1
unfolding head_at
head_rest salt at bytes x e =
    let a = bind_some (number_at w32 bytes) (λ n. number_at w64 n.1 >>= λ s. checked (is_head salt at n.0 s.0) (n.0, s.1)) x e in
    let b = bind_some (number_at w64 a.0.1) (λ s. checked (is_head salt at a.0.0 s.0) (a.0.0, s.1)) x a.2 in
    let c = checked_some (is_head salt at a.0.0 b.0.0) (a.0.0, b.0.1) x b.2 in
    omega (arith, number_is w32 bytes a.0 a.1, number_is w64 a.0.1 b.0 b.1, ap (λ (p : ℕ × List ℕ). length p.1) c.1)

whole_is_long : (salt at : ℕ) (bytes : List ℕ) (x : List ℕ × List ℕ) → record_at salt at bytes ≡ Some x → IsLong salt at bytes
unfolding record_at
whole_is_long salt at bytes x e =
    let a = bind_some (head_at salt at bytes) (after_head salt at) x e in
    let b = bind_some (part_at a.0.0 a.0.1) (λ payload. number_at w64 payload.1 >>= λ s. checked (eqb s.0 (sum_of salt at payload.0)) (payload.0, s.1)) x a.2 in
    let c = bind_some (number_at w64 b.0.1) (λ s. checked (eqb s.0 (sum_of salt at b.0.0)) (b.0.0, s.1)) x b.2 in
    let le : a.0.0 + 8 ≤ length a.0.1 = omega (arith, part_is a.0.0 a.0.1 b.0 b.1, number_is w64 b.0.1 c.0 c.1) in
    record {
      long = omega (arith, head_rest salt at bytes a.0 a.1);
      passes = rw a.1 (le-ltb (length a.0.1) (a.0.0 + 8) le);
    }

some_of : {A : Type 0} (r : Option A) → is_some r ≡ true → (x : A) × (r ≡ Some x)
some_of None e = absurd cc
some_of (Some x) e = (x, refl)

some_more : {A : Type 0} (r : Option (A × List ℕ)) (m : List ℕ) → is_some r ≡ true → is_some (option_map (more m) r) ≡ true
some_more None m e = absurd cc
some_more (Some x) m e = refl

pub stands_more : (salt at : ℕ) (bytes m : List ℕ) → is_some (record_at salt at bytes) ≡ true → is_some (record_at salt at (bytes ++ m)) ≡ true
stands_more salt at bytes m e =
    let some = some_of (record_at salt at bytes) e in
    let whole = not_cut salt at bytes (whole_is_long salt at bytes some.0 some.1) in
    rw (record_more salt at bytes m whole) (some_more (record_at salt at bytes) m e)

pub resumes_more : (salt at : ℕ) (bytes m : List ℕ) → Resumes salt at bytes → Resumes salt at (bytes ++ m)
resumes_more salt at bytes m r =
    let le : r.0 ≤ length bytes = omega (arith, r.1) in
    (r.0, omega (arith, length-append bytes m, r.1), rw (drop-append-le r.0 bytes m le) (stands_more salt (at + r.0) (drop r.0 bytes) m r.2))

part_size : (n : ℕ) (bytes : List ℕ) (x : List ℕ × List ℕ) → part_at n bytes ≡ Some x → length x.0 ≤ n
part_size n bytes x e =
    let g = short_some (ltb (length bytes) n) (take n bytes, drop n bytes) x e in
    let part-is : take n bytes ≡ x.0 = ap (λ (p : List ℕ × List ℕ). p.0) g.1 in
    omega (arith, length-take n bytes, ap length part-is)

-- a whole record is within the bytes
pub record_within : (salt at : ℕ) (bytes : List ℕ) (x : List ℕ × List ℕ) → record_at salt at bytes ≡ Some x → FRAME + length x.0 ≤ length bytes
unfolding record_at
record_within salt at bytes x e =
    let a = bind_some (head_at salt at bytes) (after_head salt at) x e in
    let b = bind_some (part_at a.0.0 a.0.1) (λ payload. number_at w64 payload.1 >>= λ s. checked (eqb s.0 (sum_of salt at payload.0)) (payload.0, s.1)) x a.2 in
    let c = bind_some (number_at w64 b.0.1) (λ s. checked (eqb s.0 (sum_of salt at b.0.0)) (b.0.0, s.1)) x b.2 in
    let d = checked_some (eqb c.0.0 (sum_of salt at b.0.0)) (b.0.0, c.0.1) x c.2 in
    omega (arith, head_rest salt at bytes a.0 a.1, part_is a.0.0 a.0.1 b.0 b.1, part_size a.0.0 a.0.1 b.0 b.1, number_is w64 b.0.1 c.0 c.1, ap (λ (p : List ℕ × List ℕ). length p.0) d.1)

-- what is cut is less than the longest record

cut_cases : (b c : Bool) → cond b true c ≡ true → (b ≡ true) ⊎ (c ≡ true)
cut_cases true c e = inl refl
cut_cases false c e = inr e

passes_some : (head : Option (ℕ × List ℕ)) → passes_end head ≡ true → (x : ℕ × List ℕ) × (head ≡ Some x) × (length x.1 < x.0 + 8)
passes_some None e = absurd cc
passes_some (Some x) e = (x, refl, ltb-true (length x.1) (x.0 + 8) e)

head_small : (salt at : ℕ) (bytes : List ℕ) (x : ℕ × List ℕ) → head_at salt at bytes ≡ Some x → x.0 ≤ LARGEST_PAYLOAD
unfolding head_at
head_small salt at bytes x e =
    let a = bind_some (number_at w32 bytes) (λ n. number_at w64 n.1 >>= λ s. checked (is_head salt at n.0 s.0) (n.0, s.1)) x e in
    let b = bind_some (number_at w64 a.0.1) (λ s. checked (is_head salt at a.0.0 s.0) (a.0.0, s.1)) x a.2 in
    let c = checked_some (is_head salt at a.0.0 b.0.0) (a.0.0, b.0.1) x b.2 in
    omega (arith, (head_is salt at a.0.0 b.0.0 c.0).0, ap (λ (p : ℕ × List ℕ). p.0) c.1)

pub cut_small : (salt at : ℕ) (bytes : List ℕ) → is_cut salt at bytes ≡ true → length bytes < FRAME + LARGEST_PAYLOAD
cut_small salt at bytes e =
    elim (cut_cases (ltb (length bytes) 12) (passes_end (head_at salt at bytes)) e) [
      | inl short ↦ omega (arith, ltb-true (length bytes) 12 short)
      | inr passes ↦
          let x = passes_some (head_at salt at bytes) passes in
          omega (arith, x.2, head_rest salt at bytes x.0 x.1, head_small salt at bytes x.0 x.1)
    ]
