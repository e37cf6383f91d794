-- Fields are read as they are written, whatever follows them.
use Rattle.std.proofs.Common.{◌≡◌, ℕ, zero, suc, ◌+◌, ◌^◌, ◌<◌, ◌≤◌, Bool, true, false, ltb, List, [], ◌∷◌, ◌++◌, length, get_or, take, drop, Ok, refl, sym, ap, subst, ◌∙◌, append_assoc, arith, inl, inr}
use Rattle.std.specs.Int.{Width, w32, w64, byte_len, from_be_bytes, to_be_bytes}
use Rattle.std.specs.List.{flat_map, AllByRecursion}
use Rattle.std.proofs.lemmas.Bool.{cases_lt, ltb-false, le-ltb}
use Rattle.std.proofs.lemmas.List.{take_at, drop_at, take-append-drop, length-append, length-take, get_or-drop, get_or-take, get_or_past}
use Rattle.std.proofs.lemmas.List.Concat.{flat_map-cons}
use Rattle.std.proofs.lemmas.Nat.{be_bytes_4, be_bytes_8, from_be_bytes-to_be_bytes_4, from_be_bytes-to_be_bytes_8}
use Rattle.ledger.specs.declared.malformed.Malformed.TheVariants as malformed
use Rattle.ledger.specs.Payloads.{counted, u32_bytes, u64_bytes}
use Rattle.ledger.specs.Reading.{Reading, ◌>>=◌, keeping, byte_at, bytes_at, number_at, many_at, counted_at}
use Rattle.ledger.proofs.Steps.{bind_ok, guard_ok, kept_ok, kept_again, ok_is, gave}

abbrev pub IsBytes : List ℕ → Type 0
IsBytes bytes = (i : ℕ) → get_or bytes i 0 < 256

pub IsBytes-drop : (n : ℕ) (bytes : List ℕ) → IsBytes bytes → IsBytes (drop n bytes)
IsBytes-drop n bytes h i = rw get_or-drop (h (n + i))

pub IsBytes-take : (n : ℕ) (bytes : List ℕ) → IsBytes bytes → IsBytes (take n bytes)
IsBytes-take n bytes h i =
    elim (cases_lt i n) [
      | inl lt ↦ rw (get_or-take n bytes i 0 lt) (h i)
      | inr le ↦ rw (get_or_past (take n bytes) i 0 (omega (arith, length-take n bytes))) (omega arith)
    ]

-- what was taken from the front
pub record Takes (bytes text rest : List ℕ) : Type 0 where
  pub parts : bytes ≡ text ++ rest
  pub rest_fits : IsBytes rest

pub Takes-none : (bytes : List ℕ) → IsBytes bytes → Takes bytes [] bytes
Takes-none bytes fits = record { parts = refl; rest_fits = fits }

pub Takes-then : (a x b y c : List ℕ) → Takes a x b → Takes b y c → Takes a (x ++ y) c
Takes-then a x b y c p q = record { parts = p.parts ∙ ap (λ (t : List ℕ). x ++ t) q.parts ∙ sym (append_assoc x y c); rest_fits = q.rest_fits }

-- What is read was written so and fits, and what fits and is written so is read.
pub record Agrees {X : Type 0} (at : List ℕ → Reading X) (bytes_of : X → List ℕ) (Fits : X → Type 0) : Type 0 where
  pub takes : (bytes : List ℕ) (x : X) (rest : List ℕ) → IsBytes bytes → at bytes ≡ Ok (x, rest) → Takes bytes (bytes_of x) rest × Fits x
  pub again : (x : X) (rest : List ℕ) → Fits x → at (bytes_of x ++ rest) ≡ Ok (x, rest)

-- a byte

byte_takes : (bytes : List ℕ) (x : ℕ) (rest : List ℕ) → IsBytes bytes → byte_at bytes ≡ Ok (x, rest) → Takes bytes (x ∷ []) rest × (x < 256)
byte_takes [] x rest fits e = absurd cc
byte_takes (b ∷ bytes) x rest fits e =
    subst (λ (y : ℕ × List ℕ). Takes (b ∷ bytes) (y.0 ∷ []) y.1 × (y.0 < 256)) (ok_is (b, bytes) (x, rest) e) (record { parts = refl; rest_fits = λ i. fits (suc i) }, fits 0)

pub byte_agrees : Agrees byte_at (λ n. n ∷ []) (λ n. n < 256)
byte_agrees = record { takes = byte_takes; again = λ n rest h. refl }

-- numbers

pub record IsWide (w : Width) (limit : ℕ) : Type 0 where
  pub len : (n : ℕ) → length (to_be_bytes w n) ≡ byte_len w
  pub back : (bytes : List ℕ) → length bytes ≡ byte_len w → IsBytes bytes → to_be_bytes w (from_be_bytes w bytes) ≡ bytes
  pub again : (n : ℕ) → n < limit → from_be_bytes w (to_be_bytes w n) ≡ n
  pub below : (bytes : List ℕ) → IsBytes bytes → from_be_bytes w bytes < limit

pub wide32 : IsWide w32 (2 ^ 32)
wide32 = record {
  len = λ n. refl;
  back = λ bytes len fits. be_bytes_4 bytes _ len fits refl;
  again = λ n lt. from_be_bytes-to_be_bytes_4 n lt;
  below = λ bytes fits. omega (arith, fits 0, fits 1, fits 2, fits 3);
}

pub wide64 : IsWide w64 (2 ^ 64)
wide64 = record {
  len = λ n. refl;
  back = λ bytes len fits. be_bytes_8 bytes _ len fits refl;
  again = λ n lt. from_be_bytes-to_be_bytes_8 n lt;
  below = λ bytes fits. omega (arith, fits 0, fits 1, fits 2, fits 3, fits 4, fits 5, fits 6, fits 7);
}

number_takes : (w : Width) (limit : ℕ) (wide : IsWide w limit) (bytes : List ℕ) (n : ℕ) (rest : List ℕ) → IsBytes bytes → number_at w bytes ≡ Ok (n, rest) → Takes bytes (to_be_bytes w n) rest × (n < limit)
number_takes w limit wide bytes n rest fits e =
    let g = guard_ok (ltb (length bytes) (byte_len w)) malformed.Length (from_be_bytes w (take (byte_len w) bytes), drop (byte_len w) bytes) (n, rest) e in
    let long : byte_len w ≤ length bytes = ltb-false _ _ g.0 in
    let n-is : from_be_bytes w (take (byte_len w) bytes) ≡ n = ap (λ (p : ℕ × List ℕ). p.0) g.1 in
    let rest-is : drop (byte_len w) bytes ≡ rest = ap (λ (p : ℕ × List ℕ). p.1) g.1 in
    let front : to_be_bytes w n ≡ take (byte_len w) bytes = rw (← n-is) (wide.back (take (byte_len w) bytes) (omega (arith, length-take (byte_len w) bytes)) (IsBytes-take (byte_len w) bytes fits)) in
    (record { parts = rw (front, ← rest-is) (sym (take-append-drop (byte_len w) bytes)); rest_fits = rw (← rest-is) (IsBytes-drop (byte_len w) bytes fits) }, rw (← n-is) (wide.below (take (byte_len w) bytes) (IsBytes-take (byte_len w) bytes fits)))

number_again : (w : Width) (limit : ℕ) (wide : IsWide w limit) (n : ℕ) (rest : List ℕ) → n < limit → number_at w (to_be_bytes w n ++ rest) ≡ Ok (n, rest)
number_again w limit wide n rest lt =
    let len = wide.len n in
    let long : ltb (length (to_be_bytes w n ++ rest)) (byte_len w) ≡ false = le-ltb _ _ (omega (arith, length-append (to_be_bytes w n) rest)) in
    rw (long, take_at (to_be_bytes w n) rest (byte_len w) len, drop_at (to_be_bytes w n) rest (byte_len w) len, wide.again n lt) refl

pub u32_agrees : Agrees (number_at w32) u32_bytes (λ n. n < 2 ^ 32)
unfolding u32_bytes
u32_agrees = record { takes = number_takes w32 (2 ^ 32) wide32; again = number_again w32 (2 ^ 32) wide32 }

pub u64_agrees : Agrees (number_at w64) u64_bytes (λ n. n < 2 ^ 64)
unfolding u64_bytes
u64_agrees = record { takes = number_takes w64 (2 ^ 64) wide64; again = number_again w64 (2 ^ 64) wide64 }

pub length_u32_bytes : (n : ℕ) → length (u32_bytes n) ≡ 4
unfolding u32_bytes
length_u32_bytes n = refl

pub length_u64_bytes : (n : ℕ) → length (u64_bytes n) ≡ 8
unfolding u64_bytes
length_u64_bytes n = refl

-- so many bytes

pub bytes_take : (n : ℕ) (bytes x rest : List ℕ) → IsBytes bytes → bytes_at n bytes ≡ Ok (x, rest) → Takes bytes x rest × (length x ≡ n)
bytes_take n bytes x rest fits e =
    let g = guard_ok (ltb (length bytes) n) malformed.Length (take n bytes, drop n bytes) (x, rest) e in
    let long : n ≤ length bytes = ltb-false _ _ g.0 in
    subst (λ (p : List ℕ × List ℕ). Takes bytes p.0 p.1 × (length p.0 ≡ n)) g.1
    (record { parts = sym (take-append-drop n bytes); rest_fits = IsBytes-drop n bytes fits }, omega (arith, length-take n bytes))

pub bytes_again : (x rest : List ℕ) → bytes_at (length x) (x ++ rest) ≡ Ok (x, rest)
bytes_again x rest =
    let long : ltb (length (x ++ rest)) (length x) ≡ false = le-ltb _ _ (omega (arith, length-append x rest)) in
    rw (long, take_at x rest (length x) refl, drop_at x rest (length x) refl) refl

module _ {X : Type 0} {at : List ℕ → Reading X} {bytes_of : X → List ℕ} {Fits : X → Type 0} where
  -- under a rule
  pub keeping_agrees : (rule : X → Bool) → Agrees at bytes_of Fits → Agrees (λ bytes. keeping rule (at bytes)) bytes_of (λ x. Fits x × (rule x ≡ true))
  keeping_agrees rule a = record {
    takes = λ bytes x rest fits e. (let k = kept_ok rule (at bytes) (x, rest) e in let t = a.takes bytes x rest fits k.0 in (t.0, (t.1, k.1)));
    again = λ x rest h. kept_again rule (at (bytes_of x ++ rest)) (x, rest) (a.again x rest h.0) h.1;
  }

  -- what fits, in other words
  pub fitting : (Other : X → Type 0) → ((x : X) → Fits x → Other x) → ((x : X) → Other x → Fits x) → Agrees at bytes_of Fits → Agrees at bytes_of Other
  fitting Other to from a = record {
    takes = λ bytes x rest fits e. (let t = a.takes bytes x rest fits e in (t.0, to x t.1));
    again = λ x rest h. a.again x rest (from x h);
  }

  -- so many of them
  pub many_take : Agrees at bytes_of Fits → (n : ℕ) (bytes : List ℕ) (xs : List X) (rest : List ℕ) → IsBytes bytes → many_at at n bytes ≡ Ok (xs, rest) → Takes bytes (flat_map bytes_of xs) rest × (length xs ≡ n) × AllByRecursion Fits xs
  unfolding many_at
  many_take a zero bytes xs rest fits e =
      subst (λ (p : List X × List ℕ). Takes bytes (flat_map bytes_of p.0) p.1 × (length p.0 ≡ 0) × AllByRecursion Fits p.0) (ok_is ([], bytes) (xs, rest) e) (Takes-none bytes fits, refl, tt)
  many_take a (suc n) bytes xs rest fits e =
      let f = bind_ok (at bytes) (λ first. many_at at n first.1 >>= λ others. Ok (first.0 ∷ others.0, others.1)) (xs, rest) e in
      let o = bind_ok (many_at at n f.0.1) (λ others. Ok (f.0.0 ∷ others.0, others.1)) (xs, rest) f.2 in
      let first = a.takes bytes f.0.0 f.0.1 fits f.1 in
      let others = many_take a n f.0.1 o.0.0 o.0.1 first.0.rest_fits o.1 in
      let both : Takes bytes (flat_map bytes_of (f.0.0 ∷ o.0.0)) o.0.1 = rw (flat_map-cons bytes_of f.0.0 o.0.0) (Takes-then bytes (bytes_of f.0.0) f.0.1 (flat_map bytes_of o.0.0) o.0.1 first.0 others.0) in
      subst (λ (p : List X × List ℕ). Takes bytes (flat_map bytes_of p.0) p.1 × (length p.0 ≡ suc n) × AllByRecursion Fits p.0) (ok_is (f.0.0 ∷ o.0.0, o.0.1) (xs, rest) o.2)
      (both, ap suc others.1, (first.1, others.2))

  pub many_again : Agrees at bytes_of Fits → (xs : List X) (rest : List ℕ) → AllByRecursion Fits xs → many_at at (length xs) (flat_map bytes_of xs ++ rest) ≡ Ok (xs, rest)
  unfolding many_at
  many_again a [] rest fit = refl
  many_again a (x ∷ xs) rest fit =
      let parts : flat_map bytes_of (x ∷ xs) ++ rest ≡ bytes_of x ++ (flat_map bytes_of xs ++ rest) = ap (λ (t : List ℕ). t ++ rest) (flat_map-cons bytes_of x xs) ∙ append_assoc (bytes_of x) (flat_map bytes_of xs) rest in
      let others = many_again a xs rest fit.1 in
      ap (many_at at (suc (length xs))) parts ∙ rw (a.again x (flat_map bytes_of xs ++ rest) fit.0, others) refl

-- one field after another
pub record Both {X Y Z : Type 0} (bytes_of : X → List ℕ) (Fits : X → Type 0) (bytes_of2 : Y → List ℕ) (Fits2 : Y → Type 0) (make : X → Y → Z) (bytes : List ℕ) (z : Z) (rest : List ℕ) : Type 0 where
  pub first : X
  pub second : Y
  pub made : make first second ≡ z
  pub taken : Takes bytes (bytes_of first ++ bytes_of2 second) rest
  pub fits : Fits first
  pub fits2 : Fits2 second

module _ {X Y Z : Type 0} {at : List ℕ → Reading X} {bytes_of : X → List ℕ} {Fits : X → Type 0} {at2 : List ℕ → Reading Y} {bytes_of2 : Y → List ℕ} {Fits2 : Y → Type 0} where
  pub both_take : Agrees at bytes_of Fits → Agrees at2 bytes_of2 Fits2 → (make : X → Y → Z) (bytes : List ℕ) (z : Z) (rest : List ℕ) → IsBytes bytes
      → (at bytes >>= λ x. at2 x.1 >>= λ y. gave (make x.0 y.0) y.1) ≡ Ok (z, rest) → Both bytes_of Fits bytes_of2 Fits2 make bytes z rest
  both_take a b make bytes z rest fits e =
      let f = bind_ok (at bytes) (λ x. at2 x.1 >>= λ y. gave (make x.0 y.0) y.1) (z, rest) e in
      let s = bind_ok (at2 f.0.1) (λ y. gave (make f.0.0 y.0) y.1) (z, rest) f.2 in
      let first = a.takes bytes f.0.0 f.0.1 fits f.1 in
      let second = b.takes f.0.1 s.0.0 s.0.1 first.0.rest_fits s.1 in
      let is = ok_is (make f.0.0 s.0.0, s.0.1) (z, rest) s.2 in
      record {
        first = f.0.0;
        second = s.0.0;
        made = ap (λ (p : Z × List ℕ). p.0) is;
        taken = subst (λ (r : List ℕ). Takes bytes (bytes_of f.0.0 ++ bytes_of2 s.0.0) r) (ap (λ (p : Z × List ℕ). p.1) is) (Takes-then bytes (bytes_of f.0.0) f.0.1 (bytes_of2 s.0.0) s.0.1 first.0 second.0);
        fits = first.1;
        fits2 = second.1;
      }

  pub both_again : Agrees at bytes_of Fits → Agrees at2 bytes_of2 Fits2 → (make : X → Y → Z) (x : X) (y : Y) (rest : List ℕ) → Fits x → Fits2 y
      → (at ((bytes_of x ++ bytes_of2 y) ++ rest) >>= λ a. at2 a.1 >>= λ b. gave (make a.0 b.0) b.1) ≡ Ok (make x y, rest)
  both_again a b make x y rest h k =
      ap (λ (t : List ℕ). at t >>= λ a. at2 a.1 >>= λ b. gave (make a.0 b.0) b.1) (append_assoc (bytes_of x) (bytes_of2 y) rest)
      ∙ rw (a.again x (bytes_of2 y ++ rest) h, b.again y rest k) refl

-- three fields
pub record Three {X Y Z W : Type 0} (bytes_of : X → List ℕ) (Fits : X → Type 0) (bytes_of2 : Y → List ℕ) (Fits2 : Y → Type 0) (bytes_of3 : Z → List ℕ) (Fits3 : Z → Type 0) (make : X → Y → Z → W) (bytes : List ℕ) (w : W) (rest : List ℕ) : Type 0 where
  pub first : X
  pub second : Y
  pub third : Z
  pub made : make first second third ≡ w
  pub taken : Takes bytes (bytes_of first ++ bytes_of2 second ++ bytes_of3 third) rest
  pub fits : Fits first
  pub fits2 : Fits2 second
  pub fits3 : Fits3 third

module _ {X Y Z W : Type 0} {at : List ℕ → Reading X} {bytes_of : X → List ℕ} {Fits : X → Type 0} {at2 : List ℕ → Reading Y} {bytes_of2 : Y → List ℕ} {Fits2 : Y → Type 0} {at3 : List ℕ → Reading Z} {bytes_of3 : Z → List ℕ} {Fits3 : Z → Type 0} where
  pub three_take : Agrees at bytes_of Fits → Agrees at2 bytes_of2 Fits2 → Agrees at3 bytes_of3 Fits3 → (make : X → Y → Z → W) (bytes : List ℕ) (w : W) (rest : List ℕ) → IsBytes bytes
      → (at bytes >>= λ x. at2 x.1 >>= λ y. at3 y.1 >>= λ z. gave (make x.0 y.0 z.0) z.1) ≡ Ok (w, rest) → Three bytes_of Fits bytes_of2 Fits2 bytes_of3 Fits3 make bytes w rest
  three_take a b c make bytes w rest fits e =
      let f = bind_ok (at bytes) (λ x. at2 x.1 >>= λ y. at3 y.1 >>= λ z. gave (make x.0 y.0 z.0) z.1) (w, rest) e in
      let s = bind_ok (at2 f.0.1) (λ y. at3 y.1 >>= λ z. gave (make f.0.0 y.0 z.0) z.1) (w, rest) f.2 in
      let t = bind_ok (at3 s.0.1) (λ z. gave (make f.0.0 s.0.0 z.0) z.1) (w, rest) s.2 in
      let first = a.takes bytes f.0.0 f.0.1 fits f.1 in
      let second = b.takes f.0.1 s.0.0 s.0.1 first.0.rest_fits s.1 in
      let third = c.takes s.0.1 t.0.0 t.0.1 second.0.rest_fits t.1 in
      let is = ok_is (make f.0.0 s.0.0 t.0.0, t.0.1) (w, rest) t.2 in
      let front = Takes-then bytes (bytes_of f.0.0) f.0.1 (bytes_of2 s.0.0) s.0.1 first.0 second.0 in
      record {
        first = f.0.0;
        second = s.0.0;
        third = t.0.0;
        made = ap (λ (p : W × List ℕ). p.0) is;
        taken = subst (λ (r : List ℕ). Takes bytes (bytes_of f.0.0 ++ bytes_of2 s.0.0 ++ bytes_of3 t.0.0) r) (ap (λ (p : W × List ℕ). p.1) is) (Takes-then bytes (bytes_of f.0.0 ++ bytes_of2 s.0.0) s.0.1 (bytes_of3 t.0.0) t.0.1 front third.0);
        fits = first.1;
        fits2 = second.1;
        fits3 = third.1;
      }

  pub three_again : Agrees at bytes_of Fits → Agrees at2 bytes_of2 Fits2 → Agrees at3 bytes_of3 Fits3 → (make : X → Y → Z → W) (x : X) (y : Y) (z : Z) (rest : List ℕ) → Fits x → Fits2 y → Fits3 z
      → (at ((bytes_of x ++ bytes_of2 y ++ bytes_of3 z) ++ rest) >>= λ a. at2 a.1 >>= λ b. at3 b.1 >>= λ c. gave (make a.0 b.0 c.0) c.1) ≡ Ok (make x y z, rest)
  three_again a b c make x y z rest h k l =
      let parts : (bytes_of x ++ bytes_of2 y ++ bytes_of3 z) ++ rest ≡ bytes_of x ++ (bytes_of2 y ++ (bytes_of3 z ++ rest)) = append_assoc (bytes_of x ++ bytes_of2 y) (bytes_of3 z) rest ∙ append_assoc (bytes_of x) (bytes_of2 y) (bytes_of3 z ++ rest) in
      ap (λ (t : List ℕ). at t >>= λ a. at2 a.1 >>= λ b. at3 b.1 >>= λ c. gave (make a.0 b.0 c.0) c.1) parts
      ∙ rw (a.again x (bytes_of2 y ++ (bytes_of3 z ++ rest)) h, b.again y (bytes_of3 z ++ rest) k, c.again z rest l) refl

-- their number, and then the items
module _ {X : Type 0} {at : List ℕ → Reading X} {bytes_of : X → List ℕ} {Fits : X → Type 0} where
  counted_takes : Agrees at bytes_of Fits → (bytes : List ℕ) (xs : List X) (rest : List ℕ) → IsBytes bytes → counted_at at bytes ≡ Ok (xs, rest) → Takes bytes (counted bytes_of xs) rest × ((length xs < 2 ^ 32) × AllByRecursion Fits xs)
  counted_takes a bytes xs rest fits e =
      let n = bind_ok (number_at w32 bytes) (λ n. many_at at n.0 n.1) (xs, rest) e in
      let number = u32_agrees.takes bytes n.0.0 n.0.1 fits n.1 in
      let items = many_take a n.0.0 n.0.1 xs rest number.0.rest_fits n.2 in
      let both = Takes-then bytes (u32_bytes n.0.0) n.0.1 (flat_map bytes_of xs) rest number.0 items.0 in
      (subst (λ (k : ℕ). Takes bytes (u32_bytes k ++ flat_map bytes_of xs) rest) (sym items.1) both, (omega (arith, number.1, items.1), items.2))

  counted_again : Agrees at bytes_of Fits → (xs : List X) (rest : List ℕ) → (length xs < 2 ^ 32) × AllByRecursion Fits xs → counted_at at (counted bytes_of xs ++ rest) ≡ Ok (xs, rest)
  counted_again a xs rest fit =
      ap (counted_at at) (append_assoc (u32_bytes (length xs)) (flat_map bytes_of xs) rest)
      ∙ rw (u32_agrees.again (length xs) (flat_map bytes_of xs ++ rest) fit.0) (many_again a xs rest fit.1)

  pub counted_agrees : Agrees at bytes_of Fits → Agrees (counted_at at) (counted bytes_of) (λ xs. (length xs < 2 ^ 32) × AllByRecursion Fits xs)
  counted_agrees a = record { takes = counted_takes a; again = counted_again a }

-- a length, and so many bytes under a rule
module _ {at : List ℕ → Reading ℕ} {bytes_of : ℕ → List ℕ} {Fits : ℕ → Type 0} where
  string_takes : (rule : List ℕ → Bool) → Agrees at bytes_of Fits → (bytes x rest : List ℕ) → IsBytes bytes → (at bytes >>= λ n. keeping rule (bytes_at n.0 n.1)) ≡ Ok (x, rest) → Takes bytes (bytes_of (length x) ++ x) rest × (Fits (length x) × (rule x ≡ true))
  string_takes rule a bytes x rest fits e =
      let n = bind_ok (at bytes) (λ n. keeping rule (bytes_at n.0 n.1)) (x, rest) e in
      let k = kept_ok rule (bytes_at n.0.0 n.0.1) (x, rest) n.2 in
      let number = a.takes bytes n.0.0 n.0.1 fits n.1 in
      let front = bytes_take n.0.0 n.0.1 x rest number.0.rest_fits k.0 in
      let both = Takes-then bytes (bytes_of n.0.0) n.0.1 x rest number.0 front.0 in
      (subst (λ (j : ℕ). Takes bytes (bytes_of j ++ x) rest) (sym front.1) both, (subst Fits (sym front.1) number.1, k.1))

  string_again : (rule : List ℕ → Bool) → Agrees at bytes_of Fits → (x rest : List ℕ) → Fits (length x) × (rule x ≡ true) → (at ((bytes_of (length x) ++ x) ++ rest) >>= λ n. keeping rule (bytes_at n.0 n.1)) ≡ Ok (x, rest)
  string_again rule a x rest fit =
      ap (λ (t : List ℕ). at t >>= λ n. keeping rule (bytes_at n.0 n.1)) (append_assoc (bytes_of (length x)) x rest)
      ∙ rw (a.again (length x) (x ++ rest) fit.0) (kept_again rule (bytes_at (length x) (x ++ rest)) (x, rest) (bytes_again x rest) fit.1)

  pub string_agrees : (rule : List ℕ → Bool) → Agrees at bytes_of Fits → Agrees (λ bytes. at bytes >>= λ n. keeping rule (bytes_at n.0 n.1)) (λ x. bytes_of (length x) ++ x) (λ x. Fits (length x) × (rule x ≡ true))
  string_agrees rule a = record { takes = string_takes rule a; again = string_again rule a }
