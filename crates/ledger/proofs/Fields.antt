-- The fields of payloads are read as they are written.
use Rattle.std.proofs.Common.{◌≡◌, ℕ, zero, suc, ◌^◌, ◌<◌, ◌≤◌, ◌&&◌, ◌⊎◌, Bool, true, false, cond, eqb, leb, List, [], ◌∷◌, ◌++◌, length, Option, Some, None, Ok, refl, sym, ap, subst, ◌∙◌, append_assoc, arith, inl, inr}
use Rattle.std.specs.Int.{w32}
use Rattle.std.specs.List.{flat_map, list_all, AllByRecursion}
use Rattle.std.proofs.lemmas.Bool.{and_parts, leb-true, le-leb, eqb-true, ne_eqb}
use Rattle.std.proofs.lemmas.List.Concat.{flat_map-cons}
use Rattle.maildrop.specs.Name.{is_name, is_visible}
use Rattle.maildrop.specs.Key.{is_key}
use Rattle.ledger.specs.declared.kind.Kind.{Kind}
use Rattle.ledger.specs.declared.kind.Kind.TheVariants as kind
use Rattle.ledger.specs.declared.malformed.Malformed.TheVariants as malformed
use Rattle.ledger.specs.Payloads.{kind_number, kind_of, is_name_length, is_key_length, counted, key_bytes, long_string, short_string, u32_bytes, u64_bytes}
use Rattle.ledger.specs.Reading.{◌>>=◌, keeping, known, byte_at, bytes_at, number_at, kind_at, name_at, key_at, some_key_at, optional_key_at, is_line, line_at, text_at, is_above, uid_at, uids_from, uids_at}
use Rattle.ledger.specs.Fitting.{Rises, FitsKey, FitsLine, FitsText, FitsUids}
use Rattle.ledger.proofs.Steps.{bind_ok, kept_ok, kept_again, known_ok, ok_is, gave}
use Rattle.ledger.proofs.Formats.{IsBytes, Takes, Takes-none, Takes-then, Agrees, byte_agrees, u32_agrees, u64_agrees, bytes_take, bytes_again, keeping_agrees, fitting, counted_agrees, string_agrees}
use Rattle.ledger.proofs.Ascending.{uids_rise}

-- kinds

pub chosen : {X : Type 0} (b : Bool) (x y z : X) → cond b x y ≡ z → ((b ≡ true) × (x ≡ z)) ⊎ ((b ≡ false) × (y ≡ z))
chosen true x y z e = inl (refl, e)
chosen false x y z e = inr (refl, e)

one_kind : (n i : ℕ) (at k : Kind) → eqb n i ≡ true → i ≡ kind_number at → Some at ≡ Some k → n ≡ kind_number k
one_kind n i at k e is same = let one : at ≡ k = cc same in subst (λ (k : Kind). n ≡ kind_number k) one (eqb-true n i e ∙ is)

kind_is : (n : ℕ) (k : Kind) → kind_of n ≡ Some k → n ≡ kind_number k
kind_is n k e =
    elim (chosen (eqb n 2) _ _ (Some k) e) [
      | inl h ↦ one_kind n 2 kind.Stored k h.0 refl h.1
      | inr h ↦ elim (chosen (eqb n 3) _ _ (Some k) h.1) [
        | inl h ↦ one_kind n 3 kind.Removed k h.0 refl h.1
        | inr h ↦ elim (chosen (eqb n 4) _ _ (Some k) h.1) [
          | inl h ↦ one_kind n 4 kind.Keyed k h.0 refl h.1
          | inr h ↦ elim (chosen (eqb n 5) _ _ (Some k) h.1) [
            | inl h ↦ one_kind n 5 kind.Next k h.0 refl h.1
            | inr h ↦ absurd (cc (h.1))
          ]
        ]
      ]
    ]

kind_of_number : (k : Kind) → kind_of (kind_number k) ≡ Some k
kind_of_number kind.Stored = refl
kind_of_number kind.Removed = refl
kind_of_number kind.Keyed = refl
kind_of_number kind.Next = refl

kind_takes : (bytes : List ℕ) (k : Kind) (rest : List ℕ) → IsBytes bytes → kind_at bytes ≡ Ok (k, rest) → Takes bytes (kind_number k ∷ []) rest × Unit {0}
unfolding kind_at
kind_takes bytes k rest fits e =
    let n = bind_ok (byte_at bytes) (λ n. known malformed.Kind (kind_of n.0) >>= λ kind. gave kind n.1) (k, rest) e in
    let named = bind_ok (known malformed.Kind (kind_of n.0.0)) (λ kind. gave kind n.0.1) (k, rest) n.2 in
    let number = byte_agrees.takes bytes n.0.0 n.0.1 fits n.1 in
    let is : n.0.0 ≡ kind_number named.0 = kind_is n.0.0 named.0 (known_ok malformed.Kind (kind_of n.0.0) named.0 named.1) in
    subst (λ (p : Kind × List ℕ). Takes bytes (kind_number p.0 ∷ []) p.1 × Unit {0}) (ok_is (named.0, n.0.1) (k, rest) named.2)
    (subst (λ (i : ℕ). Takes bytes (i ∷ []) n.0.1) is number.0, tt)

kind_again : (k : Kind) (rest : List ℕ) → Unit {0} → kind_at (kind_number k ∷ [] ++ rest) ≡ Ok (k, rest)
unfolding kind_at
kind_again k rest h = rw (kind_of_number k) refl

pub kind_agrees : Agrees kind_at (λ k. kind_number k ∷ []) (λ k. Unit {0})
kind_agrees = record { takes = kind_takes; again = kind_again }

-- names and lines

name_length : (name : List ℕ) → is_name name ≡ true → is_name_length (length name) ≡ true
name_length name h =
    let p = and_parts (leb 1 (length name) && leb (length name) 40) (list_all is_visible name) (grind arith) in
    p.0

small_length : (n : ℕ) → is_name_length n ≡ true → n < 256
small_length n h = let p = and_parts (leb 1 n) (leb n 40) h in omega (arith, leb-true n 40 p.1)

pub name_agrees : Agrees name_at short_string (λ name. is_name name ≡ true)
unfolding name_at
name_agrees = fitting (λ name. is_name name ≡ true) (λ name h. h.1) (λ name h. ((small_length (length name) (name_length name h), name_length name h), h)) (string_agrees is_name (keeping_agrees is_name_length byte_agrees))

pub line_agrees : Agrees line_at long_string FitsLine
unfolding line_at
line_agrees = fitting FitsLine (λ line h. record { length = h.0; rule = h.1 }) (λ line h. (h.length, h.rule)) (string_agrees is_line u32_agrees)

pub text_agrees : Agrees text_at (counted long_string) FitsText
unfolding text_at
text_agrees = fitting FitsText (λ text h. record { count = h.0; lines = h.1 }) (λ text h. (h.count, h.lines)) (counted_agrees line_agrees)

-- keys

length_agrees : Agrees (λ bytes. keeping is_key_length (byte_at bytes)) (λ n. n ∷ []) (λ n. (n < 256) × (is_key_length n ≡ true))
length_agrees = keeping_agrees is_key_length byte_agrees

key_parts : (key : List ℕ) → is_key key ≡ true → (1 ≤ length key) × (length key ≤ 64)
key_parts key h =
    let p : (leb 1 (length key) && leb (length key) 64) ≡ true = (grind arith) in
    let q = and_parts (leb 1 (length key)) (leb (length key) 64) p in
    (leb-true 1 (length key) q.0, leb-true (length key) 64 q.1)

optional_takes : (bytes : List ℕ) (k : Option (List ℕ)) (rest : List ℕ) → IsBytes bytes → optional_key_at bytes ≡ Ok (k, rest) → Takes bytes (key_bytes k) rest × FitsKey k
unfolding optional_key_at some_key_at
optional_takes bytes k rest fits e =
    let n = bind_ok (keeping is_key_length (byte_at bytes)) (λ len. cond (eqb len.0 0) (gave None len.1) (some_key_at len.0 len.1)) (k, rest) e in
    let number = length_agrees.takes bytes n.0.0 n.0.1 fits n.1 in
    elim (chosen (eqb n.0.0 0) (gave None n.0.1) (some_key_at n.0.0 n.0.1) (Ok (k, rest)) n.2) [
      | inl h ↦
          let zero-is : n.0.0 ≡ 0 = eqb-true n.0.0 0 h.0 in
          let none : Takes bytes (0 ∷ []) n.0.1 = subst (λ (j : ℕ). Takes bytes (j ∷ []) n.0.1) zero-is number.0 in
          subst (λ (p : Option (List ℕ) × List ℕ). Takes bytes (key_bytes p.0) p.1 × FitsKey p.0) (ok_is (None, n.0.1) (k, rest) h.1) (none, tt)
      | inr h ↦
          let s = bind_ok (keeping is_key (bytes_at n.0.0 n.0.1)) (λ key. gave (Some key.0) key.1) (k, rest) h.1 in
          let kept = kept_ok is_key (bytes_at n.0.0 n.0.1) s.0 s.1 in
          let front = bytes_take n.0.0 n.0.1 s.0.0 s.0.1 number.0.rest_fits kept.0 in
          let both = Takes-then bytes (n.0.0 ∷ []) n.0.1 s.0.0 s.0.1 number.0 front.0 in
          let written : Takes bytes (short_string s.0.0) s.0.1 = subst (λ (j : ℕ). Takes bytes (j ∷ s.0.0) s.0.1) (sym front.1) both in
          subst (λ (p : Option (List ℕ) × List ℕ). Takes bytes (key_bytes p.0) p.1 × FitsKey p.0) (ok_is (Some s.0.0, s.0.1) (k, rest) s.2) (written, kept.1)
    ]

some_again : (key rest : List ℕ) → is_key key ≡ true → optional_key_at (short_string key ++ rest) ≡ Ok (Some key, rest)
unfolding optional_key_at some_key_at
some_again key rest h =
    let p = key_parts key h in
    let len = length_agrees.again (length key) (key ++ rest) (omega (arith, p.1), le-leb (length key) 64 p.1) in
    let some : eqb (length key) 0 ≡ false = ne_eqb (length key) 0 (λ z. absurd (omega (arith, p.0, z))) in
    let read = kept_again is_key (bytes_at (length key) (key ++ rest)) (key, rest) (bytes_again key rest) h in
    rw (len, some, read) refl

optional_again : (k : Option (List ℕ)) (rest : List ℕ) → FitsKey k → optional_key_at (key_bytes k ++ rest) ≡ Ok (k, rest)
unfolding optional_key_at
optional_again None rest h = refl
optional_again (Some key) rest h = some_again key rest h

pub optional_key_agrees : Agrees optional_key_at key_bytes FitsKey
optional_key_agrees = record { takes = optional_takes; again = optional_again }

small_key : (key : List ℕ) → is_key key ≡ true → (length key < 256) × (is_key_length (length key) ≡ true)
small_key key h = let p = key_parts key h in (omega (arith, p.1), le-leb (length key) 64 p.1)

pub key_agrees : Agrees key_at short_string (λ key. is_key key ≡ true)
unfolding key_at
key_agrees = fitting (λ key. is_key key ≡ true) (λ key h. h.1) (λ key h. (small_key key h, h)) (string_agrees is_key length_agrees)

-- unique ids

uid_agrees : (last : Option ℕ) → Agrees (uid_at last) u64_bytes (λ uid. (uid < 2 ^ 64) × (is_above last uid ≡ true))
unfolding uid_at
uid_agrees last = keeping_agrees (is_above last) u64_agrees

uids_from_take : (n : ℕ) (last : Option ℕ) (bytes xs rest : List ℕ) → IsBytes bytes → uids_from last n bytes ≡ Ok (xs, rest) → Takes bytes (flat_map u64_bytes xs) rest × (length xs ≡ n) × AllByRecursion (λ uid. uid < 2 ^ 64) xs
unfolding uids_from
uids_from_take zero last bytes xs rest fits e =
    subst (λ (p : List ℕ × List ℕ). Takes bytes (flat_map u64_bytes p.0) p.1 × (length p.0 ≡ 0) × AllByRecursion (λ uid. uid < 2 ^ 64) p.0) (ok_is ([], bytes) (xs, rest) e) (Takes-none bytes fits, refl, tt)
uids_from_take (suc n) last bytes xs rest fits e =
    let f = bind_ok (uid_at last bytes) (λ first. uids_from (Some first.0) n first.1 >>= λ others. gave (first.0 ∷ others.0) others.1) (xs, rest) e in
    let o = bind_ok (uids_from (Some f.0.0) n f.0.1) (λ others. gave (f.0.0 ∷ others.0) others.1) (xs, rest) f.2 in
    let a = uid_agrees last in
    let first = a.takes bytes f.0.0 f.0.1 fits f.1 in
    let others = uids_from_take n (Some f.0.0) f.0.1 o.0.0 o.0.1 first.0.rest_fits o.1 in
    let both : Takes bytes (flat_map u64_bytes (f.0.0 ∷ o.0.0)) o.0.1 = rw (flat_map-cons u64_bytes f.0.0 o.0.0) (Takes-then bytes (u64_bytes f.0.0) f.0.1 (flat_map u64_bytes o.0.0) o.0.1 first.0 others.0) in
    subst (λ (p : List ℕ × List ℕ). Takes bytes (flat_map u64_bytes p.0) p.1 × (length p.0 ≡ suc n) × AllByRecursion (λ uid. uid < 2 ^ 64) p.0) (ok_is (f.0.0 ∷ o.0.0, o.0.1) (xs, rest) o.2)
    (both, ap suc others.1, (first.1.0, others.2))

uids_from_again : (xs : List ℕ) (last : Option ℕ) (rest : List ℕ) → AllByRecursion (λ uid. uid < 2 ^ 64) xs → Rises last xs → uids_from last (length xs) (flat_map u64_bytes xs ++ rest) ≡ Ok (xs, rest)
unfolding uids_from
uids_from_again [] last rest small rise = refl
uids_from_again (x ∷ xs) last rest small rise =
    let parts : flat_map u64_bytes (x ∷ xs) ++ rest ≡ u64_bytes x ++ (flat_map u64_bytes xs ++ rest) = ap (λ (t : List ℕ). t ++ rest) (flat_map-cons u64_bytes x xs) ∙ append_assoc (u64_bytes x) (flat_map u64_bytes xs) rest in
    let a = uid_agrees last in
    let first = a.again x (flat_map u64_bytes xs ++ rest) (small.0, rise.0) in
    let others = uids_from_again xs (Some x) rest small.1 rise.1 in
    ap (uids_from last (suc (length xs))) parts ∙ rw (first, others) refl

uids_takes : (bytes xs rest : List ℕ) → IsBytes bytes → uids_at bytes ≡ Ok (xs, rest) → Takes bytes (counted u64_bytes xs) rest × FitsUids xs
unfolding uids_at
uids_takes bytes xs rest fits e =
    let n = bind_ok (number_at w32 bytes) (λ n. uids_from None n.0 n.1) (xs, rest) e in
    let number = u32_agrees.takes bytes n.0.0 n.0.1 fits n.1 in
    let items = uids_from_take n.0.0 None n.0.1 xs rest number.0.rest_fits n.2 in
    let both = Takes-then bytes (u32_bytes n.0.0) n.0.1 (flat_map u64_bytes xs) rest number.0 items.0 in (
      subst (λ (k : ℕ). Takes bytes (u32_bytes k ++ flat_map u64_bytes xs) rest) (sym items.1) both,
      record { count = omega (arith, number.1, items.1); small = items.2; rise = uids_rise n.0.0 None n.0.1 (xs, rest) n.2 },
    )

uids_again : (xs rest : List ℕ) → FitsUids xs → uids_at (counted u64_bytes xs ++ rest) ≡ Ok (xs, rest)
unfolding uids_at
uids_again xs rest fit =
    ap (λ (t : List ℕ). number_at w32 t >>= λ n. uids_from None n.0 n.1) (append_assoc (u32_bytes (length xs)) (flat_map u64_bytes xs) rest)
    ∙ rw (u32_agrees.again (length xs) (flat_map u64_bytes xs ++ rest) fit.count) (uids_from_again xs None rest fit.small fit.rise)

pub uids_agrees : Agrees uids_at (counted u64_bytes) FitsUids
uids_agrees = record { takes = uids_takes; again = uids_again }
