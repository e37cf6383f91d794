-- What a file begins with.
use Rattle.std.proofs.Common.{◌≡◌, ◌⊎◌, ℕ, zero, suc, ◌<◌, ◌≤◌, ◌^◌, ◌==◌, true, false, List, [], ◌∷◌, ◌++◌, length, take, drop, min, inl, inr, refl, sym, ap, ◌∙◌, arith, append_assoc, append-nil}
use Rattle.std.specs.Int.{w64, to_be_bytes, from_be_bytes}
use Rattle.std.proofs.lemmas.Bool.{eqb-true, and_parts}
use Rattle.std.proofs.lemmas.Bool.Decides.{nat_tests}
use Rattle.std.proofs.lemmas.List.{drop_all, drop-drop, length-append, length-take, length-drop, take-append-drop}
use Rattle.records.specs.declared.head.TheConstants.{HEAD}
use Rattle.records.specs.Spelling.{magic, head_of}
use Rattle.records.specs.Heads.{agree, may_begin, salt_of}
use Rattle.records.specs.Files.{AreBytes}
use Rattle.records.proofs.Fields.{wide64, AreBytes-take, AreBytes-drop}

no_items : (xs : List ℕ) → length xs ≡ 0 → xs ≡ []
no_items [] none = refl
no_items (x ∷ xs) none = absurd (omega (arith, none))

-- of two that agree one is a front of the other
pub agree-cases : (bytes others : List ℕ) → agree bytes others ≡ true → ((rest : List ℕ) × (bytes ≡ others ++ rest)) ⊎ ((rest : List ℕ) × (others ≡ bytes ++ rest))
agree-cases [] others is = inr (others, refl)
agree-cases (b ∷ bytes) [] is = inl (b ∷ bytes, refl)
agree-cases (b ∷ bytes) (c ∷ others) is =
    let parts = and_parts (b == c) (agree bytes others) is in
    let same : b ≡ c = eqb-true b c parts.0 in
    elim (agree-cases bytes others parts.1) [
      | inl longer ↦ inl (longer.0, (λ i. same i ∷ longer.1 i))
      | inr shorter ↦ inr (shorter.0, (λ i. sym same i ∷ shorter.1 i))
    ]

pub agree-front : (others rest : List ℕ) → agree (others ++ rest) others ≡ true
agree-front [] [] = refl
agree-front [] (b ∷ rest) = refl
agree-front (c ∷ others) rest = grind (arith, nat_tests, agree-front others rest)

-- what does not agree does not agree longer
pub agree-false : (bytes piece others : List ℕ) → agree bytes others ≡ false → agree (bytes ++ piece) others ≡ false
agree-false [] piece others is = absurd cc
agree-false (b ∷ bytes) piece [] is = absurd cc
agree-false (b ∷ bytes) piece (c ∷ others) is = grind (arith, agree-false bytes piece others, is)

agree-nil : (piece : List ℕ) → agree piece [] ≡ true
agree-nil [] = refl
agree-nil (b ∷ piece) = refl

pub agree-done : (bytes others : List ℕ) (i : ℕ) → min (length bytes) (length others) ≤ i → agree (drop i bytes) (drop i others) ≡ true
agree-done [] others i done = ap (λ bs. agree bs (drop i others)) (drop_all i [] (omega arith))
agree-done (b ∷ bytes) [] i done = ap (agree (drop i (b ∷ bytes))) (drop_all i [] (omega arith)) ∙ agree-nil (drop i (b ∷ bytes))
agree-done (b ∷ bytes) (c ∷ others) zero done = absurd (omega arith)
agree-done (b ∷ bytes) (c ∷ others) (suc i) done = agree-done bytes others i (omega arith)

-- the first bytes of what begins with the others agree with them
pub agree-take : (n : ℕ) (others rest : List ℕ) → agree (take n (others ++ rest)) others ≡ true
agree-take zero others rest = refl
agree-take (suc n) [] [] = refl
agree-take (suc n) [] (b ∷ rest) = refl
agree-take (suc n) (c ∷ others) rest = grind (arith, nat_tests, agree-take n others rest)

-- bytes that agree, and are as long, begin with the others
begins : (bytes others : List ℕ) → agree bytes others ≡ true → length others ≤ length bytes → (rest : List ℕ) × (bytes ≡ others ++ rest)
begins bytes others is le =
    elim (agree-cases bytes others is) [
      | inl longer ↦ longer
      | inr shorter ↦
          let none : length shorter.0 ≡ 0 = omega (arith, le, ap length shorter.1, length-append bytes shorter.0) in
          ([], sym (append-nil others ∙ shorter.1 ∙ ap (λ (x : List ℕ). bytes ++ x) (no_items shorter.0 none) ∙ append-nil bytes))
    ]

pub length-head_of : (salt : ℕ) → length (head_of salt) ≡ HEAD
unfolding head_of
length-head_of salt = refl

pub salt_fits : (bytes : List ℕ) → AreBytes bytes → salt_of bytes < 2 ^ 64
salt_fits bytes are = wide64.below (take 8 (drop 8 bytes)) (AreBytes-take 8 (drop 8 bytes) (AreBytes-drop 8 bytes are))

-- what may begin a file and is long enough is a head, and what follows it
pub head_stands : (bytes : List ℕ) → AreBytes bytes → may_begin bytes ≡ true → HEAD ≤ length bytes → bytes ≡ head_of (salt_of bytes) ++ drop HEAD bytes
unfolding head_of
head_stands bytes are is le =
    let front = begins bytes magic is (omega arith) in
    let rest_is : drop 8 bytes ≡ front.0 = ap (drop 8) front.1 in
    let long : length (take 8 (drop 8 bytes)) ≡ 8 = omega (arith, length-take 8 (drop 8 bytes), length-drop 8 bytes) in
    let back : to_be_bytes w64 (salt_of bytes) ≡ take 8 (drop 8 bytes) = wide64.back (take 8 (drop 8 bytes)) long (AreBytes-take 8 (drop 8 bytes) (AreBytes-drop 8 bytes are)) in
    let after : drop 8 (drop 8 bytes) ≡ drop HEAD bytes = drop-drop 8 8 bytes in
    let joined : front.0 ≡ to_be_bytes w64 (salt_of bytes) ++ drop HEAD bytes = sym rest_is ∙ sym (take-append-drop 8 (drop 8 bytes)) ∙ ap (λ (x : List ℕ). x ++ drop 8 (drop 8 bytes)) (sym back) ∙ ap (λ (x : List ℕ). to_be_bytes w64 (salt_of bytes) ++ x) after in
    front.1 ∙ ap (λ (x : List ℕ). magic ++ x) joined ∙ sym (append_assoc magic (to_be_bytes w64 (salt_of bytes)) (drop HEAD bytes))

-- a file begins so, as far as it goes
pub head_may_begin : (n salt : ℕ) (rest : List ℕ) → may_begin (take n (head_of salt ++ rest)) ≡ true
unfolding head_of
head_may_begin n salt rest = ap (λ (x : List ℕ). may_begin (take n x)) (append_assoc magic (to_be_bytes w64 salt) rest) ∙ agree-take n magic (to_be_bytes w64 salt ++ rest)

pub head_begins : (salt : ℕ) (rest : List ℕ) → may_begin (head_of salt ++ rest) ≡ true
unfolding head_of
head_begins salt rest = ap may_begin (append_assoc magic (to_be_bytes w64 salt) rest) ∙ agree-front magic (to_be_bytes w64 salt ++ rest)

-- a file has one salt
pub same_head : (salt other : ℕ) (rest others : List ℕ) → salt < 2 ^ 64 → other < 2 ^ 64 → head_of salt ++ rest ≡ head_of other ++ others → (salt ≡ other) × (rest ≡ others)
unfolding head_of
same_head salt other rest others fits fit e =
    let salts : to_be_bytes w64 salt ≡ to_be_bytes w64 other = ap (λ (x : List ℕ). take 8 (drop 8 x)) e in
    let same : salt ≡ other = sym (wide64.again salt fits) ∙ ap (from_be_bytes w64) salts ∙ wide64.again other fit in
    (same, ap (drop HEAD) e)
