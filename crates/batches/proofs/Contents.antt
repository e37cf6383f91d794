-- A content is that of one batch.
use Rattle.std.proofs.Common.{◌≡◌, ℕ, ◌+◌, ◌<◌, ◌≤◌, ◌^◌, List, [], ◌∷◌, ◌++◌, length, take, drop, Some, Result, Ok, Err, refl, sym, ap, subst, ◌∙◌, append_assoc, append-nil, arith}
use Rattle.std.specs.Prelude.{OnOk, OnErr}
use Rattle.std.specs.Int.{w32, to_be_bytes}
use Rattle.std.proofs.lemmas.List.{length-append, drop-append-le, take-map, map-append}
use Rattle.records.specs.Spelling.{IsPayload}
use Rattle.records.specs.declared.place.TheConstants.{LARGEST_PAYLOAD, RECORD_HEAD}
use Rattle.records.proofs.Fields.{wide32, number_again, part_again, found, some_is}
use Rattle.batches.specs.Batches.{content_of, contents_of, in_order, AreBatches}
use Rattle.batches.specs.Contents.{payload_at, IsContent, IsContentOf}

pub length-content : (p : List ℕ) (ps : List (List ℕ)) → length (content_of (p ∷ ps)) ≡ 4 + (length p + length (content_of ps))
length-content p ps = omega (arith, length-append p (content_of ps), length-append (to_be_bytes w32 (length p)) (p ++ content_of ps), wide32.len (length p))

-- the payload at the front, whatever content follows it
pub first_payload : (p rest : List ℕ) → length p < 2 ^ 32 → payload_at (to_be_bytes w32 (length p) ++ (p ++ rest)) ≡ Some (p, rest)
unfolding payload_at
first_payload p rest lt = rw (number_again w32 (2 ^ 32) wide32 (length p) (p ++ rest) lt) (part_again p rest)

pub content-append : (ps : List (List ℕ)) (p : List ℕ) → content_of (ps ++ p ∷ []) ≡ content_of ps ++ (to_be_bytes w32 (length p) ++ p)
content-append [] p = ap (λ (x : List ℕ). to_be_bytes w32 (length p) ++ x) (append-nil p)
content-append (q ∷ ps) p =
    let last = to_be_bytes w32 (length p) ++ p in
    ap (λ (x : List ℕ). to_be_bytes w32 (length q) ++ (q ++ x)) (content-append ps p)
    ∙ ap (λ (x : List ℕ). to_be_bytes w32 (length q) ++ x) (sym (append_assoc q (content_of ps) last))
    ∙ sym (append_assoc (to_be_bytes w32 (length q)) (q ++ content_of ps) last)

pub one_content : (ps qs : List (List ℕ)) → IsPayload (content_of ps) → IsPayload (content_of qs) → content_of ps ≡ content_of qs → ps ≡ qs
one_content [] [] f g e = refl
one_content [] (q ∷ qs) f g e = absurd (omega (arith, ap length e, length-content q qs))
one_content (p ∷ ps) [] f g e = absurd (omega (arith, ap length e, length-content p ps))
one_content (p ∷ ps) (q ∷ qs) f g e =
    let x = content_of ps in
    let y = content_of qs in
    let short : length p < 2 ^ 32 = omega (arith, f, length-content p ps) in
    let also : length q < 2 ^ 32 = omega (arith, g, length-content q qs) in
    let same : found (p, x) ≡ found (q, y) = sym (first_payload p x short) ∙ ap payload_at e ∙ first_payload q y also in
    let pair = some_is (p, x) (q, y) same in
    let first : p ≡ q = ap (λ (z : List ℕ × List ℕ). z.0) pair in
    let others : x ≡ y = ap (λ (z : List ℕ × List ℕ). z.1) pair in
    let rest : ps ≡ qs = one_content ps qs (omega (arith, f, length-content p ps)) (omega (arith, g, length-content q qs)) others in
    ap (λ (z : List ℕ). z ∷ ps) first ∙ ap (λ (zs : List (List ℕ)). q ∷ zs) rest

first_item : {X : Type 0} {x y : X} {xs ys : List X} → x ∷ xs ≡ y ∷ ys → x ≡ y
first_item e = cc

other_items : {X : Type 0} {x y : X} {xs ys : List X} → x ∷ xs ≡ y ∷ ys → xs ≡ ys
other_items e = cc

-- contents are those of one list of batches
pub same_batches : (bs cs : List (List (List ℕ))) → AreBatches bs → AreBatches cs → contents_of bs ≡ contents_of cs → bs ≡ cs
same_batches [] [] f g e = refl
same_batches [] (c ∷ cs) f g e = absurd cc
same_batches (b ∷ bs) [] f g e = absurd cc
same_batches (b ∷ bs) (c ∷ cs) f g e =
    ap (λ (z : List (List ℕ)). z ∷ bs) (one_content b c f.0 g.0 (first_item e)) ∙ ap (λ (zs : List (List (List ℕ))). c ∷ zs) (same_batches bs cs f.1 g.1 (other_items e))

pub contents-take : (k : ℕ) (bs : List (List (List ℕ))) → take k (contents_of bs) ≡ contents_of (take k bs)
contents-take k bs = take-map content_of k bs

pub contents-append : (bs cs : List (List (List ℕ))) → contents_of (bs ++ cs) ≡ contents_of bs ++ contents_of cs
contents-append bs cs = map-append content_of bs cs

pub in_order-append : (bs : List (List (List ℕ))) (b : List (List ℕ)) → in_order (bs ++ b ∷ []) ≡ in_order bs ++ b
in_order-append [] b = append-nil b
in_order-append (c ∷ bs) b = ap (λ (x : List (List ℕ)). c ++ x) (in_order-append bs b) ∙ sym (append_assoc c (in_order bs) b)

-- what is written after the room for a head
pub put_after : {V E : Type 0} (r : Result V E) (old room new x : List ℕ) → RECORD_HEAD ≤ length room → drop RECORD_HEAD room ≡ drop RECORD_HEAD old → OnOk r (new ≡ room ++ x) → OnOk r (drop RECORD_HEAD new ≡ drop RECORD_HEAD old ++ x)
put_after (Ok v) old room new x long same is = ap (drop RECORD_HEAD) is ∙ drop-append-le RECORD_HEAD room x long ∙ ap (λ (y : List ℕ). y ++ x) same
put_after (Err e) old room new x long same is = tt

grown_content : (old new p : List ℕ) → IsContent old → length old + (4 + length p) ≤ LARGEST_PAYLOAD → new ≡ old ++ (to_be_bytes w32 (length p) ++ p) → IsContent new
grown_content old new p is room grown = record {
  payloads = is.payloads ++ p ∷ [];
  is = grown ∙ ap (λ (x : List ℕ). x ++ (to_be_bytes w32 (length p) ++ p)) is.is ∙ sym (content-append is.payloads p);
  fits = omega (arith, room, ap length grown, length-append old (to_be_bytes w32 (length p) ++ p), length-append (to_be_bytes w32 (length p)) p, wide32.len (length p));
}

-- a content to which a payload was added, or nothing
pub still_content : {V E : Type 0} (r : Result V E) (old new p : List ℕ) → IsContent old → length old + (4 + length p) ≤ LARGEST_PAYLOAD → OnOk r (new ≡ old ++ (to_be_bytes w32 (length p) ++ p)) → OnErr r (new ≡ old) → IsContent new
still_content (Ok v) old new p is room grown kept = grown_content old new p is room grown
still_content (Err e) old new p is room grown kept = subst IsContent (sym kept) is

pub one_more : {V E : Type 0} (r : Result V E) (old new p : List ℕ) → OnOk r (new ≡ old ++ (to_be_bytes w32 (length p) ++ p)) → (payloads : List (List ℕ)) → IsContentOf payloads old → OnOk r (IsContentOf (payloads ++ p ∷ []) new)
one_more (Ok v) old new p grown payloads is = grown ∙ ap (λ (x : List ℕ). x ++ (to_be_bytes w32 (length p) ++ p)) is ∙ sym (content-append payloads p)
one_more (Err e) old new p grown payloads is = tt
