-- Bytes that come by pieces, and the bytes that a reader of the first version is given.
use Rattle.std.proofs.Common.{◌≡◌, ℕ, ◌+◌, ◌<◌, ◌≤◌, ◌==◌, Bool, true, false, List, [], ◌∷◌, ◌++◌, length, take, drop, refl, sym, ap, subst, ◌∙◌, append_assoc, arith}
use Rattle.std.specs.Prelude.{slice_index_or}
use Rattle.std.proofs.lemmas.List.{length-append, get_or_past, get_or_append_left, get_or-append-add, take-append-le, drop-append-le, drop_at, drop-drop}
use Rattle.std.proofs.Math.Seq.{take-append-add}
use Rattle.records.specs.Readers.{Kept, HasRead}
use Rattle.batches.specs.Reading.{is_batched, as_first}
use Rattle.batches.specs.Readers.{SegmentKept, turned, HasReadSegment}

-- before the version has come
pub early : (bytes : List ℕ) → length bytes ≤ 7 → is_batched bytes ≡ false
early bytes short = ap (λ (v : ℕ). v == 2) (get_or_past bytes 7 0 short)

turned_as : (bytes : List ℕ) → is_batched bytes ≡ true → turned bytes ≡ as_first bytes
turned_as bytes is = rw is refl

turned_not : (bytes : List ℕ) → is_batched bytes ≡ false → turned bytes ≡ bytes
turned_not bytes is = rw is refl

-- once it has come
pub batched_more : (bytes piece : List ℕ) → 8 ≤ length bytes → is_batched (bytes ++ piece) ≡ is_batched bytes
batched_more bytes piece long = ap (λ (v : ℕ). v == 2) (get_or_append_left bytes piece 0 7 (omega (arith, long)))

first_more : (bytes piece : List ℕ) → 8 ≤ length bytes → as_first (bytes ++ piece) ≡ as_first bytes ++ piece
first_more bytes piece long =
    ap (λ (x : List ℕ). x ++ 1 ∷ drop 8 (bytes ++ piece)) (take-append-le 7 bytes piece (omega (arith, long)))
    ∙ ap (λ (x : List ℕ). take 7 bytes ++ 1 ∷ x) (drop-append-le 8 bytes piece long)
    ∙ sym (append_assoc (take 7 bytes) (1 ∷ drop 8 bytes) piece)

pub turned_more : (bytes piece : List ℕ) → 8 ≤ length bytes → turned (bytes ++ piece) ≡ turned bytes ++ piece
turned_more bytes piece long = by_version (is_batched bytes) refl
  where
    by_version : (b : Bool) → is_batched bytes ≡ b → turned (bytes ++ piece) ≡ turned bytes ++ piece
    by_version true is = turned_as (bytes ++ piece) (batched_more bytes piece long ∙ is) ∙ first_more bytes piece long ∙ ap (λ (x : List ℕ). x ++ piece) (sym (turned_as bytes is))
    by_version false is = turned_not (bytes ++ piece) (batched_more bytes piece long ∙ is) ∙ ap (λ (x : List ℕ). x ++ piece) (sym (turned_not bytes is))

-- in a piece that has it after so many bytes
version_of : (bytes piece : List ℕ) (before : ℕ) → length bytes + before ≡ 7 → slice_index_or (bytes ++ piece) 7 0 ≡ slice_index_or piece before 0
version_of bytes piece before at = ap (λ (i : ℕ). slice_index_or (bytes ++ piece) i 0) (sym at) ∙ get_or-append-add bytes piece before 0

pub batched_by : (bytes piece : List ℕ) (before : ℕ) → length bytes + before ≡ 7 → is_batched (bytes ++ piece) ≡ (slice_index_or piece before 0 == 2)
batched_by bytes piece before at = ap (λ (v : ℕ). v == 2) (version_of bytes piece before at)

pub first_by : (bytes piece : List ℕ) (before : ℕ) → length bytes + before ≡ 7 → as_first (bytes ++ piece) ≡ ((bytes ++ take before piece) ++ 1 ∷ []) ++ drop 1 (drop before piece)
first_by bytes piece before at =
    let front : take 7 (bytes ++ piece) ≡ bytes ++ take before piece = ap (λ (i : ℕ). take i (bytes ++ piece)) (sym at) ∙ take-append-add bytes piece before in
    let after : 8 ≡ length bytes + (before + 1) = omega (arith, at) in
    let back : drop 8 (bytes ++ piece) ≡ drop 1 (drop before piece) =
    ap (λ (i : ℕ). drop i (bytes ++ piece)) after ∙ sym (drop-drop (before + 1) (length bytes) (bytes ++ piece)) ∙ ap (drop (before + 1)) (drop_at bytes piece (length bytes) refl) ∙ sym (drop-drop 1 before piece) in
    ap (λ (x : List ℕ). x ++ 1 ∷ drop 8 (bytes ++ piece)) front ∙ ap (λ (x : List ℕ). (bytes ++ take before piece) ++ 1 ∷ x) back
    ∙ sym (append_assoc (bytes ++ take before piece) (1 ∷ []) (drop 1 (drop before piece)))

-- ---- what a reader keeps

pub read_nothing : (k : Kept) → HasRead [] [] k → HasReadSegment [] [] (record { reader = k; seen = 0; batched = false })
read_nothing k read = record { seen_is = refl; batched_is = refl; read = read }

grows : (bytes piece : List ℕ) (n m : ℕ) → m ≡ length bytes → n ≡ m + length piece → n ≡ length (bytes ++ piece)
grows bytes piece n m is step = omega (arith, is, step, length-append bytes piece)

-- a piece came after the version
pub later_piece : (bytes piece : List ℕ) (given : List (List ℕ)) (k new : SegmentKept) (r : Kept) (n : ℕ) → new ≡ record k { reader = r; seen = n } → n ≡ k.seen + length piece → 7 < k.seen
    → ((bs : List ℕ) (gs : List (List ℕ)) → HasRead bs gs k.reader → HasRead (bs ++ piece) gs r) → HasReadSegment bytes given k → HasReadSegment (bytes ++ piece) given new
later_piece bytes piece given k new r n is all late step h =
    let long : 8 ≤ length bytes = omega (arith, h.seen_is, late) in
    subst (λ (x : SegmentKept). HasReadSegment (bytes ++ piece) given x) (sym is) (record {
      seen_is = grows bytes piece n k.seen h.seen_is all;
      batched_is = h.batched_is ∙ sym (batched_more bytes piece long);
      read = subst (λ (x : List ℕ). HasRead x given r) (sym (turned_more bytes piece long)) (step (turned bytes) given h.read);
    })

-- a piece came before the version
pub early_piece : (bytes piece : List ℕ) (given : List (List ℕ)) (k new : SegmentKept) (r : Kept) (n : ℕ) → new ≡ record k { reader = r; seen = n } → n ≡ k.seen + length piece → n ≤ 7
    → ((bs : List ℕ) (gs : List (List ℕ)) → HasRead bs gs k.reader → HasRead (bs ++ piece) gs r) → HasReadSegment bytes given k → HasReadSegment (bytes ++ piece) given new
early_piece bytes piece given k new r n is all short step h =
    let longer = grows bytes piece n k.seen h.seen_is all in
    let before = early bytes (omega (arith, short, all, h.seen_is)) in
    let after = early (bytes ++ piece) (omega (arith, short, longer)) in
    let old : HasRead bytes given k.reader = subst (λ (x : List ℕ). HasRead x given k.reader) (turned_not bytes before) h.read in
    subst (λ (x : SegmentKept). HasReadSegment (bytes ++ piece) given x) (sym is) (record {
      seen_is = longer;
      batched_is = h.batched_is ∙ before ∙ sym after;
      read = subst (λ (x : List ℕ). HasRead x given r) (sym (turned_not (bytes ++ piece) after)) (step bytes given old);
    })

-- a piece came with the version of a file of records
pub first_version : (bytes piece : List ℕ) (before : ℕ) (given : List (List ℕ)) (k new : SegmentKept) (r : Kept) (n : ℕ) → new ≡ record k { reader = r; seen = n } → n ≡ k.seen + length piece → k.seen + before ≡ 7
    → (slice_index_or piece before 0 == 2) ≡ false
    → ((bs : List ℕ) (gs : List (List ℕ)) → HasRead bs gs k.reader → HasRead (bs ++ piece) gs r) → HasReadSegment bytes given k → HasReadSegment (bytes ++ piece) given new
first_version bytes piece before given k new r n is all at other step h =
    let place : length bytes + before ≡ 7 = omega (arith, at, h.seen_is) in
    let was = early bytes (omega (arith, place)) in
    let now : is_batched (bytes ++ piece) ≡ false = batched_by bytes piece before place ∙ other in
    let old : HasRead bytes given k.reader = subst (λ (x : List ℕ). HasRead x given k.reader) (turned_not bytes was) h.read in
    subst (λ (x : SegmentKept). HasReadSegment (bytes ++ piece) given x) (sym is) (record {
      seen_is = grows bytes piece n k.seen h.seen_is all;
      batched_is = h.batched_is ∙ was ∙ sym now;
      read = subst (λ (x : List ℕ). HasRead x given r) (sym (turned_not (bytes ++ piece) now)) (step bytes given old);
    })

-- a piece came with the version of a file of batches
pub batch_version : (bytes piece : List ℕ) (before : ℕ) (given : List (List ℕ)) (k new : SegmentKept) (r : Kept) (n : ℕ) → new ≡ record { reader = r; seen = n; batched = true } → n ≡ k.seen + length piece → k.seen + before ≡ 7
    → (slice_index_or piece before 0 == 2) ≡ true
    → ((bs : List ℕ) (gs : List (List ℕ)) → HasRead bs gs k.reader → HasRead (((bs ++ take before piece) ++ 1 ∷ []) ++ drop 1 (drop before piece)) gs r) → HasReadSegment bytes given k → HasReadSegment (bytes ++ piece) given new
batch_version bytes piece before given k new r n is all at same step h =
    let place : length bytes + before ≡ 7 = omega (arith, at, h.seen_is) in
    let was = early bytes (omega (arith, place)) in
    let now : is_batched (bytes ++ piece) ≡ true = batched_by bytes piece before place ∙ same in
    let old : HasRead bytes given k.reader = subst (λ (x : List ℕ). HasRead x given k.reader) (turned_not bytes was) h.read in
    subst (λ (x : SegmentKept). HasReadSegment (bytes ++ piece) given x) (sym is) (record {
      seen_is = grows bytes piece n k.seen h.seen_is all;
      batched_is = sym now;
      read = subst (λ (x : List ℕ). HasRead x given r) (sym (turned_as (bytes ++ piece) now ∙ first_by bytes piece before place)) (step bytes given old);
    })
