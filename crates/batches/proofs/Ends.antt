-- How a segment ends whose bytes have all come.
use Rattle.std.proofs.Common.{◌≡◌, ◌⊎◌, ℕ, zero, suc, ◌+◌, ◌<◌, ◌≤◌, true, false, List, [], ◌∷◌, ◌++◌, length, take, drop, Option, Some, None, inl, inr, refl, sym, ap, subst, ◌∙◌, append_assoc, append-nil, arith}
use Rattle.std.specs.Prelude.{slice_index_or}
use Rattle.std.proofs.lemmas.Bool.{cases_lt}
use Rattle.std.proofs.lemmas.Bool.Decides.{nat_tests}
use Rattle.std.proofs.lemmas.List.{length-append, length-take, get_or_past, take_at, drop_at}
use Rattle.records.specs.Spelling.{ArePayloads, file_of, head_of, size_of, spelled}
use Rattle.records.specs.Files.{EndsInHead, EndsSo, IsReadAs}
use Rattle.records.specs.Readers.{Kept, IsEndOf, IsDrained, IsIn, salt_in}
use Rattle.records.specs.declared.phase.Phase.{Phase}
use Rattle.records.specs.declared.phase.Phase.TheVariants.{Head, Records, Search, Other}
use Rattle.records.specs.declared.phase.Phase.TheVariants as phase
use Rattle.records.specs.declared.ending.Ending.{Ending}
use Rattle.records.specs.declared.ending.Ending.TheVariants.{Clean, Cut, Torn, Damaged, NotASegment}
use Rattle.records.proofs.Files.{length-spelled}
use Rattle.records.proofs.Heads.{length-head_of}
use Rattle.records.proofs.Salts.{HasSalt, has_salt}
use Rattle.batches.specs.declared.place.TheConstants.{HEAD}
use Rattle.batches.specs.Batches.{batch_file, contents_of}
use Rattle.batches.specs.Reading.{is_batched, as_first, end_of, IsReadByBatches, IsReadSingly, IsSegmentOf}
use Rattle.batches.specs.Readers.{SegmentKept, turned, batch_salt, HasReadSegment}
use Rattle.batches.proofs.Turning.{early, batched_more}

-- what is read fits
read_fits : (bytes : List ℕ) (payloads : List (List ℕ)) (ending : Ending) → IsReadAs bytes payloads ending → ArePayloads payloads
read_fits bytes payloads ending is =
    elim is.parts [
      | inl h ↦ h.payloads_fit
      | inr n ↦ subst ArePayloads (sym n.no_payloads) tt
    ]

-- all that was read was handed out
all_given : (bytes : List ℕ) (given : List (List ℕ)) (k : Kept) (ending : Ending) → IsEndOf bytes given k ending → IsDrained k → IsReadAs bytes given ending
all_given bytes given k ending e drained = subst (λ (g : List (List ℕ)). IsReadAs bytes g ending) (ap (λ (m : List (List ℕ)). given ++ m) (e.none_left drained) ∙ append-nil given) e.is_read

turned_as : (bytes : List ℕ) → is_batched bytes ≡ true → turned bytes ≡ as_first bytes
turned_as bytes is = rw is refl

turned_not : (bytes : List ℕ) → is_batched bytes ≡ false → turned bytes ≡ bytes
turned_not bytes is = rw is refl

pub batches_end : (bytes : List ℕ) (batches : List (List (List ℕ))) (k : SegmentKept) (ending : Ending) → HasReadSegment bytes (contents_of batches) k → k.batched ≡ true → IsDrained k.reader
    → IsEndOf (turned bytes) (contents_of batches) k.reader ending → IsReadByBatches bytes batches ending
batches_end bytes batches k ending h batched drained e =
    let is : is_batched bytes ≡ true = sym h.batched_is ∙ batched in
    let read : IsReadAs (as_first bytes) (contents_of batches) ending =
    subst (λ (x : List ℕ). IsReadAs x (contents_of batches) ending) (turned_as bytes is) (all_given (turned bytes) (contents_of batches) k.reader ending e drained) in
    record { batched = is; batches_fit = read_fits (as_first bytes) (contents_of batches) ending read; contents = read }

pub single_end : (bytes : List ℕ) (given : List (List ℕ)) (k : SegmentKept) (ending : Ending) → HasReadSegment bytes given k → k.batched ≡ false → IsDrained k.reader
    → IsEndOf (turned bytes) given k.reader ending → IsReadSingly bytes given ending
single_end bytes given k ending h single drained e =
    let is : is_batched bytes ≡ false = sym h.batched_is ∙ single in
    record { single = is; read = subst (λ (x : List ℕ). IsReadAs x given ending) (turned_not bytes is) (all_given (turned bytes) given k.reader ending e drained) }

-- the salt that the reader knows is that of the file
pub salt_of_batches : (bytes : List ℕ) (batches : List (List (List ℕ))) (k : SegmentKept) (salt : ℕ) → HasReadSegment bytes (contents_of batches) k → k.batched ≡ true → batch_salt k ≡ Some salt → HasSalt salt (as_first bytes) (contents_of batches)
salt_of_batches bytes batches k salt h batched is =
    let version : is_batched bytes ≡ true = sym h.batched_is ∙ batched in
    let known : batch_salt k ≡ salt_in k.reader.phase = rw batched refl in
    has_salt k.reader.phase (as_first bytes) (contents_of batches) k.reader.place k.reader.bytes salt
    (subst (λ (x : List ℕ). IsIn k.reader.phase x (contents_of batches) k.reader.place k.reader.bytes) (turned_as bytes version) h.read.in_phase) (sym known ∙ is)

pub no_salt : (k : SegmentKept) → k.batched ≡ false → batch_salt k ≡ None
no_salt k single = rw single refl

-- ---- where a file ends

end_in_first : (bytes : List ℕ) (payloads : List (List ℕ)) (ending : Ending) → IsReadAs bytes payloads ending → end_of ending ≤ length bytes
end_in_first bytes payloads ending is =
    elim is.parts [
      | inl h ↦
          let long : HEAD + size_of payloads ≤ length bytes =
          omega (arith, ap length h.parts, length-append (file_of h.salt payloads) h.rest, length-append (head_of h.salt) (spelled h.salt HEAD payloads), length-head_of h.salt, length-spelled h.salt HEAD payloads) in
          after_records ending h.salt (HEAD + size_of payloads) h.rest (length bytes) h.ends long
      | inr n ↦ in_head ending bytes n.ends
    ]
  where
    after_records : (ending : Ending) (salt at : ℕ) (rest : List ℕ) (n : ℕ) → EndsSo ending salt at rest → at ≤ n → end_of ending ≤ n
    after_records (Clean place) salt at rest n ends long = omega (arith, ends.0, long)
    after_records (Cut place) salt at rest n ends long = omega (arith, ends.0, long)
    after_records (Torn place) salt at rest n ends long = omega (arith, ends.0, long)
    after_records (Damaged place) salt at rest n ends long = omega (arith, ends.0, long)
    after_records NotASegment salt at rest n ends long = absurd ends

    in_head : (ending : Ending) (bytes : List ℕ) → EndsInHead ending bytes → end_of ending ≤ length bytes
    in_head (Clean place) bytes ends = absurd ends
    in_head (Cut place) bytes ends = omega (arith, ends.0)
    in_head (Torn place) bytes ends = absurd ends
    in_head (Damaged place) bytes ends = absurd ends
    in_head NotASegment bytes ends = omega arith

-- the version in its place
split_at : (n : ℕ) (bytes : List ℕ) → n < length bytes → bytes ≡ take n bytes ++ slice_index_or bytes n 0 ∷ drop (suc n) bytes
split_at n [] lt = absurd (omega (arith, lt))
split_at zero (b ∷ bytes) lt = refl
split_at (suc n) (b ∷ bytes) lt = ap (λ (x : List ℕ). b ∷ x) (split_at n bytes (omega (arith, lt)))

version_is : (bytes : List ℕ) → is_batched bytes ≡ true → slice_index_or bytes 7 0 ≡ 2
version_is bytes is = grind (arith, nat_tests, is)

has_version : (bytes : List ℕ) → is_batched bytes ≡ true → 7 < length bytes
has_version bytes is =
    elim (cases_lt 7 (length bytes)) [
      | inl lt ↦ lt
      | inr le ↦ absurd (omega (arith, version_is bytes is, get_or_past bytes 7 0 le))
    ]

second_parts : (bytes : List ℕ) → is_batched bytes ≡ true → bytes ≡ take 7 bytes ++ 2 ∷ drop 8 bytes
second_parts bytes is = split_at 7 bytes (has_version bytes is) ∙ ap (λ (v : ℕ). take 7 bytes ++ v ∷ drop 8 bytes) (version_is bytes is)

pub length-first : (bytes : List ℕ) → is_batched bytes ≡ true → length (as_first bytes) ≡ length bytes
length-first bytes is = omega (arith, ap length (second_parts bytes is), length-append (take 7 bytes) (2 ∷ drop 8 bytes), length-append (take 7 bytes) (1 ∷ drop 8 bytes))

pub ends_within : (bytes : List ℕ) (payloads : List (List ℕ)) (ending : Ending) → IsSegmentOf bytes payloads ending → end_of ending ≤ length bytes
ends_within bytes payloads ending (inl read) = subst (λ (n : ℕ). end_of ending ≤ n) (length-first bytes read.read.batched) (end_in_first (as_first bytes) (contents_of read.batches) ending read.read.contents)
ends_within bytes payloads ending (inr read) = end_in_first bytes payloads ending read.read

-- ---- a file of batches, by what a reader of the first version is given

abbrev as_second : List ℕ → List ℕ
as_second bytes = take 7 bytes ++ 2 ∷ drop 8 bytes

turned_back : (bytes : List ℕ) → is_batched bytes ≡ true → bytes ≡ as_second (as_first bytes)
turned_back bytes is =
    let seven : length (take 7 bytes) ≡ 7 = omega (arith, length-take 7 bytes, has_version bytes is) in
    let eight : length (take 7 bytes ++ 1 ∷ []) ≡ 8 = omega (arith, seven, length-append (take 7 bytes) (1 ∷ [])) in
    let front : take 7 (as_first bytes) ≡ take 7 bytes = take_at (take 7 bytes) (1 ∷ drop 8 bytes) 7 seven in
    let back : drop 8 (as_first bytes) ≡ drop 8 bytes = ap (drop 8) (sym (append_assoc (take 7 bytes) (1 ∷ []) (drop 8 bytes))) ∙ drop_at (take 7 bytes ++ 1 ∷ []) (drop 8 bytes) 8 eight in
    second_parts bytes is ∙ ap (λ (x : List ℕ). x ++ 2 ∷ drop 8 bytes) (sym front) ∙ ap (λ (x : List ℕ). take 7 (as_first bytes) ++ 2 ∷ x) (sym back)

file_as_second : (salt : ℕ) (batches : List (List (List ℕ))) → as_second (file_of salt (contents_of batches)) ≡ batch_file salt batches
unfolding head_of
file_as_second salt batches = refl

pub second_file : (bytes : List ℕ) (salt : ℕ) (batches : List (List (List ℕ))) → is_batched bytes ≡ true → as_first bytes ≡ file_of salt (contents_of batches) → bytes ≡ batch_file salt batches
second_file bytes salt batches is file = turned_back bytes is ∙ ap as_second file ∙ file_as_second salt batches

-- ---- what was handed out, before and after the version has come

none_before : (p : Phase) (bytes : List ℕ) (given : List (List ℕ)) (place : ℕ) (kept : List ℕ) → IsIn p bytes given place kept → length bytes < HEAD → given ≡ []
none_before Head bytes given place kept is short = is.none_given
none_before (Records salt) bytes given place kept is short = absurd (omega (arith, short, ap length is.parts, length-append (file_of salt given) kept, length-append (head_of salt) (spelled salt HEAD given), length-head_of salt))
none_before (Search salt bad) bytes given place kept is short =
    absurd (omega (arith, short, ap length is.stopped.among.parts, length-append (file_of salt given) is.tail, length-append (head_of salt) (spelled salt HEAD given), length-head_of salt))
none_before (phase.Damaged bad) bytes given place kept is short =
    absurd (omega (arith, short, ap length is.stopped.among.parts, length-append (file_of is.salt given) is.tail, length-append (head_of is.salt) (spelled is.salt HEAD given), length-head_of is.salt))
none_before Other bytes given place kept is short = is.none_given

-- the version doesn't change once a record was handed out
pub same_version : (bytes piece : List ℕ) (given : List (List ℕ)) (k new : SegmentKept) → HasReadSegment bytes given k → HasReadSegment (bytes ++ piece) given new → (new.batched ≡ k.batched) ⊎ (given ≡ [])
same_version bytes piece given k new h after =
    elim (cases_lt (length bytes) 8) [
      | inl lt ↦
          let single = early bytes (omega (arith, lt)) in
          inr (none_before k.reader.phase bytes given k.reader.place k.reader.bytes (subst (λ (x : List ℕ). IsIn k.reader.phase x given k.reader.place k.reader.bytes) (turned_not bytes single) h.read.in_phase) (omega (arith, lt)))
      | inr le ↦ inl (after.batched_is ∙ batched_more bytes piece le ∙ sym h.batched_is)
    ]
