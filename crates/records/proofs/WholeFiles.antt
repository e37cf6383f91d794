-- What is read of a file that was cut, left by a crash, or damaged.
use Rattle.std.proofs.Common.{◌≡◌, ◌⊎◌, ℕ, ◌+◌, ◌-◌, ◌<◌, ◌≤◌, ◌^◌, Bool, true, false, List, [], ◌∷◌, ◌++◌, length, take, None, inl, inr, refl, sym, ap, subst, ◌∙◌, append_assoc, append-nil, arith}
use Rattle.std.proofs.lemmas.Bool.{cases_lt, lt-ltb}
use Rattle.std.proofs.lemmas.List.{length-append, length-take}
use Rattle.std.proofs.Math.Seq.{take-append-add}
use Rattle.records.specs.declared.ending.Ending.{Ending}
use Rattle.records.specs.declared.ending.Ending.TheVariants.{Clean, Cut, Torn, Damaged, NotASegment}
use Rattle.records.specs.declared.head.TheConstants.{HEAD}
use Rattle.records.specs.declared.place.TheConstants.{FRAME}
use Rattle.records.specs.Spelling.{head_of, spell, spelled, size_of, file_of, ArePayloads}
use Rattle.records.specs.Heads.{may_begin}
use Rattle.records.specs.Reading.{head_at, record_at, is_cut}
use Rattle.records.specs.Files.{AreBytes, IsBad, Resumes, EndsSo, HasHead, EndsInHead, IsReadAs, IsUnharmed, IsUndamaged, whole_in, IsFront, HasNoRecord, IsLeft, IsBetween}
use Rattle.records.proofs.Heads.{length-head_of, head_may_begin, head_begins, same_head}
use Rattle.records.proofs.Files.{one_reading, front_none, front_is_cut, cut_off, takes_fit, spelled_more, spelled-append, size-append, both_fit, length-spelled}
use Rattle.records.proofs.Readers.{AreBytes-of}

pub not_both : (b : Bool) → b ≡ true → b ≡ false → ⊥
not_both true t f = absurd cc
not_both false t f = absurd cc

-- what is read of a file with this salt, whose last record is followed by this tail
pub record IsReadSo (salt : ℕ) (payloads others : List (List ℕ)) (tail : List ℕ) (ending : Ending) : Type 0 where
  pub same : payloads ≡ others
  pub ends : EndsSo ending salt (HEAD + size_of others) tail

read_with : (salt : ℕ) (bytes : List ℕ) (payloads others : List (List ℕ)) (tail : List ℕ) (ending : Ending) → HasHead bytes payloads ending → salt < 2 ^ 64 → ArePayloads others → bytes ≡ file_of salt others ++ tail
    → record_at salt (HEAD + size_of others) tail ≡ None → IsReadSo salt payloads others tail ending
read_with salt bytes payloads others tail ending h fits fit parts none =
    let one : head_of h.salt ++ (spelled h.salt HEAD payloads ++ h.rest) ≡ head_of salt ++ (spelled salt HEAD others ++ tail) =
    sym (append_assoc (head_of h.salt) (spelled h.salt HEAD payloads) h.rest) ∙ sym h.parts ∙ parts ∙ append_assoc (head_of salt) (spelled salt HEAD others) tail in
    let both = same_head h.salt salt (spelled h.salt HEAD payloads ++ h.rest) (spelled salt HEAD others ++ tail) h.salt_fits fits one in
    let body : spelled salt HEAD payloads ++ h.rest ≡ spelled salt HEAD others ++ tail = subst (λ (s : ℕ). spelled s HEAD payloads ++ h.rest ≡ spelled salt HEAD others ++ tail) both.0 both.1 in
    let no_more : record_at salt (HEAD + size_of payloads) h.rest ≡ None = subst (λ (s : ℕ). record_at s (HEAD + size_of payloads) h.rest ≡ None) both.0 h.no_more in
    let same = one_reading salt HEAD payloads others h.rest tail (HEAD + size_of payloads) (HEAD + size_of others) h.payloads_fit fit refl refl no_more none body in
    let ends : EndsSo ending salt (HEAD + size_of payloads) h.rest = subst (λ (s : ℕ). EndsSo ending s (HEAD + size_of payloads) h.rest) both.0 h.ends in
    record {
      same = same.0;
      ends = subst (λ (x : List ℕ). EndsSo ending salt (HEAD + size_of others) x) same.1 (subst (λ (ps : List (List ℕ)). EndsSo ending salt (HEAD + size_of ps) h.rest) same.0 ends);
    }

-- a whole head is seen
no_head : (salt : ℕ) (bytes rest : List ℕ) (payloads : List (List ℕ)) (ending : Ending) → bytes ≡ head_of salt ++ rest → EndsInHead ending bytes → ⊥
no_head salt bytes rest payloads (Clean place) parts ends = ends
no_head salt bytes rest payloads (Torn place) parts ends = ends
no_head salt bytes rest payloads (Damaged place) parts ends = ends
no_head salt bytes rest payloads (Cut place) parts ends = omega (arith, ends.1, ap length parts, length-append (head_of salt) rest, length-head_of salt)
no_head salt bytes rest payloads NotASegment parts ends = not_both (may_begin bytes) (ap may_begin parts ∙ head_begins salt rest) ends

pub read_so : (salt : ℕ) (bytes : List ℕ) (payloads others : List (List ℕ)) (tail : List ℕ) (ending : Ending) → IsReadAs bytes payloads ending → salt < 2 ^ 64 → ArePayloads others → bytes ≡ file_of salt others ++ tail
    → record_at salt (HEAD + size_of others) tail ≡ None → IsReadSo salt payloads others tail ending
read_so salt bytes payloads others tail ending is fits fit parts none =
    elim is.parts [
      | inl h ↦ read_with salt bytes payloads others tail ending h fits fit parts none
      | inr n ↦ absurd (no_head salt bytes (spelled salt HEAD others ++ tail) payloads ending (parts ∙ append_assoc (head_of salt) (spelled salt HEAD others) tail) n.ends)
    ]

-- ---- a whole file

none_at_end : (salt at : ℕ) → record_at salt at [] ≡ None
unfolding record_at head_at
none_at_end salt at = refl

clean_only : (ending : Ending) (salt at : ℕ) → EndsSo ending salt at [] → ending ≡ Clean at
clean_only (Clean place) salt at ends = ap (λ (k : ℕ). Clean k) ends.0
clean_only (Cut place) salt at ends = absurd (omega (arith, ends.2))
clean_only (Torn place) salt at ends = absurd (not_both (is_cut salt at []) refl ends.1.whole)
clean_only (Damaged place) salt at ends = absurd (not_both (is_cut salt at []) refl ends.1.whole)
clean_only NotASegment salt at ends = absurd ends

pub whole_file : (salt : ℕ) (payloads read : List (List ℕ)) (ending : Ending) → salt < 2 ^ 64 → ArePayloads payloads → IsReadAs (file_of salt payloads) read ending → (read ≡ payloads) × (ending ≡ Clean (HEAD + size_of payloads))
whole_file salt payloads read ending fits fit is =
    let so = read_so salt (file_of salt payloads) read payloads [] ending is fits fit (sym (append-nil (file_of salt payloads))) (none_at_end salt (HEAD + size_of payloads)) in
    (so.same, clean_only ending salt (HEAD + size_of payloads) so.ends)

-- ---- a file that was cut

unharmed : (ending : Ending) (salt at : ℕ) (rest : List ℕ) → EndsSo ending salt at rest → is_cut salt at rest ≡ true → IsUnharmed ending
unharmed (Clean place) salt at rest ends cut = tt
unharmed (Cut place) salt at rest ends cut = tt
unharmed (Torn place) salt at rest ends cut = not_both (is_cut salt at rest) cut ends.1.whole
unharmed (Damaged place) salt at rest ends cut = not_both (is_cut salt at rest) cut ends.1.whole
unharmed NotASegment salt at rest ends cut = ends

none_whole : (ps : List (List ℕ)) → whole_in 0 ps ≡ 0
none_whole [] = refl
none_whole (p ∷ ps) =
    let lt : 0 < FRAME + length p = omega arith in
    rw (lt-ltb 0 (FRAME + length p) lt) refl

unharmed_in_head : (ending : Ending) (bytes : List ℕ) → EndsInHead ending bytes → may_begin bytes ≡ true → IsUnharmed ending
unharmed_in_head (Clean place) bytes ends is = absurd ends
unharmed_in_head (Torn place) bytes ends is = ends
unharmed_in_head (Damaged place) bytes ends is = ends
unharmed_in_head (Cut place) bytes ends is = tt
unharmed_in_head NotASegment bytes ends is = not_both (may_begin bytes) is ends

-- it was cut inside its head
cut_in_head : (salt : ℕ) (payloads : List (List ℕ)) (n : ℕ) (read : List (List ℕ)) (ending : Ending) → n < HEAD → IsReadAs (take n (file_of salt payloads)) read ending → (read ≡ take (whole_in (n - HEAD) payloads) payloads) × IsUnharmed ending
cut_in_head salt payloads n read ending lt is =
    let bytes = take n (file_of salt payloads) in
    let short : length bytes < HEAD = omega (arith, lt, length-take n (file_of salt payloads)) in
    let none : n - HEAD ≡ 0 = omega (arith, lt) in
    elim is.parts [
      | inl h ↦ absurd (omega (arith, short, ap length h.parts, length-append (file_of h.salt read) h.rest, length-append (head_of h.salt) (spelled h.salt HEAD read), length-head_of h.salt))
      | inr m ↦ (m.no_payloads ∙ sym (ap (λ (k : ℕ). take k payloads) (ap (λ (j : ℕ). whole_in j payloads) none ∙ none_whole payloads)), unharmed_in_head ending bytes m.ends (head_may_begin n salt (spelled salt HEAD payloads)))
    ]

-- it was cut after its head
cut_after_head : (salt : ℕ) (payloads : List (List ℕ)) (n : ℕ) (read : List (List ℕ)) (ending : Ending) → salt < 2 ^ 64 → ArePayloads payloads → HEAD ≤ n → IsReadAs (take n (file_of salt payloads)) read ending
    → (read ≡ take (whole_in (n - HEAD) payloads) payloads) × IsUnharmed ending
cut_after_head salt payloads n read ending fits fit le is =
    let m = n - HEAD in
    let k = whole_in m payloads in
    let body = spelled salt HEAD payloads in
    let c = cut_off salt HEAD m payloads k fit refl in
    let kept = take k payloads in
    let split : n ≡ length (head_of salt) + m = omega (arith, le, length-head_of salt) in
    let parts : take n (file_of salt payloads) ≡ file_of salt kept ++ c.rest =
    ap (λ (j : ℕ). take j (head_of salt ++ body)) split ∙ take-append-add (head_of salt) body m ∙ ap (λ (x : List ℕ). head_of salt ++ x) c.parts ∙ sym (append_assoc (head_of salt) (spelled salt HEAD kept) c.rest) in
    let front = c.front (HEAD + size_of kept) refl in
    let none = front_none salt (HEAD + size_of kept) c.rest (AreBytes-of (take n (file_of salt payloads)) (file_of salt kept) c.rest is.are_bytes parts) front in
    let so = read_so salt (take n (file_of salt payloads)) read kept c.rest ending is fits (takes_fit k payloads fit) parts none in
    (so.same, unharmed ending salt (HEAD + size_of kept) c.rest so.ends (front_is_cut salt (HEAD + size_of kept) c.rest front))

pub cut_file : (salt : ℕ) (payloads : List (List ℕ)) (n : ℕ) (read : List (List ℕ)) (ending : Ending) → salt < 2 ^ 64 → ArePayloads payloads → IsReadAs (take n (file_of salt payloads)) read ending
    → (read ≡ take (whole_in (n - HEAD) payloads) payloads) × IsUnharmed ending
cut_file salt payloads n read ending fits fit is =
    elim (cases_lt n HEAD) [
      | inl lt ↦ cut_in_head salt payloads n read ending lt is
      | inr le ↦ cut_after_head salt payloads n read ending fits fit le is
    ]

-- ---- a file that a crash left

end_none : (salt at : ℕ) (bytes : List ℕ) → AreBytes bytes → IsFront salt at bytes ⊎ HasNoRecord salt at bytes → record_at salt at bytes ≡ None
end_none salt at bytes fits (inl front) = front_none salt at bytes fits front
end_none salt at bytes fits (inr none) = none.0

undamaged : (ending : Ending) (salt at : ℕ) (rest : List ℕ) → EndsSo ending salt at rest → IsFront salt at rest ⊎ HasNoRecord salt at rest → IsUndamaged ending
undamaged (Clean place) salt at rest ends left = tt
undamaged (Cut place) salt at rest ends left = tt
undamaged (Torn place) salt at rest ends left = tt
undamaged (Damaged place) salt at rest ends (inl front) = not_both (is_cut salt at rest) (front_is_cut salt at rest front) ends.1.whole
undamaged (Damaged place) salt at rest ends (inr none) = none.1 ends.2
undamaged NotASegment salt at rest ends left = ends

pub left_file : (salt : ℕ) (synced written : List (List ℕ)) (left : List ℕ) (read : List (List ℕ)) (ending : Ending) → salt < 2 ^ 64 → ArePayloads synced → ArePayloads written → IsLeft salt (HEAD + size_of synced) written left
    → IsReadAs (file_of salt synced ++ left) read ending → IsBetween read synced written × IsUndamaged ending
left_file salt synced written left read ending fits fit more l is =
    let kept = take l.count written in
    let all = synced ++ kept in
    let place : HEAD + size_of synced + size_of kept ≡ HEAD + size_of all = omega (arith, size-append synced kept) in
    let grown : file_of salt all ≡ file_of salt synced ++ spelled salt (HEAD + size_of synced) kept =
    ap (λ (x : List ℕ). head_of salt ++ x) (spelled-append salt HEAD synced kept (HEAD + size_of synced) refl) ∙ sym (append_assoc (head_of salt) (spelled salt HEAD synced) (spelled salt (HEAD + size_of synced) kept)) in
    let parts : file_of salt synced ++ left ≡ file_of salt all ++ l.rest =
    ap (λ (x : List ℕ). file_of salt synced ++ x) l.parts ∙ sym (append_assoc (file_of salt synced) (spelled salt (HEAD + size_of synced) kept) l.rest) ∙ ap (λ (x : List ℕ). x ++ l.rest) (sym grown) in
    let torn = subst (λ (j : ℕ). IsFront salt j l.rest ⊎ HasNoRecord salt j l.rest) place l.torn in
    let none = end_none salt (HEAD + size_of all) l.rest (AreBytes-of (file_of salt synced ++ left) (file_of salt all) l.rest is.are_bytes parts) torn in
    let so = read_so salt (file_of salt synced ++ left) read all l.rest ending is fits (both_fit synced kept fit (takes_fit l.count written more)) parts none in
    ((l.count, so.same), undamaged ending salt (HEAD + size_of all) l.rest so.ends torn)

-- ---- a file with a bad record

is_damaged : (ending : Ending) (salt at : ℕ) (rest : List ℕ) → EndsSo ending salt at rest → IsBad salt at rest → Resumes salt at rest → ending ≡ Damaged at
is_damaged (Clean place) salt at rest ends bad resumes = absurd (not_both (is_cut salt at []) refl (ap (is_cut salt at) (sym ends.1) ∙ bad.whole))
is_damaged (Cut place) salt at rest ends bad resumes = absurd (not_both (is_cut salt at rest) ends.1 bad.whole)
is_damaged (Torn place) salt at rest ends bad resumes = absurd (ends.2 resumes)
is_damaged (Damaged place) salt at rest ends bad resumes = ap (λ (k : ℕ). Damaged k) ends.0
is_damaged NotASegment salt at rest ends bad resumes = absurd ends

is_torn : (ending : Ending) (salt at : ℕ) (rest : List ℕ) → EndsSo ending salt at rest → IsBad salt at rest → (Resumes salt at rest → ⊥) → ending ≡ Torn at
is_torn (Clean place) salt at rest ends bad none = absurd (not_both (is_cut salt at []) refl (ap (is_cut salt at) (sym ends.1) ∙ bad.whole))
is_torn (Cut place) salt at rest ends bad none = absurd (not_both (is_cut salt at rest) ends.1 bad.whole)
is_torn (Torn place) salt at rest ends bad none = ap (λ (k : ℕ). Torn k) ends.0
is_torn (Damaged place) salt at rest ends bad none = absurd (none ends.2)
is_torn NotASegment salt at rest ends bad none = absurd ends

pub damaged_file : (salt : ℕ) (payloads : List (List ℕ)) (rest : List ℕ) (read : List (List ℕ)) (ending : Ending) → salt < 2 ^ 64 → ArePayloads payloads → IsBad salt (HEAD + size_of payloads) rest → Resumes salt (HEAD + size_of payloads) rest
    → IsReadAs (file_of salt payloads ++ rest) read ending → (read ≡ payloads) × (ending ≡ Damaged (HEAD + size_of payloads))
damaged_file salt payloads rest read ending fits fit bad resumes is =
    let so = read_so salt (file_of salt payloads ++ rest) read payloads rest ending is fits fit refl bad.none in
    (so.same, is_damaged ending salt (HEAD + size_of payloads) rest so.ends bad resumes)

pub torn_file : (salt : ℕ) (payloads : List (List ℕ)) (rest : List ℕ) (read : List (List ℕ)) (ending : Ending) → salt < 2 ^ 64 → ArePayloads payloads → IsBad salt (HEAD + size_of payloads) rest → (Resumes salt (HEAD + size_of payloads) rest → ⊥)
    → IsReadAs (file_of salt payloads ++ rest) read ending → (read ≡ payloads) × (ending ≡ Torn (HEAD + size_of payloads))
torn_file salt payloads rest read ending fits fit bad none is =
    let so = read_so salt (file_of salt payloads ++ rest) read payloads rest ending is fits fit refl bad.none in
    (so.same, is_torn ending salt (HEAD + size_of payloads) rest so.ends bad none)

-- ---- a file that grows

pub file_grows : (salt : ℕ) (payloads : List (List ℕ)) (payload : List ℕ) → file_of salt (payloads ++ payload ∷ []) ≡ file_of salt payloads ++ spell salt (length (file_of salt payloads)) payload
file_grows salt payloads payload =
    let place : length (file_of salt payloads) ≡ HEAD + size_of payloads = omega (arith, length-append (head_of salt) (spelled salt HEAD payloads), length-head_of salt, length-spelled salt HEAD payloads) in
    ap (λ (x : List ℕ). head_of salt ++ x) (spelled_more salt HEAD payloads payload (length (file_of salt payloads)) place) ∙ sym (append_assoc (head_of salt) (spelled salt HEAD payloads) (spell salt (length (file_of salt payloads)) payload))

-- ---- a file is read in one way

cut_only : (ending : Ending) (salt at : ℕ) (rest : List ℕ) → EndsSo ending salt at rest → is_cut salt at rest ≡ true → 0 < length rest → ending ≡ Cut at
cut_only (Clean place) salt at rest ends cut some = absurd (omega (arith, some, ap length ends.1))
cut_only (Cut place) salt at rest ends cut some = ap (λ (k : ℕ). Cut k) ends.0
cut_only (Torn place) salt at rest ends cut some = absurd (not_both (is_cut salt at rest) cut ends.1.whole)
cut_only (Damaged place) salt at rest ends cut some = absurd (not_both (is_cut salt at rest) cut ends.1.whole)
cut_only NotASegment salt at rest ends cut some = absurd ends

one_ending : (one other : Ending) (salt at : ℕ) (rest : List ℕ) → EndsSo one salt at rest → EndsSo other salt at rest → one ≡ other
one_ending one (Clean place) salt at rest ends also = clean_only one salt at (subst (λ (x : List ℕ). EndsSo one salt at x) also.1 ends) ∙ ap (λ (k : ℕ). Clean k) (sym also.0)
one_ending one (Cut place) salt at rest ends also = cut_only one salt at rest ends also.1 also.2 ∙ ap (λ (k : ℕ). Cut k) (sym also.0)
one_ending one (Torn place) salt at rest ends also = is_torn one salt at rest ends also.1 also.2 ∙ ap (λ (k : ℕ). Torn k) (sym also.0)
one_ending one (Damaged place) salt at rest ends also = is_damaged one salt at rest ends also.1 also.2 ∙ ap (λ (k : ℕ). Damaged k) (sym also.0)
one_ending one NotASegment salt at rest ends also = absurd also

other_head : (one : Ending) (bytes : List ℕ) → EndsInHead one bytes → may_begin bytes ≡ false → one ≡ NotASegment
other_head (Clean place) bytes ends differs = absurd ends
other_head (Torn place) bytes ends differs = absurd ends
other_head (Damaged place) bytes ends differs = absurd ends
other_head (Cut place) bytes ends differs = absurd (not_both (may_begin bytes) ends.2 differs)
other_head NotASegment bytes ends differs = refl

short_head : (one : Ending) (bytes : List ℕ) → EndsInHead one bytes → may_begin bytes ≡ true → one ≡ Cut 0
short_head (Clean place) bytes ends is = absurd ends
short_head (Torn place) bytes ends is = absurd ends
short_head (Damaged place) bytes ends is = absurd ends
short_head (Cut place) bytes ends is = ap (λ (k : ℕ). Cut k) ends.0
short_head NotASegment bytes ends is = absurd (not_both (may_begin bytes) is ends)

one_head : (one other : Ending) (bytes : List ℕ) → EndsInHead one bytes → EndsInHead other bytes → one ≡ other
one_head one (Clean place) bytes ends also = absurd also
one_head one (Torn place) bytes ends also = absurd also
one_head one (Damaged place) bytes ends also = absurd also
one_head one (Cut place) bytes ends also = short_head one bytes ends also.2 ∙ ap (λ (k : ℕ). Cut k) (sym also.0)
one_head one NotASegment bytes ends also = other_head one bytes ends also

with_head : (bytes : List ℕ) (read others : List (List ℕ)) (ending other : Ending) → IsReadAs bytes read ending → HasHead bytes others other → (read ≡ others) × (ending ≡ other)
with_head bytes read others ending other is h =
    let so = read_so h.salt bytes read others h.rest ending is h.salt_fits h.payloads_fit h.parts h.no_more in
    (so.same, one_ending ending other h.salt (HEAD + size_of others) h.rest so.ends h.ends)

pub one_way : (bytes : List ℕ) (read others : List (List ℕ)) (ending other : Ending) → IsReadAs bytes read ending → IsReadAs bytes others other → (read ≡ others) × (ending ≡ other)
one_way bytes read others ending other is also =
    elim also.parts [
      | inl h ↦ with_head bytes read others ending other is h
      | inr n ↦
          elim is.parts [
            | inl h ↦
                let back = with_head bytes others read other ending also h in
                (sym back.0, sym back.1)
            | inr m ↦ (m.no_payloads ∙ sym n.no_payloads, one_head ending other bytes m.ends n.ends)
          ]
    ]
