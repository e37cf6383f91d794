-- What stands in the file of a note.
use Rattle.std.proofs.Common.{◌≡◌, ℕ, ◌+◌, ◌<◌, ◌^◌, List, length, take, drop, Some, None, refl, sym, ap, ◌∙◌}
use Rattle.std.proofs.lemmas.Nat.{from_be_bytes-to_be_bytes_8}
use Rattle.std.specs.Prelude.{Option}
use Rattle.std.specs.Int.{w64, from_be_bytes, to_be_bytes}
use Rattle.records.specs.Spelling.{spell}
use Rattle.store.specs.Notes.{FitsNote, note_bytes}
use Rattle.store.specs.declared.note.CleanNote.{CleanNote}

pub length-note : (note : CleanNote) → length (note_bytes note) ≡ 52
unfolding spell
length-note note = refl

number_stands : (note : CleanNote) → take 8 (drop 20 (note_bytes note)) ≡ to_be_bytes w64 note.number
unfolding spell
number_stands note = refl

salt_stands : (note : CleanNote) → take 8 (drop 28 (note_bytes note)) ≡ to_be_bytes w64 note.salt
unfolding spell
salt_stands note = refl

size_stands : (note : CleanNote) → take 8 (drop 36 (note_bytes note)) ≡ to_be_bytes w64 note.size
unfolding spell
size_stands note = refl

-- the numbers of a note are read back
module _ (bytes : List ℕ) (note : CleanNote) (fits : FitsNote note) (is : bytes ≡ note_bytes note) where
  pub number_again : from_be_bytes w64 (take 8 (drop 20 bytes)) ≡ note.number
  number_again = ap (λ (b : List ℕ). from_be_bytes w64 (take 8 (drop 20 b))) is ∙ ap (from_be_bytes w64) (number_stands note) ∙ from_be_bytes-to_be_bytes_8 note.number fits.number

  pub salt_again : from_be_bytes w64 (take 8 (drop 28 bytes)) ≡ note.salt
  salt_again = ap (λ (b : List ℕ). from_be_bytes w64 (take 8 (drop 28 b))) is ∙ ap (from_be_bytes w64) (salt_stands note) ∙ from_be_bytes-to_be_bytes_8 note.salt fits.salt

  pub size_again : from_be_bytes w64 (take 8 (drop 36 bytes)) ≡ note.size
  size_again = ap (λ (b : List ℕ). from_be_bytes w64 (take 8 (drop 36 b))) is ∙ ap (from_be_bytes w64) (size_stands note) ∙ from_be_bytes-to_be_bytes_8 note.size fits.size

  pub length-again : length bytes ≡ 52
  length-again = ap length is ∙ length-note note

-- the same three numbers are the same note
pub same_note : (note other : CleanNote) → other.number ≡ note.number → other.salt ≡ note.salt → other.size ≡ note.size → Some other ≡ Some note
same_note note other number salt size =
    ap (λ (n : ℕ). Some (record { number = n; salt = other.salt; size = other.size })) number
    ∙ (ap (λ (n : ℕ). Some (record { number = note.number; salt = n; size = other.size })) salt
    ∙ ap (λ (n : ℕ). Some (record { number = note.number; salt = note.salt; size = n })) size)

-- a note that is found is the one that is known
note_or : Option CleanNote → CleanNote → CleanNote
note_or None other = other
note_or (Some note) other = note

pub found_note : (found note : CleanNote) → Some found ≡ Some note → found ≡ note
unfolding note_or
found_note found note same = ap (λ (o : Option CleanNote). note_or o found) same
