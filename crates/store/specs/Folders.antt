-- What is in a folder of segments.
use Rattle.std.specs.Prelude.{◌≡◌, ℕ, suc, List, [], ◌∷◌, ◌++◌, map, filter, Option, None, Some, ◌==◌, not, nat_lt, if◌then◌else◌, refl, codes}
use Rattle.store.specs.Numbers.{count_above, newest}
use Rattle.store.specs.declared.note.CleanNote.{CleanNote}

-- each segment that counts, by its number, with the bytes that it had when it came to count; and the note of a clean stop
pub record FolderContent : Type 0 where
  pub files : List (ℕ × List ℕ)
  pub note : Option CleanNote

abbrev pub numbers_of : List (ℕ × List ℕ) → List ℕ
numbers_of files = map (λ f. f.0) files

-- the bytes of the segment with this number
abbrev pub file_in : ℕ → List (ℕ × List ℕ) → Option (List ℕ)
file_in number [] = None
file_in number (f ∷ files) = if f.0 == number then Some f.1 else file_in number files

-- without the segment with this number, and with these bytes as that segment
abbrev pub without : ℕ → List (ℕ × List ℕ) → List (ℕ × List ℕ)
without number files = filter (λ f. not (f.0 == number)) files

abbrev pub with_file : ℕ → List ℕ → List (ℕ × List ℕ) → List (ℕ × List ℕ)
with_file number bytes files = without number files ++ (number, bytes) ∷ []

-- the number after the highest one
abbrev pub after_newest : Option ℕ → ℕ
after_newest None = 1
after_newest (Some number) = suc number

abbrev pub next_number : List (ℕ × List ℕ) → ℕ
next_number files = after_newest (newest (numbers_of files))

-- those segments of which fewer than so many are newer
abbrev pub newest_files : ℕ → List (ℕ × List ℕ) → List (ℕ × List ℕ)
newest_files keep files = filter (λ f. nat_lt (count_above f.0 (numbers_of files)) keep) files

abbrev three : List (ℕ × List ℕ)
three = (3, codes "c") ∷ (1, codes "a") ∷ (2, codes "b") ∷ []

found : file_in 1 three ≡ Some (codes "a")
found = refl

removed : without 1 three ≡ (3, codes "c") ∷ (2, codes "b") ∷ []
removed = refl

put : with_file 3 (codes "d") three ≡ (1, codes "a") ∷ (2, codes "b") ∷ (3, codes "d") ∷ []
put = refl

next : next_number three ≡ 4
next = refl

two_newest : newest_files 2 three ≡ (3, codes "c") ∷ (2, codes "b") ∷ []
two_newest = refl

none_newest : newest_files 0 three ≡ []
none_newest = refl
