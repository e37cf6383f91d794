-- The note that a clean stop leaves, and what a start asks of the segment that it names.
use Rattle.std.specs.Prelude.{◌≡◌, ℕ, ◌<◌, ◌^◌, Bool, true, false, List, [], ◌∷◌, ◌++◌, Option, None, Some, ◌==◌, ◌&&◌, nat_lt, if◌then◌else◌, refl}
use Rattle.std.specs.Int.{w64, to_be_bytes}
use Rattle.records.specs.Spelling.{spell}
use Rattle.store.specs.Loading.{IsCleanOf}
use Rattle.store.specs.Segments.{ReadSegment}
use Rattle.store.specs.declared.note.CleanNote.{CleanNote}
use Rattle.store.specs.declared.loading.Dropped.{Dropped}
use Rattle.store.specs.declared.loading.Loaded.{Loaded}

-- what the file of a note begins with: `mdclean` and the version 1
abbrev pub note_magic : List ℕ
note_magic = 109 ∷ 100 ∷ 99 ∷ 108 ∷ 101 ∷ 97 ∷ 110 ∷ 1 ∷ []

-- the payload of its one record: the number of the segment, its salt and its size
abbrev pub note_payload : CleanNote → List ℕ
note_payload note = to_be_bytes w64 note.number ++ (to_be_bytes w64 note.salt ++ to_be_bytes w64 note.size)

-- the bytes of its file: the record stands at 8, as in a file with the segment's salt
abbrev pub note_bytes : CleanNote → List ℕ
note_bytes note = note_magic ++ spell note.salt 8 (note_payload note)

-- its numbers have 64 bits each
pub record FitsNote (note : CleanNote) : Type 0 where
  pub number : note.number < 2 ^ 64
  pub salt : note.salt < 2 ^ 64
  pub size : note.size < 2 ^ 64

-- The segment of which this was loaded is as it was noted: nothing of it was dropped, and it was read to the end of its last
-- batch, with this salt and this size.
pub record IsNoted (note : CleanNote) (loaded : Loaded) : Type 0 where
  pub whole : loaded.dropped ≡ None
  pub clean : ReadSegment
  pub clean_is : loaded.clean ≡ Some clean
  pub salt_is : clean.salt ≡ note.salt
  pub size_is : clean.size ≡ note.size

-- what a process left at the end of a file: its size, and that the file and the folder's lock, if there is one, have a name
abbrev pub has_name : Option ℕ → Bool
has_name None = true
has_name (Some links) = nat_lt 0 links

abbrev pub is_as_left : ℕ → ℕ → ℕ → Option ℕ → Bool
is_as_left left size links lock = (size == left) && (nat_lt 0 links && has_name lock)

-- another process has added a byte, or has removed the file, or the lock
longer : is_as_left 54 55 1 (Some 1) ≡ false
longer = refl

removed : is_as_left 54 54 0 (Some 1) ≡ false
removed = refl

not_locked : is_as_left 54 54 1 (Some 0) ≡ false
not_locked = refl

as_left : is_as_left 54 54 1 (Some 1) ≡ true
as_left = refl
