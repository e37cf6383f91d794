-- Next unique ids that are raised.
use Rattle.std.specs.Prelude.{◌≡◌, refl, ℕ, ◌+◌, ◌/◌, ◌^◌, List, [], ◌∷◌, map, max, min, Bool, true, false, not, ◌&&◌, ◌||◌, ◌==◌, nat_lt, Option, Some, None, if◌then◌else◌}
use Rattle.std.specs.Int.{w64, to_be_bytes}
use Rattle.std.specs.Str.{bytes_eq}
use Rattle.std.specs.declared.alloc.Global.{Global}
use Rattle.maildrop.specs.Kept.{KeptMaildrop, KeptTable, kept_for}
use Rattle.maildrop.specs.Changes.{changed_if_fit}
use Rattle.maildrop.specs.Limits.{highest_id}
use Rattle.maildrop.specs.declared.change.Change.TheVariants.{Next}
use Rattle.records.specs.Spelling.{spell}
use Rattle.mend.specs.declared.raising.TheConstants.{SMALLEST_STORED}
use Rattle.mend.specs.declared.raising.Raise.{Raise}
use Rattle.mend.specs.declared.survey.Base.{Base}
use Rattle.mend.specs.declared.survey.Base.TheVariants.{Own, Before, Nothing}

abbrev pub names_in : KeptTable Global → List (List ℕ)
names_in table = map (λ e. e.0) table

-- a next unique id that is raised, or the highest that there is
abbrev pub raised_id : Raise → ℕ → ℕ
raised_id raise next = min (max next raise.least + raise.by) (highest_id + 1)

by_three : raised_id (record { least = 0; by = 3 }) 5 ≡ 8
by_three = refl

to_at_least : raised_id (record { least = 100; by = 3 }) 5 ≡ 103
to_at_least = refl

-- a maildrop whose next unique id is raised
abbrev pub raised : Raise → KeptMaildrop Global → KeptMaildrop Global
raised raise kept = changed_if_fit kept (Next (raised_id raise kept.next_uid))

-- what is kept under a name once the next unique id of this user is raised, and of all these users
abbrev pub raised_step : Raise → List ℕ → KeptMaildrop Global → List ℕ → KeptMaildrop Global
raised_step raise name kept user = if bytes_eq user name then raised raise kept else kept

abbrev pub raised_by : Raise → List ℕ → KeptMaildrop Global → List (List ℕ) → KeptMaildrop Global
raised_by raise name kept [] = kept
raised_by raise name kept (user ∷ users) = raised_by raise name (raised_step raise name kept user) users

-- what was kept, with the next unique id of each user raised
abbrev pub AreRaised : Raise → KeptTable Global → KeptTable Global → Type 0
AreRaised raise old new = (name : List ℕ) → kept_for name new ≡ raised_by raise name (kept_for name old) (names_in old)

-- By as many messages as the dropped bytes can have. If the opening of a segment is damaged, before that to at least this one, since
-- it may have said that ids were raised before.
abbrev pub raise_for : (dropped : ℕ) → Base → (least : ℕ) → Raise
raise_for dropped Own least = record { least = 0; by = dropped / SMALLEST_STORED }
raise_for dropped (Before number) least = record { least = least; by = dropped / SMALLEST_STORED }
raise_for dropped Nothing least = record { least = least; by = dropped / SMALLEST_STORED }

abbrev pub is_own : Base → Bool
is_own Own = true
is_own (Before number) = false
is_own Nothing = false

-- whether a user may have been given a unique id whose name isn't kept: the accounts aren't known, and the opening is damaged, or what
-- can't be read has room for a message
abbrev pub lacks_names : (has_accounts : Bool) → Base → (unread : ℕ) → Bool
lacks_names has_accounts base unread = not has_accounts && (not (is_own base) || nat_lt 0 (unread / SMALLEST_STORED))

room_for_one : lacks_names false Own 28 ≡ true
room_for_one = refl

room_for_none : lacks_names false Own 27 ≡ false
room_for_none = refl

no_opening : lacks_names false (Before 2) 0 ≡ true
no_opening = refl

known : lacks_names true Nothing 1000 ≡ false
known = refl

-- what mends have raised ids to, if the segment just before is whole. Else ids may have been given of which nothing is known: then at
-- least this time
abbrev pub least_by : Bool → Option ℕ → ℕ → ℕ
least_by is_next None time = time
least_by true (Some mended) time = mended
least_by false (Some mended) time = max mended time

-- the least next unique id of a segment of this number, if mends have raised ids to this one, which can't be read if it is None
abbrev pub least_for : Base → (number : ℕ) → (mended : Option ℕ) → (time : ℕ) → ℕ
least_for Own number mended time = 0
least_for (Before before) number mended time = least_by (before + 1 == number) mended time
least_for Nothing number mended time = least_by (1 == number) mended time

its_own : least_for Own 3 (Some 50) 1000 ≡ 0
its_own = refl

just_before : least_for (Before 2) 3 (Some 50) 1000 ≡ 50
just_before = refl

long_before : least_for (Before 1) 3 (Some 50) 1000 ≡ 1000
long_before = refl

-- the file that says how far ids were raised: `mdmend`, a zero, the version 1, and a record of the number
abbrev pub mended_bytes : ℕ → List ℕ
mended_bytes number = 109 ∷ 100 ∷ 109 ∷ 101 ∷ 110 ∷ 100 ∷ 0 ∷ 1 ∷ spell 0 8 (to_be_bytes w64 number)

abbrev pub IsRaised : (dropped : ℕ) → Base → (least : ℕ) → KeptTable Global → KeptTable Global → Type 0
IsRaised dropped base least old new = AreRaised (raise_for dropped base least) old new
