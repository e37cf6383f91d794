-- Worked examples of the definitions. The sums are by another implementation of SipHash-1-3.
use Rattle.std.specs.Prelude.{◌≡◌, ℕ, List, [], ◌∷◌, ◌++◌, Some, None, true, false, refl, codes, take, drop}
use Rattle.std.specs.Hash.DefaultHasher.{finish, round, write_word, write, write_byte, initial}
use Rattle.records.specs.declared.phase.Phase.TheVariants.{Head, Records, Other}
use Rattle.records.specs.Spelling.{sum_of, spell, size_of, head_of, file_of, magic}
use Rattle.records.specs.Heads.{may_begin}
use Rattle.records.specs.Reading.{head_at, record_at, is_cut}
use Rattle.records.specs.Files.{whole_in}
use Rattle.records.specs.Readers.{taken_in}

-- a file with the salt 7 and two records

abbrev head : List ℕ
head = codes "mdropd" ++ 0 ∷ 1 ∷ 0 ∷ 0 ∷ 0 ∷ 0 ∷ 0 ∷ 0 ∷ 0 ∷ 7 ∷ []

abbrev first : List ℕ
first = 0 ∷ 0 ∷ 0 ∷ 3 ∷ 89 ∷ 241 ∷ 254 ∷ 208 ∷ 195 ∷ 47 ∷ 222 ∷ 131 ∷ 111 ∷ 110 ∷ 101 ∷ 142 ∷ 184 ∷ 235 ∷ 57 ∷ 187 ∷ 67 ∷ 254 ∷ 47 ∷ []

abbrev second : List ℕ
second = 0 ∷ 0 ∷ 0 ∷ 0 ∷ 197 ∷ 136 ∷ 47 ∷ 171 ∷ 198 ∷ 6 ∷ 23 ∷ 61 ∷ 97 ∷ 195 ∷ 213 ∷ 249 ∷ 105 ∷ 175 ∷ 124 ∷ 212 ∷ []

abbrev payloads : List (List ℕ)
payloads = codes "one" ∷ [] ∷ []

first_sum : sum_of 7 16 (codes "one") ≡ 10284228382287986223
unfolding sum_of finish round write_word write write_byte initial
first_sum = refl

-- a sum is another at another place, and in a file with another salt
sum_elsewhere : sum_of 7 17 (codes "one") ≡ 6795791221120234070
unfolding sum_of finish round write_word write write_byte initial
sum_elsewhere = refl

sum_with_another_salt : sum_of 8 16 (codes "one") ≡ 1836373809824633954
unfolding sum_of finish round write_word write write_byte initial
sum_with_another_salt = refl

whole_file : file_of 7 payloads ≡ head ++ (first ++ second)
unfolding head_of spell sum_of finish round write_word write write_byte initial
whole_file = refl

first_is_read : record_at 7 16 (first ++ second) ≡ Some (codes "one", second)
unfolding record_at head_at sum_of finish round write_word write write_byte initial
first_is_read = refl

second_is_read : record_at 7 39 second ≡ Some ([], [])
unfolding record_at head_at sum_of finish round write_word write write_byte initial
second_is_read = refl

-- no record stands at a place that isn't its own
moved : record_at 7 40 second ≡ None
unfolding record_at head_at sum_of finish round write_word write write_byte initial
moved = refl

-- without its last byte a record is cut, and so is its head
first_is_cut : is_cut 7 16 (take 22 first) ≡ true
unfolding head_at sum_of finish round write_word write write_byte initial
first_is_cut = refl

head_is_cut : is_cut 7 16 (take 11 first) ≡ true
unfolding head_at
head_is_cut = refl

-- with another length, or another payload, it is bad
other_length : is_cut 7 16 (0 ∷ 0 ∷ 0 ∷ 4 ∷ drop 4 first) ≡ false
unfolding head_at sum_of finish round write_word write write_byte initial
other_length = refl

other_payload : record_at 7 16 (take 12 first ++ (codes "two" ++ drop 15 first)) ≡ None
unfolding record_at head_at sum_of finish round write_word write write_byte initial
other_payload = refl

not_cut : is_cut 7 16 (take 12 first ++ (codes "two" ++ drop 15 first)) ≡ false
unfolding head_at sum_of finish round write_word write write_byte initial
not_cut = refl

-- the second record ends at 43 after the head
sizes : size_of payloads ≡ 43
sizes = refl

one_ends : whole_in 42 payloads ≡ 1
one_ends = refl

both_end : whole_in 43 payloads ≡ 2
both_end = refl

-- what a file begins with
first_bytes : may_begin (codes "mdr") ≡ true
first_bytes = refl

other_version : may_begin (codes "mdropd" ++ 0 ∷ 2 ∷ []) ≡ false
other_version = refl

half_a_head : taken_in Head 0 [] magic ≡ record { phase = Head; place = 0; bytes = magic }
half_a_head = refl

whole_head : taken_in Head 0 magic (drop 8 head ++ first) ≡ record { phase = Records 7; place = 16; bytes = first }
whole_head = refl

no_head : taken_in Head 0 [] (codes "no segment stands") ≡ record { phase = Other; place = 16; bytes = [] }
no_head = refl
