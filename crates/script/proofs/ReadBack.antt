-- A request that is written reads back.
use Rattle.std.proofs.Common.{◌≡◌, ◌≤◌, ◌<◌, ◌+◌, ◌-◌, ◌*◌, ◌^◌, ◌++◌, ◌&&◌, ℕ, zero, suc, Bool, true, false, not, if◌then◌else◌, fold, nat_le, nat_lt, List, [], ◌∷◌, length, take, drop, get_or, Option, None, Some, codes, decimal, add-one, length-append, append_assoc, append-nil, refl, sym, ap, ◌∙◌, arith}
use Rattle.std.specs.Prelude.{position}
use Rattle.std.specs.Char.{is_ascii_digit}
use Rattle.std.specs.Fmt.{digits}
use Rattle.std.specs.List.{list_all, position_or_len}
use Rattle.std.specs.Option.{option_map}
use Rattle.std.specs.Str.{all_ascii_digits}
use Rattle.std.proofs.lemmas.Bool.{false≢true, and_from, and_parts, le-leb, leb-true, lt-ltb, ne_eqb}
use Rattle.std.proofs.lemmas.Bool.Decides.{nat_tests}
use Rattle.std.proofs.lemmas.Fmt.{decimal_is_IsNumeral, decimal_nonempty, digits_decimal, digits_value-decimal, first_decimal, length-decimal-le}
use Rattle.std.proofs.lemmas.List.{get_or_append_left, get_or-append-add}
use Rattle.std.proofs.lemmas.List.Folds.{list_all_at}
use Rattle.std.proofs.lemmas.List.Sums.{position_or_len_is}
use Rattle.std.proofs.lemmas.Str.Parse.{IsNumeralModel, numerals_by_fold, tells_all_ascii_digits}
use Rattle.apop.specs.Accounts.{cut_at_space, is_space}
use Rattle.maildrop.specs.Key.{IsKey}
use Rattle.maildrop.specs.Name.{IsName, is_visible}
use Rattle.pop3_wire.specs.Commands.{number_value}
use Rattle.script.specs.Names.{name_of}
use Rattle.script.specs.Commands.{node_and_user}
use Rattle.script.specs.Keys.{prefix_of}
use Rattle.script.specs.Requests.{HasKey, HasKeyPrefix, IsNodeOrAny, IsRequest, count_and_key, count_and_message_key, count_of, key_text, largest_file, node_number, request_cut, request_of, request_text, request_with, stop_text}
use Rattle.script.specs.Words.{has_leading_zero, is_decimal, number_between, key_of, node_numbered, node_of, node_or_any}
use Rattle.script.specs.declared.request.Request.{Request}
use Rattle.script.specs.declared.request.Request.TheVariants as request
use Rattle.script.proofs.Keys.{digits_visible}

-- what stands before a space, and what after it
front_of : (word rest : List ℕ) → take (length word) (word ++ rest) ≡ word
front_of [] rest = refl
front_of (b ∷ word) rest = ap (λ bs. b ∷ bs) (front_of word rest)

behind_of : (word rest : List ℕ) (b : ℕ) → drop (suc (length word)) (word ++ b ∷ rest) ≡ rest
behind_of [] rest b = refl
behind_of (x ∷ word) rest b = behind_of word rest b

not_space : (b : ℕ) → is_visible b ≡ true → is_space b ≡ false
not_space b seen = grind (arith, nat_tests)

no_space : (word : List ℕ) (k : ℕ) → k < length word → list_all is_visible word ≡ true → is_space (get_or word k 0) ≡ false
no_space word k inside all = by_test (is_visible (get_or word k 0)) refl
  where
    by_test : (t : Bool) → is_visible (get_or word k 0) ≡ t → is_space (get_or word k 0) ≡ false
    by_test true seen = not_space _ seen
    by_test false unseen = absurd (false≢true (sym (list_all_at is_visible word k 0 inside unseen) ∙ all))

-- a word is cut where its space stands
pub cut-behind : (word rest : List ℕ) → list_all is_visible word ≡ true → cut_at_space (word ++ 32 ∷ rest) ≡ Some (word, rest)
cut-behind word rest all =
    let line : List ℕ = word ++ 32 ∷ rest in
    let longer : length word < length (word ++ 32 ∷ rest) = omega (arith, length-append word (32 ∷ rest)) in
    let space : is_space (get_or (word ++ 32 ∷ rest) (length word) 0) ≡ true =
    ap is_space (ap (λ k. get_or (word ++ 32 ∷ rest) k 0) (omega arith) ∙ get_or-append-add word (32 ∷ rest) 0 0) in
    let place : position_or_len is_space (word ++ 32 ∷ rest) ≡ length word =
    position_or_len_is is_space (word ++ 32 ∷ rest) (length word) 0 (omega (arith, longer)) (λ k below.
    ap is_space (get_or_append_left word (32 ∷ rest) 0 k below) ∙ no_space word k below all) (λ _. space) in
    let found : position is_space (word ++ 32 ∷ rest) ≡ Some (length word) =
    rw place (ap (λ t. if t then Some (length word) else None) (lt-ltb _ _ longer)) in
    ap (option_map (λ place. (take place (word ++ 32 ∷ rest), drop (place + 1) (word ++ 32 ∷ rest)))) found
    ∙ ap (λ front. Some (front, drop (length word + 1) (word ++ 32 ∷ rest))) (front_of word (32 ∷ rest))
    ∙ ap (λ behind. Some (word, behind)) (rw add-one (behind_of word rest 32))

same_digits : (ds : List ℕ) → list_all is_ascii_digit ds ≡ all_ascii_digits ds
same_digits [] = refl
same_digits (d ∷ ds) = ap (λ t. is_ascii_digit d && t) (same_digits ds)

-- the value of digits, in std's words
value_model : IsNumeralModel (λ ds. all_ascii_digits ds ≡ true) number_value
value_model = numerals_by_fold (λ ds. all_ascii_digits ds ≡ true) tells_all_ascii_digits (λ n ds. fold (λ number digit. 10 * number + (digit - 48)) n ds) (record {
  empty = λ n. refl;
  more = λ n c cs digit. ap (λ m. fold (λ number d. 10 * number + (d - 48)) m cs) (omega arith);
})

other_first : (ds : List ℕ) → (get_or ds 0 0 ≡ 48 → ⊥) → has_leading_zero ds ≡ false
other_first [] other = refl
other_first (a ∷ []) other = refl
other_first (a ∷ b ∷ ds) other = ne_eqb a 48 other

no_leading_zero : (n : ℕ) → n < 2 ^ 64 → has_leading_zero (decimal n) ≡ false
unfolding digits
no_leading_zero zero fits = refl
no_leading_zero (suc n) fits = other_first (decimal (suc n)) (λ is. omega (arith, is, first_decimal (suc n) (omega arith) fits))

decimal_is_decimal : (n : ℕ) → n < 2 ^ 64 → is_decimal (decimal n) ≡ true
decimal_is_decimal n fits =
    and_from _ _ (and_from _ _ (le-leb _ _ (decimal_nonempty n fits)) (same_digits (decimal n) ∙ digits_decimal value_model n fits))
    (ap not (no_leading_zero n fits))

-- a number that is written reads back, if it is in the range
pub number-reads_back : (low high n : ℕ) → low ≤ n → n ≤ high → n < 2 ^ 64 → number_between low high (decimal n) ≡ Some n
number-reads_back low high n above below fits =
    let value : number_value (decimal n) ≡ n = digits_value-decimal value_model n fits in
    let test : (is_decimal (decimal n) && nat_le low n && nat_le n high) ≡ true =
    and_from _ _ (and_from _ _ (decimal_is_decimal n fits) (le-leb _ _ above)) (le-leb _ _ below) in
    rw value (ap (λ t. if t then Some n else None) test)

pub decimal_visible : (n : ℕ) → n < 2 ^ 64 → list_all is_visible (decimal n) ≡ true
decimal_visible n fits = digits_visible (decimal n) (decimal_is_IsNumeral n fits).0.1

-- no space stands in visible characters
cut-nowhere : (word : List ℕ) → list_all is_visible word ≡ true → cut_at_space word ≡ None
cut-nowhere word all =
    let place : position_or_len is_space word ≡ length word =
    position_or_len_is is_space word (length word) 0 (omega arith) (λ k below. no_space word k below all) (λ inside. absurd (omega (arith, inside))) in
    let test : nat_lt (length word) (length word) ≡ false = grind (arith, nat_tests) in
    let found : position is_space word ≡ None = rw place (ap (λ t. if t then Some (length word) else None) test) in
    ap (option_map (λ place. (take place word, drop (place + 1) word))) found

request-cut : (word rest : List ℕ) → list_all is_visible word ≡ true → length (word ++ 32 ∷ rest) ≤ 511 → request_of (word ++ 32 ∷ rest) ≡ request_with word rest
request-cut word rest all few =
    let line : List ℕ = word ++ 32 ∷ rest in
    let short : nat_lt 511 (length (word ++ 32 ∷ rest)) ≡ false = grind (arith, nat_tests) in
    ap (λ t. if t then None else request_cut (cut_at_space (word ++ 32 ∷ rest)) (word ++ 32 ∷ rest)) short
    ∙ ap (λ cut. request_cut cut (word ++ 32 ∷ rest)) (cut-behind word rest all)

module _ (number : ℕ) (high : number ≤ 9) where
  number_visible : list_all is_visible (decimal number) ≡ true
  number_visible = decimal_visible number (omega (arith, high))

  number_short : length (decimal number) ≤ 1
  number_short = length-decimal-le 1 number (omega arith) (omega (arith, high)) (omega (arith, high))

module _ (user : List ℕ) (named : IsName user) where
  user-reads_back : name_of user ≡ Some user
  user-reads_back = ap (λ t. if t then Some user else None) named

  user_visible : list_all is_visible user ≡ true
  user_visible = (and_parts _ _ named).1

  user_short : length user ≤ 40
  user_short = leb-true _ _ (and_parts _ _ (and_parts _ _ named).0).1

  kick-reads_back : request_of (request_text (request.Kick user)) ≡ Some (request.Kick user)
  kick-reads_back =
      request-cut (codes "kick") user refl (omega (arith, user_short, length-append (codes "kick") (32 ∷ user)))
      ∙ ap (option_map request.Kick) user-reads_back

module _ (count : ℕ) (few : count ≤ largest_file) where
  count-reads_back : count_of (decimal count) ≡ Some count
  count-reads_back = number-reads_back 0 largest_file count (omega arith) few (omega (arith, few))

  count_visible : list_all is_visible (decimal count) ≡ true
  count_visible = decimal_visible count (omega (arith, few))

  count_short : length (decimal count) ≤ 10
  count_short = length-decimal-le 10 count (omega arith) (omega (arith, few)) (omega (arith, few))

  prefix-reads_back : (key : Option (List ℕ)) → HasKeyPrefix key → count_and_key (decimal count ++ key_text key) ≡ Some (count, key)
  prefix-reads_back None is =
      ap count_and_key (append-nil (decimal count))
      ∙ rw (cut-nowhere (decimal count) count_visible, count-reads_back) refl
  prefix-reads_back (Some prefix) is =
      let known : prefix_of prefix ≡ Some prefix = ap (λ t. if t then Some prefix else None) is in
      rw (cut-behind (decimal count) prefix count_visible, count-reads_back, known) refl

  key-reads_back : (key : Option (List ℕ)) → HasKey key → count_and_message_key (decimal count ++ key_text key) ≡ Some (count, key)
  key-reads_back None is =
      ap count_and_message_key (append-nil (decimal count))
      ∙ rw (cut-nowhere (decimal count) count_visible, count-reads_back) refl
  key-reads_back (Some key) is =
      let known : key_of key ≡ Some key = ap (λ t. if t then Some key else None) is in
      rw (cut-behind (decimal count) key count_visible, count-reads_back, known) refl

prefix_short : (key : Option (List ℕ)) → HasKeyPrefix key → length (key_text key) ≤ 55
prefix_short None is = omega arith
prefix_short (Some prefix) is =
    let few : length prefix ≤ 54 = leb-true _ _ (and_parts _ _ is).0 in
    omega (arith, few, length-append (codes " ") prefix)

key_few : (key : List ℕ) → IsKey key → length key ≤ 64
key_few key is = leb-true _ _ (and_parts _ _ (and_parts _ _ is).0).1

key_short : (key : Option (List ℕ)) → HasKey key → length (key_text key) ≤ 65
key_short None is = omega arith
key_short (Some key) is = omega (arith, key_few key is, length-append (codes " ") key)

module _ (at : ℕ) (low : 1 ≤ at) (high : at ≤ 9) where
  node-reads_back : node_of (decimal at) ≡ Some at
  node-reads_back = number-reads_back 1 9 at low high (omega (arith, high))

  crash-reads_back : request_of (request_text (request.Crash at)) ≡ Some (request.Crash at)
  crash-reads_back =
      request-cut (codes "crash") (decimal at) refl (omega (arith, number_short at high, length-append (codes "crash") (32 ∷ decimal at)))
      ∙ ap (option_map request.Crash) node-reads_back

  module _ (user : List ℕ) (named : IsName user) where
    both-read_back : node_and_user (decimal at ++ 32 ∷ user) ≡ Some (at, user)
    both-read_back = rw (cut-behind (decimal at) user (number_visible at high), node-reads_back, user-reads_back user named) refl

    break-reads_back : request_of (request_text (request.Break at user)) ≡ Some (request.Break at user)
    break-reads_back =
        ap request_of (append_assoc (codes "break " ++ decimal at) (codes " ") user ∙ append_assoc (codes "break ") (decimal at) (codes " " ++ user))
        ∙ request-cut (codes "break") (decimal at ++ 32 ∷ user) refl
        (omega (arith, number_short at high, user_short user named, length-append (codes "break") (32 ∷ (decimal at ++ 32 ∷ user)), length-append (decimal at) (32 ∷ user)))
        ∙ ap (option_map (λ both. request.Break both.0 both.1)) both-read_back

-- the words of `NODE USER COUNT` with whatever comes after them
module _ (number : ℕ) (high : number ≤ 9) (user : List ℕ) (named : IsName user) (count : ℕ) (few : count ≤ largest_file) (key : List ℕ) (short : length key ≤ 65) where
  abbrev rest : List ℕ
  rest = decimal number ++ 32 ∷ (user ++ 32 ∷ (decimal count ++ key))

  rest_short : length rest ≤ 118
  rest_short = omega (arith, number_short number high, user_short user named, count_short count few, short, length-append (decimal number) (32 ∷ (user ++ 32 ∷ (decimal count ++ key))), length-append user (32 ∷ (decimal count ++ key)), length-append (decimal count) key)

  -- one append after the other
  joined : (word : List ℕ) → word ++ decimal number ++ codes " " ++ user ++ codes " " ++ decimal count ++ key ≡ word ++ rest
  joined word =
      append_assoc (word ++ decimal number ++ codes " " ++ user ++ codes " ") (decimal count) key
      ∙ append_assoc (word ++ decimal number ++ codes " " ++ user) (codes " ") (decimal count ++ key)
      ∙ append_assoc (word ++ decimal number ++ codes " ") user (32 ∷ (decimal count ++ key))
      ∙ append_assoc (word ++ decimal number) (codes " ") (user ++ 32 ∷ (decimal count ++ key))
      ∙ append_assoc word (decimal number) (32 ∷ (user ++ 32 ∷ (decimal count ++ key)))

module _ (user : List ℕ) (named : IsName user) (count : ℕ) (few : count ≤ largest_file) where
  deliver-reads_back : (at : ℕ) → 1 ≤ at → at ≤ 9 → (key : Option (List ℕ)) → HasKeyPrefix key → request_of (request_text (request.Deliver at user count key)) ≡ Some (request.Deliver at user count key)
  deliver-reads_back at low high key is =
      let short : length (key_text key) ≤ 65 = omega (arith, prefix_short key is) in
      ap request_of (joined at high user named count few (key_text key) short (codes "deliver "))
      ∙ request-cut (codes "deliver") (decimal at ++ 32 ∷ (user ++ 32 ∷ (decimal count ++ key_text key))) refl
      (omega (arith, rest_short at high user named count few (key_text key) short, length-append (codes "deliver") (32 ∷ (decimal at ++ 32 ∷ (user ++ 32 ∷ (decimal count ++ key_text key))))))
      ∙ rw (cut-behind (decimal at) (user ++ 32 ∷ (decimal count ++ key_text key)) (number_visible at high), cut-behind user (decimal count ++ key_text key) (user_visible user named), node-reads_back at low high, user-reads_back user named, prefix-reads_back count few key is) refl

  put-reads_back : (at : Option ℕ) → (high : node_number at ≤ 9) → node_or_any (decimal (node_number at)) ≡ Some at → (key : Option (List ℕ)) → HasKey key → request_of (request_text (request.Put at user count key)) ≡ Some (request.Put at user count key)
  put-reads_back at high known key is =
      let short : length (key_text key) ≤ 65 = key_short key is in
      ap request_of (joined (node_number at) high user named count few (key_text key) short (codes "put "))
      ∙ request-cut (codes "put") (decimal (node_number at) ++ 32 ∷ (user ++ 32 ∷ (decimal count ++ key_text key))) refl
      (omega (arith, rest_short (node_number at) high user named count few (key_text key) short, length-append (codes "put") (32 ∷ (decimal (node_number at) ++ 32 ∷ (user ++ 32 ∷ (decimal count ++ key_text key))))))
      ∙ rw (cut-behind (decimal (node_number at)) (user ++ 32 ∷ (decimal count ++ key_text key)) (number_visible (node_number at) high), cut-behind user (decimal count ++ key_text key) (user_visible user named), known, user-reads_back user named, key-reads_back count few key is) refl

node_high : (at : Option ℕ) → IsNodeOrAny at → node_number at ≤ 9
node_high None is = omega arith
node_high (Some at) is = is.1

node_or_any-reads_back : (at : Option ℕ) → IsNodeOrAny at → node_or_any (decimal (node_number at)) ≡ Some at
node_or_any-reads_back None is = ap (option_map node_numbered) (number-reads_back 0 9 0 (omega arith) (omega arith) (omega arith))
node_or_any-reads_back (Some zero) is = absurd (omega (arith, is.0))
node_or_any-reads_back (Some (suc n)) is = ap (option_map node_numbered) (number-reads_back 0 9 (suc n) (omega arith) is.1 (omega (arith, is.1)))

stop-reads_back : (now wait : Bool) → request_of (stop_text now wait) ≡ Some (request.Stop now wait)
stop-reads_back false false = refl
stop-reads_back false true = refl
stop-reads_back true false = refl
stop-reads_back true true = refl

pub reads_back : (it : Request) → IsRequest it → request_of (request_text it) ≡ Some it
reads_back (request.Deliver at user count key) is = deliver-reads_back user is.2 count is.3 at is.0 is.1 key is.4
reads_back (request.Break at user) is = break-reads_back at is.0 is.1 user is.2
reads_back (request.Crash at) is = crash-reads_back at is.0 is.1
reads_back request.Status is = refl
reads_back (request.Put at user count key) is =
    put-reads_back user is.1 count is.2 at (node_high at is.0) (node_or_any-reads_back at is.0) key is.3
reads_back request.Sessions is = refl
reads_back request.Stats is = refl
reads_back request.Locks is = refl
reads_back request.Users is = refl
reads_back request.Roll is = refl
reads_back request.Reopen is = refl
reads_back (request.Kick user) is = kick-reads_back user is
reads_back (request.Stop now wait) is = stop-reads_back now wait
