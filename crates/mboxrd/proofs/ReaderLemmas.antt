-- What a reader of mailboxes keeps, and what one more piece makes of it.
use Rattle.std.proofs.Common.{◌≡◌, ◌≢◌, ℕ, zero, suc, ◌+◌, ◌-◌, ◌<◌, ◌≤◌, ◌==◌, Bool, true, false, not, cond, Option, None, Some, List, [], ◌∷◌, ◌++◌, length, take, drop, get_or, map, min, codes, is_some, Result, Ok, Err, inl, inr, ◌⊎◌, refl, sym, ap, ◌∙◌, arith, append_assoc, append-nil, slice_index}
use Rattle.std.specs.Prelude.{IsErr, IsErrAnd, IsErrOf}
use Rattle.std.specs.List.{All, list_all, slice_split, onto_first}
use Rattle.std.specs.Str.Lines.{lines, lines_of_parts, strip_carriage_return}
use Rattle.std.proofs.lemmas.Bool.{cases_Bool, eqb-true, and_parts}
use Rattle.std.proofs.lemmas.Bool.Decides.{nat_tests}
use Rattle.std.specs.Option.{option_map}
use Rattle.std.proofs.lemmas.List.{map_push, take-append-drop, drop_more, drop_all}
use Rattle.std.proofs.lemmas.List.Elements.{All-append}
use Rattle.std.proofs.lemmas.List.Splits.{slice_split_none, slice_split-cons_yes, slice_split-cons_no, length-slice_split}
use Rattle.std.proofs.lemmas.List.Folds.{list_all-append}
use Rattle.std.proofs.lemmas.List.Sums.{AllPass-from_list_all}
use Rattle.std.proofs.lemmas.Slice.Eq.{bytes_eq-Decides}
use Rattle.maildrop.specs.Text.{IsLine}
use Rattle.memchr.specs.Find.{IsFirstByte, is_byte}
use Rattle.maildrop.proofs.TextLemmas.{tests-from_IsLine, first_line_feed}
use Rattle.mboxrd.specs.Mailbox.{begins_message, unquoted, text_of, texts_of, are_messages, read_of}
use Rattle.mboxrd.specs.Reader.{Kept, Reading, Failed, ended_parts, open_part, parts_of, ended_lines, messages_of, open_text, agree, kept_of, kept_after, ended_text, texts_with, text_with, all_texts, is_begun, goes_on, kept_by, IsKept}
use Rattle.mboxrd.specs.declared.error.MboxError.{MboxError}
use Rattle.mboxrd.specs.declared.error.MboxError.TheVariants.{NoFromLine, Memory}
use Rattle.mboxrd.proofs.ReadingLemmas.{unquoted-without_last_empty}
use Rattle.mboxrd.proofs.RoundTrip.{begins_message-strip, opposite}

-- ---- the parts of a list that goes on

module _ {X : Type 0} where
  ended-push : (parts : List (List X)) (last : List X) → ended_parts (parts ++ last ∷ []) ≡ parts
  ended-push [] last = refl
  ended-push (part ∷ []) last = refl
  ended-push (part ∷ next ∷ more) last = ap (λ ps. part ∷ ps) (ended-push (next ∷ more) last)

  open-push : (parts : List (List X)) (last : List X) → open_part (parts ++ last ∷ []) ≡ last
  open-push [] last = refl
  open-push (part ∷ []) last = refl
  open-push (part ∷ next ∷ more) last = open-push (next ∷ more) last

  onto_first-append : (x : X) (parts more : List (List X)) → 0 < length parts → onto_first x (parts ++ more) ≡ onto_first x parts ++ more
  onto_first-append x [] more some = absurd (omega arith)
  onto_first-append x (part ∷ parts) more some = refl

  ended-more : (part : List X) (parts : List (List X)) → 0 < length parts → ended_parts (part ∷ parts) ≡ part ∷ ended_parts parts
  ended-more part [] some = absurd (omega arith)
  ended-more part (next ∷ more) some = refl

  open-more : (part : List X) (parts : List (List X)) → 0 < length parts → open_part (part ∷ parts) ≡ open_part parts
  open-more part [] some = absurd (omega arith)
  open-more part (next ∷ more) some = refl

  -- the parts with more in the open one
  abbrev with_more : List (List X) → List X → List (List X)
  with_more parts more = ended_parts parts ++ (open_part parts ++ more) ∷ []

  onto_first-more : (x : X) (parts : List (List X)) (more : List X) → 0 < length parts → onto_first x (with_more parts more) ≡ with_more (onto_first x parts) more
  onto_first-more x [] more some = absurd (omega arith)
  onto_first-more x (part ∷ []) more some = refl
  onto_first-more x (part ∷ next ∷ parts) more some = refl

  some_parts : (p : X → Bool) (xs : List X) → 0 < length (slice_split p xs)
  some_parts p xs = omega (arith, length-slice_split p xs)

  -- an element that passes ends the open part
  split-push : (p : X → Bool) (xs : List X) (x : X) → p x ≡ true → slice_split p (xs ++ x ∷ []) ≡ slice_split p xs ++ [] ∷ []
  split-push p [] x yes_x = slice_split-cons_yes p x [] yes_x
  split-push p (y ∷ ys) x yes_x = elim (cases_Bool (p y)) [
    | inl passes ↦ slice_split-cons_yes p y (ys ++ x ∷ []) passes ∙ ap (λ ps. [] ∷ ps) (split-push p ys x yes_x) ∙ sym (ap (λ ps. ps ++ [] ∷ []) (slice_split-cons_yes p y ys passes))
    | inr fails ↦
        slice_split-cons_no p y (ys ++ x ∷ []) fails ∙ ap (onto_first y) (split-push p ys x yes_x)
        ∙ onto_first-append y (slice_split p ys) ([] ∷ []) (some_parts p ys)
        ∙ sym (ap (λ ps. ps ++ [] ∷ []) (slice_split-cons_no p y ys fails))
  ]

  -- elements of which none passes come to the open part
  split-more : (p : X → Bool) (xs more : List X) → All (λ x. p x ≡ false) more → slice_split p (xs ++ more) ≡ with_more (slice_split p xs) more
  split-more p [] more none = slice_split_none p more none
  split-more p (y ∷ ys) more none = elim (cases_Bool (p y)) [
    | inl passes ↦
        let parts = slice_split p ys in
        slice_split-cons_yes p y (ys ++ more) passes ∙ ap (λ ps. [] ∷ ps) (split-more p ys more none)
        ∙ sym (ap (λ ps. with_more ps more) (slice_split-cons_yes p y ys passes) ∙ (λ i. ended-more [] parts (some_parts p ys) i ++ (open-more [] parts (some_parts p ys) i ++ more) ∷ []))
    | inr fails ↦
        slice_split-cons_no p y (ys ++ more) fails ∙ ap (onto_first y) (split-more p ys more none)
        ∙ onto_first-more y (slice_split p ys) more (some_parts p ys)
        ∙ sym (ap (λ ps. with_more ps more) (slice_split-cons_no p y ys fails))
  ]

-- ---- one more line

drop-append : {X : Type 0} (parts more : List X) → 0 < length parts → drop 1 (parts ++ more) ≡ drop 1 parts ++ more
drop-append [] more some = absurd (omega arith)
drop-append (part ∷ parts) more some = refl

-- the messages with a line more in the open one, if there is one
abbrev line_more : List (List (List ℕ)) → List ℕ → List (List (List ℕ))
line_more [] line = []
line_more (message ∷ messages) line = with_more (message ∷ messages) (line ∷ [])

drop-more : (parts : List (List (List ℕ))) (line : List ℕ) → 0 < length parts → drop 1 (with_more parts (line ∷ [])) ≡ line_more (drop 1 parts) line
drop-more [] line some = absurd (omega arith)
drop-more (part ∷ []) line some = refl
drop-more (part ∷ next ∷ more) line some = refl

messages-begin : (ls : List (List ℕ)) (line : List ℕ) → begins_message line ≡ true → messages_of (ls ++ line ∷ []) ≡ messages_of ls ++ [] ∷ []
messages-begin ls line begins = ap (drop 1) (split-push begins_message ls line begins) ∙ drop-append (slice_split begins_message ls) ([] ∷ []) (some_parts begins_message ls)

messages-go_on : (ls : List (List ℕ)) (line : List ℕ) → begins_message line ≡ false → messages_of (ls ++ line ∷ []) ≡ line_more (messages_of ls) line
messages-go_on ls line inside =
    ap (drop 1) (split-more begins_message ls (line ∷ []) (λ k d within. one k d within)) ∙ drop-more (slice_split begins_message ls) line (some_parts begins_message ls)
  where
    one : All (λ l. begins_message l ≡ false) (line ∷ [])
    one zero d within = inside
    one (suc k) d within = absurd (omega (arith, within))

-- the texts that have ended and the open one are all
texts-whole : (messages : List (List (List ℕ))) → map text_of (ended_parts messages) ++ ended_text (open_text messages) ≡ map text_of messages
texts-whole [] = refl
texts-whole (message ∷ []) = ap (λ text. text ∷ []) (sym (unquoted-without_last_empty message))
texts-whole (message ∷ next ∷ more) = ap (λ texts. text_of message ∷ texts) (texts-whole (next ∷ more))

open_text-push : (messages : List (List (List ℕ))) (last : List (List ℕ)) → open_text (messages ++ last ∷ []) ≡ Some (map unquoted last)
open_text-push [] last = refl
open_text-push (message ∷ messages) last = ap (λ ls. Some (map unquoted ls)) (open-push (message ∷ messages) last)

texts-step : (ls : List (List ℕ)) (line : List ℕ) → texts_with (map text_of (ended_parts (messages_of ls))) (open_text (messages_of ls)) line ≡ map text_of (ended_parts (messages_of (ls ++ line ∷ [])))
texts-step ls line = elim (cases_Bool (begins_message line)) [
  | inl begins ↦ rw (begins, messages-begin ls line begins, ended-push (messages_of ls) []) (texts-whole (messages_of ls))
  | inr inside ↦ rw (inside, messages-go_on ls line inside) (ap (map text_of) (stay (messages_of ls)))
]
  where
    stay : (messages : List (List (List ℕ))) → ended_parts messages ≡ ended_parts (line_more messages line)
    stay [] = refl
    stay (message ∷ messages) = sym (ended-push (ended_parts (message ∷ messages)) (open_part (message ∷ messages) ++ line ∷ []))

text-step : (ls : List (List ℕ)) (line : List ℕ) → text_with (open_text (messages_of ls)) line ≡ open_text (messages_of (ls ++ line ∷ []))
text-step ls line = elim (cases_Bool (begins_message line)) [
  | inl begins ↦ rw (begins, messages-begin ls line begins, open_text-push (messages_of ls) []) refl
  | inr inside ↦ rw (inside, messages-go_on ls line inside) (more (messages_of ls))
]
  where
    more : (messages : List (List (List ℕ))) → option_map (λ lines. lines ++ unquoted line ∷ []) (open_text messages) ≡ open_text (line_more messages line)
    more [] = refl
    more (message ∷ messages) =
        ap (λ ls. Some ls) (sym (map_push unquoted (open_part (message ∷ messages)) line))
        ∙ sym (open_text-push (ended_parts (message ∷ messages)) (open_part (message ∷ messages) ++ line ∷ []))

-- ---- more bytes

-- bytes without a line feed come to the open line
pub kept-rest : (bytes rest : List ℕ) (texts : List (List (List ℕ))) (text : Option (List (List ℕ))) (line : List ℕ) → IsLine rest → IsKept bytes texts text line → IsKept (bytes ++ rest) texts text (line ++ rest)
kept-rest bytes rest texts text line is kept =
    let parts = parts_of bytes in
    let more : parts_of (bytes ++ rest) ≡ with_more parts rest = split-more (λ b. b == 10) bytes rest (tests-from_IsLine rest is) in
    let same : ended_lines (bytes ++ rest) ≡ ended_lines bytes = ap (map strip_carriage_return) (ap ended_parts more ∙ ended-push (ended_parts parts) (open_part parts ++ rest)) in
    record {
      texts_are = rw same kept.texts_are;
      text_is = rw same kept.text_is;
      line_is = ap (λ l. l ++ rest) kept.line_is ∙ sym (ap open_part more ∙ open-push (ended_parts parts) (open_part parts ++ rest));
    }

-- and a line feed ends it
pub kept-line : (bytes rest : List ℕ) (texts : List (List (List ℕ))) (text : Option (List (List ℕ))) (line : List ℕ) → IsLine rest → IsKept bytes texts text line
    → IsKept (bytes ++ (rest ++ 10 ∷ [])) (texts_with texts text (strip_carriage_return (line ++ rest))) (text_with text (strip_carriage_return (line ++ rest))) []
kept-line bytes rest texts text line is kept =
    let parts = parts_of bytes in
    let last = strip_carriage_return (open_part parts ++ rest) in
    let more : parts_of (bytes ++ rest) ≡ with_more parts rest = split-more (λ b. b == 10) bytes rest (tests-from_IsLine rest is) in
    let ended : parts_of (bytes ++ (rest ++ 10 ∷ [])) ≡ with_more parts rest ++ [] ∷ [] =
    ap parts_of (sym (append_assoc bytes rest (10 ∷ []))) ∙ split-push (λ b. b == 10) (bytes ++ rest) 10 refl ∙ ap (λ ps. ps ++ [] ∷ []) more in
    let all : ended_lines (bytes ++ (rest ++ 10 ∷ [])) ≡ ended_lines bytes ++ last ∷ [] =
    ap (map strip_carriage_return) (ap ended_parts ended ∙ ended-push (with_more parts rest) []) ∙ map_push strip_carriage_return (ended_parts parts) (open_part parts ++ rest) in
    record {
      texts_are = rw (all, kept.texts_are, kept.text_is, kept.line_is) (texts-step (ended_lines bytes) last);
      text_is = rw (all, kept.text_is, kept.line_is) (text-step (ended_lines bytes) last);
      line_is = sym (ap open_part ended ∙ open-push (with_more parts rest) []);
    }

pub kept-none : IsKept [] [] None []
kept-none = record { texts_are = refl; text_is = refl; line_is = refl }

-- ---- the first bytes

-- of two that agree one is a front of the other
agree-cases : (bytes others : List ℕ) → agree bytes others ≡ true → ((rest : List ℕ) × (bytes ≡ others ++ rest)) ⊎ ((rest : List ℕ) × (others ≡ bytes ++ rest))
agree-cases [] others is = inr (others, refl)
agree-cases (b ∷ bytes) [] is = inl (b ∷ bytes, refl)
agree-cases (b ∷ bytes) (c ∷ others) is =
    let parts = and_parts (b == c) (agree bytes others) is in
    let same : b ≡ c = eqb-true b c parts.0 in
    elim (agree-cases bytes others parts.1) [
      | inl longer ↦ inl (longer.0, (λ i. same i ∷ longer.1 i))
      | inr shorter ↦ inr (shorter.0, (λ i. sym same i ∷ shorter.1 i))
    ]

agree-front : (others rest : List ℕ) → agree (others ++ rest) others ≡ true
agree-front [] [] = refl
agree-front [] (b ∷ rest) = refl
agree-front (c ∷ others) rest = grind (arith, nat_tests, agree-front others rest)

-- bytes that agree go on as the rest says
agree-append : (bytes piece others : List ℕ) → agree bytes others ≡ true → agree (bytes ++ piece) others ≡ agree piece (drop (min (length bytes) (length others)) others)
agree-append [] piece others is = let none : min 0 (length others) ≡ 0 = omega arith in rw none refl
agree-append (b ∷ bytes) [] [] is = refl
agree-append (b ∷ bytes) (p ∷ piece) [] is = let none : min (suc (length bytes)) 0 ≡ 0 = omega arith in rw none refl
agree-append (b ∷ bytes) piece (c ∷ others) is =
    let parts = and_parts (b == c) (agree bytes others) is in
    let least : min (length (b ∷ bytes)) (length (c ∷ others)) ≡ suc (min (length bytes) (length others)) = omega arith in
    rw (least, parts.0) (agree-append bytes piece others parts.1)

-- what does not agree does not agree longer
agree-false : (bytes piece others : List ℕ) → agree bytes others ≡ false → agree (bytes ++ piece) others ≡ false
agree-false [] piece others is = absurd cc
agree-false (b ∷ bytes) piece [] is = absurd cc
agree-false (b ∷ bytes) piece (c ∷ others) is = grind (arith, agree-false bytes piece others, is)

abbrev pub from : List ℕ
from = codes "From "

-- a front of `From ` is one part
one_part : (bytes rest : List ℕ) → from ≡ bytes ++ rest → parts_of bytes ≡ bytes ∷ []
one_part bytes rest e =
    let all : list_all (λ b. not (b == 10)) (bytes ++ rest) ≡ true = ap (list_all (λ b. not (b == 10))) (sym e) in
    let parts = and_parts _ _ (sym (list_all-append (λ b. not (b == 10)) bytes rest) ∙ all) in
    slice_split_none (λ b. b == 10) bytes (λ k d inside. opposite (get_or bytes k d == 10) (AllPass-from_list_all (λ b. not (b == 10)) bytes parts.0 k d inside))

-- the parts of bytes that start with `From `, by those of the bytes after it
abbrev behind_from : List (List ℕ) → List (List ℕ)
behind_from parts = onto_first 70 (onto_first 114 (onto_first 111 (onto_first 109 (onto_first 32 parts))))

-- the lines that have ended begin with one that begins a message, or there are none
ended-from : (bytes : List ℕ) → agree bytes from ≡ true → are_messages (ended_lines bytes) ≡ true
ended-from bytes is = elim (agree-cases bytes from is) [
  | inl longer ↦ rw longer.1 (by (parts_of longer.0))
  | inr shorter ↦ rw (one_part bytes shorter.0 shorter.1) refl
]
  where
    by : (parts : List (List ℕ)) → are_messages (map strip_carriage_return (ended_parts (behind_from parts))) ≡ true
    by [] = refl
    by (part ∷ []) = refl
    by (part ∷ next ∷ more) = begins_message-strip (70 ∷ 114 ∷ 111 ∷ 109 ∷ 32 ∷ part) refl

begun-some : (messages : List (List (List ℕ))) (line : List ℕ) → 0 < length messages → is_begun (open_text messages) line ≡ true
begun-some [] line some = absurd (omega arith)
begun-some (message ∷ messages) line some = refl

-- a line that begins a message leaves one open
messages-some : (line : List ℕ) (ls : List (List ℕ)) → begins_message line ≡ true → messages_of (line ∷ ls) ≡ slice_split begins_message ls
messages-some line ls begins = ap (drop 1) (slice_split-cons_yes begins_message line ls begins)

-- what a last line feed leaves is a line, if it is not empty
abbrev last_line : List ℕ → List (List ℕ)
last_line [] = []
last_line (b ∷ bytes) = (b ∷ bytes) ∷ []

lines-parts : (parts : List (List ℕ)) → lines_of_parts parts ≡ map strip_carriage_return (ended_parts parts) ++ last_line (open_part parts)
lines-parts [] = refl
lines-parts ([] ∷ []) = refl
lines-parts ((b ∷ bytes) ∷ []) = grind (arith, nat_tests)
lines-parts (part ∷ next ∷ more) = ap (λ ls. strip_carriage_return part ∷ ls) (lines-parts (next ∷ more))

-- a mailbox has begun, or it is refused
begun : (bytes : List ℕ) (texts : List (List (List ℕ))) (text : Option (List (List ℕ))) (line : List ℕ) → agree bytes from ≡ true → IsKept bytes texts text line → are_messages (lines bytes) ≡ is_begun text line
begun bytes texts text line is kept =
    ap are_messages (lines-parts (parts_of bytes)) ∙ rw (kept.text_is, kept.line_is) (by (ended_lines bytes) (open_part (parts_of bytes)) (ended-from bytes is))
  where
    by : (ls : List (List ℕ)) (last : List ℕ) → are_messages ls ≡ true → are_messages (ls ++ last_line last) ≡ is_begun (open_text (messages_of ls)) last
    by [] [] first = refl
    by [] (b ∷ bs) first = refl
    by (l ∷ ls) last first =
        first ∙ sym (ap (λ ms. is_begun (open_text ms) last) (messages-some l ls first) ∙ begun-some (slice_split begins_message ls) last (some_parts begins_message ls))

-- its texts are those of its lines
all : (bytes : List ℕ) (texts : List (List (List ℕ))) (text : Option (List (List ℕ))) (line : List ℕ) → IsKept bytes texts text line → texts_of (lines bytes) ≡ all_texts texts text line
all bytes texts text line kept =
    ap texts_of (lines-parts (parts_of bytes)) ∙ rw (kept.texts_are, kept.text_is, kept.line_is) (by (ended_lines bytes) (open_part (parts_of bytes)))
  where
    by : (ls : List (List ℕ)) (last : List ℕ) → texts_of (ls ++ last_line last) ≡ all_texts (map text_of (ended_parts (messages_of ls))) (open_text (messages_of ls)) last
    by ls [] = ap texts_of (append-nil ls) ∙ sym (texts-whole (messages_of ls))
    by ls (b ∷ bs) = rw (texts-step ls (b ∷ bs), text-step ls (b ∷ bs)) (sym (texts-whole (messages_of (ls ++ (b ∷ bs) ∷ []))))

pub read_of-begun : (bytes : List ℕ) (texts : List (List (List ℕ))) (text : Option (List (List ℕ))) (line : List ℕ) → agree bytes from ≡ true → IsKept bytes texts text line → is_begun text line ≡ true → read_of bytes ≡ Ok (all_texts texts text line)
read_of-begun bytes texts text line is kept has =
    ap (λ b. cond b (Ok (texts_of (lines bytes))) (Err NoFromLine)) (begun bytes texts text line is kept ∙ has) ∙ ap (λ texts. Ok texts) (all bytes texts text line kept)

pub read_of-refused : (bytes : List ℕ) (texts : List (List (List ℕ))) (text : Option (List (List ℕ))) (line : List ℕ) → agree bytes from ≡ true → IsKept bytes texts text line → is_begun text line ≡ false → read_of bytes ≡ Err NoFromLine
read_of-refused bytes texts text line is kept has =
    ap (λ b. cond b (Ok (texts_of (lines bytes))) (Err NoFromLine)) (begun bytes texts text line is kept ∙ has)

-- ---- what is kept, and the bytes

abbrev kept_if : List ℕ → Bool → Kept
kept_if bytes b = cond b (kept_of (messages_of (ended_lines bytes)) (open_part (parts_of bytes))) (Failed NoFromLine)

pub opened : (bytes : List ℕ) (texts : List (List (List ℕ))) (text : Option (List (List ℕ))) (line : List ℕ) → Reading texts text line ≡ kept_after bytes → (agree bytes from ≡ true) × IsKept bytes texts text line
opened bytes texts text line h = elim (cases_Bool (agree bytes from)) [
  | inl is ↦
      let e : Reading texts text line ≡ kept_of (messages_of (ended_lines bytes)) (open_part (parts_of bytes)) = h ∙ ap (kept_if bytes) is in
      let texts_same : texts ≡ map text_of (ended_parts (messages_of (ended_lines bytes))) = cc in
      let text_same : text ≡ open_text (messages_of (ended_lines bytes)) = cc in
      let line_same : line ≡ open_part (parts_of bytes) = cc in
      (is, record { texts_are = texts_same; text_is = text_same; line_is = line_same })
  | inr is ↦ let e : Reading texts text line ≡ Failed NoFromLine = h ∙ ap (kept_if bytes) is in absurd cc
]

pub failed : (bytes : List ℕ) (error : MboxError) → Failed error ≡ kept_after bytes → (agree bytes from ≡ false) × (error ≡ NoFromLine)
failed bytes error h = elim (cases_Bool (agree bytes from)) [
  | inl is ↦ let e : Failed error ≡ kept_of (messages_of (ended_lines bytes)) (open_part (parts_of bytes)) = h ∙ ap (kept_if bytes) is in absurd cc
  | inr is ↦ let e : Failed error ≡ Failed NoFromLine = h ∙ ap (kept_if bytes) is in let same : error ≡ NoFromLine = cc in (is, same)
]

pub kept_after-read : (bytes : List ℕ) (texts : List (List (List ℕ))) (text : Option (List (List ℕ))) (line : List ℕ) → agree bytes from ≡ true → IsKept bytes texts text line → Reading texts text line ≡ kept_after bytes
kept_after-read bytes texts text line is kept = (λ i. Reading (kept.texts_are i) (kept.text_is i) (kept.line_is i)) ∙ sym (ap (kept_if bytes) is)

pub kept_after-refused : (bytes : List ℕ) → agree bytes from ≡ false → kept_after bytes ≡ Failed NoFromLine
kept_after-refused bytes is = ap (kept_if bytes) is

pub still_refused : (bytes piece : List ℕ) (error : MboxError) → Failed error ≡ kept_after bytes → kept_after (bytes ++ piece) ≡ Failed NoFromLine
still_refused bytes piece error h = kept_after-refused (bytes ++ piece) (agree-false bytes piece from ((failed bytes error h).0))

agree-nil : (piece : List ℕ) → agree piece [] ≡ true
agree-nil [] = refl
agree-nil (b ∷ piece) = refl

-- a piece may come exactly if the bytes agree with `From ` then
pub goes_on-is : (bytes piece : List ℕ) (texts : List (List (List ℕ))) (text : Option (List (List ℕ))) (line : List ℕ) → agree bytes from ≡ true → IsKept bytes texts text line → goes_on (is_some text) line piece ≡ agree (bytes ++ piece) from
goes_on-is bytes piece texts text line is kept = elim (agree-cases bytes from is) [
  | inr shorter ↦
      let one = one_part bytes shorter.0 shorter.1 in
      let none : text ≡ None = kept.text_is ∙ ap (λ ps. open_text (messages_of (map strip_carriage_return (ended_parts ps)))) one in
      let whole : line ≡ bytes = kept.line_is ∙ ap open_part one in
      rw (none, whole) (sym (agree-append bytes piece from is))
  | inl longer ↦
      let agrees : agree (bytes ++ piece) from ≡ true = ap (λ bs. agree (bs ++ piece) from) longer.1 ∙ ap (λ bs. agree bs from) (append_assoc from longer.0 piece) ∙ agree-front from (longer.0 ++ piece) in
      let parts : parts_of bytes ≡ behind_from (parts_of longer.0) = ap parts_of longer.1 in
      by (parts_of longer.0) text line (kept.text_is ∙ ap (λ ps. open_text (messages_of (map strip_carriage_return (ended_parts ps)))) parts) (kept.line_is ∙ ap open_part parts) ∙ sym agrees
]
  where
    long : (tail : List ℕ) → agree piece (drop (min (length (70 ∷ 114 ∷ 111 ∷ 109 ∷ 32 ∷ tail)) 5) from) ≡ true
    long tail = let five : min (length (70 ∷ 114 ∷ 111 ∷ 109 ∷ 32 ∷ tail)) 5 ≡ 5 = omega arith in rw five (agree-nil piece)

    by : (parts : List (List ℕ)) (text : Option (List (List ℕ))) (line : List ℕ) → text ≡ open_text (messages_of (map strip_carriage_return (ended_parts (behind_from parts)))) → line ≡ open_part (behind_from parts) → goes_on (is_some text) line piece ≡ true
    by [] text line text_is line_is = rw (text_is, line_is) (long [])
    by (part ∷ []) text line text_is line_is = rw (text_is, line_is) (long part)
    by (part ∷ next ∷ more) text line text_is line_is =
        let begins = begins_message-strip (70 ∷ 114 ∷ 111 ∷ 109 ∷ 32 ∷ part) refl in
        let some = messages-some (strip_carriage_return (70 ∷ 114 ∷ 111 ∷ 109 ∷ 32 ∷ part)) (map strip_carriage_return (ended_parts (next ∷ more))) begins in
        rw (text_is, some) (has (slice_split begins_message (map strip_carriage_return (ended_parts (next ∷ more)))) (some_parts begins_message (map strip_carriage_return (ended_parts (next ∷ more)))))
      where
        has : (messages : List (List (List ℕ))) → 0 < length messages → goes_on (is_some (open_text messages)) line piece ≡ true
        has [] none = absurd (omega arith)
        has (message ∷ messages) there = refl

-- ---- a piece

-- of a piece all but the rest is taken in
pub record HasTaken (piece rest : List ℕ) (texts : List (List (List ℕ))) (text : Option (List (List ℕ))) (line : List ℕ) (texts' : List (List (List ℕ))) (text' : Option (List (List ℕ))) (line' : List ℕ) : Type 0 where
  pub front : List ℕ
  pub piece_is : piece ≡ front ++ rest
  pub kept : (bytes : List ℕ) → IsKept bytes texts text line → IsKept (bytes ++ front) texts' text' line'

pub HasTaken-none : (piece : List ℕ) (texts : List (List (List ℕ))) (text : Option (List (List ℕ))) (line : List ℕ) → HasTaken piece piece texts text line texts text line
HasTaken-none piece texts text line = record { front = []; piece_is = refl; kept = λ bytes kept. rw append-nil kept }

pub HasTaken-line : (piece rest front more : List ℕ) (texts : List (List (List ℕ))) (text : Option (List (List ℕ))) (line : List ℕ) (texts' : List (List (List ℕ))) (text' : Option (List (List ℕ))) (line' : List ℕ)
    → IsLine front → rest ≡ front ++ 10 ∷ more → HasTaken piece rest texts text line texts' text' line'
    → HasTaken piece more texts text line (texts_with texts' text' (strip_carriage_return (line' ++ front))) (text_with text' (strip_carriage_return (line' ++ front))) []
HasTaken-line piece rest front more texts text line texts' text' line' is cut taken = record {
  front = taken.front ++ (front ++ 10 ∷ []);
  piece_is = taken.piece_is ∙ ap (λ r. taken.front ++ r) (cut ∙ sym (append_assoc front (10 ∷ []) more)) ∙ sym (append_assoc taken.front (front ++ 10 ∷ []) more);
  kept = λ bytes kept. rw (← append_assoc bytes taken.front (front ++ 10 ∷ [])) (kept-line (bytes ++ taken.front) front texts' text' line' is (taken.kept bytes kept));
}

pub HasTaken-all : (piece rest : List ℕ) (texts : List (List (List ℕ))) (text : Option (List (List ℕ))) (line : List ℕ) (texts' : List (List (List ℕ))) (text' : Option (List (List ℕ))) (line' : List ℕ)
    → IsLine rest → HasTaken piece rest texts text line texts' text' line' → (bytes : List ℕ) → IsKept bytes texts text line → IsKept (bytes ++ piece) texts' text' (line' ++ rest)
HasTaken-all piece rest texts text line texts' text' line' is taken bytes kept =
    rw (taken.piece_is, ← append_assoc bytes taken.front rest) (kept-rest (bytes ++ taken.front) rest texts' text' line' is (taken.kept bytes kept))

-- a search for a line feed cuts bytes there
pub cut_at : (bytes : List ℕ) (end : ℕ) → IsFirstByte (is_byte 10) bytes (Some end) → bytes ≡ take end bytes ++ 10 ∷ drop (end + 1) bytes
cut_at bytes end found =
    let f = first_line_feed bytes end found in
    let here : get_or bytes end 0 ≡ 10 = eqb-true (get_or bytes end 0) 10 f.2 in
    sym (take-append-drop end bytes) ∙ ap (λ rest. take end bytes ++ rest) (drop_more bytes end 0 f.0 ∙ ap (λ b. b ∷ drop (end + 1) bytes) here)

pub IsLine-append : (line rest : List ℕ) → IsLine line → IsLine rest → IsLine (line ++ rest)
IsLine-append line rest is is_rest = All-append (λ b. b ≢ 10) line rest is is_rest

pub agree-done : (bytes others : List ℕ) (i : ℕ) → min (length bytes) (length others) ≤ i → agree (drop i bytes) (drop i others) ≡ true
agree-done [] others i done = ap (λ bs. agree bs (drop i others)) (drop_all i [] (omega arith))
agree-done (b ∷ bytes) [] i done = ap (agree (drop i (b ∷ bytes))) (drop_all i [] (omega arith)) ∙ agree-nil (drop i (b ∷ bytes))
agree-done (b ∷ bytes) (c ∷ others) zero done = absurd (omega arith)
agree-done (b ∷ bytes) (c ∷ others) (suc i) done = agree-done bytes others i (omega arith)

-- ---- a file that does not start with `From `

-- the first part is a front
record Front (bytes : List ℕ) : Type 0 where
  part : List ℕ
  parts : List (List ℕ)
  rest : List ℕ
  parts_are : parts_of bytes ≡ part ∷ parts
  bytes_are : bytes ≡ part ++ rest
  whole : parts ≡ [] → rest ≡ []

front_of : (bytes : List ℕ) → Front bytes
front_of [] = record { part = []; parts = []; rest = []; parts_are = refl; bytes_are = refl; whole = λ _. refl }
front_of (b ∷ bytes) = elim (cases_Bool (b == 10)) [
  | inl passes ↦ record { part = []; parts = parts_of bytes; rest = b ∷ bytes; parts_are = slice_split-cons_yes (λ c. c == 10) b bytes passes; bytes_are = refl; whole = λ none. absurd (let some = some_parts (λ c. c == 10) bytes in omega (arith, some, ap length none)) }
  | inr fails ↦
      let front = front_of bytes in
      record { part = b ∷ front.part; parts = front.parts; rest = front.rest; parts_are = slice_split-cons_no (λ c. c == 10) b bytes fails ∙ ap (onto_first b) front.parts_are; bytes_are = ap (λ bs. b ∷ bs) front.bytes_are; whole = front.whole }
]

-- a line that begins a message, and a front of it that does
begins-front : (line rest : List ℕ) → begins_message line ≡ true → agree (line ++ rest) from ≡ true
begins-front line rest begins =
    let front : from ≡ take 5 line = (bytes_eq-Decides from (take 5 line)).0 begins in
    ap (λ l. agree (l ++ rest) from) (sym (take-append-drop 5 line) ∙ ap (λ l. l ++ drop 5 line) (sym front))
    ∙ ap (λ l. agree l from) (append_assoc from (drop 5 line) rest) ∙ agree-front from (drop 5 line ++ rest)

strip-front : (line : List ℕ) → (rest : List ℕ) × (line ≡ strip_carriage_return line ++ rest)
strip-front line = by (slice_index line (length line - 1) == 13)
  where
    by : (last : Bool) → (rest : List ℕ) × (line ≡ cond last (take (length line - 1) line) line ++ rest)
    by true = (drop (length line - 1) line, sym (take-append-drop (length line - 1) line))
    by false = ([], sym (append-nil line))

agree-messages : (bytes : List ℕ) → are_messages (lines bytes) ≡ true → agree bytes from ≡ true
agree-messages bytes is =
    let front = front_of bytes in
    ap (λ bs. agree bs from) front.bytes_are ∙ by front.part front.parts front.rest (sym (ap (λ ps. are_messages (lines_of_parts ps)) front.parts_are) ∙ is) front.whole
  where
    by : (part : List ℕ) (parts : List (List ℕ)) (rest : List ℕ) → are_messages (lines_of_parts (part ∷ parts)) ≡ true → (parts ≡ [] → rest ≡ []) → agree (part ++ rest) from ≡ true
    by [] [] rest begins none = ap (λ r. agree r from) (none refl)
    by (b ∷ bs) [] rest begins none = begins-front (b ∷ bs) rest (sym (ap are_messages (lines-parts ((b ∷ bs) ∷ []))) ∙ begins)
    by part (next ∷ more) rest begins none =
        let strip = strip-front part in
        ap (λ l. agree (l ++ rest) from) strip.1 ∙ ap (λ l. agree l from) (append_assoc (strip_carriage_return part) strip.0 rest) ∙ begins-front (strip_carriage_return part) (strip.0 ++ rest) begins

pub read_of-disagree : (bytes : List ℕ) → agree bytes from ≡ false → read_of bytes ≡ Err NoFromLine
read_of-disagree bytes is = elim (cases_Bool (are_messages (lines bytes))) [
  | inl begins ↦ let yes_is : true ≡ false = sym (agree-messages bytes begins) ∙ is in absurd cc
  | inr inside ↦ ap (λ b. cond b (Ok (texts_of (lines bytes))) (Err NoFromLine)) inside
]

-- ---- what a reader's fields keep

pub opened_by : (error : Option MboxError) (texts : List (List (List ℕ))) (text : Option (List (List ℕ))) (line : List ℕ) (reader : Kept) (bytes : List ℕ)
    → kept_by error texts text line ≡ reader → error ≡ None → reader ≡ kept_after bytes → (agree bytes from ≡ true) × IsKept bytes texts text line
opened_by error texts text line reader bytes view none is = opened bytes texts text line (sym (ap (λ e. kept_by e texts text line) none) ∙ view ∙ is)

pub failed_by : (error : Option MboxError) (texts : List (List (List ℕ))) (text : Option (List (List ℕ))) (line : List ℕ) (reader : Kept) (bytes : List ℕ) (e : MboxError)
    → kept_by error texts text line ≡ reader → error ≡ Some e → reader ≡ kept_after bytes → Failed e ≡ kept_after bytes
failed_by error texts text line reader bytes e view some is = sym (ap (λ e. kept_by e texts text line) some) ∙ view ∙ is

pub not_memory : {T : Type 0} (r : Result T MboxError) → IsErr r × IsErrAnd r (λ e. e ≡ Memory) → IsErrOf r NoFromLine → ⊥
not_memory (Ok x) is e = absurd cc
not_memory (Err error) is e = let same : error ≡ Memory = is.1 in cc

pub not_failed : (bytes : List ℕ) (error : MboxError) → agree bytes from ≡ true → kept_after bytes ≡ Failed error → ⊥
not_failed bytes error is wrong =
    let e : kept_of (messages_of (ended_lines bytes)) (open_part (parts_of bytes)) ≡ Failed error = sym (ap (kept_if bytes) is) ∙ wrong in cc

-- what the test of a piece says
pub tested : (bytes piece line' : List ℕ) (texts : List (List (List ℕ))) (text : Option (List (List ℕ))) (line : List ℕ) (has_text answer : Bool)
    → agree bytes from ≡ true → IsKept bytes texts text line → has_text ≡ is_some text → line' ≡ line → answer ≡ goes_on has_text line' piece → agree (bytes ++ piece) from ≡ answer
tested bytes piece line' texts text line has_text answer is kept has same e =
    sym (goes_on-is bytes piece texts text line is kept) ∙ (λ i. goes_on (sym has i) (sym same i) piece) ∙ sym e

-- ---- a whole file

line-alone : (bytes rest : List ℕ) → from ≡ bytes ++ rest → are_messages (lines bytes) ≡ are_messages (last_line bytes)
line-alone bytes rest e = ap (λ ps. are_messages (lines_of_parts ps)) (one_part bytes rest e) ∙ ap are_messages (lines-parts (bytes ∷ []))

-- a file begins with a line that begins a message exactly if its bytes do
pub messages-begun : (bytes : List ℕ) → is_begun None bytes ≡ true → are_messages (lines bytes) ≡ true
messages-begun [] is = refl
messages-begun (b ∷ bs) is =
    let agrees : agree (b ∷ bs) from ≡ true = ap (λ l. agree l from) (sym (append-nil (b ∷ bs))) ∙ begins-front (b ∷ bs) [] is in
    elim (agree-cases (b ∷ bs) from agrees) [
      | inl longer ↦ ap (λ l. are_messages (lines l)) longer.1 ∙ by (parts_of longer.0)
      | inr shorter ↦ line-alone (b ∷ bs) shorter.0 shorter.1 ∙ is
    ]
  where
    by : (parts : List (List ℕ)) → are_messages (lines_of_parts (behind_from parts)) ≡ true
    by [] = refl
    by (part ∷ []) = ap are_messages (lines-parts ((70 ∷ 114 ∷ 111 ∷ 109 ∷ 32 ∷ part) ∷ []))
    by (part ∷ next ∷ more) = begins_message-strip (70 ∷ 114 ∷ 111 ∷ 109 ∷ 32 ∷ part) refl

pub read_of-whole : (bytes : List ℕ) → is_begun None bytes ≡ true → read_of bytes ≡ Err NoFromLine → ⊥
read_of-whole bytes is wrong =
    let e : Ok (texts_of (lines bytes)) ≡ Err NoFromLine = sym (ap (λ b. cond b (Ok (texts_of (lines bytes))) (Err NoFromLine)) (messages-begun bytes is)) ∙ wrong in cc

pub read_of-none : (bytes : List ℕ) → is_begun None bytes ≡ false → read_of bytes ≡ Err NoFromLine
read_of-none [] is = absurd (cc)
read_of-none (b ∷ bs) is = elim (cases_Bool (are_messages (lines (b ∷ bs)))) [
  | inr inside ↦ ap (λ b'. cond b' (Ok (texts_of (lines (b ∷ bs)))) (Err NoFromLine)) inside
  | inl begins ↦ elim (agree-cases (b ∷ bs) from (agree-messages (b ∷ bs) begins)) [
    | inl longer ↦ let both : true ≡ false = sym (ap begins_message longer.1) ∙ is in absurd (cc)
    | inr shorter ↦ let both : true ≡ false = sym begins ∙ line-alone (b ∷ bs) shorter.0 shorter.1 ∙ is in absurd (cc)
  ]
]

pub failed_reads_none : (bytes : List ℕ) (error : MboxError) → kept_after bytes ≡ Failed error → read_of bytes ≡ Err NoFromLine
failed_reads_none bytes error is = read_of-disagree bytes ((failed bytes error (sym is)).0)

pub never_begins : (bytes more : List ℕ) → agree bytes from ≡ false → kept_after (bytes ++ more) ≡ Failed NoFromLine
never_begins bytes more is = kept_after-refused (bytes ++ more) (agree-false bytes more from is)
