-- What is written is read back.
use Rattle.std.proofs.Common.{◌≡◌, ◌≢◌, ℕ, ◌+◌, ◌-◌, ◌≤◌, ◌==◌, Bool, true, false, not, IsTrue, cond, slice_index, List, [], ◌∷◌, ◌++◌, length, min, take, get_or, map, drop, codes, Ok, Err, refl, sym, ap, ◌∙◌, arith, append_assoc, append-nil, ⊎_elim}
use Rattle.std.specs.List.{All, list_all, slice_split, flat_map}
use Rattle.std.specs.Str.Lines.{lines, strip_carriage_return}
use Rattle.std.proofs.lemmas.Bool.{eqb-true, cases_eq, and_parts}
use Rattle.std.specs.Str.{bytes_eq}
use Rattle.std.proofs.lemmas.Slice.Eq.{bytes_eq-Decides}
use Rattle.std.proofs.lemmas.List.{take_all, take_more, take-take, length-take, get_or-take}
use Rattle.std.proofs.lemmas.List.Elements.{All-nil, All-cons, All-head, All-tail, All-push}
use Rattle.std.proofs.lemmas.List.Sums.{AllPass-from_list_all}
use Rattle.std.proofs.lemmas.List.Splits.{slice_split_at, slice_split_none, slice_split-cons_yes}
use Rattle.maildrop.specs.Text.{IsLine}
use Rattle.mboxrd.specs.Mailbox.{begins_message, is_from_line, is_quotable, quoted, unquoted, text_of, texts_of, are_messages, read_of, file_of, message_of, written_of, EndsInNoReturn}
use Rattle.mboxrd.specs.declared.error.MboxError.TheVariants.{NoFromLine}
use Rattle.maildrop.proofs.TextLemmas.{tests-from_IsLine}
use Rattle.maildrop.proofs.FileLemmas.{lines-more, IsLine-from_tests}
use Rattle.mboxrd.proofs.ReadingLemmas.{without_last_empty-push_empty}

-- what a line that begins a message starts with
abbrev from_bytes : List ℕ
from_bytes = codes "From "

-- ---- quoting

-- a line that is not quoted is read as it is
unquoted-unquotable : (line : List ℕ) → is_quotable line ≡ false → unquoted line ≡ line
unquoted-unquotable [] plain = refl
unquoted-unquotable (b ∷ bs) plain =
    elim (b == 62) as (λ quote. cond quote (is_quotable bs) (begins_message (b ∷ bs)) ≡ false → cond quote (cond (is_quotable bs) bs (b ∷ bs)) (b ∷ bs) ≡ b ∷ bs) [
      | true ↦ λ plain. rw plain refl
      | false ↦ λ plain. refl
    ] plain

-- `unquoted-quoted`, by whether the line is quoted
unquoted-by_cases : (line : List ℕ) (quotable : Bool) → quotable ≡ is_quotable line → unquoted (cond quotable (62 ∷ line) line) ≡ line
unquoted-by_cases line true is = rw (← is) refl
unquoted-by_cases line false is = unquoted-unquotable line (sym is)

-- a line is read as it was before it was quoted
pub unquoted-quoted : (line : List ℕ) → unquoted (quoted line) ≡ line
unquoted-quoted line = unquoted-by_cases line (is_quotable line) refl

-- a line that is not quoted begins no message
begins_message-unquotable : (line : List ℕ) → is_quotable line ≡ false → begins_message line ≡ false
begins_message-unquotable [] plain = refl
begins_message-unquotable (b ∷ bs) plain = first_byte (b == 62) refl plain
  where
    first_byte : (quote : Bool) → quote ≡ (b == 62) → cond quote (is_quotable bs) (begins_message (b ∷ bs)) ≡ false → begins_message (b ∷ bs) ≡ false
    first_byte true is plain = rw (eqb-true b 62 (sym is)) refl
    first_byte false is plain = plain

-- `begins_message-quoted`, by whether the line is quoted
begins_message-by_cases : (line : List ℕ) (quotable : Bool) → quotable ≡ is_quotable line → begins_message (cond quotable (62 ∷ line) line) ≡ false
begins_message-by_cases line true is = refl
begins_message-by_cases line false is = begins_message-unquotable line (sym is)

-- no quoted line begins a message
pub begins_message-quoted : (line : List ℕ) → begins_message (quoted line) ≡ false
begins_message-quoted line = begins_message-by_cases line (is_quotable line) refl

-- a text is read as it was before it was quoted
map-unquoted-quoted : (text : List (List ℕ)) → map unquoted (map quoted text) ≡ text
map-unquoted-quoted [] = refl
map-unquoted-quoted (line ∷ text) =
    ap (λ first. first ∷ map unquoted (map quoted text)) (unquoted-quoted line) ∙ ap (λ rest. line ∷ rest) (map-unquoted-quoted text)

-- the lines of a message after its first
abbrev body_of : List (List ℕ) → List (List ℕ)
body_of text = map quoted text ++ [] ∷ []

-- they give the text back
text_of-body_of : (text : List (List ℕ)) → text_of (body_of text) ≡ text
text_of-body_of text = ap (λ lines. map unquoted lines) (without_last_empty-push_empty (map quoted text)) ∙ map-unquoted-quoted text

-- no line of a quoted text begins a message
quoted-is_message : (text : List (List ℕ)) → All (λ line. begins_message line ≡ false) (map quoted text)
quoted-is_message [] = All-nil (λ line. begins_message line ≡ false)
quoted-is_message (line ∷ text) = All-cons (λ line. begins_message line ≡ false) (quoted line) (map quoted text) (begins_message-quoted line) (quoted-is_message text)

-- nor does the empty line after it
body_of-is_message : (text : List (List ℕ)) → All (λ line. begins_message line ≡ false) (body_of text)
body_of-is_message text = All-push (λ line. begins_message line ≡ false) (map quoted text) [] (quoted-is_message text) refl

-- messages are cut where they were put together
split-messages : (from : List ℕ) (text : List (List ℕ)) (texts : List (List (List ℕ))) → begins_message from ≡ true → slice_split begins_message (body_of text ++ flat_map (message_of from) texts) ≡ body_of text ∷ map body_of texts
split-messages from text [] begins =
    ap (slice_split begins_message) (append-nil (body_of text)) ∙ slice_split_none begins_message (body_of text) (body_of-is_message text)
split-messages from text (next ∷ texts) begins =
    slice_split_at begins_message (body_of text) from (body_of next ++ flat_map (message_of from) texts) (body_of-is_message text) begins
    ∙ ap (λ parts. body_of text ∷ parts) (split-messages from next texts begins)

-- the messages give the texts back
map-text_of-body_of : (texts : List (List (List ℕ))) → map text_of (map body_of texts) ≡ texts
map-text_of-body_of [] = refl
map-text_of-body_of (text ∷ texts) =
    ap (λ first. first ∷ map text_of (map body_of texts)) (text_of-body_of text) ∙ ap (λ rest. text ∷ rest) (map-text_of-body_of texts)

-- ---- the lines of what is written

-- `strip-none`, by whether a carriage return is the last byte
strip-by_cases : (line : List ℕ) → EndsInNoReturn line → (return_last : Bool) → return_last ≡ (slice_index line (length line - 1) == 13) → cond return_last (take (length line - 1) line) line ≡ line
strip-by_cases [] none true is = absurd cc
strip-by_cases (b ∷ bs) none true is =
    let line = b ∷ bs in
    let last : get_or line (length line - 1) 0 ≡ 13 = eqb-true _ 13 (sym is) in
    let all : take (length line - 1) line ++ 13 ∷ [] ≡ line =
    ap (λ c. take (length line - 1) line ++ c ∷ []) (sym last) ∙ sym (take_more line (length line - 1) 0 (omega arith)) ∙ take_all (length line - 1 + 1) line (omega arith) in
    absurd (none (take (length line - 1) line) (sym all))
strip-by_cases line none false is = refl

-- a line that no carriage return ends is kept whole
strip-none : (line : List ℕ) → EndsInNoReturn line → strip_carriage_return line ≡ line
strip-none line none = strip-by_cases line none (slice_index line (length line - 1) == 13) refl

-- a line with its line feed, and more after it
lines-line : (line bytes : List ℕ) → IsLine line → lines ((line ++ 10 ∷ []) ++ bytes) ≡ strip_carriage_return line ∷ lines bytes
lines-line line bytes is = ap lines (append_assoc line (10 ∷ []) bytes) ∙ lines-more line bytes (tests-from_IsLine line is)

-- the lines of a file of lines
lines-file_of : (all : List (List ℕ)) (bytes : List ℕ) → All IsLine all → All EndsInNoReturn all → lines (file_of all ++ bytes) ≡ all ++ lines bytes
lines-file_of [] bytes is none = refl
lines-file_of (line ∷ all) bytes is none =
    ap lines (append_assoc (line ++ 10 ∷ []) (file_of all) bytes)
    ∙ lines-line line (file_of all ++ bytes) (All-head IsLine line all is)
    ∙ ap (λ first. first ∷ lines (file_of all ++ bytes)) (strip-none line (All-head EndsInNoReturn line all none))
    ∙ ap (λ rest. line ∷ rest) (lines-file_of all bytes (All-tail IsLine line all is) (All-tail EndsInNoReturn line all none))

-- ---- quoted lines are lines

-- a quoted line is a line
IsLine-quote : (line : List ℕ) (quotable : Bool) → IsLine line → IsLine (cond quotable (62 ∷ line) line)
IsLine-quote line true is = All-cons (λ b. b ≢ 10) 62 line (λ e. absurd (omega (arith, e))) is
IsLine-quote line false is = is

-- no carriage return ends a quoted line that ended in none
EndsInNoReturn-quote : (line : List ℕ) (quotable : Bool) → EndsInNoReturn line → EndsInNoReturn (cond quotable (62 ∷ line) line)
EndsInNoReturn-quote line true none [] e = absurd cc
EndsInNoReturn-quote line true none (c ∷ front) e = none front (ap (drop 1) e)
EndsInNoReturn-quote line false none front e = none front e

-- none ends the empty line
EndsInNoReturn-empty : EndsInNoReturn []
EndsInNoReturn-empty [] e = cc
EndsInNoReturn-empty (b ∷ front) e = cc

-- the lines of a message are lines
IsLine-body_of : (text : List (List ℕ)) → All IsLine text → All IsLine (body_of text)
IsLine-body_of [] is = All-cons IsLine [] [] (All-nil (λ b. b ≢ 10)) (All-nil IsLine)
IsLine-body_of (line ∷ text) is =
    All-cons IsLine (quoted line) (body_of text) (IsLine-quote line (is_quotable line) (All-head IsLine line text is)) (IsLine-body_of text (All-tail IsLine line text is))

-- and end in no carriage return
EndsInNoReturn-body_of : (text : List (List ℕ)) → All EndsInNoReturn text → All EndsInNoReturn (body_of text)
EndsInNoReturn-body_of [] none = All-cons EndsInNoReturn [] [] EndsInNoReturn-empty (All-nil EndsInNoReturn)
EndsInNoReturn-body_of (line ∷ text) none =
    All-cons EndsInNoReturn (quoted line) (body_of text) (EndsInNoReturn-quote line (is_quotable line) (All-head EndsInNoReturn line text none)) (EndsInNoReturn-body_of text (All-tail EndsInNoReturn line text none))

-- the lines of a written mailbox; a carriage return that ends its `From ` line is dropped
lines-written_of : (from : List ℕ) (texts : List (List (List ℕ))) → IsLine from → All (All IsLine) texts → All (All EndsInNoReturn) texts → lines (written_of from texts) ≡ flat_map (message_of (strip_carriage_return from)) texts
lines-written_of from [] line is none = refl
lines-written_of from (text ∷ texts) line is none =
    let bytes = written_of from texts in
    let body = file_of (body_of text) in
    ap lines (append_assoc (from ++ 10 ∷ []) body bytes)
    ∙ lines-line from (body ++ bytes) line
    ∙ ap (λ rest. strip_carriage_return from ∷ rest)
    (lines-file_of (body_of text) bytes (IsLine-body_of text (All-head (All IsLine) text texts is)) (EndsInNoReturn-body_of text (All-head (All EndsInNoReturn) text texts none))
    ∙ ap (λ rest. body_of text ++ rest) (lines-written_of from texts line (All-tail (All IsLine) text texts is) (All-tail (All EndsInNoReturn) text texts none)))

-- ---- the `From ` line

-- `From ` ends in a space, so a carriage return that ends the line stands after it
longer : (from : List ℕ) → begins_message from ≡ true → slice_index from (length from - 1) ≡ 13 → 5 ≤ length from - 1
longer from begins last =
    let front : from_bytes ≡ take 5 from = (bytes_eq-Decides from_bytes (take 5 from)).0 begins in
    let length_is : min 5 (length from) ≡ 5 = sym (length-take 5 from) ∙ ap length (sym front) in
    let fifth : get_or from 4 0 ≡ 32 = sym (get_or-take 5 from 4 0 (omega arith)) ∙ ap (λ bs. get_or bs 4 0) (sym front) in
    ⊎_elim
    (λ (is_fifth : length from - 1 ≡ 4). absurd (let same : get_or from 4 0 ≡ 13 = rw is_fifth at last in omega (arith, same, fifth)))
    (λ other. omega (arith, other, length_is))
    (cases_eq (length from - 1) 4)

-- `begins_message-strip`, by whether a carriage return is the last byte
begins_message-by_last : (from : List ℕ) → begins_message from ≡ true → (return_last : Bool) → return_last ≡ (slice_index from (length from - 1) == 13) → begins_message (cond return_last (take (length from - 1) from) from) ≡ true
begins_message-by_last from begins true is =
    ap (λ front. bytes_eq from_bytes front) (take-take 5 (length from - 1) from (longer from begins (eqb-true _ 13 (sym is)))) ∙ begins
begins_message-by_last from begins false is = begins

-- a line that begins a message does so without its carriage return
pub begins_message-strip : (from : List ℕ) → begins_message from ≡ true → begins_message (strip_carriage_return from) ≡ true
begins_message-strip from begins = begins_message-by_last from begins (slice_index from (length from - 1) == 13) refl

-- what is written is read back, if no line of the texts ends in a carriage return
pub read_of-written_of : (from : List ℕ) (texts : List (List (List ℕ))) → begins_message from ≡ true → IsLine from → All (All IsLine) texts → All (All EndsInNoReturn) texts → read_of (written_of from texts) ≡ Ok texts
read_of-written_of from [] begins line is none = refl
read_of-written_of from (text ∷ texts) begins line is none =
    let first = strip_carriage_return from in
    let first_begins = begins_message-strip from begins in
    let rest = body_of text ++ flat_map (message_of first) texts in
    let cut : texts_of (first ∷ rest) ≡ text ∷ texts =
    ap (λ parts. map text_of (drop 1 parts)) (slice_split-cons_yes begins_message first rest first_begins ∙ ap (λ parts. [] ∷ parts) (split-messages first text texts first_begins))
    ∙ map-text_of-body_of (text ∷ texts) in
    ap (λ lines. cond (are_messages lines) (Ok (texts_of lines)) (Err NoFromLine)) (lines-written_of from (text ∷ texts) line is none)
    ∙ ap (λ begins. cond begins (Ok (texts_of (first ∷ rest))) (Err NoFromLine)) first_begins
    ∙ ap (λ texts. Ok texts) cut

-- a test whose opposite passes fails
pub opposite : (b : Bool) → not b ≡ true → b ≡ false
opposite true is = sym is
opposite false is = refl

-- the same for a `From ` line by its test
pub read_of-written_of_tested : (from : List ℕ) (texts : List (List (List ℕ))) → IsTrue (is_from_line from) → All (All IsLine) texts → All (All EndsInNoReturn) texts → read_of (written_of from texts) ≡ Ok texts
read_of-written_of_tested from texts is_from =
    let parts = and_parts (begins_message from) (list_all (λ b. not (b == 10)) from) is_from in
    let line = IsLine-from_tests from (λ k d inside. opposite (get_or from k d == 10) (AllPass-from_list_all (λ b. not (b == 10)) from parts.1 k d inside)) in
    read_of-written_of from texts parts.0 line
