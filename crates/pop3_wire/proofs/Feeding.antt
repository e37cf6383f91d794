-- What a reader keeps, and the lines of the stream.
use Rattle.std.proofs.Common.{◌≡◌, ◌<◌, ◌≤◌, ◌+◌, ℕ, zero, suc, true, false, ◌==◌, List, [], ◌∷◌, ◌++◌, length, take, drop, get_or, min, ap, refl, sym, arith, ◌∙◌, inl, inr, append_assoc, append-nil, length-append, None, fold, length-take}
use Rattle.std.proofs.lemmas.List.{take_all, take_min, length-take-le, get_or-take, drop_more, take-append-drop}
use Rattle.std.proofs.lemmas.List.Folds.{list_any-append}
use Rattle.std.proofs.lemmas.Bool.{cases_Bool, or_parts, or_from}
use Rattle.std.proofs.Math.Seq.{take-append-add, take-append_seam}
use Rattle.std.proofs.Math.Bool.{or-true}
use Rattle.std.specs.List.{slice_split, onto_first, list_any, before_first, position_or_len}
use Rattle.std.specs.Io.BufRead.{take_through}
use Rattle.memchr.specs.Find.{NoneBefore, Nowhere, Passes, is_byte}
use Rattle.std.specs.Option.{option_to_list}
use Rattle.pop3_wire.specs.declared.line.Line.{Line}
use Rattle.pop3_wire.specs.Lines.{is_lf, line_of, lines_of}
use Rattle.pop3_wire.specs.Reader.{Kept, Open, Finished, Call, Feed, NextLine, Run, kept_of, kept_after, taken, fed, waiting, taken_out, lines_after, after_call, run_of, CutsLines}
use Rattle.pop3_wire.proofs.Cutting.{split_parts}
use Rattle.pop3_wire.proofs.Streams.{split_none, split_ended, lines_of-none, lines_of-ended, first_lf, is_ten, take_again, line_of-take}

take_through-none : (xs : List ℕ) → list_any is_lf xs ≡ false → take_through 10 xs ≡ xs
take_through-none [] none = refl
take_through-none (x ∷ xs) none =
    let parts = or_parts (x == 10) (list_any is_lf xs) none in
    rw (parts.0, take_through-none xs parts.1) refl

take_through-ended : (xs ys : List ℕ) → list_any is_lf xs ≡ false → take_through 10 (xs ++ 10 ∷ ys) ≡ xs ++ 10 ∷ []
take_through-ended [] ys none = refl
take_through-ended (x ∷ xs) ys none =
    let parts = or_parts (x == 10) (list_any is_lf xs) none in
    rw (parts.0, take_through-ended xs ys parts.1) refl

position-ended : (xs ys : List ℕ) → list_any is_lf xs ≡ false → position_or_len is_lf (xs ++ 10 ∷ ys) ≡ length xs
position-ended [] ys none = refl
position-ended (x ∷ xs) ys none =
    let parts = or_parts (x == 10) (list_any is_lf xs) none in
    rw (parts.0, position-ended xs ys parts.1) (omega arith)

before_first-ended : (xs ys : List ℕ) → list_any is_lf xs ≡ false → before_first is_lf (xs ++ 10 ∷ ys) ≡ xs
before_first-ended xs ys none = rw (position-ended xs ys none) (take-append_seam xs (10 ∷ ys))

any-ended : (xs ys : List ℕ) → list_any is_lf (xs ++ 10 ∷ ys) ≡ true
any-ended [] ys = refl
any-ended (x ∷ xs) ys = rw (any-ended xs ys) (or-true (x == 10))

-- a piece without an LF is taken whole
pub taken-none : (bytes piece : List ℕ) → list_any is_lf piece ≡ false → length piece ≡ taken (Open bytes) piece
taken-none bytes piece none = rw (take_through-none piece none) refl

pub fed-none : (bytes piece : List ℕ) → list_any is_lf piece ≡ false → Open (take 512 (bytes ++ piece)) ≡ fed (Open bytes) piece
fed-none bytes piece none = rw none refl

-- a piece with an LF is taken up to it
pub taken-ended : (bytes front rest : List ℕ) → list_any is_lf front ≡ false → length front + 1 ≡ taken (Open bytes) (front ++ 10 ∷ rest)
taken-ended bytes front rest none = rw (take_through-ended front rest none, length-append) refl

pub fed-ended : (bytes front rest : List ℕ) → list_any is_lf front ≡ false → Finished (line_of (bytes ++ front)) ≡ fed (Open bytes) (front ++ 10 ∷ rest)
fed-ended bytes front rest none = rw (any-ended front rest, before_first-ended front rest none) refl

take-ended : (front rest : List ℕ) → take (length front + 1) (front ++ 10 ∷ rest) ≡ front ++ 10 ∷ []
take-ended front rest = take-append-add front (10 ∷ rest) 1

-- what is kept of an open line has no LF
abbrev pub IsKept : Kept → Type 0
IsKept (Open bytes) = list_any is_lf bytes ≡ false
IsKept (Finished line) = Unit {0}

list_any-take : (n : ℕ) (xs : List ℕ) → list_any is_lf xs ≡ false → list_any is_lf (take n xs) ≡ false
list_any-take zero xs none = refl
list_any-take (suc n) [] none = refl
list_any-take (suc n) (x ∷ xs) none =
    let parts = or_parts (x == 10) (list_any is_lf xs) none in
    or_from (x == 10) (list_any is_lf (take n xs)) parts.0 (list_any-take n xs parts.1)

-- two runs of bytes without an LF have none together
pub both_none : (xs ys : List ℕ) → list_any is_lf xs ≡ false → list_any is_lf ys ≡ false → list_any is_lf (xs ++ ys) ≡ false
both_none xs ys none others = rw list_any-append (or_from (list_any is_lf xs) (list_any is_lf ys) none others)

-- nor have their first bytes
pub first_none : (xs ys : List ℕ) → list_any is_lf xs ≡ false → list_any is_lf ys ≡ false → list_any is_lf (take 512 (xs ++ ys)) ≡ false
first_none xs ys none others = list_any-take 512 (xs ++ ys) (both_none xs ys none others)

lines_of-last : (bytes front rest : List ℕ) → list_any is_lf bytes ≡ false → list_any is_lf front ≡ false → lines_of (bytes ++ (front ++ 10 ∷ rest)) ≡ line_of (bytes ++ front) ∷ lines_of rest
lines_of-last bytes front rest none others =
    rw (← append_assoc bytes front (10 ∷ rest)) (lines_of-ended (bytes ++ front) rest (both_none bytes front none others))

-- of an open line the first 512 bytes tell as much as all of them
lines_of-more : (bytes more : List ℕ) → list_any is_lf bytes ≡ false → lines_of (bytes ++ more) ≡ lines_of (take 512 bytes ++ more)
lines_of-more bytes more none =
    let short = list_any-take 512 bytes none in
    elim (first_lf more) [
      | inl others ↦ lines_of-none (bytes ++ more) (both_none bytes more none others) ∙ sym (lines_of-none (take 512 bytes ++ more) (both_none (take 512 bytes) more short others))
      | inr found ↦ rw (found.3, lines_of-last bytes found.0 found.1 none found.2, lines_of-last (take 512 bytes) found.0 found.1 short found.2, line_of-take bytes found.0) refl
    ]

-- the bytes that a piece gives away are lines as before
pub lines_after-fed : (kept : Kept) (piece more : List ℕ) → IsKept kept → lines_after kept (take (taken kept piece) piece ++ more) ≡ lines_after (fed kept piece) more
lines_after-fed (Finished line) piece more none = refl
lines_after-fed (Open bytes) piece more none = elim (first_lf piece) [
  | inl others ↦
      rw (← taken-none bytes piece others, ← fed-none bytes piece others, take_all (length piece) piece (omega arith), ← append_assoc bytes piece more)
      (lines_of-more (bytes ++ piece) more (both_none bytes piece none others))
  | inr found ↦
      rw (found.3, ← taken-ended bytes found.0 found.1 found.2, ← fed-ended bytes found.0 found.1 found.2, take-ended found.0 found.1, append_assoc found.0 (10 ∷ []) more)
      (lines_of-last bytes found.0 more none found.2)
]

pub lines_from : (kept next : Kept) (piece more : List ℕ) (n : ℕ) → IsKept kept → n ≡ taken kept piece → next ≡ fed kept piece → lines_after kept (take n piece ++ more) ≡ lines_after next more
lines_from kept next piece more n is count after = rw (count, after) (lines_after-fed kept piece more is)

-- parts, if the last goes on in the first of others
abbrev join : List (List ℕ) → List (List ℕ) → List (List ℕ)
join [] others = others
join (part ∷ []) [] = part ∷ []
join (part ∷ []) (other ∷ others) = (part ++ other) ∷ others
join (part ∷ next ∷ parts) others = part ∷ join (next ∷ parts) others

onto_first-join : (b : ℕ) (part : List ℕ) (parts others : List (List ℕ)) → onto_first b (join (part ∷ parts) others) ≡ join (onto_first b (part ∷ parts)) others
onto_first-join b part [] [] = refl
onto_first-join b part [] (other ∷ others) = refl
onto_first-join b part (next ∷ parts) others = refl

split-append : (bytes more : List ℕ) → slice_split is_lf (bytes ++ more) ≡ join (slice_split is_lf bytes) (slice_split is_lf more)
split-append [] more = let parts = split_parts 10 more in rw parts.2 refl
split-append (b ∷ bytes) more =
    let parts = split_parts 10 bytes in
    elim (cases_Bool (b == 10)) [
      | inl lf ↦ rw (lf, split-append bytes more, parts.2) refl
      | inr other ↦ rw (other, split-append bytes more, parts.2) (onto_first-join b parts.0 parts.1 (slice_split is_lf more))
    ]

-- an open line goes on
kept_of-open : (parts : List (List ℕ)) (bytes piece : List ℕ) → kept_of parts ≡ Open bytes → kept_of (join parts (piece ∷ [])) ≡ Open (take 512 (bytes ++ piece))
kept_of-open [] bytes piece is = let same : [] ≡ bytes = cc in rw (← same) refl
kept_of-open (part ∷ []) bytes piece is = let same : take 512 part ≡ bytes = cc in rw (← same, take_again 512 part piece) refl
kept_of-open (part ∷ [] ∷ []) bytes piece is = cc
kept_of-open (part ∷ (b ∷ next) ∷ []) bytes piece is = kept_of-open ((b ∷ next) ∷ []) bytes piece is
kept_of-open (part ∷ [] ∷ third ∷ []) bytes piece is = kept_of-open ([] ∷ third ∷ []) bytes piece is
kept_of-open (part ∷ [] ∷ third ∷ fourth ∷ parts) bytes piece is = kept_of-open ([] ∷ third ∷ fourth ∷ parts) bytes piece is
kept_of-open (part ∷ (b ∷ next) ∷ third ∷ parts) bytes piece is = kept_of-open ((b ∷ next) ∷ third ∷ parts) bytes piece is

-- an open line ends
kept_of-ended : (parts : List (List ℕ)) (bytes front : List ℕ) → kept_of parts ≡ Open bytes → kept_of (join parts (front ∷ [] ∷ [])) ≡ Finished (line_of (bytes ++ front))
kept_of-ended [] bytes front is = let same : [] ≡ bytes = cc in rw (← same) refl
kept_of-ended (part ∷ []) bytes front is = let same : take 512 part ≡ bytes = cc in rw (← same, line_of-take part front) refl
kept_of-ended (part ∷ [] ∷ []) bytes front is = cc
kept_of-ended (part ∷ (b ∷ next) ∷ []) bytes front is = kept_of-ended ((b ∷ next) ∷ []) bytes front is
kept_of-ended (part ∷ [] ∷ third ∷ []) bytes front is = kept_of-ended ([] ∷ third ∷ []) bytes front is
kept_of-ended (part ∷ [] ∷ third ∷ fourth ∷ parts) bytes front is = kept_of-ended ([] ∷ third ∷ fourth ∷ parts) bytes front is
kept_of-ended (part ∷ (b ∷ next) ∷ third ∷ parts) bytes front is = kept_of-ended ((b ∷ next) ∷ third ∷ parts) bytes front is

-- what is kept is what the definition of lines leaves, also after a piece
pub kept_after-fed : (kept : Kept) (piece bytes : List ℕ) → kept ≡ kept_after bytes → fed kept piece ≡ kept_after (bytes ++ take (taken kept piece) piece)
kept_after-fed (Finished line) piece bytes after = rw (append-nil bytes) after
kept_after-fed (Open held) piece bytes after = elim (first_lf piece) [
  | inl others ↦
      rw (← taken-none held piece others, ← fed-none held piece others, take_all (length piece) piece (omega arith), split-append bytes piece, split_none piece others)
      (sym (kept_of-open (slice_split is_lf bytes) held piece (sym after)))
  | inr found ↦
      rw (found.3, ← taken-ended held found.0 found.1 found.2, ← fed-ended held found.0 found.1 found.2, take-ended found.0 found.1, split-append bytes (found.0 ++ 10 ∷ []), split_ended found.0 [] found.2)
      (sym (kept_of-ended (slice_split is_lf bytes) held found.0 (sym after)))
]

pub kept_from : (kept next : Kept) (piece bytes : List ℕ) (n : ℕ) → n ≡ taken kept piece → next ≡ fed kept piece → kept ≡ kept_after bytes → next ≡ kept_after (bytes ++ take n piece)
kept_from kept next piece bytes n count after is = rw (count, after) (kept_after-fed kept piece bytes is)

nowhere-none : (xs : List ℕ) → ((i : ℕ) → i < length xs → (get_or xs i 0 == 10) ≡ true → ⊥) → list_any is_lf xs ≡ false
nowhere-none [] none = refl
nowhere-none (x ∷ xs) none =
    let first : (x == 10) ≡ true → ⊥ = none 0 (omega arith) in
    let no : (x == 10) ≡ false = grind arith in
    or_from (x == 10) (list_any is_lf xs) no (nowhere-none xs (λ i h. none (suc i) (omega arith)))

-- a search that finds no LF
pub no_lf : (piece : List ℕ) → Nowhere (Passes (is_byte 10) piece) 0 (length piece) → list_any is_lf piece ≡ false
no_lf piece none = nowhere-none piece (λ i below. none i (omega arith) below)

-- a search that finds the first LF: none stands before it, and the piece goes on after it
pub lf_at : (piece : List ℕ) (k : ℕ) → NoneBefore (Passes (is_byte 10) piece) 0 (length piece) k → Passes (is_byte 10) piece k → (list_any is_lf (take k piece) ≡ false) × (piece ≡ take k piece ++ 10 ∷ drop (k + 1) piece)
lf_at piece k first here = (
  nowhere-none (take k piece) (λ i below lf.
      let within : i < k = omega (arith, length-take {A = ℕ}) in
      first.before i (omega arith) within (rw (get_or-take k piece i 0 within) at lf)),
  sym (take-append-drop k piece) ∙ ap (λ zs. take k piece ++ zs) (drop_more piece k 0 first.high ∙ ap (λ b. b ∷ drop (k + 1) piece) (is_ten (get_or piece k 0) here)),
)

-- a piece whose first LF a search found is taken up to it
pub taken-at : (bytes piece : List ℕ) (k : ℕ) → NoneBefore (Passes (is_byte 10) piece) 0 (length piece) k → Passes (is_byte 10) piece k → k + 1 ≡ taken (Open bytes) piece
taken-at bytes piece k first here =
    let cut = lf_at piece k first here in
    let high : k ≤ length piece = omega (arith, first.high) in
    ap (λ n. n + 1) (sym (length-take-le k piece high)) ∙ taken-ended bytes (take k piece) (drop (k + 1) piece) cut.0 ∙ ap (λ xs. taken (Open bytes) xs) (sym cut.1)

pub fed-at : (bytes piece : List ℕ) (k : ℕ) → NoneBefore (Passes (is_byte 10) piece) 0 (length piece) k → Passes (is_byte 10) piece k → Finished (line_of (take 512 (bytes ++ take k piece))) ≡ fed (Open bytes) piece
fed-at bytes piece k first here =
    let cut = lf_at piece k first here in
    let short : line_of (take 512 (bytes ++ take k piece)) ≡ line_of (bytes ++ take k piece) = rw (append-nil (take 512 (bytes ++ take k piece)), append-nil (bytes ++ take k piece)) at (line_of-take (bytes ++ take k piece) []) in
    ap (λ line. Finished line) short ∙ fed-ended bytes (take k piece) (drop (k + 1) piece) cut.0 ∙ ap (λ xs. fed (Open bytes) xs) (sym cut.1)

-- what there is room for
pub take_room : (n : ℕ) (xs ys : List ℕ) (room k : ℕ) → room + length xs ≡ n → k ≡ min room (length ys) → xs ++ take k ys ≡ take n (xs ++ ys)
take_room n xs ys room k full fits =
    let whole : n ≡ length xs + room = omega arith in
    rw (whole, fits, take-append-add xs ys room, take_min room ys) refl

IsKept-fed : (kept : Kept) (piece : List ℕ) → IsKept kept → IsKept (fed kept piece)
IsKept-fed (Finished line) piece is = tt
IsKept-fed (Open bytes) piece is = elim (first_lf piece) [
  | inl others ↦ rw (← fed-none bytes piece others) (first_none bytes piece is others)
  | inr found ↦ rw (found.3, ← fed-ended bytes found.0 found.1 found.2) tt
]

-- an open line is no line
pub lines_after-none : (kept : Kept) → IsKept kept → waiting kept ≡ None → lines_after kept [] ≡ []
lines_after-none (Finished line) is none = cc
lines_after-none (Open bytes) is none = lines_of-none (bytes ++ []) (both_none bytes [] is refl)

-- the lines taken out, and those that are to come, are the lines of the stream
IsRun : Run → Type 0
IsRun run = IsKept run.kept × ((more : List ℕ) → run.lines ++ lines_after run.kept more ≡ lines_of (run.bytes ++ more))

IsRun-taken_out : (kept : Kept) (bytes : List ℕ) (lines : List Line) → IsKept kept → ((more : List ℕ) → lines ++ lines_after kept more ≡ lines_of (bytes ++ more)) → IsKept (taken_out kept) × ((more : List ℕ) → lines ++ option_to_list (waiting kept) ++ lines_after (taken_out kept) more ≡ lines_of (bytes ++ more))
IsRun-taken_out (Open held) bytes lines is same = (is, λ more. rw (append-nil lines) (same more))
IsRun-taken_out (Finished line) bytes lines is same = (refl, λ more. append_assoc lines (line ∷ []) (lines_of more) ∙ same more)

IsRun-after_call : (run : Run) (call : Call) → IsRun run → IsRun (after_call run call)
unfolding IsRun
IsRun-after_call run (Feed piece) is = (
  IsKept-fed run.kept piece is.0,
  λ more. ap (λ ls. run.lines ++ ls) (sym (lines_after-fed run.kept piece more is.0)) ∙ is.1 (take (taken run.kept piece) piece ++ more) ∙ ap lines_of (sym (append_assoc run.bytes (take (taken run.kept piece) piece) more)),
)
IsRun-after_call run NextLine is = IsRun-taken_out run.kept run.bytes run.lines is.0 is.1

IsRun-fold : (calls : List Call) (run : Run) → IsRun run → IsRun (fold after_call run calls)
IsRun-fold [] run is = is
IsRun-fold (call ∷ calls) run is = IsRun-fold calls (after_call run call) (IsRun-after_call run call is)

IsRun-none : (run : Run) → IsRun run → waiting run.kept ≡ None → run.lines ≡ lines_of run.bytes
unfolding IsRun
IsRun-none run is none =
    sym (append-nil run.lines) ∙ ap (λ ls. run.lines ++ ls) (sym (lines_after-none run.kept is.0 none)) ∙ is.1 [] ∙ ap lines_of (append-nil run.bytes)

-- any calls of a reader cut the stream into its lines
pub runs_cut_lines : (calls : List Call) → CutsLines calls
unfolding IsRun
runs_cut_lines calls none = IsRun-none (run_of calls) (IsRun-fold calls (run_of []) (refl, λ more. refl)) none
