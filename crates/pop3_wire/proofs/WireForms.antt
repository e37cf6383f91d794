-- Bytes that begin with a wire form.
use Rattle.std.proofs.Common.{◌≡◌, ◌≢◌, ◌≤◌, ◌<◌, ◌+◌, ◌-◌, ℕ, true, false, ◌==◌, List, [], ◌∷◌, ◌++◌, length, take, drop, ap, refl, sym, arith, ◌∙◌, inl, inr, append_assoc, append-nil, length-append, None, Some, codes}
use Rattle.std.specs.List.{All, list_any, flat_map}
use Rattle.std.proofs.lemmas.Bool.{cases_Bool, or_parts, or_from}
use Rattle.std.proofs.lemmas.List.{same_from_push, take_rest, flat_map_more}
use Rattle.std.proofs.lemmas.List.Elements.{All-nil, All-cons, All-head, All-tail, All-push}
use Rattle.std.proofs.lemmas.List.Folds.{list_any-append}
use Rattle.std.proofs.Math.Bool.{or-true}
use Rattle.std.proofs.Math.Seq.{take-append_seam}
use Rattle.memchr.specs.Find.{NoneBefore, Nowhere, Passes, is_byte}
use Rattle.maildrop.specs.Text.{IsLine, begins_with_dot}
use Rattle.pop3_wire.specs.Lines.{is_lf}
use Rattle.pop3_wire.specs.Stuffing.{stuffed_line, unstuffed_line, wire_line, wire_form, AreStuffed, BeginsWithNone, BeginsWithOne}
use Rattle.pop3_wire.proofs.Feeding.{no_lf, lf_at, both_none}

IsLine-none : (xs : List ℕ) → list_any is_lf xs ≡ false → IsLine xs
IsLine-none [] none = All-nil (λ b. b ≢ 10)
IsLine-none (x ∷ xs) none =
    let parts = or_parts (x == 10) (list_any is_lf xs) none in
    let other : x ≢ 10 = grind (arith, parts.0) in
    All-cons (λ b. b ≢ 10) x xs other (IsLine-none xs parts.1)

none-IsLine : (xs : List ℕ) → IsLine xs → list_any is_lf xs ≡ false
none-IsLine [] line = refl
none-IsLine (x ∷ xs) line =
    let head : x ≢ 10 = All-head (λ b. b ≢ 10) x xs line in
    let other : (x == 10) ≡ false = grind arith in
    or_from (x == 10) (list_any is_lf xs) other (none-IsLine xs (All-tail (λ b. b ≢ 10) x xs line))

any_end : (line rest : List ℕ) → list_any is_lf (line ++ 13 ∷ 10 ∷ rest) ≡ true
any_end [] rest = refl
any_end (x ∷ line) rest = rw (any_end line rest) (or-true (x == 10))

front_none : (xs ys : List ℕ) → list_any is_lf (xs ++ ys) ≡ false → list_any is_lf xs ≡ false
front_none xs ys none = (or_parts (list_any is_lf xs) (list_any is_lf ys) (rw list_any-append at none)).0

-- the first LF cuts bytes in one way
same_cut : (xs ys a b : List ℕ) → list_any is_lf xs ≡ false → list_any is_lf ys ≡ false → xs ++ 10 ∷ a ≡ ys ++ 10 ∷ b → (xs ≡ ys) × (a ≡ b)
same_cut [] [] a b none others same = (refl, cc)
same_cut [] (y ∷ ys) a b none others same =
    let head : 10 ≡ y = cc in
    let other : (y == 10) ≡ false = (or_parts (y == 10) (list_any is_lf ys) others).0 in
    absurd (grind (arith, head, other))
same_cut (x ∷ xs) [] a b none others same =
    let head : x ≡ 10 = cc in
    let other : (x == 10) ≡ false = (or_parts (x == 10) (list_any is_lf xs) none).0 in
    absurd (grind (arith, head, other))
same_cut (x ∷ xs) (y ∷ ys) a b none others same =
    let head : x ≡ y = cc in
    let tail : xs ++ 10 ∷ a ≡ ys ++ 10 ∷ b = cc in
    let parts = same_cut xs ys a b (or_parts (x == 10) (list_any is_lf xs) none).1 (or_parts (y == 10) (list_any is_lf ys) others).1 tail in
    let front : xs ≡ ys = parts.0 in
    (cc, parts.1)

-- so does the first line end, if it is CR and LF
same_line : (line other a b : List ℕ) → list_any is_lf line ≡ false → list_any is_lf other ≡ false → line ++ 13 ∷ 10 ∷ a ≡ other ++ 13 ∷ 10 ∷ b → (line ≡ other) × (a ≡ b)
same_line line other a b none others same =
    let ended : (line ++ 13 ∷ []) ++ 10 ∷ a ≡ (other ++ 13 ∷ []) ++ 10 ∷ b =
    append_assoc line (13 ∷ []) (10 ∷ a) ∙ same ∙ sym (append_assoc other (13 ∷ []) (10 ∷ b)) in
    let parts = same_cut (line ++ 13 ∷ []) (other ++ 13 ∷ []) a b (both_none line (13 ∷ []) none refl) (both_none other (13 ∷ []) others refl) ended in
    ((same_from_push line other 13 13 parts.0).0, parts.1)

stuffed-none : (line : List ℕ) → list_any is_lf line ≡ false → list_any is_lf (stuffed_line line) ≡ false
stuffed-none line none = elim (cases_Bool (begins_with_dot line)) [
  | inl dot ↦ rw dot none
  | inr other ↦ rw other none
]

-- no two lines are stuffed alike
unstuffed-stuffed : (line : List ℕ) → unstuffed_line (stuffed_line line) ≡ Some line
unstuffed-stuffed [] = refl
unstuffed-stuffed (b ∷ bytes) = elim (cases_Bool (b == 46)) [
  | inl dot ↦ rw (dot, dot) refl
  | inr other ↦ rw (other, other) refl
]

-- what is taken for a stuffed line is one
pub stuffed-unstuffed : (bytes line : List ℕ) → unstuffed_line bytes ≡ Some line → stuffed_line line ≡ bytes
stuffed-unstuffed [] line is = let same : [] ≡ line = cc in rw (← same) refl
stuffed-unstuffed (b ∷ bytes) line is = elim (cases_Bool (b == 46)) [
  | inl dot ↦
      let is_dot : b ≡ 46 = grind (arith, dot) in
      let inner = rw dot at is in
      elim (cases_Bool (begins_with_dot bytes)) [
        | inl second ↦
            let same : Some bytes ≡ Some line = rw second at inner in
            let lines : bytes ≡ line = cc in
            rw (← lines, second, is_dot) refl
        | inr other ↦
            let no : None ≡ Some line = rw other at inner in
            cc
      ]
  | inr other ↦
      let same : Some (b ∷ bytes) ≡ Some line = rw other at is in
      let lines : b ∷ bytes ≡ line = cc in
      rw (← lines, other) refl
]

wire_form-cons : (line : List ℕ) (text : List (List ℕ)) (rest : List ℕ) → wire_form (line ∷ text) ++ rest ≡ stuffed_line line ++ 13 ∷ 10 ∷ (wire_form text ++ rest)
wire_form-cons line text rest = simp append_assoc

-- of a text on the wire these lines are read, and more of it is left
pub record Remains (lines : List (List ℕ)) (left : List ℕ) (text : List (List ℕ)) (rest : List ℕ) : Type 0 where
  pub more : List (List ℕ)
  pub text_is : text ≡ lines ++ more
  pub are_lines : All IsLine more
  pub left_is : left ≡ wire_form more ++ rest

-- what is left begins with a line and its end
first_line : (more : List (List ℕ)) (rest : List ℕ) → All IsLine more → (line : List ℕ) × (behind : List ℕ) × (list_any is_lf line ≡ false) × (wire_form more ++ rest ≡ line ++ 13 ∷ 10 ∷ behind)
first_line [] rest lines = (46 ∷ [], rest, refl, refl)
first_line (line ∷ more) rest lines =
    (stuffed_line line, wire_form more ++ rest, stuffed-none line (none-IsLine line (All-head IsLine line more lines)), wire_form-cons line more rest)

-- if no line is left, nothing remains
pub remains-open : (lines : List (List ℕ)) (left : List ℕ) (text : List (List ℕ)) (rest : List ℕ) → ((line behind : List ℕ) → IsLine line → left ≡ line ++ 13 ∷ 10 ∷ behind → ⊥) → Remains lines left text rest → ⊥
remains-open lines left text rest ends is =
    let first = first_line is.more rest is.are_lines in
    ends first.0 first.1 (IsLine-none first.0 first.2) (is.left_is ∙ first.3)

-- the next of the lines is read
next_more : (more : List (List ℕ)) (rest cut behind line : List ℕ) → All IsLine more → IsLine cut → wire_form more ++ rest ≡ cut ++ 13 ∷ 10 ∷ behind → unstuffed_line cut ≡ Some line → (others : List (List ℕ)) × (more ≡ line ∷ others) × All IsLine others × (behind ≡ wire_form others ++ rest)
next_more [] rest cut behind line lines is_line left read =
    let same : 46 ∷ [] ≡ cut = (same_line (46 ∷ []) cut rest behind refl (none-IsLine cut is_line) left).0 in
    let none : None ≡ Some line = rw (← same) at read in
    cc
next_more (first ∷ more) rest cut behind line lines is_line left read =
    let none = none-IsLine first (All-head IsLine first more lines) in
    let same = same_line (stuffed_line first) cut (wire_form more ++ rest) behind (stuffed-none first none) (none-IsLine cut is_line) (sym (wire_form-cons first more rest) ∙ left) in
    let reads : Some first ≡ Some line = sym (unstuffed-stuffed first) ∙ ap unstuffed_line same.0 ∙ read in
    let is_first : first ≡ line = cc in
    (more, ap (λ l. l ∷ more) is_first, All-tail IsLine first more lines, sym same.1)

-- what is no stuffed line ends the text, by a dot alone
no_more : (more : List (List ℕ)) (rest cut behind : List ℕ) → All IsLine more → IsLine cut → wire_form more ++ rest ≡ cut ++ 13 ∷ 10 ∷ behind → unstuffed_line cut ≡ None → (more ≡ []) × (cut ≡ 46 ∷ []) × (rest ≡ behind)
no_more [] rest cut behind lines is_line left none =
    let same = same_line (46 ∷ []) cut rest behind refl (none-IsLine cut is_line) left in
    (refl, sym same.0, same.1)
no_more (first ∷ more) rest cut behind lines is_line left none =
    let free = none-IsLine first (All-head IsLine first more lines) in
    let same = same_line (stuffed_line first) cut (wire_form more ++ rest) behind (stuffed-none first free) (none-IsLine cut is_line) (sym (wire_form-cons first more rest) ∙ left) in
    let reads : Some first ≡ None = sym (unstuffed-stuffed first) ∙ ap unstuffed_line same.0 ∙ none in
    cc

pub remains-start : (bytes : List ℕ) (text : List (List ℕ)) (rest : List ℕ) → All IsLine text → bytes ≡ wire_form text ++ rest → Remains [] bytes text rest
remains-start bytes text rest lines left = record { more = text; text_is = refl; are_lines = lines; left_is = left }

pub remains-next : (lines : List (List ℕ)) (left : List ℕ) (text : List (List ℕ)) (rest cut behind line : List ℕ) → IsLine cut → left ≡ cut ++ 13 ∷ 10 ∷ behind → unstuffed_line cut ≡ Some line → Remains lines left text rest → Remains (lines ++ line ∷ []) behind text rest
remains-next lines left text rest cut behind line is_line parts read is =
    let next = next_more is.more rest cut behind line is.are_lines is_line (sym is.left_is ∙ parts) read in
    record {
      more = next.0;
      text_is = is.text_is ∙ ap (λ ls. lines ++ ls) next.1 ∙ sym (append_assoc lines (line ∷ []) next.0);
      are_lines = next.2;
      left_is = next.3;
    }

pub remains-end : (lines : List (List ℕ)) (left : List ℕ) (text : List (List ℕ)) (rest cut behind : List ℕ) → IsLine cut → left ≡ cut ++ 13 ∷ 10 ∷ behind → unstuffed_line cut ≡ None → Remains lines left text rest → (lines ≡ text) × (cut ≡ 46 ∷ []) × (behind ≡ rest)
remains-end lines left text rest cut behind is_line parts none is =
    let ended = no_more is.more rest cut behind is.are_lines is_line (sym is.left_is ∙ parts) none in
    (sym (is.text_is ∙ ap (λ ls. lines ++ ls) ended.0 ∙ append-nil lines), ended.1, sym ended.2)

-- a line more is on the wire
pub wire-next : (lines : List (List ℕ)) (bytes left cut behind line : List ℕ) → bytes ≡ flat_map wire_line lines ++ left → left ≡ cut ++ 13 ∷ 10 ∷ behind → unstuffed_line cut ≡ Some line → bytes ≡ flat_map wire_line (lines ++ line ∷ []) ++ behind
wire-next lines bytes left cut behind line so_far parts read =
    rw (so_far, parts, ← stuffed-unstuffed cut line read, ← flat_map_more wire_line [] lines line) (simp append_assoc)

dot_alone : (cut : List ℕ) → unstuffed_line cut ≡ None → length cut ≤ 1 → cut ≡ 46 ∷ []
dot_alone [] none short = cc
dot_alone (b ∷ []) none short = elim (cases_Bool (b == 46)) [
  | inl dot ↦
      let is_dot : b ≡ 46 = grind (arith, dot) in
      rw is_dot refl
  | inr other ↦
      let no : Some (b ∷ []) ≡ None = rw other at none in
      cc
]
dot_alone (b ∷ c ∷ cut) none short = absurd (omega arith)

-- a dot alone ends the wire form
pub wire-end : (lines : List (List ℕ)) (bytes left cut behind : List ℕ) → bytes ≡ flat_map wire_line lines ++ left → left ≡ cut ++ 13 ∷ 10 ∷ behind → unstuffed_line cut ≡ None → length cut ≤ 1 → bytes ≡ wire_form lines ++ behind
wire-end lines bytes left cut behind so_far parts none short =
    rw (so_far, parts, dot_alone cut none short) (sym (append_assoc (flat_map wire_line lines) (codes ".\r\n") behind))

-- a line that was stuffed has no LF
pub unstuffed-line : (cut line : List ℕ) → IsLine cut → unstuffed_line cut ≡ Some line → IsLine line
unstuffed-line cut line is_line read =
    let same : stuffed_line line ≡ cut = stuffed-unstuffed cut line read in
    let none : list_any is_lf (stuffed_line line) ≡ false = rw same (none-IsLine cut is_line) in
    IsLine-none line (elim (cases_Bool (begins_with_dot line)) [
      | inl dot ↦ rw dot at none
      | inr other ↦ rw other at none
    ])

-- a search that finds no LF finds no line end
pub no_line_end : (bytes line rest : List ℕ) → Nowhere (Passes (is_byte 10) bytes) 0 (length bytes) → IsLine line → bytes ≡ line ++ 13 ∷ 10 ∷ rest → ⊥
no_line_end bytes line rest none is_line parts =
    let no : list_any is_lf bytes ≡ false = no_lf bytes none in
    let yes : list_any is_lf (line ++ 13 ∷ 10 ∷ rest) ≡ true = any_end line rest in
    let both : list_any is_lf bytes ≡ true = rw parts yes in
    cc

-- what stands before the first LF ends in CR if a line and its end stand there
pub line_end : (bytes line rest : List ℕ) (k : ℕ) → NoneBefore (Passes (is_byte 10) bytes) 0 (length bytes) k → Passes (is_byte 10) bytes k → IsLine line → bytes ≡ line ++ 13 ∷ 10 ∷ rest → take k bytes ≡ line ++ 13 ∷ []
line_end bytes line rest k first here is_line parts =
    let cut = lf_at bytes k first here in
    let whole : take k bytes ++ 10 ∷ drop (k + 1) bytes ≡ (line ++ 13 ∷ []) ++ 10 ∷ rest = sym cut.1 ∙ parts ∙ sym (append_assoc line (13 ∷ []) (10 ∷ rest)) in
    (same_cut (take k bytes) (line ++ 13 ∷ []) (drop (k + 1) bytes) rest cut.0 (both_none line (13 ∷ []) (none-IsLine line is_line) refl) whole).0

-- a CR before the first LF ends a line
pub cut_line : (bytes line : List ℕ) (k : ℕ) → NoneBefore (Passes (is_byte 10) bytes) 0 (length bytes) k → Passes (is_byte 10) bytes k → take k bytes ≡ line ++ 13 ∷ [] → IsLine line × (bytes ≡ line ++ 13 ∷ 10 ∷ take (length bytes - (k + 1)) (drop (k + 1) bytes))
cut_line bytes line k first here parts =
    let cut = lf_at bytes k first here in
    let none : list_any is_lf (line ++ 13 ∷ []) ≡ false = rw (← parts) cut.0 in
    (IsLine-none line (front_none line (13 ∷ []) none), rw (take_rest bytes (k + 1)) (cut.1 ∙ ap (λ xs. xs ++ 10 ∷ drop (k + 1) bytes) parts ∙ append_assoc line (13 ∷ []) (10 ∷ drop (k + 1) bytes)))

-- these lines are read of the bytes, and each text that they begin with has them in front
pub record IsReadTo (lines : List (List ℕ)) (bytes left : List ℕ) : Type 0 where
  pub are_lines : All IsLine lines
  pub read : bytes ≡ flat_map wire_line lines ++ left
  pub remains : (text : List (List ℕ)) (rest : List ℕ) → All IsLine text → bytes ≡ wire_form text ++ rest → Remains lines left text rest

pub read_nothing : (bytes : List ℕ) → IsReadTo [] bytes bytes
read_nothing bytes = record { are_lines = All-nil IsLine; read = refl; remains = λ text rest lines whole. remains-start bytes text rest lines whole }

pub read_more : (lines : List (List ℕ)) (bytes left cut behind line : List ℕ) → IsLine cut → left ≡ cut ++ 13 ∷ 10 ∷ behind → unstuffed_line cut ≡ Some line → IsReadTo lines bytes left → IsReadTo (lines ++ line ∷ []) bytes behind
read_more lines bytes left cut behind line is_line parts read is = record {
  are_lines = All-push IsLine lines line is.are_lines (unstuffed-line cut line is_line read);
  read = wire-next lines bytes left cut behind line is.read parts read;
  remains = λ text rest all whole. remains-next lines left text rest cut behind line is_line parts read (is.remains text rest all whole);
}

pub read_all : (lines : List (List ℕ)) (bytes left cut behind : List ℕ) → IsLine cut → left ≡ cut ++ 13 ∷ 10 ∷ behind → unstuffed_line cut ≡ None → length cut ≤ 1 → IsReadTo lines bytes left → BeginsWithOne bytes (take (length bytes - length left) bytes) behind
read_all lines bytes left cut behind is_line parts none short is =
    let front : take (length bytes - length left) bytes ≡ flat_map wire_line lines = taken (flat_map wire_line lines) left bytes is.read in
    rw front (record {
      are_stuffed = (lines, (is.are_lines, refl));
      ends = wire-end lines bytes left cut behind is.read parts none short;
      alone = λ text rest all whole. let ended = remains-end lines left text rest cut behind is_line parts none (is.remains text rest all whole) in (ap (flat_map wire_line) ended.0, ended.2);
    })
  where
    taken : (front rest bytes : List ℕ) → bytes ≡ front ++ rest → take (length bytes - length rest) bytes ≡ front
    taken front rest bytes e =
        let n : length bytes - length rest ≡ length front = omega (arith, ap length e, length-append front rest) in
        rw (n, e) (take-append_seam front rest)

-- no wire form goes on with what is no stuffed line
pub read_wrong : (lines : List (List ℕ)) (bytes left cut behind : List ℕ) → IsLine cut → left ≡ cut ++ 13 ∷ 10 ∷ behind → unstuffed_line cut ≡ None → 1 < length cut → IsReadTo lines bytes left → BeginsWithNone bytes
read_wrong lines bytes left cut behind is_line parts none long is text rest all whole =
    let ended = remains-end lines left text rest cut behind is_line parts none (is.remains text rest all whole) in
    omega (arith, long, ap length ended.1)

-- and none ends if no line is left
pub read_open : (lines : List (List ℕ)) (bytes left : List ℕ) → ((line behind : List ℕ) → IsLine line → left ≡ line ++ 13 ∷ 10 ∷ behind → ⊥) → IsReadTo lines bytes left → BeginsWithNone bytes
read_open lines bytes left ends is text rest all whole = remains-open lines left text rest ends (is.remains text rest all whole)

-- the stuffed lines of a text begin with its first
stuffed_lines-cons : (line : List ℕ) (text : List (List ℕ)) → flat_map wire_line (line ∷ text) ≡ stuffed_line line ++ 13 ∷ 10 ∷ flat_map wire_line text
stuffed_lines-cons line text = append_assoc (stuffed_line line) (codes "\r\n") (flat_map wire_line text)

-- a line that is cut off stuffed lines is one of them, and leaves the others
pub stuffed_next : (left cut behind : List ℕ) → IsLine cut → left ≡ cut ++ 13 ∷ 10 ∷ behind → AreStuffed left → (line : List ℕ) × ((unstuffed_line cut ≡ Some line) × IsLine line × AreStuffed behind)
stuffed_next left cut behind is_line parts are = by are.0 (are.1).0 (are.1).1
  where
    by : (text : List (List ℕ)) → All IsLine text → left ≡ flat_map wire_line text → (line : List ℕ) × ((unstuffed_line cut ≡ Some line) × IsLine line × AreStuffed behind)
    by [] lines e = absurd (omega (arith, length-append cut (13 ∷ 10 ∷ behind), ap length (sym parts ∙ e)))
    by (first ∷ more) lines e =
        let is_first = All-head IsLine first more lines in
        let same = same_line (stuffed_line first) cut (flat_map wire_line more) behind (stuffed-none first (none-IsLine first is_first)) (none-IsLine cut is_line) (sym (stuffed_lines-cons first more) ∙ sym e ∙ parts) in
        (first, (ap unstuffed_line (sym same.0) ∙ unstuffed-stuffed first, is_first, (more, (All-tail IsLine first more lines, sym same.1))))

-- if no line can be cut off them, there are none
pub stuffed_end : (left : List ℕ) → ((line behind : List ℕ) → IsLine line → left ≡ line ++ 13 ∷ 10 ∷ behind → ⊥) → AreStuffed left → left ≡ []
stuffed_end left ends are = by are.0 (are.1).0 (are.1).1
  where
    by : (text : List (List ℕ)) → All IsLine text → left ≡ flat_map wire_line text → left ≡ []
    by [] lines e = e
    by (first ∷ more) lines e =
        absurd (ends (stuffed_line first) (flat_map wire_line more) (IsLine-none _ (stuffed-none first (none-IsLine first (All-head IsLine first more lines)))) (e ∙ stuffed_lines-cons first more))

-- no two texts have the same stuffed lines
pub same_texts : (text others : List (List ℕ)) → All IsLine text → All IsLine others → flat_map wire_line text ≡ flat_map wire_line others → text ≡ others
same_texts [] [] lines are e = refl
same_texts [] (o ∷ others) lines are e = absurd (omega (arith, length-append (stuffed_line o) (13 ∷ 10 ∷ flat_map wire_line others), ap length (e ∙ stuffed_lines-cons o others)))
same_texts (t ∷ text) [] lines are e = absurd (omega (arith, length-append (stuffed_line t) (13 ∷ 10 ∷ flat_map wire_line text), ap length (sym e ∙ stuffed_lines-cons t text)))
same_texts (t ∷ text) (o ∷ others) lines are e =
    let same = same_line (stuffed_line t) (stuffed_line o) (flat_map wire_line text) (flat_map wire_line others) (stuffed-none t (none-IsLine t (All-head IsLine t text lines))) (stuffed-none o (none-IsLine o (All-head IsLine o others are))) (sym (stuffed_lines-cons t text) ∙ e ∙ stuffed_lines-cons o others) in
    let first : Some t ≡ Some o = sym (unstuffed-stuffed t) ∙ ap unstuffed_line same.0 ∙ unstuffed-stuffed o in
    let heads : t ≡ o = cc in
    let rest = same_texts text others (All-tail IsLine t text lines) (All-tail IsLine o others are) same.1 in
    cc
