-- Bytes with which no line of a script begins.
use Rattle.std.proofs.Common.{◌≡◌, ◌≤◌, ◌<◌, ◌+◌, inl, inr, ◌||◌, ℕ, Bool, true, false, not, cond, nat_lt, List, [], ◌∷◌, ◌++◌, length, take, drop, codes, Option, None, Some, is_some, Err, length-append, length-take-le, refl, sym, ap, ap₂, subst, ◌∙◌, arith}
use Rattle.std.specs.List.{position_or_len}
use Rattle.std.specs.Option.{option_map}
use Rattle.std.specs.Str.{bytes_eq}
use Rattle.std.proofs.lemmas.Bool.{eq-eqb, leb-false, ltb-false, ltb-true, ne_eqb}
use Rattle.std.proofs.lemmas.List.{take-append-le}
use Rattle.std.proofs.lemmas.List.Folds.{prefix_len-append}
use Rattle.std.proofs.lemmas.List.Sums.{prefix_len-le-length}
use Rattle.std.proofs.lemmas.Slice.Eq.{bytes_eq-Decides}
use Rattle.apop.specs.Accounts.{is_space}
use Rattle.script.specs.Beginnings.{BeginsNoLine, IsLineEnd, is_keyword, may_begin_cut, may_begin_line}
use Rattle.script.specs.Commands.{keyword_of, or_fault, parsed, setting_keyword_of, statement_by, statement_cut, statement_of, statement_with}
use Rattle.script.specs.Scripts.{read_statement}
use Rattle.script.specs.declared.fault.ScriptFault.TheVariants.{NoStatement}
use Rattle.script.specs.declared.keyword.Keyword.{Keyword}
use Rattle.script.specs.declared.keyword.SettingKeyword.{SettingKeyword}

-- a longer word is another
other_word : (word key : List ℕ) → length key < length word → bytes_eq word key ≡ false
other_word word key longer = by_test (bytes_eq word key) refl
  where
    by_test : (t : Bool) → bytes_eq word key ≡ t → bytes_eq word key ≡ false
    by_test true same = absurd (omega (arith, longer, ap length ((bytes_eq-Decides word key).0 same)))
    by_test false differs = differs

module _ (word : List ℕ) (long : 8 < length word) where
  no_setting_keyword : setting_keyword_of word ≡ None
  no_setting_keyword =
      rw (
        other_word word (codes "nodes") (omega (arith, long)),
        other_word word (codes "limits") (omega (arith, long)),
        other_word word (codes "window") (omega (arith, long)),
        other_word word (codes "host") (omega (arith, long)),
        other_word word (codes "account") (omega (arith, long)),
      ) refl

  no_command_keyword : keyword_of word ≡ None
  no_command_keyword =
      rw (
        other_word word (codes "line") (omega (arith, long)),
        other_word word (codes "settle") (omega (arith, long)),
        other_word word (codes "mail") (omega (arith, long)),
        other_word word (codes "keyed") (omega (arith, long)),
        other_word word (codes "break") (omega (arith, long)),
        other_word word (codes "connect") (omega (arith, long)),
        other_word word (codes "hangup") (omega (arith, long)),
        other_word word (codes "tick") (omega (arith, long)),
        other_word word (codes "campaign") (omega (arith, long)),
        other_word word (codes "crash") (omega (arith, long)),
        other_word word (codes "deliver") (omega (arith, long)),
        other_word word (codes "storm") (omega (arith, long)),
        other_word word (codes "order") (omega (arith, long)),
      ) refl

  -- no keyword is so long
  no_keyword : is_keyword word ≡ false
  no_keyword = ap₂ (λ setting command. is_some setting || is_some command) no_setting_keyword no_command_keyword

no_statement : (setting : Option SettingKeyword) (command : Option Keyword) (rest : List ℕ) → (is_some setting || is_some command) ≡ false → statement_by setting command rest ≡ None
no_statement None None rest none = refl
no_statement None (Some word) rest none = absurd (cc none)
no_statement (Some word) command rest none = absurd (cc none)

-- a line of another first word says nothing
says_nothing : (word rest : List ℕ) → is_keyword word ≡ false → statement_with word rest ≡ None
says_nothing word rest none = no_statement (setting_keyword_of word) (keyword_of word) rest none

-- the place of the first space, or the length
abbrev place : List ℕ → ℕ
place bytes = position_or_len is_space bytes

place-inside : (bytes more : List ℕ) → place bytes < length bytes → place (bytes ++ more) ≡ place bytes
place-inside bytes more inside =
    prefix_len-append (λ b. not (is_space b)) bytes more
    ∙ ap (λ t. cond t (length bytes + place more) (place bytes)) (ne_eqb (place bytes) (length bytes) (λ same. omega (arith, same, inside)))

place-behind : (bytes more : List ℕ) → place bytes ≡ length bytes → place (bytes ++ more) ≡ length bytes + place more
place-behind bytes more none =
    prefix_len-append (λ b. not (is_space b)) bytes more
    ∙ ap (λ t. cond t (length bytes + place more) (place bytes)) (eq-eqb (place bytes) (length bytes) none)

place-low : (bytes : List ℕ) → place bytes ≤ length bytes
place-low bytes = prefix_len-le-length (λ b. not (is_space b)) bytes

-- if no space stands
nowhere : (bytes : List ℕ) → nat_lt (place bytes) (length bytes) ≡ false → place bytes ≡ length bytes
nowhere bytes none = omega (arith, place-low bytes, ltb-false _ _ none)

-- a line end has no space, and two bytes at most
pub record IsShort (end : List ℕ) : Type 0 where
  pub unspaced : place end ≡ length end
  pub short : length end ≤ 2

end_is_short : (end : List ℕ) → IsLineEnd end → IsShort end
end_is_short end (inl none) = subst IsShort (sym none) (record { unspaced = refl; short = omega arith })
end_is_short end (inr (inl feed)) = subst IsShort (sym feed) (record { unspaced = refl; short = omega arith })
end_is_short end (inr (inr both)) = subst IsShort (sym both) (record { unspaced = refl; short = omega arith })

module _ (bytes more line end : List ℕ) (same : bytes ++ more ≡ line ++ end) (short : IsShort end) where
  lengths : length bytes + length more ≡ length line + length end
  lengths = sym (length-append bytes more) ∙ ap length same ∙ length-append line end

  -- the line has bytes, and says nothing
  abbrev SaysNothing : Bool → Type 0
  SaysNothing found = (0 < length line) × (statement_cut (option_map (λ n. (take n line, drop (n + 1) line)) (cond found (Some (place line)) None)) line ≡ None)

  -- if the first word is whole
  module _ (inside : place bytes < length bytes) (none : is_keyword (take (place bytes) bytes) ≡ false) where
    whole-word : (found : Bool) → nat_lt (place line) (length line) ≡ found → SaysNothing found
    whole-word true within =
        let low : place line < length line = ltb-true _ _ within in
        let here : place line ≡ place bytes = sym (place-inside line end low) ∙ ap place (sym same) ∙ place-inside bytes more inside in
        let word : take (place line) line ≡ take (place bytes) bytes =
        sym (take-append-le (place line) line end (omega (arith, low))) ∙ ap₂ take here (sym same) ∙ take-append-le (place bytes) bytes more (omega (arith, inside)) in
        (omega (arith, low), says_nothing (take (place line) line) (drop (place line + 1) line) (ap is_keyword word ∙ none))
    whole-word false beyond =
        let last : place (line ++ end) ≡ length line + length end = place-behind line end (nowhere line beyond) ∙ ap (λ n. length line + n) short.unspaced in
        let here : place (line ++ end) ≡ place bytes = ap place (sym same) ∙ place-inside bytes more inside in
        absurd (omega (arith, last, here, inside, lengths))

  -- if the first word goes on
  module _ (beyond : place bytes ≡ length bytes) (long : 8 < length bytes) where
    open-word : (found : Bool) → nat_lt (place line) (length line) ≡ found → SaysNothing found
    open-word true within =
        let low : place line < length line = ltb-true _ _ within in
        let here : place line ≡ length bytes + place more = sym (place-inside line end low) ∙ ap place (sym same) ∙ place-behind bytes more beyond in
        let word : length (take (place line) line) ≡ place line = length-take-le (place line) line (omega (arith, low)) in
        (omega (arith, low), says_nothing (take (place line) line) (drop (place line + 1) line) (no_keyword (take (place line) line) (omega (arith, word, here, long))))
    open-word false none =
        let much : 6 < length line = omega (arith, lengths, long, short.short) in
        (omega (arith, much), rw (other_word line (codes "lose") (omega (arith, much))) refl)

  by_bytes : (found : Bool) → nat_lt (place bytes) (length bytes) ≡ found → may_begin_cut (option_map (λ n. (take n bytes, drop (n + 1) bytes)) (cond found (Some (place bytes)) None)) bytes ≡ false → SaysNothing (nat_lt (place line) (length line))
  by_bytes true within none = whole-word (ltb-true _ _ within) none (nat_lt (place line) (length line)) refl
  by_bytes false beyond none = open-word (nowhere bytes beyond) (leb-false _ _ none) (nat_lt (place line) (length line)) refl

-- a line that has bytes and says nothing is none
is_none : (line : List ℕ) → 0 < length line → statement_of line ≡ None → parsed line ≡ Err NoStatement
is_none [] some none = absurd (omega arith)
is_none (first ∷ bytes) some none = ap or_fault none

pub begins_no_line : (bytes : List ℕ) → may_begin_line bytes ≡ false → BeginsNoLine bytes
begins_no_line bytes none script more line end same ended =
    let nothing = by_bytes bytes more line end same (end_is_short end ended) (nat_lt (place bytes) (length bytes)) refl none in
    ap (read_statement script) (is_none line nothing.0 nothing.1)
