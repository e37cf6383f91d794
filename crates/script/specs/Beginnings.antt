-- Bytes with which no line of a script begins.
use Rattle.std.specs.Prelude.{◌≡◌, ◌⊎◌, ℕ, ◌||◌, Bool, nat_le, List, [], ◌++◌, length, codes, Option, None, Some, is_some, Err}
use Rattle.apop.specs.Accounts.{cut_at_space}
use Rattle.script.specs.Commands.{keyword_of, setting_keyword_of}
use Rattle.script.specs.Scripts.{Script, read_line}
use Rattle.script.specs.declared.fault.ScriptFault.TheVariants.{NoStatement}

abbrev pub is_keyword : List ℕ → Bool
is_keyword word = is_some (setting_keyword_of word) || is_some (keyword_of word)

-- the bytes of the longest keyword, `campaign`
abbrev pub longest_keyword : ℕ
longest_keyword = 8

abbrev pub may_begin_cut : Option (List ℕ × List ℕ) → List ℕ → Bool
may_begin_cut None bytes = nat_le (length bytes) longest_keyword
may_begin_cut (Some parts) bytes = is_keyword parts.0

-- the first word is a keyword, or no space stands after it yet and it isn't too long for one
abbrev pub may_begin_line : List ℕ → Bool
may_begin_line bytes = may_begin_cut (cut_at_space bytes) bytes

-- what stands after the bytes of a line: nothing after the last one, or else a line feed, or both a carriage return and
-- a line feed
abbrev pub IsLineEnd : List ℕ → Type 0
IsLineEnd end = (end ≡ []) ⊎ (end ≡ codes "\n") ⊎ (end ≡ codes "\r\n")

-- each line that begins with these bytes is none of the language, whatever stands before it
abbrev pub BeginsNoLine : List ℕ → Type 0
BeginsNoLine bytes = (script : Script) (more line end : List ℕ) → bytes ++ more ≡ line ++ end → IsLineEnd end → read_line script line ≡ Err NoStatement
