-- The commands of lines.
use Rattle.std.specs.Prelude.{ℕ, ◌+◌, ◌-◌, ◌*◌, ◌==◌, ◌&&◌, nat_le, Bool, List, [], ◌∷◌, length, take, drop, map, fold, codes, if◌then◌else◌, Option, None, Some, unwrap_or, Result, Err}
use Rattle.std.specs.List.{list_all, slice_split, position}
use Rattle.std.specs.Option.{option_map, option_and_then, ok_or}
use Rattle.std.specs.Char.{to_ascii_lowercase, is_ascii_digit}
use Rattle.std.specs.Str.{bytes_eq}
use Rattle.std.specs.Map.{lookup}
use Rattle.memchr.specs.Find.{is_byte}
use Rattle.maildrop.specs.Name.{is_name}
use Rattle.pop3_wire.specs.Limits.{most_digits}
use Rattle.pop3_wire.specs.declared.verb.Verb.{Verb}
use Rattle.pop3_wire.specs.declared.verb.Verb.TheVariants as verb
use Rattle.pop3_wire.specs.declared.verb.Keyword.{Keyword}
use Rattle.pop3_wire.specs.declared.verb.Keyword.TheVariants as keyword
use Rattle.pop3_wire.specs.declared.verb.LineFault.{LineFault}
use Rattle.pop3_wire.specs.declared.verb.LineFault.TheVariants.{Unknown, Arguments}

abbrev pub fault_number : LineFault → ℕ
fault_number Unknown = 1
fault_number (Arguments keyword) = 2

-- the words of the commands, in lower case
abbrev pub keywords : List (List ℕ × Keyword)
keywords =
    (codes "user", keyword.User) ∷ (codes "pass", keyword.Pass) ∷ (codes "apop", keyword.Apop) ∷ (codes "stat", keyword.Stat)
    ∷ (codes "list", keyword.List) ∷ (codes "retr", keyword.Retr) ∷ (codes "dele", keyword.Dele) ∷ (codes "noop", keyword.Noop)
    ∷ (codes "rset", keyword.Rset) ∷ (codes "top", keyword.Top) ∷ (codes "uidl", keyword.Uidl) ∷ (codes "capa", keyword.Capa)
    ∷ (codes "quit", keyword.Quit) ∷ []

-- the keyword of these bytes, whatever case they are in
abbrev pub keyword_of : List ℕ → Option Keyword
keyword_of bytes = lookup (bytes_eq (map to_ascii_lowercase bytes)) keywords

-- how long the keyword is: up to the first space, which is byte 32, or to the end
abbrev pub keyword_len : List ℕ → ℕ
keyword_len line = unwrap_or (position (is_byte 32) line) (length line)

-- a byte in front of bytes that end in no space
abbrev pub unless_trailing : ℕ → List ℕ → List ℕ
unless_trailing b [] = if b == 32 then [] else b ∷ []
unless_trailing b (c ∷ bytes) = b ∷ c ∷ bytes

-- without the spaces at the end
abbrev pub without_trailing_spaces : List ℕ → List ℕ
without_trailing_spaces [] = []
without_trailing_spaces (b ∷ bytes) = unless_trailing b (without_trailing_spaces bytes)

-- after a keyword comes nothing, or a space and then the arguments, cut at each further space
abbrev pub arguments_in : List ℕ → List (List ℕ)
arguments_in [] = []
arguments_in (space ∷ bytes) = slice_split (is_byte 32) bytes

-- 1 to 9 digits
abbrev pub is_number : List ℕ → Bool
is_number bytes = nat_le 1 (length bytes) && nat_le (length bytes) most_digits && list_all is_ascii_digit bytes

-- leading zeros add nothing
abbrev pub number_value : List ℕ → ℕ
number_value digits = fold (λ number digit. 10 * number + (digit - 48)) 0 digits

-- the value of a number
abbrev pub number_of : List ℕ → Option ℕ
number_of bytes = if is_number bytes then Some (number_value bytes) else None

-- The command of a keyword and its arguments, if these are good. A digest is 1 to 40 visible characters, as a name is: whether
-- it is the right one is seen at the login.
abbrev pub verb_with : Keyword → List (List ℕ) → Option Verb
verb_with keyword.User (name ∷ []) = if is_name name then Some (verb.User name) else None
verb_with keyword.Apop (name ∷ digest ∷ []) = if is_name name && is_name digest then Some (verb.Apop name digest) else None
verb_with keyword.Stat [] = Some verb.Stat
verb_with keyword.List [] = Some (verb.List None)
verb_with keyword.List (number ∷ []) = option_map (λ n. verb.List (Some n)) (number_of number)
verb_with keyword.Retr (number ∷ []) = option_map verb.Retr (number_of number)
verb_with keyword.Dele (number ∷ []) = option_map verb.Dele (number_of number)
verb_with keyword.Noop [] = Some verb.Noop
verb_with keyword.Rset [] = Some verb.Rset
verb_with keyword.Top (number ∷ lines ∷ []) =
    option_and_then (λ n. option_map (λ l. verb.Top n l) (number_of lines)) (number_of number)
verb_with keyword.Uidl [] = Some (verb.Uidl None)
verb_with keyword.Uidl (number ∷ []) = option_map (λ n. verb.Uidl (Some n)) (number_of number)
verb_with keyword.Capa [] = Some verb.Capa
verb_with keyword.Quit [] = Some verb.Quit
verb_with word arguments = None

-- PASS takes one space and everything after it, at least one byte
abbrev pub pass_with : List ℕ → Option Verb
pass_with (space ∷ b ∷ bytes) = Some (verb.Pass (b ∷ bytes))
pass_with bytes = None

-- the command of a keyword and what comes after it
abbrev pub command_of : Option Keyword → List ℕ → Result Verb LineFault
command_of None bytes = Err Unknown
command_of (Some keyword.Pass) bytes = ok_or (pass_with bytes) (Arguments keyword.Pass)
command_of (Some word) bytes = ok_or (verb_with word (arguments_in (without_trailing_spaces bytes))) (Arguments word)

-- the command of a line, or what is wrong with it
abbrev pub verb_of : List ℕ → Result Verb LineFault
verb_of line = command_of (keyword_of (take (keyword_len line) line)) (drop (keyword_len line) line)
