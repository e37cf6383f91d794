-- The accounts of a file: one a line, empty lines skipped. `lines` is std's word for the lines of a text: a line feed
-- ends a line, one carriage return directly before it is dropped, and what stands after the last line feed is a line,
-- if it is not empty.
use Rattle.std.specs.Prelude.{◌≢◌, ℕ, ◌+◌, ◌==◌, ◌&&◌, ◌||◌, ◌++◌, List, [], ◌∷◌, Bool, nat_le, length, take, drop, position, if◌then◌else◌, codes, Option, None, Some, option_and_then, Result, Ok, Err}
use Rattle.std.specs.List.{list_all, list_any, filter_map, AllPairs}
use Rattle.std.specs.Option.{option_map, option_or}
use Rattle.std.specs.Str.{bytes_eq}
use Rattle.std.specs.Str.Lines.{lines}
use Rattle.maildrop.specs.Name.{is_name}
use Rattle.apop.specs.declared.method.Method.{Method}
use Rattle.apop.specs.declared.method.Method.TheVariants.{Pass, Apop}
use Rattle.apop.specs.declared.error.AccountsError.{AccountsError}
use Rattle.apop.specs.declared.error.AccountsError.TheVariants.{Line, Twice, Memory}

-- a user who may log in
pub record Account : Type 0 where
  pub name : List ℕ
  pub method : Method
  pub secret : List ℕ

-- the printable characters, a space being the first, and the bytes that are no ASCII characters
abbrev pub first_printable : ℕ
first_printable = 0x20

abbrev pub last_printable : ℕ
last_printable = 0x7E

abbrev pub first_beyond_ascii : ℕ
first_beyond_ascii = 0x80

-- no control character
abbrev pub is_secret_byte : ℕ → Bool
is_secret_byte b = (nat_le first_printable b && nat_le b last_printable) || nat_le first_beyond_ascii b

-- the most bytes of a secret
abbrev pub longest_secret : ℕ
longest_secret = 255

abbrev pub is_secret : List ℕ → Bool
is_secret bytes = nat_le 1 (length bytes) && nat_le (length bytes) longest_secret && list_all is_secret_byte bytes

abbrev pub method_of : List ℕ → Option Method
method_of word =
    if bytes_eq word (codes "pass") then Some Pass
    else if bytes_eq word (codes "apop") then Some Apop
    else None

abbrev pub is_space : ℕ → Bool
is_space b = b == 0x20

-- what stands before the first space, and what after it
abbrev pub cut_at_space : List ℕ → Option (List ℕ × List ℕ)
cut_at_space bytes = option_map (λ place. (take place bytes, drop (place + 1) bytes)) (position is_space bytes)

-- an account of these parts, if they are a name, a method and a secret
abbrev pub account_of : List ℕ → Option Method → List ℕ → Option Account
account_of name None secret = None
account_of name (Some method) secret =
    if is_name name && is_secret secret
    then Some (record { name = name; method = method; secret = secret })
    else None

-- the account of a line `name method secret`: one space between, and the secret is the rest of the line
abbrev pub row_of : List ℕ → Option Account
row_of line =
    option_and_then
    (λ (name, rest). option_and_then (λ (method, secret). account_of name (method_of method) secret) (cut_at_space rest))
    (cut_at_space line)

-- the accounts of the lines that are rows
abbrev pub accounts_in : List (List ℕ) → List Account
accounts_in lines = filter_map row_of lines

abbrev pub has_account : List Account → List ℕ → Bool
has_account accounts name = list_any (λ account. bytes_eq account.name name) accounts

abbrev pub row_fault : ℕ → List Account → Option Account → Option AccountsError
row_fault number accounts None = Some (Line number)
row_fault number accounts (Some account) = if has_account accounts account.name then Some (Twice number) else None

-- what is wrong with the line of this number, after lines with these accounts
abbrev pub fault_of : ℕ → List Account → List ℕ → Option AccountsError
fault_of number accounts [] = None
fault_of number accounts (b ∷ bs) = row_fault number accounts (row_of (b ∷ bs))

-- the first fault of lines that stand after other lines
abbrev pub first_fault : List (List ℕ) → List (List ℕ) → Option AccountsError
first_fault before [] = None
first_fault before (line ∷ lines) =
    option_or (fault_of (length before + 1) (accounts_in before) line) (first_fault (before ++ line ∷ []) lines)

abbrev pub unless_fault : Option AccountsError → List Account → Result (List Account) AccountsError
unless_fault None accounts = Ok accounts
unless_fault (Some fault) accounts = Err fault

-- the accounts of a file, or its first fault
abbrev pub accounts_of : List ℕ → Result (List Account) AccountsError
accounts_of bytes = unless_fault (first_fault [] (lines bytes)) (accounts_in (lines bytes))

abbrev pub name_of : Account → List ℕ
name_of account = account.name

-- no two accounts have one name
abbrev pub HaveDifferentNames : List Account → Type 0
HaveDifferentNames accounts = AllPairs (λ a b. a.name ≢ b.name) accounts

-- the fixed numbers of the faults
abbrev pub error_number : AccountsError → ℕ
error_number (Line _) = 1
error_number (Twice _) = 2
error_number Memory = 3
