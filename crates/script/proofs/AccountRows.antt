-- One row more of accounts.
use Rattle.std.proofs.Common.{◌≡◌, ◌≤◌, ◌<◌, ◌+◌, ◌-◌, ◌==◌, ◌&&◌, ℕ, Bool, true, false, if◌then◌else◌, Option, None, Some, List, [], ◌∷◌, ◌++◌, length, take, drop, get_or, slice_index, get_or-drop, length-drop, drop-drop, append_assoc, append-nil, refl, sym, ap, subst, ◌∙◌, arith}
use Rattle.std.specs.Prelude.{position, option_and_then}
use Rattle.std.specs.Option.{option_map, option_or, unwrap_or}
use Rattle.std.specs.List.{All, list_all}
use Rattle.std.specs.Str.Lines.{lines, strip_carriage_return}
use Rattle.std.proofs.lemmas.Bool.{false≢true, and_parts, leb-true, ne_eqb}
use Rattle.std.proofs.lemmas.List.Elements.{filter_map-append}
use Rattle.std.proofs.lemmas.List.Folds.{list_all_at}
use Rattle.maildrop.specs.Name.{is_name}
use Rattle.maildrop.specs.Text.{IsLine}
use Rattle.maildrop.proofs.FileLemmas.{lines-more}
use Rattle.memchr.specs.Find.{is_byte}
use Rattle.apop.specs.Accounts.{Account, account_of, accounts_in, cut_at_space, fault_of, first_fault, has_account, is_secret, is_secret_byte, is_space, method_of, name_of, row_of}
use Rattle.apop.specs.declared.method.Method.{Method}
use Rattle.script.specs.Rows.{AreRows, accounts_written}

-- an account of these parts has this secret
has_secret : (name secret : List ℕ) (method : Option Method) (account : Account) → account_of name method secret ≡ Some account → is_secret secret ≡ true
has_secret name secret None account is = absurd (cc is)
has_secret name secret (Some method) account is = by_test (is_name name && is_secret secret) refl is
  where
    by_test : (t : Bool) → (is_name name && is_secret secret) ≡ t → (if t then Some (record { name = name; method = method; secret = secret }) else None) ≡ Some account → is_secret secret ≡ true
    by_test true both is = (and_parts _ _ both).1
    by_test false both is = absurd (cc is)

-- the secret of what stands after the name
by_second_space : (name rest : List ℕ) (account : Account) (place : Option ℕ) → option_and_then (λ (method, secret). account_of name (method_of method) secret) (option_map (λ place. (take place rest, drop (place + 1) rest)) place) ≡ Some account → (n : ℕ) × (is_secret (drop n rest) ≡ true)
by_second_space name rest account None is = absurd (cc is)
by_second_space name rest account (Some place) is = (place + 1, has_secret name (drop (place + 1) rest) (method_of (take place rest)) account is)

by_first_space : (row : List ℕ) (account : Account) (place : Option ℕ) → option_and_then (λ (name, rest). option_and_then (λ (method, secret). account_of name (method_of method) secret) (cut_at_space rest)) (option_map (λ place. (take place row, drop (place + 1) row)) place) ≡ Some account → (n : ℕ) × (m : ℕ) × (is_secret (drop m (drop n row)) ≡ true)
by_first_space row account None is = absurd (cc is)
by_first_space row account (Some place) is =
    let second = by_second_space (take place row) (drop (place + 1) row) account (position is_space (drop (place + 1) row)) is in
    (place + 1, second.0, second.1)

-- no byte of a secret is a carriage return
no_return : (bytes : List ℕ) (i : ℕ) → i < length bytes → list_all is_secret_byte bytes ≡ true → get_or bytes i 0 ≡ 13 → ⊥
no_return bytes i inside all is =
    let bad : is_secret_byte (get_or bytes i 0) ≡ false = rw is refl in
    let none : list_all is_secret_byte bytes ≡ false = list_all_at is_secret_byte bytes i 0 inside bad in
    false≢true (sym none ∙ all)

-- nor is the last byte of what ends in a secret
last_of_end : (bytes : List ℕ) (n : ℕ) → is_secret (drop n bytes) ≡ true → slice_index bytes (length bytes - 1) ≡ 13 → ⊥
last_of_end bytes n secret is =
    let some : 1 ≤ length (drop n bytes) = leb-true _ _ (and_parts _ _ (and_parts _ _ secret).0).0 in
    let longer : n + (length (drop n bytes) - 1) ≡ length bytes - 1 = omega (arith, length-drop n bytes, some) in
    let same : get_or (drop n bytes) (length (drop n bytes) - 1) 0 ≡ get_or bytes (length bytes - 1) 0 =
    get_or-drop n bytes (length (drop n bytes) - 1) 0 ∙ ap (λ k. get_or bytes k 0) longer in
    no_return (drop n bytes) (length (drop n bytes) - 1) (omega (arith, some)) (and_parts _ _ secret).1 (same ∙ is)

-- a row ends in no carriage return
row_stays : (row : List ℕ) (account : Account) → row_of row ≡ Some account → strip_carriage_return row ≡ row
row_stays row account is =
    let secret = by_first_space row account (position is_space row) is in
    let end : is_secret (drop (secret.0 + secret.1) row) ≡ true = subst (λ bs. is_secret bs ≡ true) (drop-drop secret.1 secret.0 row) secret.2 in
    let other : (slice_index row (length row - 1) == 13) ≡ false = ne_eqb _ 13 (last_of_end row (secret.0 + secret.1) end) in
    ap (λ t. if t then take (length row - 1) row else row) other

no_line_feed : (row : List ℕ) → IsLine row → All (λ b. is_byte 10 b ≡ false) row
no_line_feed row line k d inside = ne_eqb _ 10 (line k d inside)

-- a row with its line feed is one line
row_line : (row : List ℕ) (account : Account) (more : List ℕ) → IsLine row → row_of row ≡ Some account → lines (row ++ 10 ∷ more) ≡ row ∷ lines more
row_line row account more line is = lines-more row more (no_line_feed row line) ∙ ap (λ r. r ∷ lines more) (row_stays row account is)

-- faults of lines that stand after others
option_or-assoc : {A : Type 0} (a b c : Option A) → option_or a (option_or b c) ≡ option_or (option_or a b) c
option_or-assoc None b c = refl
option_or-assoc (Some x) b c = refl

first_fault-append : (before more behind : List (List ℕ)) → first_fault before (more ++ behind) ≡ option_or (first_fault before more) (first_fault (before ++ more) behind)
first_fault-append before [] behind = ap (λ ls. first_fault ls behind) (sym (append-nil before))
first_fault-append before (line ∷ more) behind =
    let here = fault_of (length before + 1) (accounts_in before) line in
    ap (option_or here) (first_fault-append (before ++ line ∷ []) more behind)
    ∙ ap (λ ls. option_or here (option_or (first_fault (before ++ line ∷ []) more) (first_fault ls behind))) (append_assoc before (line ∷ []) more)
    ∙ option_or-assoc here (first_fault (before ++ line ∷ []) more) (first_fault (before ++ line ∷ more) behind)

-- a row whose name is new is no fault
no_fault : (number : ℕ) (accounts : List Account) (row : List ℕ) (account : Account) → row_of row ≡ Some account → has_account accounts account.name ≡ false → fault_of number accounts row ≡ None
no_fault number accounts [] account is new = refl
no_fault number accounts (b ∷ bs) account is new = rw is (rw new refl)

accounts_in-push : (ls : List (List ℕ)) (row : List ℕ) (account : Account) → row_of row ≡ Some account → accounts_in (ls ++ row ∷ []) ≡ accounts_in ls ++ account ∷ []
accounts_in-push ls row account is = filter_map-append row_of ls (row ∷ []) ∙ rw is refl

-- the account of a row that has one
pub account_in : (row name : List ℕ) → option_map name_of (row_of row) ≡ Some name → (account : Account) × (row_of row ≡ Some account) × (account.name ≡ name)
account_in row name is = by_row (row_of row) refl is
  where
    by_row : (found : Option Account) → row_of row ≡ found → option_map name_of found ≡ Some name → (account : Account) × (row_of row ≡ Some account) × (account.name ≡ name)
    by_row None same is = absurd (cc is)
    by_row (Some account) same is = (account, same, ap (λ o. unwrap_or o name) is)

module _ (bytes row : List ℕ) (account : Account) (rows : AreRows bytes) (line : IsLine row) (is : row_of row ≡ Some account) where
  lines-push : lines (bytes ++ (row ++ 10 ∷ [])) ≡ lines bytes ++ row ∷ []
  lines-push = rows.goes_on (row ++ 10 ∷ []) ∙ ap (λ ls. lines bytes ++ ls) (row_line row account [] line is)

  -- its account is one more
  pub accounts-push : accounts_written (bytes ++ (row ++ 10 ∷ [])) ≡ accounts_written bytes ++ account ∷ []
  accounts-push = ap accounts_in lines-push ∙ accounts_in-push (lines bytes) row account is

  goes_on-push : (more : List ℕ) → lines ((bytes ++ (row ++ 10 ∷ [])) ++ more) ≡ lines (bytes ++ (row ++ 10 ∷ [])) ++ lines more
  goes_on-push more =
      ap lines (append_assoc bytes (row ++ 10 ∷ []) more ∙ ap (λ bs. bytes ++ bs) (append_assoc row (10 ∷ []) more))
      ∙ rows.goes_on (row ++ 10 ∷ more)
      ∙ ap (λ ls. lines bytes ++ ls) (row_line row account more line is)
      ∙ sym (append_assoc (lines bytes) (row ∷ []) (lines more))
      ∙ ap (λ ls. ls ++ lines more) (sym lines-push)

  sound-push : has_account (accounts_written bytes) account.name ≡ false → first_fault [] (lines (bytes ++ (row ++ 10 ∷ []))) ≡ None
  sound-push new =
      let none : fault_of (length (lines bytes) + 1) (accounts_in (lines bytes)) row ≡ None = no_fault _ _ row account is new in
      ap (first_fault []) lines-push
      ∙ first_fault-append [] (lines bytes) (row ∷ [])
      ∙ ap (λ f. option_or f (option_or (fault_of (length (lines bytes) + 1) (accounts_in (lines bytes)) row) None)) rows.sound
      ∙ ap (λ f. option_or f None) none

  -- and the bytes are rows
  pub rows-push : has_account (accounts_written bytes) account.name ≡ false → AreRows (bytes ++ (row ++ 10 ∷ []))
  rows-push new = record { goes_on = goes_on-push; sound = sound-push new }
