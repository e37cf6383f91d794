-- What is known of a file while its lines are read.
use Rattle.std.proofs.Common.{◌≡◌, ℕ, ◌+◌, List, [], ◌∷◌, ◌++◌, length, Option, Some, None, refl, sym, ap, ◌∙◌, arith, append_assoc, length-append}
use Rattle.std.specs.Option.{option_or, option_to_list}
use Rattle.std.specs.List.{cons_option}
use Rattle.std.proofs.lemmas.List.Elements.{filter_map-append}
use Rattle.apop.specs.Accounts.{Account, row_of, accounts_in, fault_of, first_fault}
use Rattle.apop.specs.declared.error.AccountsError.{AccountsError}

-- Of the lines `all` those before `rest` are read: there are `number` of them, without a fault, and they have these
-- accounts.
pub record HasRead (all rest : List (List ℕ)) (accounts : List Account) (number : ℕ) : Type 0 where
  pub before : List (List ℕ)
  pub all_is : all ≡ before ++ rest
  pub number_is : number ≡ length before
  pub accounts_are : accounts ≡ accounts_in before
  pub no_fault : first_fault [] all ≡ first_fault before rest

-- an option before nothing, as a list
cons_option-nil : (account : Option Account) → cons_option account [] ≡ option_to_list account
cons_option-nil None = refl
cons_option-nil (Some account) = refl

-- the account that a line adds
accounts_in-one : (line : List ℕ) → accounts_in (line ∷ []) ≡ option_to_list (row_of line)
accounts_in-one line = cons_option-nil (row_of line)

-- the fault of the next line, in the words of the whole file
fault_is : (all : List (List ℕ)) (line : List ℕ) (rest : List (List ℕ)) (accounts : List Account) (number : ℕ) (fault : Option AccountsError) (h : HasRead all (line ∷ rest) accounts number) → fault_of (number + 1) accounts line ≡ fault → fault_of (length h.before + 1) (accounts_in h.before) line ≡ fault
fault_is all line rest accounts number fault h is = rw (← h.number_is, ← h.accounts_are) is

-- one more line without a fault
pub HasRead-more : (all : List (List ℕ)) (line : List ℕ) (rest : List (List ℕ)) (accounts : List Account) (number : ℕ) → HasRead all (line ∷ rest) accounts number → fault_of (number + 1) accounts line ≡ None → HasRead all rest (accounts ++ option_to_list (row_of line)) (number + 1)
HasRead-more all line rest accounts number h none = record {
  before = h.before ++ line ∷ [];
  all_is = h.all_is ∙ sym (append_assoc h.before (line ∷ []) rest);
  number_is = omega (arith, h.number_is, length-append h.before (line ∷ []));
  accounts_are = rw h.accounts_are (rw (filter_map-append row_of h.before (line ∷ []), accounts_in-one line) refl);
  no_fault = h.no_fault ∙ ap (λ f. option_or f (first_fault (h.before ++ line ∷ []) rest)) (fault_is all line rest accounts number None h none);
}
