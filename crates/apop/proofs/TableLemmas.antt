-- The accounts of a table from names to credentials.
use Rattle.std.proofs.Common.{◌≡◌, ◌≢◌, ℕ, false, List, [], ◌∷◌, ◌++◌, map, refl, sym, ap, ◌∙◌, arith}
use Rattle.std.specs.Prelude.{is_some}
use Rattle.std.specs.Map.{lookup}
use Rattle.std.specs.Option.{option_map}
use Rattle.std.specs.Str.{bytes_eq}
use Rattle.std.specs.Cmp.Lexicographic.{nat_list_eq_equiv}
use Rattle.std.proofs.lemmas.Bool.{false≢true}
use Rattle.std.proofs.lemmas.List.Folds.{list_any_at}
use Rattle.std.proofs.lemmas.List.Quantifiers.{all_pairs_push}
use Rattle.std.proofs.lemmas.Slice.Eq.{bytes_eq-Decides}
use Rattle.indexmap.specs.IndexMap.{insert_entry}
use Rattle.apop.specs.Accounts.{Account, has_account, name_of, HaveDifferentNames}
use Rattle.apop.specs.Login.{account_named}
use Rattle.apop.specs.Table.{account_with, accounts_in_table}
use Rattle.apop.specs.declared.credential.Credential.{Credential}

turned : (a b : List ℕ) → bytes_eq a b ≡ bytes_eq b a
turned a b = nat_list_eq_equiv.symm a b

-- an account whose name no other has keeps the names different
pub HaveDifferentNames-push : (accounts : List Account) (account : Account) → HaveDifferentNames accounts → has_account accounts account.name ≡ false → HaveDifferentNames (accounts ++ account ∷ [])
HaveDifferentNames-push accounts account different new =
    all_pairs_push (λ (a b : Account). a.name ≢ b.name) accounts account different (λ k d inside same.
    false≢true (sym new ∙ list_any_at (λ (a : Account). bytes_eq a.name account.name) accounts k d inside ((bytes_eq-Decides _ _).1 same)))

-- the names of one account more
pub names-push : (accounts : List Account) (account : Account) → map name_of (accounts ++ account ∷ []) ≡ map name_of accounts ++ account.name ∷ []
names-push [] account = refl
names-push (a ∷ accounts) account = ap (λ names. a.name ∷ names) (names-push accounts account)

module _ {A : Type 0} where
  -- a look-up finds an account of the name
  pub has_account-lookup : (name : List ℕ) (entries : List (List ℕ × Credential A)) → has_account (accounts_in_table entries) name ≡ is_some (lookup (bytes_eq name) entries)
  has_account-lookup name [] = refl
  has_account-lookup name (e ∷ es) = grind (arith, has_account-lookup name es, turned e.0 name)

  -- the account of a name is the one with the credential that a look-up finds
  pub account_named-lookup : (name : List ℕ) (entries : List (List ℕ × Credential A)) → account_named (accounts_in_table entries) name ≡ option_map (account_with name) (lookup (bytes_eq name) entries)
  account_named-lookup name [] = refl
  account_named-lookup name (e ∷ es) = grind (arith, account_named-lookup name es, turned e.0 name, bytes_eq-Decides e.0 name)

  -- a new name goes last
  pub accounts_in_table-insert : (entries : List (List ℕ × Credential A)) (name : List ℕ) (credential : Credential A) → has_account (accounts_in_table entries) name ≡ false
      → accounts_in_table (insert_entry bytes_eq entries name credential) ≡ accounts_in_table entries ++ account_with name credential ∷ []
  accounts_in_table-insert [] name credential new = refl
  accounts_in_table-insert (e ∷ es) name credential new = grind (arith, accounts_in_table-insert es name credential, turned e.0 name, new)
