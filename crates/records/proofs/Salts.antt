-- The salt that a reader knows is that of the file.
use Rattle.std.proofs.Common.{◌≡◌, ℕ, List, ◌++◌, Option, Some, ap, ◌∙◌}
use Rattle.records.specs.Readers.{IsIn, salt_in}
use Rattle.records.specs.Spelling.{file_of}
use Rattle.records.specs.declared.phase.Phase.{Phase}
use Rattle.records.specs.declared.phase.Phase.TheVariants.{Head, Records, Search, Damaged, Other}

pub record HasSalt (salt : ℕ) (bytes : List ℕ) (payloads : List (List ℕ)) : Type 0 where
  pub rest : List ℕ
  pub parts : bytes ≡ file_of salt payloads ++ rest

same_some : {X : Type 0} {x y : X} → Some x ≡ Some y → x ≡ y
same_some e = cc

pub has_salt : (phase : Phase) (bytes : List ℕ) (given : List (List ℕ)) (place : ℕ) (kept : List ℕ) (salt : ℕ) → IsIn phase bytes given place kept → salt_in phase ≡ Some salt → HasSalt salt bytes given
has_salt Head bytes given place kept salt is same = absurd (cc)
has_salt (Records s) bytes given place kept salt is same = record { rest = kept; parts = is.parts ∙ ap (λ (x : ℕ). file_of x given ++ kept) (same_some same) }
has_salt (Search s bad) bytes given place kept salt is same = record { rest = is.tail; parts = is.stopped.among.parts ∙ ap (λ (x : ℕ). file_of x given ++ is.tail) (same_some same) }
has_salt (Damaged bad) bytes given place kept salt is same = absurd (cc)
has_salt Other bytes given place kept salt is same = absurd (cc)
