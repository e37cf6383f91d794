-- What an audit finds.
use Rattle.std.specs.Prelude.{◌≡◌, ◌<◌, ◌≤◌, ℕ, length, List, [], Some, true}
use Rattle.audit.specs.Case.{Case}
use Rattle.audit.specs.Order.{IsLegalOrder}
use Rattle.audit.specs.Placing.{IsPlacing, is_stuck}
use Rattle.audit.specs.Wrong.{first_wrong}
use Rattle.audit.specs.declared.audit_error.AuditError.{AuditError}
use Rattle.audit.specs.declared.audit_error.AuditError.TheVariants.{NoOrder, WrongAnswer, Memory}
use Rattle.audit.specs.declared.event.Event.{Event}

abbrev pub error_number : AuditError → ℕ
error_number (NoOrder number) = 1
error_number (WrongAnswer which) = 2
error_number Memory = 3

module _ {S I E K O L : Type 0} (a : Case S I E K O L) where
  -- so many inputs of each log can be placed, one at a time
  pub record IsReached (placed : ℕ → ℕ) : Type 0 where
    pub order : List ℕ
    pub steps : IsPlacing a order placed

  -- all inputs can be placed
  pub record IsWhole : Type 0 where
    pub placed : ℕ → ℕ
    pub reached : IsReached placed
    pub all : (n : ℕ) → placed n ≡ length (a.logs n)

  -- inputs are placed until none can be placed, some are left, and this is the least number of a node that has one
  pub record IsStuckAt (number : ℕ) : Type 0 where
    pub placed : ℕ → ℕ
    pub reached : IsReached placed
    pub stuck : is_stuck a placed ≡ true
    pub node : ℕ
    pub its : a.number node ≡ number
    pub left : placed node < length (a.logs node)
    pub least : (n : ℕ) → placed n < length (a.logs n) → number ≤ a.number n

  -- why an audit gives no events
  abbrev pub IsCause : AuditError → Type 0
  IsCause (NoOrder number) = IsStuckAt number
  IsCause (WrongAnswer which) = IsWhole × (first_wrong a 0 [] a.scripts ≡ Some which)
  IsCause Memory = Unit {0}

  -- after NoOrder there is none
  abbrev pub HasNoOrder : AuditError → Type 0
  HasNoOrder (NoOrder number) = (events : List Event) → IsLegalOrder a events → ⊥
  HasNoOrder (WrongAnswer which) = Unit {0}
  HasNoOrder Memory = Unit {0}
