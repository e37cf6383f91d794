-- Why an accounts file is refused, and why a node isn't marked.
use Rattle.std.specs.Prelude.{◌≡◌, ℕ, List, Option, Some, None, Result, Ok, Err}
use Rattle.apop.specs.Accounts as accounts
use Rattle.apop.specs.declared.error.AccountsError.{AccountsError}
use Rattle.apop.specs.declared.error.AccountsError.TheVariants as error
use Rattle.ports.specs.declared.fault.Fault.{Fault}
use Rattle.ports.specs.declared.fault.Fault.TheVariants.{Account, NameTwice, StartedBefore, Mark, Memory}

-- the fault of an accounts file that is malformed
abbrev pub fault_of : AccountsError → Fault
fault_of (error.Line line) = Account line
fault_of (error.Twice line) = NameTwice line
fault_of error.Memory = Memory

-- the fault of a file that holds these accounts, or is none
abbrev pub fault_in : Result (List accounts.Account) AccountsError → Option Fault
fault_in (Ok accounts) = None
fault_in (Err error) = Some (fault_of error)

-- what may be reported if a node isn't marked: it was started before, its mark can't be made, or out of memory
abbrev pub IsMarkFault : ℕ → Fault → Type 0
IsMarkFault node (StartedBefore number) = number ≡ node
IsMarkFault node Mark = Unit {0}
IsMarkFault node Memory = Unit {0}
IsMarkFault node fault = ⊥
