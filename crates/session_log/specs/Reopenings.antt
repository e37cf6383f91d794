-- Requests to open the log file anew.
use Rattle.std.specs.Prelude.{ℕ, ◌-◌, nat_eq, nat_le, Bool, false, Option, Some, None, if◌then◌else◌}
use Rattle.ports.specs.declared.fault.Fault.{Fault}
use Rattle.ports.specs.declared.fault.Fault.TheVariants as fault

-- after how many lines the file is opened anew, once one of them is taken
abbrev pub one_less : Option ℕ → Option ℕ
one_less None = None
one_less (Some before) = Some (before - 1)

-- the file is opened anew before the next line
abbrev pub is_due : Option ℕ → Bool
is_due None = false
is_due (Some before) = nat_eq before 0

-- the last of the requests, if there is one that the writer hasn't taken
abbrev pub number_of : Option ℕ → ℕ → Option ℕ
number_of None asked = None
number_of (Some before) asked = Some asked

-- why the file isn't opened anew for a request, if it isn't: the writer has tried those up to one number, and has opened it for
-- those up to another one
abbrev pub fault_of : (number tried reopened : ℕ) → Option Fault
fault_of number tried reopened =
    if nat_le number reopened then None
    else if nat_le number tried then Some fault.Log
    else Some fault.Write
