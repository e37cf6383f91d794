-- How a script's run ends.
use Rattle.std.specs.Prelude.{ℕ, ◌+◌, List, [], ◌∷◌, Option, Some, None, Result, Ok, Err}
use Rattle.std.specs.Str.Lines.{lines}
use Rattle.script.specs.Scripts.{Script, new_script, read_line}
use Rattle.script.specs.declared.command.Command.{Command}
use Rattle.script.specs.declared.fault.ScriptFault.{ScriptFault}
use Rattle.script.specs.declared.fault.ScriptFault.TheVariants.{Memory}
use Rattle.simulator.specs.declared.fault.Fault.{Fault}
use Rattle.simulator.specs.declared.fault.Fault.TheVariants as fault

abbrev pub status_at : Fault → ℕ
status_at (fault.Line number) = 2
status_at fault.Memory = 1
status_at fault.Read = 1
status_at fault.Write = 1

-- the number of the line that a fault is of
abbrev pub line_at : Fault → Option ℕ
line_at (fault.Line number) = Some number
line_at fault.Memory = None
line_at fault.Read = None
line_at fault.Write = None

-- the fault of the line of this number
abbrev pub fault_at : ℕ → ScriptFault → Fault
fault_at number Memory = fault.Memory
fault_at number other = fault.Line number

abbrev pub fault_by : (Script → Option ℕ) → ℕ → Result (Option Command × Script) ScriptFault → Option ℕ
fault_by rest number (Ok read) = rest read.1
fault_by rest number (Err error) = Some number

-- the number of the first of these lines that is none of the language or stands where it may not, where they stand from
-- this number on after what is read
abbrev pub fault_from : List (List ℕ) → ℕ → Script → Option ℕ
fault_from [] number script = None
fault_from (line ∷ lines) number script = fault_by (fault_from lines (number + 1)) number (read_line script line)

-- the number of a script's first line at fault, counted from 1
abbrev pub first_fault : List ℕ → Option ℕ
first_fault input = fault_from (lines input) 1 new_script
