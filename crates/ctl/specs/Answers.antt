-- What an operator is answered.
use Rattle.std.specs.Prelude.{◌≡◌, ℕ, nat_eq, List, ◌||◌, ◌&&◌, ◌⊎◌, Bool, true, false, None, Result, Ok, Err, codes, if◌then◌else◌}
use Rattle.std.specs.List.{starts_with}
use Rattle.std.specs.Option.{option_or}
use Rattle.std.specs.Str.{bytes_eq}
use Rattle.script.specs.declared.request.Request.{Request}
use Rattle.script.specs.declared.request.Request.TheVariants as request
use Rattle.script.specs.declared.instruction.Instruction.{Instruction}
use Rattle.script.specs.declared.instruction.Instruction.TheVariants as instruction
use Rattle.ctl.specs.Outcomes.{outcome_of}
use Rattle.ctl.specs.declared.answer.Answer.{Answer}
use Rattle.ctl.specs.declared.answer.Ending.{Ending}
use Rattle.ctl.specs.declared.answer.Ending.TheVariants.{Broken, Refused, Wrong, Done}
use Rattle.ports.specs.declared.fault.Fault.{Fault}
use Rattle.ports.specs.declared.fault.Fault.TheVariants.{Read}

-- the answer may have to wait until the nodes have decided, or those of the next epoch lead, however long that takes
abbrev pub awaits_nodes : Request → Bool
awaits_nodes (request.Deliver node user count key) = true
awaits_nodes (request.Put addressed user count key) = true
awaits_nodes (request.Break node user) = true
awaits_nodes (request.Kick user) = false
awaits_nodes (request.Crash node) = false
awaits_nodes request.Status = false
awaits_nodes request.Sessions = false
awaits_nodes request.Stats = false
awaits_nodes request.Locks = false
awaits_nodes request.Users = false
awaits_nodes request.Roll = true
awaits_nodes request.Reopen = false
awaits_nodes (request.Stop now wait) = false

abbrev pub awaits_answer : Instruction → Bool
awaits_answer (instruction.Deliver node user file key) = true
awaits_answer (instruction.Put addressed user key) = true
awaits_answer (instruction.Ask asked) = awaits_nodes asked

-- the answer ends with a verdict
abbrev pub awaits_verdict : Instruction → Bool
awaits_verdict (instruction.Ask (request.Stop now wait)) = wait
awaits_verdict asked = false

-- a line that reports that the request wasn't done
abbrev pub is_refusal : List ℕ → Bool
is_refusal line =
    bytes_eq line (codes "bad request") || bytes_eq line (codes "bad mbox") || bytes_eq line (codes "down")
    || starts_with nat_eq line (codes "roll failed: ") || starts_with nat_eq line (codes "reopen failed: ")

abbrev pub is_verdict : List ℕ → Bool
is_verdict line = starts_with nat_eq line (codes "audit ")

-- the last line of an answer to a request to stop. If the end is waited for, it is the verdict that all is in order, or
-- `stopped` for one node of several, which has no verdict
abbrev pub ends_stop : Bool → List ℕ → Bool
ends_stop waits line =
    if waits then bytes_eq line (codes "audit ok") || bytes_eq line (codes "stopped") else bytes_eq line (codes "stopping")

-- the last line of an answer to the delivery of one message
abbrev pub ends_put : List ℕ → Bool
ends_put line = bytes_eq line (codes "end") || bytes_eq line (codes "no such user")

-- the last line of a whole answer to a request
abbrev pub ends_request : Request → List ℕ → Bool
ends_request (request.Deliver node user count key) line = bytes_eq line (codes "end")
ends_request (request.Put addressed user count key) line = ends_put line
ends_request (request.Break node user) line = bytes_eq line (codes "done") || bytes_eq line (codes "no such user")
ends_request (request.Kick user) line = starts_with nat_eq line (codes "kicked ")
ends_request (request.Crash node) line = bytes_eq line (codes "crashed")
ends_request request.Status line = bytes_eq line (codes "end")
ends_request request.Sessions line = bytes_eq line (codes "end")
ends_request request.Stats line = bytes_eq line (codes "end")
ends_request request.Locks line = bytes_eq line (codes "end")
ends_request request.Users line = bytes_eq line (codes "end")
ends_request request.Roll line = bytes_eq line (codes "rolled")
ends_request request.Reopen line = bytes_eq line (codes "reopened")
ends_request (request.Stop now wait) line = ends_stop wait line

abbrev pub ends_answer : Instruction → List ℕ → Bool
ends_answer (instruction.Deliver node user file key) line = bytes_eq line (codes "end")
ends_answer (instruction.Put addressed user key) line = ends_put line
ends_answer (instruction.Ask request) line = ends_request request line

-- how an answer ends whose last line this is
abbrev pub ending_by : Instruction → List ℕ → Ending
ending_by asked line =
    if is_refusal line then Refused
    else if ends_answer asked line then Done
    else if awaits_verdict asked && is_verdict line then Wrong
    else Broken

-- the exit status that it brings
abbrev pub status_of : Ending → Result ℕ Fault
status_of Broken = Err Read
status_of Refused = Ok 3
status_of Wrong = Ok 1
status_of Done = Ok 0

-- the exit statuses after an answer
abbrev pub IsStatus : ℕ → Type 0
IsStatus status = (status ≡ 0) ⊎ (status ≡ 1) ⊎ (status ≡ 3)

abbrev pub broken : Ending
broken = Broken

-- nothing was heard
abbrev pub unheard : Answer
unheard = record { ending = Broken; outcome = None }

-- one more line was heard
abbrev pub heard : Instruction → List ℕ → Answer → Answer
heard asked line answer =
    record { ending = ending_by asked line; outcome = option_or (outcome_of line) answer.outcome }
