-- Why a service refuses an event, as a script's output tells it.
use Rattle.std.specs.Prelude.{ℕ, List, []}
use Rattle.script.specs.Output.{refusal_line}
use Rattle.script.specs.declared.refusal.Refusal.TheVariants as told
use Rattle.runs.specs.declared.refused.Refused.{Refused}
use Rattle.runs.specs.declared.refused.Refused.TheVariants as refused

-- the line of a refusal. A script that ran out of memory doesn't go on, so nothing is printed
abbrev pub refused_line : Refused → List ℕ
refused_line refused.NotSent = refusal_line told.NotSent
refused_line refused.Down = refusal_line told.Down
refused_line refused.NoSession = refusal_line told.NoSession
refused_line refused.Busy = refusal_line told.Busy
refused_line refused.NoSuchUser = refusal_line told.NoSuchUser
refused_line refused.SessionExists = refusal_line told.SessionExists
refused_line refused.Memory = []
