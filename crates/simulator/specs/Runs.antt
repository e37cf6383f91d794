-- What a whole script writes.
use Rattle.std.specs.Prelude.{ℕ, List, [], ◌∷◌, Option, Some, None, Result, Ok, Err}
use Rattle.std.specs.Str.Lines.{lines}
use Rattle.script.specs.Scripts.{Script, Settings, new_script, read_line}
use Rattle.script.specs.declared.command.Command.{Command}
use Rattle.script.specs.declared.fault.ScriptFault.{ScriptFault}
use Rattle.std.specs.declared.alloc.Global.{Global}
use Rattle.simulator.specs.Plays.{Play, new_play, performed}
use Rattle.simulator.specs.Told.{Told, followed, silent}
use Rattle.simulator.specs.declared.run.Run as code

-- a script as far as it is read, and the service that it drives, from its first command on
pub record Run (A : Type 0) : Type 0 where
  pub script : Script
  pub play : Option (Play A)

module _ {A : Type 0} where
  abbrev pub new_run : Run A
  new_run = record { script = new_script; play = None }

  -- the service, which begins with the first command, as the script has set it
  abbrev pub begun : Settings → Option (Play A) → Play A
  begun settings None = new_play settings
  begun settings (Some play) = play

  abbrev pub with_play : Script → Told (Play A) → Told (Run A)
  with_play script t = record { state = record { script = script; play = Some t.state }; text = t.text }

  -- the command on a line is done; an empty line and a setting have none
  abbrev pub line_told : Option (Play A) → Option Command × Script → Told (Run A)
  line_told play (None, script) = silent (record { script = script; play = play })
  line_told play (Some command, script) = with_play script (performed script.settings.host command (begun script.settings play))

  abbrev pub told_by : (Run A → Told (Run A)) → Run A → Result (Option Command × Script) ScriptFault → Told (Run A)
  told_by rest run (Err fault) = silent run
  told_by rest run (Ok read) = followed (line_told run.play read) rest

  -- the lines of a script are read and done, one after another, up to the first at fault
  abbrev pub lines_told : List (List ℕ) → Run A → Told (Run A)
  lines_told [] run = silent run
  lines_told (line ∷ lines) run = told_by (lines_told lines) run (read_line run.script line)

-- a run as the code has it, without what is still to be written
abbrev pub run_of : code.Run → Run Global
run_of run = record { script = run.script; play = run.play }

-- all that a script writes, up to its first line at fault
abbrev pub output : (A : Type 0) → List ℕ → List ℕ
output A input = (lines_told (lines input) (new_run {A = A})).text
