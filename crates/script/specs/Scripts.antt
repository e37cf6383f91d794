-- A script as it is read: its settings come first.
use Rattle.std.specs.Prelude.{ℕ, Bool, true, false, List, [], ◌∷◌, ◌++◌, codes, if◌then◌else◌, Option, None, Some, Result, Ok, Err}
use Rattle.apop.specs.Accounts.{Account, has_account, row_of}
use Rattle.maildrop.specs.Limits.{Limits}
use Rattle.script.specs.Commands.{parsed}
use Rattle.script.specs.declared.command.Command.{Command}
use Rattle.script.specs.declared.setting.Setting.{Setting}
use Rattle.script.specs.declared.setting.Setting.TheVariants as setting
use Rattle.script.specs.declared.statement.Statement.{Statement}
use Rattle.script.specs.declared.statement.Statement.TheVariants as statement
use Rattle.script.specs.declared.fault.ScriptFault.{ScriptFault}
use Rattle.script.specs.declared.fault.ScriptFault.TheVariants.{NoStatement, LateSetting, NameTwice}

pub record Settings : Type 0 where
  -- how many nodes there are
  pub cluster : ℕ
  pub limits : Limits
  pub window : ℕ
  pub host : List ℕ
  -- in the order of their lines
  pub accounts : List Account

abbrev pub default_limits : Limits
default_limits = record { messages = 1000; octets = 1000000; ids = 1000000 }

-- what a script has that sets nothing
abbrev pub default_settings : Settings
default_settings = record { cluster = 1; limits = default_limits; window = 10; host = codes "localhost"; accounts = [] }

-- accounts and one more, whose name is new
abbrev pub with_account : List Account → Option Account → Result (List Account) ScriptFault
with_account accounts None = Err NoStatement
with_account accounts (Some account) = if has_account accounts account.name then Err NameTwice else Ok (accounts ++ account ∷ [])

abbrev pub or_fault : Settings → Result (List Account) ScriptFault → Result Settings ScriptFault
or_fault s (Ok accounts) = Ok (record { cluster = s.cluster; limits = s.limits; window = s.window; host = s.host; accounts = accounts })
or_fault s (Err fault) = Err fault

-- a setting takes the place of what was set before, but accounts come one to another
abbrev pub with_setting : Settings → Setting → Result Settings ScriptFault
with_setting s (setting.Nodes cluster) = Ok (record { cluster = cluster; limits = s.limits; window = s.window; host = s.host; accounts = s.accounts })
with_setting s (setting.Limits limits) = Ok (record { cluster = s.cluster; limits = limits; window = s.window; host = s.host; accounts = s.accounts })
with_setting s (setting.Window window) = Ok (record { cluster = s.cluster; limits = s.limits; window = window; host = s.host; accounts = s.accounts })
with_setting s (setting.Host host) = Ok (record { cluster = s.cluster; limits = s.limits; window = s.window; host = host; accounts = s.accounts })
with_setting s (setting.Account row) = or_fault s (with_account s.accounts (row_of row))

-- the settings so far, and whether a command stood after them
pub record Script : Type 0 where
  pub settings : Settings
  pub begun : Bool

abbrev pub new_script : Script
new_script = record { settings = default_settings; begun = false }

abbrev pub set_or_fault : Result Settings ScriptFault → Result (Option Command × Script) ScriptFault
set_or_fault (Ok settings) = Ok (None, record { settings = settings; begun = false })
set_or_fault (Err fault) = Err fault

-- after a command nothing is set any more
abbrev pub set : Script → Setting → Result (Option Command × Script) ScriptFault
set script it = if script.begun then Err LateSetting else set_or_fault (with_setting script.settings it)

abbrev pub read_statement : Script → Result (Option Statement) ScriptFault → Result (Option Command × Script) ScriptFault
read_statement script (Err fault) = Err fault
read_statement script (Ok None) = Ok (None, script)
read_statement script (Ok (Some (statement.Setting it))) = set script it
read_statement script (Ok (Some (statement.Command it))) = Ok (Some it, record { settings = script.settings; begun = true })

-- a line: the command on it, if there is one, and the script after it
abbrev pub read_line : Script → List ℕ → Result (Option Command × Script) ScriptFault
read_line script line = read_statement script (parsed line)
