-- The language of scripts: one statement a line, a word and then others, with one space between.
use Rattle.std.specs.Prelude.{ℕ, ◌==◌, ◌&&◌, nat_lt, nat_le, List, [], ◌∷◌, length, codes, if◌then◌else◌, Option, None, Some, option_and_then, is_some, Result, Ok, Err}
use Rattle.std.specs.Option.{option_map}
use Rattle.std.specs.Str.{bytes_eq}
use Rattle.apop.specs.Accounts.{cut_at_space, row_of}
use Rattle.maildrop.specs.Limits.{Limits, most_messages, most_octets, highest_id}
use Rattle.script.specs.Names.{name_of}
use Rattle.pop3_wire.specs.declared.line.Line.{Line}
use Rattle.pop3_wire.specs.declared.line.Line.TheVariants.{Whole, TooLong}
use Rattle.script.specs.Kinds.{kind_named}
use Rattle.script.specs.Words.{number_between, number_of, node_of, key_of, is_nonce, is_host, last_node, widest_window}
use Rattle.script.specs.declared.message_kind.MessageKind.{MessageKind}
use Rattle.script.specs.declared.keyword.Keyword.{Keyword}
use Rattle.script.specs.declared.keyword.Keyword.TheVariants as keyword
use Rattle.script.specs.declared.keyword.SettingKeyword.{SettingKeyword}
use Rattle.script.specs.declared.keyword.SettingKeyword.TheVariants as word
use Rattle.script.specs.declared.command.Command.{Command}
use Rattle.script.specs.declared.command.Command.TheVariants as command
use Rattle.script.specs.declared.setting.Setting.{Setting}
use Rattle.script.specs.declared.setting.Setting.TheVariants as setting
use Rattle.script.specs.declared.statement.Statement.{Statement}
use Rattle.script.specs.declared.statement.Statement.TheVariants as statement
use Rattle.script.specs.declared.fault.ScriptFault.{ScriptFault}
use Rattle.script.specs.declared.fault.ScriptFault.TheVariants.{NoStatement}

abbrev pub event_keyword_of : List ℕ → Option Keyword
event_keyword_of bytes =
    if bytes_eq bytes (codes "break") then Some keyword.Break
    else if bytes_eq bytes (codes "connect") then Some keyword.Connect
    else if bytes_eq bytes (codes "hangup") then Some keyword.Hangup
    else if bytes_eq bytes (codes "tick") then Some keyword.Tick
    else if bytes_eq bytes (codes "campaign") then Some keyword.Campaign
    else if bytes_eq bytes (codes "crash") then Some keyword.Crash
    else if bytes_eq bytes (codes "deliver") then Some keyword.Deliver
    else if bytes_eq bytes (codes "storm") then Some keyword.Storm
    else if bytes_eq bytes (codes "order") then Some keyword.Order
    else None

abbrev pub keyword_of : List ℕ → Option Keyword
keyword_of bytes =
    if bytes_eq bytes (codes "line") then Some keyword.Line
    else if bytes_eq bytes (codes "settle") then Some keyword.Settle
    else if bytes_eq bytes (codes "mail") then Some keyword.Mail
    else if bytes_eq bytes (codes "keyed") then Some keyword.Keyed
    else event_keyword_of bytes

abbrev pub setting_keyword_of : List ℕ → Option SettingKeyword
setting_keyword_of bytes =
    if bytes_eq bytes (codes "nodes") then Some word.Nodes
    else if bytes_eq bytes (codes "limits") then Some word.Limits
    else if bytes_eq bytes (codes "window") then Some word.Window
    else if bytes_eq bytes (codes "host") then Some word.Host
    else if bytes_eq bytes (codes "account") then Some word.Account
    else None

abbrev pub last_session : ℕ
last_session = 999999999

-- an `s`, and then a number of at most nine digits
abbrev pub session_of : List ℕ → Option ℕ
session_of [] = None
session_of (first ∷ digits) = if first == 115 then number_between 0 last_session digits else None

-- the most bytes of a client's line before its CR and LF
abbrev pub longest_sent : ℕ
longest_sent = 510

-- the line that a client sends, with a CR and an LF after it
abbrev pub sent_line : List ℕ → Line
sent_line bytes = if nat_lt longest_sent (length bytes) then TooLong else Whole bytes

-- mail for a user, written in one line
abbrev pub mail_of : Option ℕ → Option (List ℕ) → List ℕ → Option Command
mail_of (Some at) (Some user) written = Some (command.Mail at user None written)
mail_of at user written = None

-- NODE USER REST
abbrev pub mail_in : List ℕ → Option Command
mail_in rest =
    option_and_then (λ (node, behind). option_and_then (λ (user, written). mail_of (node_of node) (name_of user) written) (cut_at_space behind)) (cut_at_space rest)

abbrev pub keyed_of : Option ℕ → Option (List ℕ) → Option (List ℕ) → List ℕ → Option Command
keyed_of (Some at) (Some user) (Some key) written = Some (command.Mail at user (Some key) written)
keyed_of at user key written = None

-- NODE USER KEY REST
abbrev pub keyed_in : List ℕ → Option Command
keyed_in rest =
    option_and_then (λ (node, behind). option_and_then (λ (user, more). option_and_then (λ (key, written). keyed_of (node_of node) (name_of user) (key_of key) written) (cut_at_space more)) (cut_at_space behind)) (cut_at_space rest)

module _ {A B : Type 0} where
  -- both, if both are there
  abbrev pub both_of : Option A → Option B → Option (A × B)
  both_of (Some a) (Some b) = Some (a, b)
  both_of a b = None

-- NODE USER
abbrev pub node_and_user : List ℕ → Option (ℕ × List ℕ)
node_and_user rest = option_and_then (λ (node, user). both_of (node_of node) (name_of user)) (cut_at_space rest)

abbrev pub connect_of : Option ℕ → Option ℕ → List ℕ → Option Command
connect_of (Some session) (Some at) nonce = if is_nonce nonce then Some (command.Connect session at nonce) else None
connect_of session at nonce = None

-- S NODE NONCE
abbrev pub connect_in : List ℕ → Option Command
connect_in rest =
    option_and_then (λ (session, behind). option_and_then (λ (node, nonce). connect_of (session_of session) (node_of node) nonce) (cut_at_space behind)) (cut_at_space rest)

-- S REST
abbrev pub line_in : List ℕ → Option Command
line_in rest = option_and_then (λ (session, sent). option_map (λ number. command.Line number (sent_line sent)) (session_of session)) (cut_at_space rest)

abbrev pub deliver_of : Option ℕ → Option ℕ → Option MessageKind → Option Command
deliver_of (Some from) (Some to) (Some kind) = Some (command.Deliver from to kind)
deliver_of from to kind = None

-- FROM TO KIND
abbrev pub deliver_in : List ℕ → Option Command
deliver_in rest =
    option_and_then (λ (from, behind). option_and_then (λ (to, kind). deliver_of (node_of from) (node_of to) (kind_named kind)) (cut_at_space behind)) (cut_at_space rest)

-- COPIES LIMIT
abbrev pub storm_in : List ℕ → Option Command
storm_in rest = option_and_then (λ (copies, limit). option_map (λ both. command.Storm both.0 both.1) (both_of (number_of copies) (number_of limit))) (cut_at_space rest)

-- the command of a keyword and what stands after its space
abbrev pub command_with : Keyword → List ℕ → Option Command
command_with keyword.Mail rest = mail_in rest
command_with keyword.Keyed rest = keyed_in rest
command_with keyword.Break rest = option_map (λ both. command.Break both.0 both.1) (node_and_user rest)
command_with keyword.Connect rest = connect_in rest
command_with keyword.Line rest = line_in rest
command_with keyword.Hangup rest = option_map command.Hangup (session_of rest)
command_with keyword.Tick rest = option_map command.Tick (node_of rest)
command_with keyword.Campaign rest = option_map command.Campaign (node_of rest)
command_with keyword.Crash rest = option_map command.Crash (node_of rest)
command_with keyword.Deliver rest = deliver_in rest
command_with keyword.Settle rest = option_map command.Settle (number_of rest)
command_with keyword.Storm rest = storm_in rest
command_with keyword.Order rest = option_map command.Order (node_of rest)

-- the number of nodes
abbrev pub cluster_of : List ℕ → Option ℕ
cluster_of rest = number_between 1 last_node rest

abbrev pub limits_with : Option ℕ → Option ℕ → Option ℕ → Option Limits
limits_with (Some messages) (Some octets) (Some ids) =
    if nat_le messages most_messages && nat_le octets most_octets && nat_le ids highest_id
    then Some (record { messages = messages; octets = octets; ids = ids })
    else None
limits_with messages octets ids = None

-- MESSAGES OCTETS IDS
abbrev pub limits_of : List ℕ → Option Limits
limits_of rest =
    option_and_then (λ (messages, behind). option_and_then (λ (octets, ids). limits_with (number_of messages) (number_of octets) (number_of ids)) (cut_at_space behind)) (cut_at_space rest)

abbrev pub window_of : List ℕ → Option ℕ
window_of rest = number_between 1 widest_window rest

-- the setting of a keyword and what stands after its space
abbrev pub setting_with : SettingKeyword → List ℕ → Option Setting
setting_with word.Nodes rest = option_map setting.Nodes (cluster_of rest)
setting_with word.Limits rest = option_map setting.Limits (limits_of rest)
setting_with word.Window rest = option_map setting.Window (window_of rest)
setting_with word.Host rest = if is_host rest then Some (setting.Host rest) else None
setting_with word.Account rest = if is_some (row_of rest) then Some (setting.Account rest) else None

abbrev pub statement_by : Option SettingKeyword → Option Keyword → List ℕ → Option Statement
statement_by (Some word) other rest = option_map statement.Setting (setting_with word rest)
statement_by None (Some word) rest = option_map statement.Command (command_with word rest)
statement_by None None rest = None

-- the statement of a first word and what stands after its space
abbrev pub statement_with : List ℕ → List ℕ → Option Statement
statement_with bytes rest = statement_by (setting_keyword_of bytes) (keyword_of bytes) rest

-- `lose` is the one statement of a single word
abbrev pub single_word : List ℕ → Option Statement
single_word line = if bytes_eq line (codes "lose") then Some (statement.Command command.Lose) else None

abbrev pub statement_cut : Option (List ℕ × List ℕ) → List ℕ → Option Statement
statement_cut None line = single_word line
statement_cut (Some parts) line = statement_with parts.0 parts.1

abbrev pub statement_of : List ℕ → Option Statement
statement_of line = statement_cut (cut_at_space line) line

abbrev pub or_fault : Option Statement → Result (Option Statement) ScriptFault
or_fault None = Err NoStatement
or_fault (Some it) = Ok (Some it)

-- what a line says: an empty one nothing
abbrev pub parsed : List ℕ → Result (Option Statement) ScriptFault
parsed [] = Ok None
parsed (first ∷ bytes) = or_fault (statement_of (first ∷ bytes))
