-- Worked examples of the definitions.
use Rattle.std.specs.Prelude.{◌≡◌, ℕ, List, [], ◌∷◌, ◌++◌, replicate, refl, codes, true, false, None, Some, Ok, Err, Result, Option}
use Rattle.std.specs.Fmt.{digits}
use Rattle.apop.specs.declared.method.Method.TheVariants.{Pass}
use Rattle.maildrop.specs.declared.outcome.Outcome.TheVariants as outcome
use Rattle.maildrop.specs.declared.op.Op.TheVariants as op
use Rattle.pop3_wire.specs.declared.line.Line.TheVariants.{Whole, TooLong}
use Rattle.script.specs.Beginnings.{may_begin_line}
use Rattle.script.specs.Commands.{parsed}
use Rattle.script.specs.Instructions.{instruction_of}
use Rattle.script.specs.Output.{outcome_line, performed_line, refusal_line, reply_lines, slot_line}
use Rattle.script.specs.Requests.{request_of, request_text}
use Rattle.script.specs.Scripts.{Script, default_settings, new_script, read_line}
use Rattle.script.specs.Written.{lines_of}
use Rattle.script.specs.declared.command.Command.{Command}
use Rattle.script.specs.declared.command.Command.TheVariants as command
use Rattle.script.specs.declared.fault.ScriptFault.{ScriptFault}
use Rattle.script.specs.declared.fault.ScriptFault.TheVariants.{NoStatement, LateSetting, NameTwice}
use Rattle.script.specs.declared.instruction.Instruction.{Instruction}
use Rattle.script.specs.declared.instruction.Instruction.TheVariants as instruction
use Rattle.script.specs.declared.instruction.WordsFault.{WordsFault}
use Rattle.script.specs.declared.instruction.WordsFault.TheVariants as words_fault
use Rattle.script.specs.declared.message_kind.MessageKind.TheVariants as kind
use Rattle.script.specs.declared.refusal.Refusal.TheVariants as refusal
use Rattle.script.specs.declared.request.Request.{Request}
use Rattle.script.specs.declared.request.Request.TheVariants as request
use Rattle.script.specs.declared.setting.Setting.{Setting}
use Rattle.script.specs.declared.setting.Setting.TheVariants as setting
use Rattle.script.specs.declared.statement.Statement.{Statement}
use Rattle.script.specs.declared.statement.Statement.TheVariants as statement

abbrev says : Command → Result (Option Statement) ScriptFault
says it = Ok (Some (statement.Command it))

abbrev sets : Setting → Result (Option Statement) ScriptFault
sets it = Ok (Some (statement.Setting it))

empty_line : parsed [] ≡ Ok None
empty_line = refl

unknown_word : parsed (codes "campain 1") ≡ Err NoStatement
unknown_word = refl

-- mail, and its lines
mail : parsed (codes "mail 1 alice Subject: a1||one") ≡ says (command.Mail 1 (codes "alice") None (codes "Subject: a1||one"))
mail = refl

mail_lines : lines_of (codes "Subject: a1||one") ≡ codes "Subject: a1" ∷ [] ∷ codes "one" ∷ []
mail_lines = refl

no_mail_lines : lines_of [] ≡ [] ∷ []
no_mail_lines = refl

mail_empty : parsed (codes "mail 1 alice ") ≡ says (command.Mail 1 (codes "alice") None [])
mail_empty = refl

mail_without_space : parsed (codes "mail 1 alice") ≡ Err NoStatement
mail_without_space = refl

two_spaces : parsed (codes "mail 1  alice x") ≡ Err NoStatement
two_spaces = refl

keyed : parsed (codes "keyed 1 alice k1 Subject: x||hi") ≡ says (command.Mail 1 (codes "alice") (Some (codes "k1")) (codes "Subject: x||hi"))
keyed = refl

no_key : parsed (codes "keyed 1 alice  hi") ≡ Err NoStatement
no_key = refl

-- sessions
connect : parsed (codes "connect s1 2 n.1") ≡ says (command.Connect 1 2 (codes "n.1"))
connect = refl

session_of_zero : parsed (codes "connect s0 2 n.1") ≡ says (command.Connect 0 2 (codes "n.1"))
session_of_zero = refl

session_with_zeros : parsed (codes "hangup s01") ≡ Err NoStatement
session_with_zeros = refl

session_of_ten_digits : parsed (codes "hangup s1000000000") ≡ Err NoStatement
session_of_ten_digits = refl

bad_nonce : parsed (codes "connect s1 2 n..1") ≡ Err NoStatement
bad_nonce = refl

line : parsed (codes "line s1 USER alice") ≡ says (command.Line 1 (Whole (codes "USER alice")))
line = refl

line_empty : parsed (codes "line s1 ") ≡ says (command.Line 1 (Whole []))
line_empty = refl

line_without_space : parsed (codes "line s1") ≡ Err NoStatement
line_without_space = refl

longest_line : parsed (codes "line s1 " ++ replicate 510 65) ≡ says (command.Line 1 (Whole (replicate 510 65)))
longest_line = refl

line_too_long : parsed (codes "line s1 " ++ replicate 511 65) ≡ says (command.Line 1 TooLong)
line_too_long = refl

-- nodes and what they are told
deliver : parsed (codes "deliver 1 2 p1b") ≡ says (command.Deliver 1 2 kind.P1b)
deliver = refl

other_kind : parsed (codes "deliver 1 2 p1c") ≡ Err NoStatement
other_kind = refl

node_zero : parsed (codes "crash 0") ≡ Err NoStatement
node_zero = refl

node_nine : parsed (codes "crash 9") ≡ says (command.Crash 9)
node_nine = refl

node_ten : parsed (codes "crash 10") ≡ Err NoStatement
node_ten = refl

space_behind : parsed (codes "tick 1 ") ≡ Err NoStatement
space_behind = refl

lose : parsed (codes "lose") ≡ says command.Lose
lose = refl

lose_with_word : parsed (codes "lose 1") ≡ Err NoStatement
lose_with_word = refl

highest_limit : parsed (codes "settle 18446744073709551615") ≡ says (command.Settle 18446744073709551615)
highest_limit = refl

limit_too_high : parsed (codes "settle 18446744073709551616") ≡ Err NoStatement
limit_too_high = refl

leading_zero : parsed (codes "settle 0100") ≡ Err NoStatement
leading_zero = refl

sign : parsed (codes "settle +1") ≡ Err NoStatement
sign = refl

storm : parsed (codes "storm 0 5") ≡ says (command.Storm 0 5)
storm = refl

-- settings
nodes : parsed (codes "nodes 3") ≡ sets (setting.Nodes 3)
nodes = refl

nodes_ten : parsed (codes "nodes 10") ≡ Err NoStatement
nodes_ten = refl

limits : parsed (codes "limits 2 60 3") ≡ sets (setting.Limits (record { messages = 2; octets = 60; ids = 3 }))
limits = refl

limits_too_high : parsed (codes "limits 1000000000 60 3") ≡ Err NoStatement
limits_too_high = refl

window : parsed (codes "window 1000") ≡ sets (setting.Window 1000)
window = refl

window_too_wide : parsed (codes "window 1001") ≡ Err NoStatement
window_too_wide = refl

host : parsed (codes "host mail.test") ≡ sets (setting.Host (codes "mail.test"))
host = refl

bad_host : parsed (codes "host mail.") ≡ Err NoStatement
bad_host = refl

-- the secret is the rest of the line
account : parsed (codes "account bob pass a b") ≡ sets (setting.Account (codes "bob pass a b"))
account = refl

bad_account : parsed (codes "account bob PASS s") ≡ Err NoStatement
bad_account = refl

-- settings come before commands, and accounts have different names
abbrev begun : Script
begun = record { settings = default_settings; begun = true }

setting_late : read_line begun (codes "nodes 3") ≡ Err LateSetting
setting_late = refl

empty_line_late : read_line begun [] ≡ Ok (None, begun)
empty_line_late = refl

first_command : read_line new_script (codes "lose") ≡ Ok (Some command.Lose, begun)
first_command = refl

abbrev with_alice : Script
with_alice = record {
  settings = record {
    cluster = 1;
    limits = default_settings.limits;
    window = 10;
    host = codes "localhost";
    accounts = record { name = codes "alice"; method = Pass; secret = codes "s3" } ∷ [];
  };
  begun = false;
}

one_account : read_line new_script (codes "account alice pass s3") ≡ Ok (None, with_alice)
one_account = refl

name_twice : read_line with_alice (codes "account alice apop s4") ≡ Err NameTwice
name_twice = refl

-- what a line may begin with
begins_with_nothing : may_begin_line [] ≡ true
begins_with_nothing = refl

begins_with_keyword : may_begin_line (codes "line s1") ≡ true
begins_with_keyword = refl

begins_with_setting : may_begin_line (codes "account alice") ≡ true
begins_with_setting = refl

begins_with_longest : may_begin_line (codes "campaign") ≡ true
begins_with_longest = refl

begins_with_too_long : may_begin_line (codes "campaigns") ≡ false
begins_with_too_long = refl

begins_with_too_many : may_begin_line (replicate 9 0) ≡ false
begins_with_too_many = refl

begins_with_other_word : may_begin_line (codes "tock 1") ≡ false
begins_with_other_word = refl

begins_with_space : may_begin_line (codes " ") ≡ false
begins_with_space = refl

begins_with_single_word : may_begin_line (codes "lose\r") ≡ true
begins_with_single_word = refl

begins_with_single_word_and_space : may_begin_line (codes "lose ") ≡ false
begins_with_single_word_and_space = refl

-- what an operator asks
abbrev alice : List ℕ
alice = codes "alice"

deliver_request : request_of (codes "deliver 1 alice 30 k") ≡ Some (request.Deliver 1 alice 30 (Some (codes "k")))
deliver_request = refl

deliver_at_zero : request_of (codes "deliver 0 alice 30") ≡ None
deliver_at_zero = refl

put_request : request_of (codes "put 2 alice 7") ≡ Some (request.Put (Some 2) alice 7 None)
put_request = refl

put_under_key : request_of (codes "put 2 alice 7 k1") ≡ Some (request.Put (Some 2) alice 7 (Some (codes "k1")))
put_under_key = refl

put_at_any_node : request_of (codes "put 0 alice 7") ≡ Some (request.Put None alice 7 None)
put_at_any_node = refl

put_at_nine : request_of (codes "put 9 alice 7") ≡ Some (request.Put (Some 9) alice 7 None)
put_at_nine = refl

put_at_ten : request_of (codes "put 10 alice 7") ≡ None
put_at_ten = refl

put_at_two_zeros : request_of (codes "put 00 alice 7") ≡ None
put_at_two_zeros = refl

put_no_bytes : request_of (codes "put 1 alice 0") ≡ Some (request.Put (Some 1) alice 0 None)
put_no_bytes = refl

put_most_bytes : request_of (codes "put 1 alice 1073741824") ≡ Some (request.Put (Some 1) alice 1073741824 None)
put_most_bytes = refl

put_one_byte_more : request_of (codes "put 1 alice 1073741825") ≡ None
put_one_byte_more = refl

put_leading_zero : request_of (codes "put 1 alice 07") ≡ None
put_leading_zero = refl

put_without_words : request_of (codes "put") ≡ None
put_without_words = refl

put_without_count : request_of (codes "put 1 alice") ≡ None
put_without_count = refl

put_without_user : request_of (codes "put 1  7") ≡ None
put_without_user = refl

put_longest_name : request_of (codes "put 1 " ++ replicate 40 97 ++ codes " 7") ≡ Some (request.Put (Some 1) (replicate 40 97) 7 None)
put_longest_name = refl

put_name_too_long : request_of (codes "put 1 " ++ replicate 41 97 ++ codes " 7") ≡ None
put_name_too_long = refl

put_longest_key : request_of (codes "put 1 alice 7 " ++ replicate 64 107) ≡ Some (request.Put (Some 1) alice 7 (Some (replicate 64 107)))
put_longest_key = refl

put_key_too_long : request_of (codes "put 1 alice 7 " ++ replicate 65 107) ≡ None
put_key_too_long = refl

put_empty_key : request_of (codes "put 1 alice 7 ") ≡ None
put_empty_key = refl

put_two_keys : request_of (codes "put 1 alice 7 k l") ≡ None
put_two_keys = refl

sessions_request : request_of (codes "sessions") ≡ Some request.Sessions
sessions_request = refl

sessions_of_a_node : request_of (codes "sessions 1") ≡ None
sessions_of_a_node = refl

stats_request : request_of (codes "stats") ≡ Some request.Stats
stats_request = refl

stats_and_a_space : request_of (codes "stats ") ≡ None
stats_and_a_space = refl

locks_request : request_of (codes "locks") ≡ Some request.Locks
locks_request = refl

locks_of_a_user : request_of (codes "locks alice") ≡ None
locks_of_a_user = refl

users_request : request_of (codes "users") ≡ Some request.Users
users_request = refl

roll_request : request_of (codes "roll") ≡ Some request.Roll
roll_request = refl

reopen_request : request_of (codes "reopen") ≡ Some request.Reopen
reopen_request = refl

reopen_and_a_space : request_of (codes "reopen ") ≡ None
reopen_and_a_space = refl

users_and_a_space : request_of (codes "users ") ≡ None
users_and_a_space = refl

kick_request : request_of (codes "kick alice") ≡ Some (request.Kick alice)
kick_request = refl

kick_without_user : request_of (codes "kick") ≡ None
kick_without_user = refl

kick_empty_name : request_of (codes "kick ") ≡ None
kick_empty_name = refl

kick_two_users : request_of (codes "kick alice bob") ≡ None
kick_two_users = refl

kick_name_too_long : request_of (codes "kick " ++ replicate 41 97) ≡ None
kick_name_too_long = refl

stop_request : request_of (codes "stop") ≡ Some (request.Stop false false)
stop_request = refl

stop_now : request_of (codes "stop now") ≡ Some (request.Stop true false)
stop_now = refl

stop_wait : request_of (codes "stop wait") ≡ Some (request.Stop false true)
stop_wait = refl

stop_now_wait : request_of (codes "stop now wait") ≡ Some (request.Stop true true)
stop_now_wait = refl

stop_wait_now : request_of (codes "stop wait now") ≡ None
stop_wait_now = refl

stop_another_word : request_of (codes "stop later") ≡ None
stop_another_word = refl

stop_and_a_space : request_of (codes "stop ") ≡ None
stop_and_a_space = refl

stop_now_and_a_space : request_of (codes "stop now ") ≡ None
stop_now_and_a_space = refl

put_text : request_text (request.Put (Some 2) alice 7 (Some (codes "k1"))) ≡ codes "put 2 alice 7 k1"
unfolding digits
put_text = refl

put_at_any_node_text : request_text (request.Put None alice 7 None) ≡ codes "put 0 alice 7"
unfolding digits
put_at_any_node_text = refl

kick_text : request_text (request.Kick alice) ≡ codes "kick alice"
kick_text = refl

locks_text : request_text request.Locks ≡ codes "locks"
locks_text = refl

users_text : request_text request.Users ≡ codes "users"
users_text = refl

roll_text : request_text request.Roll ≡ codes "roll"
roll_text = refl

reopen_text : request_text request.Reopen ≡ codes "reopen"
reopen_text = refl

stop_now_wait_text : request_text (request.Stop true true) ≡ codes "stop now wait"
stop_now_wait_text = refl

-- what an operator writes on the command line
abbrev asks : Request → Result Instruction WordsFault
asks it = Ok (instruction.Ask it)

abbrev no_words : Result Instruction WordsFault
no_words = Err words_fault.Value

put_words : instruction_of (codes "put" ∷ codes "2" ∷ codes "alice" ∷ []) ≡ Ok (instruction.Put (Some 2) alice None)
put_words = refl

put_words_at_any_node : instruction_of (codes "put" ∷ codes "0" ∷ codes "alice" ∷ []) ≡ Ok (instruction.Put None alice None)
put_words_at_any_node = refl

put_words_under_key : instruction_of (codes "put" ∷ codes "2" ∷ codes "alice" ∷ codes "k1" ∷ []) ≡ Ok (instruction.Put (Some 2) alice (Some (codes "k1")))
put_words_under_key = refl

put_words_under_no_key : instruction_of (codes "put" ∷ codes "2" ∷ codes "alice" ∷ codes "<a b>" ∷ []) ≡ Ok (instruction.Put (Some 2) alice (Some (codes "<a b>")))
put_words_under_no_key = refl

put_words_under_empty_key : instruction_of (codes "put" ∷ codes "2" ∷ codes "alice" ∷ [] ∷ []) ≡ Ok (instruction.Put (Some 2) alice (Some []))
put_words_under_empty_key = refl

put_words_at_ten : instruction_of (codes "put" ∷ codes "10" ∷ codes "alice" ∷ codes "k1" ∷ []) ≡ no_words
put_words_at_ten = refl

put_words_without_user : instruction_of (codes "put" ∷ codes "2" ∷ []) ≡ no_words
put_words_without_user = refl

put_words_bad_user : instruction_of (codes "put" ∷ codes "2" ∷ codes "al ice" ∷ []) ≡ no_words
put_words_bad_user = refl

put_words_one_more : instruction_of (codes "put" ∷ codes "2" ∷ codes "alice" ∷ codes "k1" ∷ codes "k2" ∷ []) ≡ no_words
put_words_one_more = refl

deliver_words : instruction_of (codes "deliver" ∷ codes "1" ∷ codes "alice" ∷ codes "box" ∷ []) ≡ Ok (instruction.Deliver 1 alice (codes "box") None)
deliver_words = refl

deliver_words_at_zero : instruction_of (codes "deliver" ∷ codes "0" ∷ codes "alice" ∷ codes "box" ∷ []) ≡ no_words
deliver_words_at_zero = refl

deliver_words_bad_key : instruction_of (codes "deliver" ∷ codes "1" ∷ codes "alice" ∷ codes "box" ∷ [] ∷ []) ≡ Err words_fault.Key
deliver_words_bad_key = refl

break_words : instruction_of (codes "break" ∷ codes "1" ∷ codes "alice" ∷ []) ≡ asks (request.Break 1 alice)
break_words = refl

break_words_at_zero : instruction_of (codes "break" ∷ codes "0" ∷ codes "alice" ∷ []) ≡ no_words
break_words_at_zero = refl

sessions_words : instruction_of (codes "sessions" ∷ []) ≡ asks request.Sessions
sessions_words = refl

sessions_words_one_more : instruction_of (codes "sessions" ∷ codes "1" ∷ []) ≡ no_words
sessions_words_one_more = refl

stats_words : instruction_of (codes "stats" ∷ []) ≡ asks request.Stats
stats_words = refl

stats_words_one_more : instruction_of (codes "stats" ∷ codes "1" ∷ []) ≡ no_words
stats_words_one_more = refl

locks_words : instruction_of (codes "locks" ∷ []) ≡ asks request.Locks
locks_words = refl

locks_words_one_more : instruction_of (codes "locks" ∷ codes "1" ∷ []) ≡ no_words
locks_words_one_more = refl

users_words : instruction_of (codes "users" ∷ []) ≡ asks request.Users
users_words = refl

roll_words : instruction_of (codes "roll" ∷ []) ≡ asks request.Roll
roll_words = refl

reopen_words : instruction_of (codes "reopen" ∷ []) ≡ asks request.Reopen
reopen_words = refl

reopen_words_one_more : instruction_of (codes "reopen" ∷ codes "log" ∷ []) ≡ no_words
reopen_words_one_more = refl

users_words_one_more : instruction_of (codes "users" ∷ codes "alice" ∷ []) ≡ no_words
users_words_one_more = refl

kick_words : instruction_of (codes "kick" ∷ codes "alice" ∷ []) ≡ asks (request.Kick alice)
kick_words = refl

kick_words_without_user : instruction_of (codes "kick" ∷ []) ≡ no_words
kick_words_without_user = refl

kick_words_bad_user : instruction_of (codes "kick" ∷ [] ∷ []) ≡ no_words
kick_words_bad_user = refl

kick_words_one_more : instruction_of (codes "kick" ∷ codes "alice" ∷ codes "bob" ∷ []) ≡ no_words
kick_words_one_more = refl

stop_words : instruction_of (codes "stop" ∷ []) ≡ asks (request.Stop false false)
stop_words = refl

stop_words_now : instruction_of (codes "stop" ∷ codes "now" ∷ []) ≡ asks (request.Stop true false)
stop_words_now = refl

stop_words_wait : instruction_of (codes "stop" ∷ codes "wait" ∷ []) ≡ no_words
stop_words_wait = refl

stop_words_now_wait : instruction_of (codes "stop" ∷ codes "now" ∷ codes "wait" ∷ []) ≡ no_words
stop_words_now_wait = refl

stop_words_in_one : instruction_of (codes "stop now" ∷ []) ≡ no_words
stop_words_in_one = refl

-- what is written
stored : (A : Type 0) → outcome_line {A = A} (codes "bob") (record { node = 2; seq = 1 }) (outcome.Stored 1) ≡ codes "op bob 2/1 stored 1\n"
unfolding digits
stored A = refl

too_large : (A : Type 0) → outcome_line {A = A} (codes "bob") (record { node = 2; seq = 13 }) outcome.TooLarge ≡ codes "op bob 2/13 too large\n"
unfolding digits
too_large A = refl

no_session : refusal_line refusal.NoSession ≡ codes "refused 3 NoSession\n"
unfolding digits
no_session = refl

performed : performed_line 3 2 ≡ codes "node 3 performed 2\n"
unfolding digits
performed = refl

slot : (A : Type 0) → slot_line {A = A} 2 (record { user = codes "bob"; ticket = record { node = 2; seq = 1 }; op = op.Break }) ≡ codes "slot 2 bob 2/1 break\n"
unfolding digits
slot A = refl

replies : reply_lines 1 (codes "+OK\r\n1 1\r\n.\r\n") ≡ codes "s1|+OK\ns1|1 1\ns1|.\n"
unfolding digits
replies = refl
