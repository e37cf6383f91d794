-- The replies of the server: each occasion's bytes, and the table over them.
use Rattle.std.specs.Prelude.{ℕ, ◌≤◌, nat_eq, Bool, true, false, ◌||◌, List, ◌++◌, length, codes, decimal}
use Rattle.std.specs.Io.BufRead.{take_through}
use Rattle.std.specs.List.{flat_map, starts_with}
use Rattle.pop3_wire.specs.Limits.{longest_reply_line}
use Rattle.pop3_wire.specs.Stuffing.{wire_form, top_lines}
use Rattle.pop3_wire.specs.declared.listed.Listed.{Listed}
use Rattle.pop3_wire.specs.declared.listed.Identified.{Identified}
use Rattle.pop3_wire.specs.declared.reply.Reply.{Reply}
use Rattle.pop3_wire.specs.declared.reply.Reply.TheVariants as reply

abbrev pub greeting : List ℕ → List ℕ → List ℕ
greeting nonce host = codes "+OK POP3 server ready <" ++ nonce ++ codes "@" ++ host ++ codes ">\r\n"

abbrev pub send_pass : List ℕ
send_pass = codes "+OK send PASS\r\n"

-- what a login tells, and RSET
abbrev pub maildrop_has : ℕ → ℕ → List ℕ
maildrop_has messages octets =
    codes "+OK maildrop has " ++ decimal messages ++ codes " messages (" ++ decimal octets ++ codes " octets)\r\n"

abbrev pub invalid_login : List ℕ
invalid_login = codes "-ERR invalid login\r\n"

abbrev pub already_locked : List ℕ
already_locked = codes "-ERR [IN-USE] maildrop already locked\r\n"

abbrev pub line_too_long : List ℕ
line_too_long = codes "-ERR line too long\r\n"

abbrev pub unknown_command : List ℕ
unknown_command = codes "-ERR unknown command\r\n"

abbrev pub not_in_this_state : List ℕ
not_in_this_state = codes "-ERR not in this state\r\n"

abbrev pub bad_arguments : List ℕ
bad_arguments = codes "-ERR bad arguments\r\n"

abbrev pub no_such_message : List ℕ
no_such_message = codes "-ERR no such message\r\n"

-- two numbers, with a space between: a line of a listing
abbrev pub number_line : ℕ → ℕ → List ℕ
number_line first second = decimal first ++ codes " " ++ decimal second ++ codes "\r\n"

-- the drop listing of STAT
abbrev pub drop_listing : ℕ → ℕ → List ℕ
drop_listing messages octets = codes "+OK " ++ number_line messages octets

-- the scan listings of LIST, for messages of so many octets together
abbrev pub scan_listings : ℕ → List Listed → List ℕ
scan_listings octets messages =
    codes "+OK " ++ decimal (length messages) ++ codes " messages (" ++ decimal octets ++ codes " octets)\r\n"
    ++ flat_map (λ message. number_line message.number message.octets) messages ++ codes ".\r\n"

-- the scan listing of one message
abbrev pub scan_listing : Listed → List ℕ
scan_listing message = codes "+OK " ++ number_line message.number message.octets

-- the unique ids of UIDL
abbrev pub unique_id_listings : List Identified → List ℕ
unique_id_listings messages =
    codes "+OK\r\n" ++ flat_map (λ message. number_line message.number message.uid) messages ++ codes ".\r\n"

-- the unique id of one message
abbrev pub unique_id_listing : Identified → List ℕ
unique_id_listing message = codes "+OK " ++ number_line message.number message.uid

-- the whole text, of so many octets
abbrev pub message_text : ℕ → List (List ℕ) → List ℕ
message_text octets text = codes "+OK " ++ decimal octets ++ codes " octets\r\n" ++ wire_form text

-- the headers and so many lines of the body
abbrev pub message_top : List (List ℕ) → ℕ → List ℕ
message_top text lines = codes "+OK\r\n" ++ wire_form (top_lines lines text)

abbrev pub message_deleted : ℕ → List ℕ
message_deleted number = codes "+OK message " ++ decimal number ++ codes " deleted\r\n"

-- the capabilities, one a line (RFC 2449 section 6)
abbrev pub capabilities : List ℕ
capabilities = codes "+OK\r\nTOP\r\nUSER\r\nUIDL\r\nRESP-CODES\r\n.\r\n"

abbrev pub nothing_done : List ℕ
nothing_done = codes "+OK\r\n"

abbrev pub signing_off : List ℕ
signing_off = codes "+OK signing off\r\n"

abbrev pub not_removed : List ℕ
not_removed = codes "-ERR some deleted messages not removed\r\n"

-- after its status the reply has a response code (RFC 2449 section 8)
abbrev pub has_response_code : List ℕ → Bool
has_response_code bytes = starts_with nat_eq bytes (codes "+OK [") || starts_with nat_eq bytes (codes "-ERR [")

-- the bytes up to and including the first LF are no more than a reply's line has
abbrev pub HasShortFirstLine : List ℕ → Type 0
HasShortFirstLine bytes = length (take_through 10 bytes) ≤ longest_reply_line

module _ {A : Type 0} where
  -- the parts of a greeting's timestamp have the lengths that they may have
  abbrev pub HasShortParts : Reply A → Type 0
  HasShortParts (reply.Greeting nonce host) = (length nonce.now ≤ 60) × (length host.now ≤ 100)
  HasShortParts other = Unit {0}

  abbrev pub is_lock_refusal : Reply A → Bool
  is_lock_refusal reply.Locked = true
  is_lock_refusal other = false

  abbrev pub reply_text : Reply A → List ℕ
  reply_text (reply.Greeting nonce host) = greeting nonce.now host.now
  reply_text reply.SendPass = send_pass
  reply_text (reply.LoggedIn messages octets) = maildrop_has messages octets
  reply_text reply.InvalidLogin = invalid_login
  reply_text reply.Locked = already_locked
  reply_text reply.LineTooLong = line_too_long
  reply_text reply.UnknownCommand = unknown_command
  reply_text reply.WrongState = not_in_this_state
  reply_text reply.BadArguments = bad_arguments
  reply_text reply.NoSuchMessage = no_such_message
  reply_text (reply.Stat messages octets) = drop_listing messages octets
  reply_text (reply.Listing octets messages) = scan_listings octets messages.now
  reply_text (reply.List message) = scan_listing message
  reply_text (reply.UniqueIds messages) = unique_id_listings messages.now
  reply_text (reply.UniqueId message) = unique_id_listing message
  reply_text (reply.Message octets text) = message_text octets text.now
  reply_text (reply.Top text lines) = message_top text.now lines
  reply_text (reply.Deleted number) = message_deleted number
  reply_text reply.Capabilities = capabilities
  reply_text reply.Noop = nothing_done
  reply_text (reply.Reset messages octets) = maildrop_has messages octets
  reply_text reply.SigningOff = signing_off
  reply_text reply.NotRemoved = not_removed
