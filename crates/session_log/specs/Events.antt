-- The lines of the log.
use Rattle.std.specs.Prelude.{ℕ, ◌+◌, ◌/◌, ◌%◌, List, [], ◌∷◌, ◌++◌, codes, decimal}
use Rattle.session_log.specs.Written.{user_text}
use Rattle.session_log.specs.declared.event_lines.StartLoad.{StartLoad}
use Rattle.session_log.specs.declared.facts.Ending.{Ending}
use Rattle.session_log.specs.declared.facts.Ending.TheVariants.{Closed, HungUp, Idle, TooMuch, ReadFault, WriteFault, Stopped, NoMemory}
use Rattle.session_log.specs.declared.facts.SessionFacts.{SessionFacts}

abbrev pub ending_word : Ending → List ℕ
ending_word Closed = codes "closed"
ending_word HungUp = codes "hung_up"
ending_word Idle = codes "idle"
ending_word TooMuch = codes "too_much"
ending_word ReadFault = codes "read_fault"
ending_word WriteFault = codes "write_fault"
ending_word Stopped = codes "stopped"
ending_word NoMemory = codes "no_memory"

-- the last decimal digit of a number
abbrev pub digit : ℕ → ℕ
digit number = 48 + number % 10

-- a time in seconds, with three digits after the dot, after a text
abbrev pub with_time : List ℕ → ℕ → List ℕ
with_time text millis =
    text ++ codes "time=" ++ decimal (millis / 1000)
    ++ (46 ∷ digit (millis / 100) ∷ digit (millis / 10) ∷ digit millis ∷ 32 ∷ [])

-- where something happened
abbrev pub with_place : List ℕ → ℕ → List ℕ → List ℕ
with_place text node peer = text ++ codes " node=" ++ decimal node ++ codes " peer=" ++ peer

-- what a session did
abbrev pub with_deeds : List ℕ → SessionFacts → List ℕ
with_deeds text facts =
    text ++ codes " user=" ++ user_text facts.user ++ codes " fetched=" ++ decimal facts.fetched
    ++ codes " removed=" ++ decimal facts.removed ++ codes " bytes=" ++ decimal facts.bytes_written

-- a session has ended
abbrev pub with_session : List ℕ → ℕ → List ℕ → SessionFacts → Ending → List ℕ
with_session text node peer facts ending =
    with_deeds (with_place (text ++ codes "event=session") node peer) facts ++ codes " end=" ++ ending_word ending ++ codes "\n"

abbrev pub with_refused_login : List ℕ → ℕ → List ℕ → List ℕ
with_refused_login text node peer = with_place (text ++ codes "event=login_refused") node peer ++ codes "\n"

abbrev pub with_delivery : List ℕ → ℕ → List ℕ → ℕ → ℕ → List ℕ
with_delivery text node user stored refused =
    text ++ codes "event=delivery node=" ++ decimal node ++ codes " user=" ++ user
    ++ codes " stored=" ++ decimal stored ++ codes " refused=" ++ decimal refused ++ codes "\n"

-- an operator has stopped a node
abbrev pub with_crash : List ℕ → ℕ → List ℕ
with_crash text node = text ++ codes "event=crash node=" ++ decimal node ++ codes "\n"

-- a user's lock is broken, since this node is down, whose session held it
abbrev pub with_break : List ℕ → List ℕ → ℕ → List ℕ
with_break text user node = text ++ codes "event=break user=" ++ user ++ codes " node=" ++ decimal node ++ codes "\n"

-- an epoch couldn't begin, or end, for this reason
abbrev pub with_roll_failed : List ℕ → List ℕ → List ℕ
with_roll_failed text cause = text ++ codes "event=roll_failed cause=" ++ cause ++ codes "\n"

-- so many lines are missing
abbrev pub with_gap : List ℕ → ℕ → List ℕ
with_gap text missing = text ++ codes "event=log_gap lines=" ++ decimal missing ++ codes "\n"

-- an epoch begins, with what the one before it has left
abbrev pub with_roll : List ℕ → ℕ → List ℕ
with_roll text epoch = text ++ codes "event=roll epoch=" ++ decimal epoch ++ codes "\n"

-- a start dropped so many bytes of a segment, those from this place on
abbrev pub with_torn : List ℕ → (segment at bytes : ℕ) → List ℕ
with_torn text segment at bytes =
    text ++ codes "event=torn segment=" ++ decimal segment ++ codes " at=" ++ decimal at ++ codes " bytes=" ++ decimal bytes ++ codes "\n"

-- a service takes clients: it begins with this epoch and so many messages and octets, so many milliseconds after its start, and was
-- started so
abbrev pub with_start : List ℕ → (epoch : ℕ) → StartLoad → List ℕ → List ℕ
with_start text epoch load how =
    text ++ codes "event=start epoch=" ++ decimal epoch ++ codes " messages=" ++ decimal load.messages
    ++ codes " octets=" ++ decimal load.octets ++ codes " ms=" ++ decimal load.millis ++ codes " " ++ how ++ codes "\n"

-- the audit of an epoch has ended: the verdict is the rest of the line
abbrev pub with_audit : List ℕ → ℕ → List ℕ → List ℕ
with_audit text epoch verdict = text ++ codes "event=audit epoch=" ++ decimal epoch ++ codes " verdict=" ++ verdict ++ codes "\n"

-- the service has ended, with this status
abbrev pub with_end : List ℕ → ℕ → List ℕ
with_end text status = text ++ codes "event=end status=" ++ decimal status ++ codes "\n"

-- an event that has only a name
abbrev pub with_event : List ℕ → List ℕ → List ℕ
with_event text name = text ++ codes "event=" ++ name ++ codes "\n"

-- something has failed: its text is the rest of the line
abbrev pub with_fault : List ℕ → List ℕ → List ℕ
with_fault text fault = text ++ codes "event=fault text=" ++ fault ++ codes "\n"
