-- What a service has done since it was started.
use Rattle.std.specs.Prelude.{ℕ, List, [], ◌++◌, codes, decimal}
use Rattle.session_log.specs.Sessions.{added}
use Rattle.session_log.specs.declared.counters.Counts.{Counts}
use Rattle.session_log.specs.declared.counters.Stats.{Stats}
use Rattle.session_log.specs.declared.facts.SessionFacts.{SessionFacts}

abbrev pub no_counts : Counts
no_counts = record {
  sessions_served = 0;
  logins_refused = 0;
  messages_stored = 0;
  messages_fetched = 0;
  messages_removed = 0;
  octets_stored = 0;
  bytes_read = 0;
  bytes_written = 0;
  torn_bytes = 0;
}

-- a session has ended
abbrev pub after_session : SessionFacts → Counts → Counts
after_session facts counts = record counts {
  sessions_served = added counts.sessions_served 1;
  logins_refused = added counts.logins_refused facts.refused;
  messages_fetched = added counts.messages_fetched facts.fetched;
  messages_removed = added counts.messages_removed facts.removed;
  bytes_read = added counts.bytes_read facts.bytes_read;
  bytes_written = added counts.bytes_written facts.bytes_written;
}

-- messages were stored, of so many octets together
abbrev pub after_delivery : ℕ → ℕ → Counts → Counts
after_delivery messages octets counts = record counts {
  messages_stored = added counts.messages_stored messages;
  octets_stored = added counts.octets_stored octets;
}

-- the start dropped so many bytes of the data folder's newest segment
abbrev pub after_torn : ℕ → Counts → Counts
after_torn bytes counts = record counts { torn_bytes = added counts.torn_bytes bytes }

-- a line after a text
abbrev pub with_line : List ℕ → List ℕ → ℕ → List ℕ
with_line text label number = text ++ label ++ decimal number ++ codes "\n"

abbrev pub with_sessions : List ℕ → Stats → List ℕ
with_sessions text stats =
    with_line (with_line (with_line text
    (codes "sessions_open ") stats.sessions_open)
    (codes "sessions_served ") stats.counts.sessions_served)
    (codes "logins_refused ") stats.counts.logins_refused

abbrev pub with_messages : List ℕ → Counts → List ℕ
with_messages text counts =
    with_line (with_line (with_line (with_line text
    (codes "messages_stored ") counts.messages_stored)
    (codes "messages_fetched ") counts.messages_fetched)
    (codes "messages_removed ") counts.messages_removed)
    (codes "octets_stored ") counts.octets_stored

abbrev pub with_rest : List ℕ → Stats → List ℕ
with_rest text stats =
    with_line (with_line (with_line (with_line (with_line (with_line text
    (codes "bytes_read ") stats.counts.bytes_read)
    (codes "bytes_written ") stats.counts.bytes_written)
    (codes "slots ") stats.slots)
    (codes "uptime_seconds ") stats.uptime_seconds)
    (codes "torn_bytes ") stats.counts.torn_bytes)
    (codes "log_lines_lost ") stats.log_lines_lost

-- what an operator is told
abbrev pub text_of : Stats → List ℕ
text_of stats = with_rest (with_messages (with_sessions [] stats) stats.counts) stats ++ codes "end\n"
