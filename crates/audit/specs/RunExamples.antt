-- A worked run and its transcript: a cluster of one node, whose user is alice.
use mathlib.Core.Logic.{inr}
use Rattle.std.specs.Prelude.{◌≡◌, refl, ℕ, length, List, [], ◌∷◌, Option, Some, None, option_map, codes}
use Rattle.std.specs.List.{concat}
use Rattle.std.specs.Fmt.{digits}
use Rattle.apop.specs.Stamp.{Stamp}
use Rattle.apop.specs.declared.method.Method.TheVariants.{Pass}
use Rattle.maildrop.specs.Limits.{Limits}
use Rattle.maildrop.specs.Ticket.{Ticket}
use Rattle.maildrop.specs.declared.op.Op.{Op}
use Rattle.maildrop.specs.declared.op.Op.TheVariants.{Take, Free}
use Rattle.maildrop.specs.declared.outcome.Outcome.{Outcome}
use Rattle.maildrop.specs.declared.outcome.Outcome.TheVariants.{Taken, Done}
use Rattle.pop3_wire.specs.Reply.{greeting}
use Rattle.pop3_wire.specs.declared.line.Line.TheVariants.{Whole}
use Rattle.node.specs.declared.log.NodeLog.{NodeLog}
use Rattle.session.specs.Serve.{told}
use Rattle.session.specs.declared.transcript.Asked.{Asked}
use Rattle.session.specs.declared.transcript.End.TheVariants.{Closed, DeskStopped}
use Rattle.session.specs.declared.transcript.Transcript.{Transcript}
use Rattle.runs.specs.Clients.{client_of}
use Rattle.runs.specs.Services.{Happening, Occurs, run_of}
use Rattle.runs.specs.declared.config.Config.{Config}
use Rattle.runs.specs.declared.event.Event.TheVariants as event
use Rattle.audit.specs.Records.{RealCase, case_of}
use Rattle.audit.specs.Runs.{line_tickets, AreItsLines}
use Rattle.audit.specs.Wrong.{first_wrong}

module _ (A : Type 0) (limits : Limits) where
  abbrev pub alice : List ℕ
  alice = codes "alice"

  abbrev pub cfg : Config A
  cfg = record { accounts = record { name = alice; method = Pass; secret = codes "s" } ∷ []; limits = limits; cluster = 1; window = 5; kept = []; keys = 0 }

  abbrev pub stamp : Stamp
  stamp = record { nonce = codes "1.1"; host = codes "localhost" }

  abbrev pub says : List ℕ → Happening A
  says bytes = Occurs (event.Line 1 (Whole bytes))

  abbrev pub arrive : ℕ → Happening A
  arrive which = Occurs (event.Arrive which)

  abbrev pub collects : Happening A
  collects = Occurs (event.Collect 1)

  abbrev pub happenings : List (Happening A)
  happenings =
      Occurs (event.Connect 1 1 stamp) ∷ says (codes "USER alice") ∷ says (codes "PASS s") ∷ Occurs (event.Campaign 1)
      ∷ arrive 0 ∷ arrive 1 ∷ arrive 2 ∷ arrive 3 ∷ arrive 4 ∷ arrive 5 ∷ collects
      ∷ says (codes "STAT") ∷ says (codes "QUIT") ∷ arrive 6 ∷ arrive 7 ∷ arrive 8 ∷ arrive 9 ∷ collects ∷ []

  abbrev pub ticket : ℕ → Ticket
  ticket number = record { node = 1; seq = number }

  abbrev pub asks : ℕ → Op A → Option Ticket → Option (Outcome A) → Asked A
  asks line op ticket outcome = record { line = Some line; name = alice; op = op; ticket = ticket; outcome = outcome }

  -- what was kept of alice's session
  abbrev pub transcript : Transcript A
  transcript = record {
    greeting = greeting stamp.nonce stamp.host;
    lines = Whole (codes "USER alice") ∷ Whole (codes "PASS s") ∷ Whole (codes "STAT") ∷ Whole (codes "QUIT") ∷ [];
    asked = asks 1 Take (Some (ticket 1)) (Some (Taken [])) ∷ asks 3 (Free (ticket 1)) (Some (ticket 2)) (Some Done) ∷ [];
    count = 120;
    end = Closed;
  }

  -- the client sent its lines, got its tickets, and was told its replies
  lines_sent : option_map (λ c. c.lines) (client_of 1 (run_of cfg happenings).clients) ≡ Some transcript.lines
  lines_sent = refl

  tickets_got : option_map (λ c. c.tickets) (client_of 1 (run_of cfg happenings).clients) ≡ Some (line_tickets transcript.asked)
  tickets_got = refl

  replies_told : option_map (λ c. c.replies) (client_of 1 (run_of cfg happenings).clients) ≡ Some (concat (told cfg.accounts stamp transcript).replies)
  unfolding digits
  replies_told = refl

  all_counted : length (concat (told cfg.accounts stamp transcript).replies) ≡ transcript.count
  unfolding digits
  all_counted = refl

  -- of the run's logs and this transcript an audit finds no wrong answer
  abbrev pub logs : List (NodeLog A)
  logs = (run_of cfg happenings).network.logs

  abbrev pub case : RealCase A
  case = case_of logs (transcript ∷ [])

  none_wrong : first_wrong case 0 [] case.scripts ≡ None
  none_wrong = refl

  -- a line to a node that had stopped is none of the run
  abbrev pub stopped : Transcript A
  stopped = record {
    greeting = greeting stamp.nonce stamp.host;
    lines = Whole (codes "USER alice") ∷ Whole (codes "PASS s") ∷ [];
    asked = asks 1 Take None None ∷ [];
    count = 54;
    end = DeskStopped;
  }

  no_ticket : line_tickets stopped.asked ≡ []
  no_ticket = refl

  one_line : AreItsLines stopped (Whole (codes "USER alice") ∷ [])
  one_line = inr (Whole (codes "PASS s"), refl, record { front = []; last = asks 1 Take None None; in_order = refl; no_ticket = refl })
