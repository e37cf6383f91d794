-- What is reported about a run that has ended.
use Rattle.std.specs.Prelude.{◌≡◌, ℕ, length, List, [], ◌++◌, map, Some, None, true, false, codes, slice_get}
use Rattle.std.specs.List.{filter}
use mathlib.Core.Logic.{◌⊎◌}
use Rattle.std.specs.Fmt.{decimal}
use Rattle.std.specs.declared.alloc.Global.{Global}
use Rattle.apop.specs.Accounts.{Account, name_of}
use Rattle.apop.specs.Stamp.{Stamp}
use Rattle.maildrop.specs.Limits.{Limits}
use Rattle.node.specs.declared.log.NodeLog.{NodeLog}
use Rattle.session.specs.declared.transcript.Transcript.{Transcript}
use Rattle.runs.specs.declared.config.Config.{Config}
use Rattle.audit.specs.Audits.{IsWhole, IsStuckAt}
use Rattle.audit.specs.Order.{IsLegalOrder}
use Rattle.audit.specs.Records.{is_fit, AreFit, case_of}
use Rattle.audit.specs.Runs.{AreOfService, AreCounted}
use Rattle.audit.specs.Wrong.{first_wrong}
use Rattle.audit.specs.declared.audit_error.AuditError.{AuditError}
use Rattle.audit.specs.declared.audit_error.AuditError.TheVariants as error
use Rattle.audit.specs.declared.event.Event.{Event}
use Rattle.cluster.specs.Members.{opening_of}
use Rattle.cluster.specs.Starts.{all_nodes}
use Rattle.cluster.specs.declared.setup.Setup.{Setup}
use Rattle.service.specs.Transcripts.{TranscriptsValue, has_asked, numbered}
use Rattle.service.specs.declared.announcement.Report.{Report}
use Rattle.service.specs.declared.announcement.Report.TheVariants as report
use Rattle.service.specs.declared.verdict.Verdict.{Verdict}
use Rattle.service.specs.declared.verdict.Verdict.TheVariants.{Legal, NoOrder, WrongAnswer, Memory}

-- the line that reports it, up to its line feed
abbrev pub text_of : Verdict → List ℕ
text_of Legal = codes "audit ok"
text_of (NoOrder number) = codes "audit no order at node " ++ decimal number
text_of (WrongAnswer session) = codes "audit wrong answer in session " ++ decimal session
text_of Memory = codes "audit no memory"

-- the line about a run that has ended, up to its line feed
abbrev pub report_of : Report → List ℕ
report_of (report.Audit verdict) = text_of verdict
report_of report.Stopped = codes "stopped"

-- 0 if the audit found all in order, else 1
abbrev pub status_of : Verdict → ℕ
status_of Legal = 0
status_of verdict = 1

-- what is reported after an audit that returns no events
abbrev pub verdict_by : AuditError → Verdict
verdict_by (error.NoOrder number) = NoOrder number
verdict_by (error.WrongAnswer session) = WrongAnswer session
verdict_by error.Memory = Memory

module _ {A : Type 0} (logs : List (NodeLog A)) (transcripts : List (Transcript A)) where
  -- what it says of logs and transcripts
  abbrev pub IsVerdict : Verdict → Type 0
  IsVerdict Legal =
      IsWhole (case_of logs transcripts)
      × (first_wrong (case_of logs transcripts) 0 [] (case_of logs transcripts).scripts ≡ None)
      × (AreFit logs transcripts → (events : List Event) × IsLegalOrder (case_of logs transcripts) events)
  IsVerdict (NoOrder number) = IsStuckAt (case_of logs transcripts) number × ((events : List Event) → IsLegalOrder (case_of logs transcripts) events → ⊥)
  IsVerdict (WrongAnswer session) = IsWhole (case_of logs transcripts) × (first_wrong (case_of logs transcripts) 0 [] (case_of logs transcripts).scripts ≡ Some session)
  IsVerdict Memory = Unit {0}

-- These are logs of all nodes of a service, and transcripts of sessions, each of which was served over the service's accounts
-- after the greeting of its stamp, and counts the bytes that were written. They have a legal order.
pub record IsLegal (config : Config Global) (logs : List (NodeLog Global)) (transcripts : List (Transcript Global)) : Type 0 where
  pub nodes : map (λ log. log.opening.me) logs ≡ all_nodes config.cluster
  pub stamps : ℕ → Stamp
  pub service : AreOfService config stamps logs transcripts
  pub fit : AreFit logs transcripts
  pub counted : (i : ℕ) (t : Transcript Global) → slice_get transcripts i ≡ Some t → (written : List ℕ) × AreCounted config (stamps i) t written
  pub events : List Event
  pub order : IsLegalOrder (case_of logs transcripts) events

-- what a service begins with that has these accounts and whose nodes begin so
abbrev pub config_of : List Account → Setup → Config Global
config_of accounts setup = record {
  accounts = accounts;
  limits = setup.limits;
  kept = setup.kept;
  keys = setup.keys;
  cluster = setup.cluster;
  window = setup.window;
}

-- nodes can begin so, for these accounts
pub record CanServe (accounts : List Account) (setup : Setup) : Type 0 where
  pub names : setup.names ≡ map name_of accounts
  pub fit : is_fit (opening_of setup 1) ≡ true

-- The logs of all nodes of such a service and transcripts of sessions, as many as were greeted, have a legal order. Only the
-- transcripts of sessions that asked something are kept.
pub record WasLegal (config : Config Global) (logs : List (NodeLog Global)) (kept : List (Transcript Global)) (greeted : ℕ) : Type 0 where
  pub transcripts : List (Transcript Global)
  pub counted : greeted ≡ length transcripts
  pub asking : kept ≡ filter has_asked transcripts
  pub legal : IsLegal config logs transcripts

-- This is the verdict on these logs and on what was kept of sessions. It names a session by its number among all sessions.
abbrev pub IsJudged : List (NodeLog Global) → TranscriptsValue → Verdict → Type 0
IsJudged logs transcripts verdict =
    (verdict ≡ Memory) ⊎ ((found : Verdict) × IsVerdict logs transcripts.kept found × (verdict ≡ numbered transcripts.numbers found))

-- This is what was found of these logs and of what was kept of sessions, all of whom are there: a session is named by its number
-- among all sessions.
pub record IsFound (logs : List (NodeLog Global)) (transcripts : TranscriptsValue) (verdict : Verdict) : Type 0 where
  pub found : Verdict
  pub of_kept : IsVerdict logs transcripts.kept found
  pub named : verdict ≡ numbered transcripts.numbers found
  pub whole : transcripts.is_short ≡ false
  pub all : transcripts.ended ≡ transcripts.greeted

-- what a service begins with that has so many nodes, this window and these limits, and takes over so many keys of a maildrop
pub record IsConfigFor (nodes window : ℕ) (limits : Limits) (keys : ℕ) (config : Config Global) : Type 0 where
  pub cluster : config.cluster ≡ nodes
  pub slots : config.window ≡ window
  pub maildrops : config.limits ≡ limits
  pub last_keys : config.keys ≡ keys
