-- The epochs of a service: each opens with what the one before it has left, and is audited once it has ended.
use Rattle.std.specs.Prelude.{◌≡◌, refl, ℕ, zero, suc, length, List, [], ◌∷◌, ◌++◌, map, Option, Some, None, Bool, true, false, codes}
use Rattle.std.specs.List.{All}
use Rattle.std.specs.Fmt.{decimal, digits}
use Rattle.std.specs.Io.KnownBytes.{Appends}
use Rattle.std.specs.declared.alloc.Global.{Global}
use Rattle.apop.specs.Accounts.{Account}
use Rattle.maildrop.specs.Kept.{KeptTable, with_others_of}
use Rattle.maildrop.specs.Limits.{Limits}
use Rattle.node.specs.declared.log.NodeLog.{NodeLog}
use Rattle.session.specs.declared.transcript.Transcript.{Transcript}
use Rattle.cluster.specs.Ends.{IsLeftBy}
use Rattle.cluster.specs.Members.{IsLogOf}
use Rattle.cluster.specs.Starts.{all_nodes}
use Rattle.cluster.specs.declared.setup.Setup.{Setup}
use Rattle.service.specs.Transcripts.{TranscriptsValue, KeepsServed}
use Rattle.service.specs.Verdicts.{CanServe, IsConfigFor, WasLegal, config_of, text_of}
use Rattle.service.specs.declared.verdict.Verdict.{Verdict}
use Rattle.service.specs.declared.verdict.Verdict.TheVariants.{Legal}

-- an epoch that has ended: whom its sessions were served over, what its nodes began with, and what nodes and sessions left
pub record EpochValue : Type 0 where
  pub accounts : List Account
  pub setup : Setup
  pub logs : List (NodeLog Global)
  pub transcripts : TranscriptsValue

-- the logs are those of all its nodes, and each of its sessions was served over its accounts
pub record HasEnded (epoch : EpochValue) : Type 0 where
  pub service : CanServe epoch.accounts epoch.setup
  pub nodes : map (λ log. log.opening.me) epoch.logs ≡ all_nodes epoch.setup.cluster
  pub began : All (λ log. IsLogOf epoch.setup log.opening.me log) epoch.logs
  pub served : KeepsServed epoch.accounts epoch.transcripts

-- what its nodes and sessions left has a legal order
abbrev pub WasLegalEpoch : EpochValue → Type 0
WasLegalEpoch epoch = WasLegal (config_of epoch.accounts epoch.setup) epoch.logs epoch.transcripts.kept epoch.transcripts.greeted

-- what an epoch hands on: the maildrops as a node has them than which none has performed more, and what was kept of users
-- without an account
pub record IsHandedOn (epoch : EpochValue) (kept : KeptTable Global) : Type 0 where
  pub left : KeptTable Global
  pub by_nodes : IsLeftBy epoch.setup epoch.logs left
  pub with_others : kept ≡ with_others_of left epoch.setup.kept

-- These epochs, the last of them first, ran one after another: the first one opened with these maildrops, each other one with
-- what the one before it handed on. The last one handed on what is kept.
abbrev pub LeadTo : (first : KeptTable Global) → List EpochValue → (kept : KeptTable Global) → Type 0
LeadTo first [] kept = kept ≡ first
LeadTo first (epoch ∷ before) kept = IsHandedOn epoch kept × LeadTo first before epoch.setup.kept

-- what is known of the epochs that have ended
pub record PastValue : Type 0 where
  -- what the first one opened with
  pub first : KeptTable Global
  -- what the next one opens with
  pub kept : KeptTable Global
  -- how many verdicts are known
  pub told : ℕ
  -- each of them is that all is in order, and was reported
  pub is_good : Bool
  -- the last epoch, if its verdict isn't known yet
  pub pending : Option EpochValue

abbrev pub with_pending : Option EpochValue → List EpochValue → List EpochValue
with_pending None before = before
with_pending (Some epoch) before = epoch ∷ before

-- the epochs that have ended lead to what is kept, and those with a verdict had a legal order
pub record HasLed (past : PastValue) : Type 0 where
  pub before : List EpochValue
  pub opens : LeadTo past.first (with_pending past.pending before) past.kept
  pub legal : All WasLegalEpoch before
  pub count : past.told ≡ length before

abbrev pub HasLedIfGood : PastValue → Type 0
HasLedIfGood past = past.is_good ≡ true → HasLed past

-- no epoch has ended, and the first one opens with these maildrops
abbrev pub no_past : KeptTable Global → PastValue
no_past first = record { first = first; kept = first; told = 0; is_good = true; pending = None }

-- the first verdict that isn't that all is in order, once one more is known
abbrev pub first_bad_of : Option Verdict → Verdict → Option Verdict
first_bad_of (Some bad) verdict = Some bad
first_bad_of None Legal = None
first_bad_of None verdict = Some verdict

-- an epoch of so many nodes, with this window, these limits and so many keys, that opened with these maildrops
abbrev pub IsEpochOf : (nodes window : ℕ) → Limits → (keys : ℕ) → KeptTable Global → EpochValue → Type 0
IsEpochOf nodes window limits keys kept epoch = (epoch.setup.kept ≡ kept) × IsConfigFor nodes window limits keys (config_of epoch.accounts epoch.setup)

-- the line about an epoch
abbrev pub epoch_line : ℕ → Verdict → List ℕ
epoch_line number verdict = codes "epoch " ++ decimal number ++ codes ": " ++ text_of verdict ++ 10 ∷ []

-- the lines about so many epochs, each of which was in order
abbrev pub epoch_lines : ℕ → List ℕ
epoch_lines zero = []
epoch_lines (suc n) = epoch_lines n ++ epoch_line (suc n) Legal

-- what a service starts with: what its writer has, if that is known, and the maildrops with which the first epoch opens
pub record Start : Type 0 where
  pub written : Option (List ℕ)
  pub first : KeptTable Global

-- since this start the verdicts that are known were written, and the first epoch is the same
abbrev pub HasTold : Start → Option (List ℕ) → PastValue → Type 0
HasTold start now past = past.is_good ≡ true → Appends start.written now (epoch_lines past.told) × (past.first ≡ start.first)

-- what was written says of the epochs what became known of them
abbrev pub TellsOn : (old new : Option (List ℕ)) → (before after : PastValue) → Type 0
TellsOn old new before after = (start : Start) → HasTold start old before → HasTold start new after

-- The logs of all nodes of the last epoch, and transcripts of sessions, as many as were greeted in it, have a legal order. It has
-- so many nodes, this window and these limits, and took over so many keys of a maildrop. So many epochs were before it, each of
-- which had a legal order: the first one opened with nothing, unless there is a data folder, and each other one, the last one too,
-- with what the one before it handed on.
pub record FoundLegal (nodes window : ℕ) (limits : Limits) (keys : ℕ) (has_folder : Bool) (epochs : ℕ) (logs : List (NodeLog Global)) (kept : List (Transcript Global)) (greeted : ℕ) : Type 0 where
  pub accounts : List Account
  pub setup : Setup
  pub settings : IsConfigFor nodes window limits keys (config_of accounts setup)
  pub legal : WasLegal (config_of accounts setup) logs kept greeted
  pub before : List EpochValue
  pub count : epochs ≡ length before
  pub first : KeptTable Global
  pub begins : has_folder ≡ false → first ≡ []
  pub opens : LeadTo first before setup.kept
  pub all_legal : All WasLegalEpoch before

two_epochs : epoch_lines 2 ≡ codes "epoch 1: audit ok\nepoch 2: audit ok\n"
unfolding digits
two_epochs = refl
