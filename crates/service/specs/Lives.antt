-- The epochs of a service as services one after another.
use Rattle.std.specs.Prelude.{◌≡◌, ℕ, length, List, [], ◌∷◌, ◌++◌}
use Rattle.std.specs.List.{filter}
use Rattle.std.specs.declared.alloc.Global.{Global}
use Rattle.apop.specs.Stamp.{Stamp}
use Rattle.session.specs.declared.transcript.Transcript.{Transcript}
use Rattle.runs.specs.Lives.{Epoch}
use Rattle.runs.specs.Services.{run_of}
use Rattle.audit.specs.Runs.{IsRunOf}
use Rattle.service.specs.Epochs.{EpochValue}
use Rattle.service.specs.Transcripts.{has_asked}
use Rattle.service.specs.Verdicts.{config_of}

-- A run of an epoch: what came of it is what the epoch's nodes and sessions left. As many sessions as were greeted took part;
-- those that asked something left the transcripts that were kept.
pub record IsRunOfEpoch (epoch : EpochValue) (run : Epoch Global) : Type 0 where
  pub begins : run.config ≡ config_of epoch.accounts epoch.setup
  pub stamps : ℕ → Stamp
  pub transcripts : List (Transcript Global)
  pub greeted : epoch.transcripts.greeted ≡ length transcripts
  pub asking : epoch.transcripts.kept ≡ filter has_asked transcripts
  pub brings : IsRunOf run.config stamps epoch.logs transcripts (run_of run.config run.happenings)

-- runs of these epochs, the last epoch first and the last run last
abbrev pub AreRunsOf : List EpochValue → List (Epoch Global) → Type 0
AreRunsOf [] runs = runs ≡ []
AreRunsOf (epoch ∷ before) runs =
    (earlier : List (Epoch Global)) × (run : Epoch Global) × (runs ≡ earlier ++ run ∷ []) × IsRunOfEpoch epoch run × AreRunsOf before earlier
