-- What an operator is told of the epochs.
use Rattle.std.specs.Prelude.{ℕ, List, codes, Bool, true, false}
use Rattle.session_log.specs.Stats.{with_line}
use Rattle.rolls.specs.declared.rolls.EpochStats.{EpochStats}

abbrev pub number_of : Bool → ℕ
number_of true = 1
number_of false = 0

-- a text, and the lines about an epoch
abbrev pub with_epoch : List ℕ → EpochStats → List ℕ
with_epoch text stats =
    with_line (with_line (with_line (with_line (with_line text
    (codes "epoch ") stats.epoch)
    (codes "epoch_seconds ") stats.seconds)
    (codes "epoch_sessions ") stats.load.sessions)
    (codes "epoch_bytes ") stats.load.bytes)
    (codes "audits_running ") (number_of stats.is_auditing)
