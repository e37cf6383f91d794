-- What the end of an epoch leaves.
use Rattle.std.specs.Prelude.{ℕ, IfOk}
use Rattle.std.specs.declared.alloc.Global.{Global}
use Rattle.maildrop.specs.Kept.{KeptTable}
use Rattle.maildrop.specs.Limits.{Limits}
use Rattle.cluster.specs.Ends.{IsLeftBy}
use Rattle.service.specs.Epochs.{IsEpochOf}
use Rattle.service.specs.declared.epoch_run.EpochLeft.{EpochLeft}

-- what is left of an epoch of so many nodes, with this window, these limits and so many keys, that opened with these maildrops; and the
-- maildrops that it left, if there was memory to find them
abbrev pub IsLeftOf : (nodes window : ℕ) → Limits → (keys : ℕ) → KeptTable Global → EpochLeft → Type 0
IsLeftOf nodes window limits keys kept left = IsEpochOf nodes window limits keys kept left.epoch × IfOk left.kept (IsLeftBy left.epoch.setup left.epoch.logs)
