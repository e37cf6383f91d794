-- How an epoch ends.
use Rattle.service.specs.declared.epoch_run.Ending.{Ending}
use Rattle.service.specs.declared.epoch_run.Ending.TheVariants.{Rolled}

-- What holds if the next epoch begins.
abbrev pub IfRolled : Ending → Type 0 → Type 0
IfRolled (Rolled prepared) P = P
IfRolled ending P = Unit {0}
