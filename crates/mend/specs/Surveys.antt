-- What is found behind damage.
use Rattle.std.specs.Prelude.{◌≡◌, ℕ, List, Option, Some, None}
use Rattle.std.specs.declared.alloc.Global.{Global}
use Rattle.maildrop.specs.Kept.{KeptTable}
use Rattle.mend.specs.Taking.{AreTaken}
use Rattle.mend.specs.Finding.{found_from}
use Rattle.mend.specs.declared.head.Head.{Head}

-- all whole records from this place of a file on were taken, if the file has a head
abbrev pub HasFound : Option Head → ℕ → List ℕ → KeptTable Global → KeptTable Global → Type 0
HasFound None from bytes old new = new ≡ old
HasFound (Some head) from bytes old new = AreTaken head.is_batched (found_from head.salt from bytes) old new
