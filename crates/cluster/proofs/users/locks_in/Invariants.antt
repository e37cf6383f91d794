use Rattle.std.proofs.Common.{◌≡◌, take}
use Rattle.std.specs.List.{filter_map}
use Rattle.maildrop.specs.Office.{names_of}
use Rattle.cluster.specs.Users.{lock_for}
use Rattle.cluster.proofs.users.locks_in.Given as goal

-- those of the users so far
abbrev pub invariant-loop-place : goal.invariant-loop-place
invariant-loop-place l = l.locks.items ≡ filter_map (lock_for l.office) (take l.place (names_of l.office))
