use Rattle.std.proofs.Common.{◌≡◌, ◌++◌, take}
use Rattle.std.specs.List.{flat_map}
use Rattle.service.specs.Maildrops.{lock_line}
use Rattle.service.proofs.maildrop_lines.put_locks.Given as goal

-- the lines of the locks so far
abbrev pub invariant-loop-lock : goal.invariant-loop-lock
invariant-loop-lock l = l.text.items ≡ l.initial.text.items ++ flat_map lock_line (take l.lock-index l.locks)
