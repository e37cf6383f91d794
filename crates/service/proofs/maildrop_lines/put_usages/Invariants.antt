use Rattle.std.proofs.Common.{◌≡◌, ◌++◌, take}
use Rattle.std.specs.List.{flat_map}
use Rattle.service.specs.Maildrops.{user_line}
use Rattle.service.proofs.maildrop_lines.put_usages.Given as goal

-- the lines of the users so far
abbrev pub invariant-loop-user : goal.invariant-loop-user
invariant-loop-user l = l.text.items ≡ l.initial.text.items ++ flat_map user_line (take l.user-index l.users)
