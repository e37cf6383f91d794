use Rattle.std.proofs.Common.{◌≡◌, ◌+◌, arith}
use Rattle.std.proofs.lemmas.Grind.{common_steps}
use Rattle.ballot.proofs.Sends.{to_all_last}
use Rattle.ballot.proofs.outgoing.Items+Outgoing+C+A+A.broadcast.Goals as goal

pub returns-clause-ok : goal.returns-clause-ok
returns-clause-ok g c =
    let last : c.args.cluster ≡ c.loop-below.below + 1 = omega arith in
    rw (to_all_last c.args.cluster c.loop-below.below c.args.message last) (grind (arith, common_steps))
