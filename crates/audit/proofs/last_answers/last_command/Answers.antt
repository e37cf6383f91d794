use Rattle.std.proofs.Common.{◌≡◌, ◌-◌, ◌<◌, suc, length, refl, arith}
use Rattle.std.proofs.lemmas.Option.{slice_get_read}
use Rattle.audit.proofs.LastKeys.{last_here}
use Rattle.audit.proofs.last_answers.last_command.Goals as goal

pub returns-in-Some : goal.returns-in-Some
returns-in-Some g c =
    let n = c.loop-number.number in
    let entries = c.args.entries.now in
    let positive = c.loop-number-test.true in
    let bound = c.loop-number.auto.number in
    let next : suc (n - 1) ≡ n = omega (arith, positive) in
    let within : n - 1 < length entries = omega (arith, positive, bound) in
    last_here n (n - 1) entries c.index-entries-number.result c.in-Some.ticket c.new.result next (slice_get_read entries (length entries) (n - 1) c.index-entries-number.result refl within c.index-entries-number.is) c.in-Some.is c.new.ensures c.loop-number.invariant
