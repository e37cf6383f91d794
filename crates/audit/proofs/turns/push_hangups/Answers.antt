use Rattle.std.proofs.Common.{◌+◌, length, refl, arith}
use Rattle.std.proofs.lemmas.Option.{slice_get_read}
use Rattle.audit.proofs.Turning.{hangup_next}
use Rattle.audit.proofs.turns.push_hangups.Goals as goal

pub loop-number-preserved : goal.loop-number-preserved
loop-number-preserved g c =
    let entries = c.args.entries.now in
    let n = c.loop-number.number in
    hangup_next n (n + 1) entries c.index-entries-number.result c.loop-number.kinds.items c.push_asking.new.kinds.items _ (slice_get_read entries (length entries) n c.index-entries-number.result refl c.loop-number-test.true c.index-entries-number.is)
    (omega arith) c.loop-number.invariant c.in_ok-push_asking.ensures
