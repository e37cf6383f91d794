use Rattle.std.proofs.Common.{◌+◌, refl, length, arith}
use Rattle.std.proofs.lemmas.Option.{slice_get_read}
use Rattle.audit.proofs.Checking.{begins, wrong_one, right_one, all_right}
use Rattle.audit.proofs.check.check_entries.Goals as goal

pub loop-number-init : goal.loop-number-init
loop-number-init g c = λ state named rest left others. begins c.args.log.now state _ rest c.args.session named c.args.entries.now c.args.outcomes.now left others

pub loop-number-preserved : goal.loop-number-preserved
loop-number-preserved g c = λ state named rest left others.
    let entries = c.args.entries.now in
    let entry = c.index-entries-number.result in
    right_one c.args.log.now state _ rest c.args.session named entries c.loop-number.number (c.loop-number.number + 1) c.loop-number.outcomes c.check_entry.new.outcomes entry c.check_entry.result (omega arith)
    (slice_get_read entries (length entries) c.loop-number.number entry refl c.loop-number-test.true c.index-entries-number.is)
    (c.loop-number.invariant state named rest left others) (c.check_entry.ensures state) c.if-not-check_entry.false

pub returns-then-not-check_entry : goal.returns-then-not-check_entry
returns-then-not-check_entry g c = λ state named rest left others.
    let entries = c.args.entries.now in
    let entry = c.index-entries-number.result in
    let wrong = wrong_one c.args.log.now state _ rest c.args.session named entries c.loop-number.number c.loop-number.outcomes c.check_entry.new.outcomes entry c.check_entry.result
    (slice_get_read entries (length entries) c.loop-number.number entry refl c.loop-number-test.true c.index-entries-number.is)
    (c.loop-number.invariant state named rest left others) (c.check_entry.ensures state) c.if-not-check_entry.true in
    (wrong, λ e. absurd (cc))

pub returns : goal.returns
returns g c = λ state named rest left others.
    let all = all_right c.args.log.now state _ rest c.args.session named c.args.entries.now c.loop-number.number c.loop-number.outcomes c.loop-number-test.false (c.loop-number.invariant state named rest left others) in
    (all.0, λ e. all.1)
