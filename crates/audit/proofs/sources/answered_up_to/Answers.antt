use Rattle.std.proofs.Common.{◌∙◌, ◌<◌, ◌≤◌, length, refl, sym, arith, add-one}
use Rattle.audit.specs.Answered.{is_answered_by}
use Rattle.audit.proofs.Entries.{fewer, goes_on, stops_at}
use Rattle.audit.proofs.Finding.{got}
use Rattle.audit.proofs.sources.answered_up_to.Goals as goal

pub returns-then-not-is_entry_answered-clause-first : goal.returns-then-not-is_entry_answered-clause-first
returns-then-not-is_entry_answered-clause-first g c less =
    let asked = c.args.asked.now in
    let n = c.loop-number.number in
    let within : n < length asked = omega (arith, less, c.requires.end) in
    let entry = c.index-asked-number.result in
    stops_at (is_answered_by c.args.logs.now c.args.replays.now) asked n c.args.end entry (got asked asked n entry refl within c.index-asked-number.is) less (sym c.is_entry_answered.ensures ∙ c.if-not-is_entry_answered.true)

pub loop-number-preserved : goal.loop-number-preserved
loop-number-preserved g c =
    let asked = c.args.asked.now in
    let n = c.loop-number.number in
    let within : n < length asked = omega (arith, c.loop-number-test.true, c.requires.end) in
    let entry = c.index-asked-number.result in
    rw add-one (goes_on (is_answered_by c.args.logs.now c.args.replays.now) asked n entry (got asked asked n entry refl within c.index-asked-number.is) c.loop-number.invariant (sym c.is_entry_answered.ensures ∙ c.if-not-is_entry_answered.false))

pub returns-clause-answered : goal.returns-clause-answered
returns-clause-answered g c =
    let n = c.loop-number.number in
    let less : c.max.result ≤ n = omega (arith, c.max.ensures, c.loop-number-test.false, c.loop-number.auto.number) in
    fewer (is_answered_by c.args.logs.now c.args.replays.now) c.args.asked.now c.max.result n less c.loop-number.invariant
