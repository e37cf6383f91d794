use Rattle.std.proofs.Common.{◌∙◌, ◌<◌, length, refl, sym, subst, arith, List}
use Rattle.std.proofs.lemmas.Option.{slice_get_read}
use Rattle.std.specs.Map.{lookup}
use Rattle.maildrop.specs.CommandId.{same_id}
use Rattle.session.specs.declared.transcript.Asked.{Asked}
use Rattle.audit.specs.Checks.{AreFound, IsLeft, end_state}
use Rattle.audit.specs.Names.{named_in}
use Rattle.audit.proofs.Seats.{nothing_asked, asked_nowhere, asked_here}
use Rattle.audit.proofs.check.check_session.Goals as goal

pub returns-in_default : goal.returns-in_default
returns-in_default g c = λ transcripts named rest left others. nothing_asked c.args.logs.now transcripts c.args.transcript.now named c.get-entries.result.now c.args.outcomes.now c.get-entries.ensures (sym c.first_node.ensures ∙ c.in_default.is) left

pub returns-then-home-logs : goal.returns-then-home-logs
returns-then-home-logs g c = λ transcripts named rest left others.
    asked_nowhere c.args.logs.now transcripts c.args.transcript.now named c.get-entries.result.now c.args.outcomes.now c.in-Some.node c.place_of-home.result c.get-entries.ensures (sym c.first_node.ensures ∙ c.in-Some.is) c.place_of-home.ensures c.if-home-logs.true

pub check_entries-requires : goal.check_entries-requires
check_entries-requires g c =
    let logs = c.args.logs.now in
    let numbers = c.args.numbers.now in
    let home = c.place_of-home.result in
    let there : home < length logs = c.if-home-logs.false in
    let count = c.requires.numbered.count in
    let within : home < length numbers = omega (arith, there, count) in
    c.requires.numbered.each home c.index-logs-home.result c.index-numbers-home.result
    (slice_get_read logs (length logs) home c.index-logs-home.result refl there c.index-logs-home.is)
    (slice_get_read numbers (length numbers) home c.index-numbers-home.result refl within c.index-numbers-home.is)

pub returns : goal.returns
returns g c = λ transcripts named rest left others.
    let logs = c.args.logs.now in
    let outcomes = c.args.outcomes.now in
    let home = c.place_of-home.result in
    let there : home < length logs = c.if-home-logs.false in
    let count = left.count in
    let within : home < length outcomes = omega (arith, there, count) in
    let its = slice_get_read outcomes (length outcomes) home c.index-outcomes-home.result refl within c.index-outcomes-home.is in
    let found = subst (λ (entries : List (Asked g.row.A.Denot)). AreFound c.args.session 0 named (λ id. named_in id c.args.session 0 entries (rest id)) (λ id. lookup (same_id id) c.args.names.now.entries)) (sym c.get-entries.ensures) others in
    asked_here logs transcripts c.args.transcript.now named c.get-entries.result.now outcomes _ c.in-Some.node home c.index-logs-home.result c.check_entries.new.outcomes c.check_entries.result c.get-entries.ensures (sym c.first_node.ensures ∙ c.in-Some.is) c.place_of-home.ensures
    (slice_get_read logs (length logs) home c.index-logs-home.result refl there c.index-logs-home.is)
    left refl
    (c.check_entries.ensures (end_state logs transcripts home) named rest (subst (IsLeft (end_state logs transcripts home) named) c.index-outcomes-home.is (left.each home c.index-outcomes-home.result its)) found)
