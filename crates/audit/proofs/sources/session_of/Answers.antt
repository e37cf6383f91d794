use Rattle.std.proofs.Common.{◌∙◌, ◌<◌, length, true, false, is_some, refl, sym, ap, arith}
use Rattle.std.proofs.lemmas.Option.{slice_get_within, slice_get_read}
use Rattle.audit.specs.Answered.{is_answered_by, are_answered, is_turn}
use Rattle.audit.proofs.Earliest.{place_named, looked_up, turn_is}
use Rattle.audit.proofs.Entries.{fewer, known_more}
use Rattle.audit.proofs.sources.session_of.Goals as goal

pub returns-in_err-session-clause-turn : goal.returns-in_err-session-clause-turn
returns-in_err-session-clause-turn g c =
    ap is_some c.from_residual.ensures ∙ ap (is_turn (is_answered_by c.args.logs.now c.args.replays.now) c.args.transcripts.now) (c.in_err-session.ensures.value ∙ c.requires.found.names c.args.id)

pub bounds-transcripts-session : goal.bounds-transcripts-session
bounds-transcripts-session g c =
    let place = c.in_ok-session.field-0.now in
    let p = place_named c.args.logs.now c.args.transcripts.now c.args.id place (c.in_ok-session.ensures.value ∙ c.requires.found.names c.args.id) in
    slice_get_within c.args.transcripts.now place.0 p.transcript p.its

pub offset_bounds-transcripts-session : goal.offset_bounds-transcripts-session
offset_bounds-transcripts-session g c =
    let place = c.in_ok-session.field-0.now in
    let p = place_named c.args.logs.now c.args.transcripts.now c.args.id place (c.in_ok-session.ensures.value ∙ c.requires.found.names c.args.id) in
    let within : place.0 < length c.args.transcripts.now = slice_get_within c.args.transcripts.now place.0 p.transcript p.its in
    omega (arith, within)

pub index-requires : goal.index-requires
index-requires g c =
    let logs = c.args.logs.now in
    let ts = c.args.transcripts.now in
    let place = c.in_ok-session.field-0.now in
    let p = place_named logs ts c.args.id place (c.in_ok-session.ensures.value ∙ c.requires.found.names c.args.id) in
    let within : place.0 < length ts = slice_get_within ts place.0 p.transcript p.its in
    omega (arith, within, c.args.answered.now.ok.0, c.requires.answered.count)

pub index_mut-requires : goal.index_mut-requires
index_mut-requires g c =
    let logs = c.args.logs.now in
    let ts = c.args.transcripts.now in
    let place = c.in_ok-session.field-0.now in
    let p = place_named logs ts c.args.id place (c.in_ok-session.ensures.value ∙ c.requires.found.names c.args.id) in
    let within : place.0 < length ts = slice_get_within ts place.0 p.transcript p.its in
    omega (arith, within, c.args.answered.now.ok.0, c.requires.answered.count)

pub answered_up_to-known-requires-clause-end : goal.answered_up_to-known-requires-clause-end
answered_up_to-known-requires-clause-end g c =
    let logs = c.args.logs.now in
    let ts = c.args.transcripts.now in
    let place = c.in_ok-session.field-0.now in
    let p = place_named logs ts c.args.id place (c.in_ok-session.ensures.value ∙ c.requires.found.names c.args.id) in
    let asked = looked_up logs ts c.args.id place p c.index-transcripts-session.result c.get-asked.result.now c.index-transcripts-session.is c.get-asked.ensures in
    let within : place.1 < length p.transcript.asked = slice_get_within p.transcript.asked place.1 p.entry p.at in
    omega (arith, within, ap length asked)

pub answered_up_to-known-requires-clause-known : goal.answered_up_to-known-requires-clause-known
answered_up_to-known-requires-clause-known g c =
    let logs = c.args.logs.now in
    let ts = c.args.transcripts.now in
    let place = c.in_ok-session.field-0.now in
    let p = place_named logs ts c.args.id place (c.in_ok-session.ensures.value ∙ c.requires.found.names c.args.id) in
    let asked = looked_up logs ts c.args.id place p c.index-transcripts-session.result c.get-asked.result.now c.index-transcripts-session.is c.get-asked.ensures in
    let answered = is_answered_by logs c.args.replays.now in
    let counts = c.args.answered.now.items in
    let within : place.0 < length ts = slice_get_within ts place.0 p.transcript p.its in
    let there : place.0 < length counts = omega (arith, within, c.requires.answered.count) in
    ap (are_answered answered c.index.result.now) asked ∙ c.requires.answered.each place.0 p.transcript c.index.result.now p.its (slice_get_read counts (length counts) place.0 c.index.result.now refl there c.index.ensures)

pub returns-then-known-entry-clause-answered : goal.returns-then-known-entry-clause-answered
returns-then-known-entry-clause-answered g c =
    let logs = c.args.logs.now in
    let ts = c.args.transcripts.now in
    let place = c.in_ok-session.field-0.now in
    let p = place_named logs ts c.args.id place (c.in_ok-session.ensures.value ∙ c.requires.found.names c.args.id) in
    let asked = looked_up logs ts c.args.id place p c.index-transcripts-session.result c.get-asked.result.now c.index-transcripts-session.is c.get-asked.ensures in
    let answered = is_answered_by logs c.args.replays.now in
    known_more answered ts c.args.answered.now.items place.0 c.answered_up_to-known.result p.transcript c.requires.answered p.its (sym (ap (are_answered answered c.answered_up_to-known.result) asked) ∙ c.answered_up_to-known.ensures.answered)

pub returns-clause-answered : goal.returns-clause-answered
returns-clause-answered g c =
    let logs = c.args.logs.now in
    let ts = c.args.transcripts.now in
    let place = c.in_ok-session.field-0.now in
    let p = place_named logs ts c.args.id place (c.in_ok-session.ensures.value ∙ c.requires.found.names c.args.id) in
    let asked = looked_up logs ts c.args.id place p c.index-transcripts-session.result c.get-asked.result.now c.index-transcripts-session.is c.get-asked.ensures in
    let answered = is_answered_by logs c.args.replays.now in
    known_more answered ts c.args.answered.now.items place.0 c.answered_up_to-known.result p.transcript c.requires.answered p.its (sym (ap (are_answered answered c.answered_up_to-known.result) asked) ∙ c.answered_up_to-known.ensures.answered)

pub returns-then-known-entry-clause-turn : goal.returns-then-known-entry-clause-turn
returns-then-known-entry-clause-turn g c =
    let logs = c.args.logs.now in
    let ts = c.args.transcripts.now in
    let place = c.in_ok-session.field-0.now in
    let p = place_named logs ts c.args.id place (c.in_ok-session.ensures.value ∙ c.requires.found.names c.args.id) in
    let asked = looked_up logs ts c.args.id place p c.index-transcripts-session.result c.get-asked.result.now c.index-transcripts-session.is c.get-asked.ensures in
    let answered = is_answered_by logs c.args.replays.now in
    turn_is logs ts answered c.args.id place p c.get-asked.result.now false (c.in_ok-session.ensures.value ∙ c.requires.found.names c.args.id) asked (c.answered_up_to-known.ensures.first c.if-known-entry.true)

pub returns-clause-turn : goal.returns-clause-turn
returns-clause-turn g c =
    let logs = c.args.logs.now in
    let ts = c.args.transcripts.now in
    let place = c.in_ok-session.field-0.now in
    let p = place_named logs ts c.args.id place (c.in_ok-session.ensures.value ∙ c.requires.found.names c.args.id) in
    let asked = looked_up logs ts c.args.id place p c.index-transcripts-session.result c.get-asked.result.now c.index-transcripts-session.is c.get-asked.ensures in
    let answered = is_answered_by logs c.args.replays.now in
    turn_is logs ts answered c.args.id place p c.get-asked.result.now true (c.in_ok-session.ensures.value ∙ c.requires.found.names c.args.id) asked (fewer answered c.get-asked.result.now place.1 c.answered_up_to-known.result c.if-known-entry.false c.answered_up_to-known.ensures.answered)

pub returns-clause-session : goal.returns-clause-session
returns-clause-session g c = (c.in_ok-session.field-0.now.1, sym (c.in_ok-session.ensures.value ∙ c.requires.found.names c.args.id))
