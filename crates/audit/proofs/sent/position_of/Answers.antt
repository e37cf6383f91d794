use Rattle.std.proofs.Common.{◌∙◌, ap, sym, refl, length, Some}
use Rattle.std.proofs.lemmas.Option.{slice_get_read}
use Rattle.audit.proofs.Finding.{same_is}
use Rattle.audit.proofs.sent.position_of.Goals as goal

pub returns-then-same_envelope-clause-found : goal.returns-then-same_envelope-clause-found
returns-then-same_envelope-clause-found g c =
    let es = c.args.envelopes.now in
    let other = c.index-envelopes-place.result in
    slice_get_read es (length es) c.loop-place.place other refl c.loop-place-test.true c.index-envelopes-place.is
    ∙ ap Some (same_is other c.args.envelope.now (sym c.same_envelope.ensures ∙ c.if-same_envelope.true))
