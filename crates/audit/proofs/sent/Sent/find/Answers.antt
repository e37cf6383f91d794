use Rattle.std.proofs.Common.{◌∙◌, sym, ap, Some}
use Rattle.audit.proofs.Finding.{not_sent, got, same_is}
use Rattle.audit.proofs.sent.Sent.find.Goals as goal

pub returns-in_err-place-clause-none : goal.returns-in_err-place-clause-none
returns-in_err-place-clause-none g c = λ _. rw (← c.self.view_is) (not_sent _ c.self.inside.envelopes c.args.envelope.now c.self.invariant (sym (rw c.label_of.ensures at c.in_err-place.ensures.value)))

pub returns-then-same_envelope-clause-found : goal.returns-then-same_envelope-clause-found
returns-then-same_envelope-clause-found g c =
    let other = c.in-Some.other.now in
    rw (← c.self.view_is)
    (got c.get-envelopes.result.now c.self.inside.envelopes c.in_ok-place.place.now other c.get-envelopes.ensures c.in-Some.ensures.lookup.3.0 c.in-Some.ensures.lookup.1
    ∙ ap Some (same_is other c.args.envelope.now (sym c.same_envelope.ensures ∙ c.if-same_envelope.true)))

pub returns-clause-found : goal.returns-clause-found
returns-clause-found g c = rw (← c.self.view_is, ← c.get-envelopes.ensures) c.position_of.ensures.found

pub returns-clause-none : goal.returns-clause-none
returns-clause-none g c = rw (← c.self.view_is, ← c.get-envelopes.ensures) c.position_of.ensures.none
