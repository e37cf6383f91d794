use Rattle.audit.proofs.Finding.{places_kept, place_added}
use Rattle.audit.proofs.sent.Sent.push.Goals as goal

pub invariant_of-self : goal.invariant_of-self
invariant_of-self g c = places_kept _ _ c.self.inside.envelopes c.self.invariant c.note.ensures.kept

pub invariant_of-self-2 : goal.invariant_of-self-2
invariant_of-self-2 g c =
    place_added c.push.result _ _ c.self.inside.envelopes c.push.new.self c.args.envelope c.self.invariant c.note.ensures.kept (rw c.label_of.ensures at c.in_ok-note.ensures.own) c.push.ensures.ok c.push.ensures.err
