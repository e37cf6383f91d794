use Rattle.std.proofs.Common.{◌≡◌, ◌∷◌, append_assoc}
use Rattle.std.specs.Map.Iter.{deref_pair}
use Rattle.std.proofs.lemmas.Map.Iter.{rest_more}
use Rattle.leader.proofs.adopting.lead.Goals as goal

pub loop-slot-preserved : goal.loop-slot-preserved
loop-slot-preserved g c =
    let turn : c.loop-slot.slot-iterator ≡ (c.in-Some.slot.now, c.in-Some.command.now) ∷ c.next.new.self = rest_more deref_pair c.loop-slot.slot-iterator c.next.new.self c.next.result (c.in-Some.slot, c.in-Some.command) c.in-Some.is c.next.ensures.steps in
    record {
      commanders = rw c.in_ok-start.ensures.commanders (rw turn at c.loop-slot.invariant.commanders);
      sends = rw (c.in_ok-start.ensures.sends, append_assoc) (rw turn at c.loop-slot.invariant.sends);
    }
