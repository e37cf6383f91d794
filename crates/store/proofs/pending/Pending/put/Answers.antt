use Rattle.std.proofs.Common.{◌≡◌, ◌+◌, ◌≤◌, ◌∙◌, [], ◌∷◌, List, ℕ, length, ap, arith}
use Rattle.records.specs.declared.place.TheConstants.{LARGEST_PAYLOAD}
use Rattle.store.specs.Running.{with_payloads}
use Rattle.store.proofs.Additions.{pending_content, pending_grows}
use Rattle.store.proofs.pending.Pending.put.Goals as goal

pub invariant_of-self-2 : goal.invariant_of-self-2
invariant_of-self-2 c =
    let p = c.self.inside in
    let room = c.has_room.ensures.0 c.if-not-has_room.false in
    let size = c.in_ok-add.ensures.size in
    let short : length c.add.new.self ≤ LARGEST_PAYLOAD = omega (arith, room, size) in
    let step : c.in-Some.size ≡ p.size + (4 + length c.args.payload.now) = grind (arith, c.in-Some.ensures) in
    pending_grows p.closed.items p.last c.add.new.self c.args.payload.now p.size c.self.invariant c.in_ok-add.ensures.added c.requires short c.in-Some.size step size

pub returns-clause-added : goal.returns-clause-added
returns-clause-added c =
    let p = c.self.inside in
    pending_content p.closed.items p.last c.add.new.self c.args.payload.now p.size c.self.invariant c.in_ok-add.ensures.added
    ∙ ap (λ (x : List ℕ). with_payloads x (c.args.payload.now ∷ [])) c.self.view_is
