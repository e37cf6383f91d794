use Rattle.std.proofs.Common.{◌≡◌, [], ◌∷◌, ◌++◌, arith, ◌∙◌, ap, rules}
use Rattle.maildrop.specs.Maildrop.{Maildrop, refusal_of}
use Rattle.maildrop.specs.declared.message.Message.{Message}
use Rattle.maildrop.proofs.Consistent.{HasRoom, room-from_no_refusal, consistent_with_message, message_octets-push}
use Rattle.maildrop.proofs.maildrop.Maildrop.store.Goals as goal

pub invariant_of-self-2 : goal.invariant_of-self-2
invariant_of-self-2 g c =
    let old : Maildrop g.row.A.Denot =
    record { messages = c.self.inside.messages.items; next_uid = c.self.inside.next_uid; holder = c.self.inside.holder; limits = c.self.inside.limits; keys = c.self.inside.keys.entries } in
    let added : Message g.row.A.Denot = record { uid = old.next_uid; text = c.in_ok-text.text } in
    let pushed : c.push_reserved.new.self.items ≡ old.messages ++ added ∷ [] = c.push_reserved.ensures.items ∙ ap (λ ms. ms ++ added ∷ []) c.reserve.ensures.items in
    let room : HasRoom old c.args.text.now = room-from_no_refusal old c.args.text.now (ap (λ m. refusal_of m c.args.text.now) c.self.view_is ∙ c.requires.fits) in
    rw (pushed, c.in_ok-text.ensures, c.in_ok-keep.ensures.ok) (
      omega (arith, c.self.invariant.0, message_octets-push old.messages (record { uid = old.next_uid; text = c.args.text.now }), c.octets-octets.ensures),
      consistent_with_message old c.args.text.now c.args.key.now (search rules) c.self.invariant.1 room,
    )
