use Rattle.std.proofs.Common.{◌≡◌, [], ◌∷◌, ◌++◌, arith, ◌∙◌, ap}
use Rattle.maildrop.specs.Kept.{KeptMaildrop}
use Rattle.maildrop.specs.Maildrop.{closed}
use Rattle.maildrop.specs.Changes.{can_change}
use Rattle.maildrop.specs.declared.change.Change.TheVariants.{Stored}
use Rattle.maildrop.specs.declared.message.Message.{Message}
use Rattle.maildrop.proofs.Changing.{HasPlace, place_from_test, consistent_with_change}
use Rattle.maildrop.proofs.Consistent.{message_octets-push}
use Rattle.maildrop.proofs.maildrop.Maildrop.add.Goals as goal

pub invariant_of-self-2 : goal.invariant_of-self-2
invariant_of-self-2 g c =
    let old : KeptMaildrop g.row.A.Denot = record { messages = c.self.inside.messages.items; next_uid = c.self.inside.next_uid; keys = c.self.inside.keys.entries } in
    let added : Message g.row.A.Denot = record { uid = c.args.uid; text = c.in_ok-text.text } in
    let pushed : c.push_reserved.new.self.items ≡ old.messages ++ added ∷ [] = c.push_reserved.ensures.items ∙ ap (λ ms. ms ++ added ∷ []) c.reserve.ensures.items in
    let place : HasPlace old c.args.uid c.args.text.now c.args.key.now = place_from_test old c.args.uid c.args.text.now c.args.key.now (ap (λ m. can_change (closed m) (Stored c.args.uid c.args.text.now c.args.key.now)) c.self.view_is ∙ c.requires) in
    rw (pushed, c.in_ok-text.ensures, c.in_ok-keep.ensures.ok) (
      omega (arith, c.self.invariant.0, message_octets-push old.messages (record { uid = c.args.uid; text = c.args.text.now }), c.octets-octets.ensures),
      consistent_with_change old c.args.uid c.args.text.now c.args.key.now c.self.invariant.1 place,
    )
