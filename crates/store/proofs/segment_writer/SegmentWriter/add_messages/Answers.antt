use Rattle.std.proofs.Common.{◌≡◌, [], ◌∷◌, rules, ap, map}
use Rattle.ledger.specs.Changes.{message_change}
use Rattle.ledger.specs.Payloads.{payload}
use Rattle.store.proofs.Writing.{adds}
use Rattle.store.proofs.segment_writer.SegmentWriter.add_messages.Goals as goal

pub loop-message-preserved : goal.loop-message-preserved
loop-message-preserved g c = λ salt payloads h.
    let name = c.args.name.now in
    let next : c.loop-message.rest.now ≡ c.in-Some.message.now ∷ c.in-Some.others.now = search rules in
    adds salt payloads (map (λ m. payload 0 name (message_change m)) c.args.messages.now) (map (λ m. payload 0 name (message_change m)) c.loop-message.rest.now)
    (payload 0 name (message_change c.in-Some.message.now) ∷ []) (map (λ m. payload 0 name (message_change m)) c.in-Some.others.now) c.loop-message.self c.add_message.new.self
    (ap (map (λ m. payload 0 name (message_change m))) next) (c.in_ok-add_message.ensures salt) (c.loop-message.invariant salt payloads h)
