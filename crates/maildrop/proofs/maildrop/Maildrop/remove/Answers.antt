use Rattle.std.proofs.Common.{◌∙◌, ap, rules}
use Rattle.maildrop.specs.Taken.{message_octets}
use Rattle.maildrop.specs.Kept.{KeptMaildrop}
use Rattle.maildrop.proofs.Consistent.{consistent_without, message_octets-without}
use Rattle.maildrop.proofs.maildrop.Maildrop.remove.Goals as goal

pub octets_of-octets-requires : goal.octets_of-octets-requires
octets_of-octets-requires g c =
    let fewer = message_octets-without c.args.uids.now c.self.inside.messages.items in
    rw (c.deref.ensures.value, c.remove_listed.ensures) (search (rules, fewer, c.self.invariant.1.small))

pub invariant_of-self : goal.invariant_of-self
invariant_of-self g c =
    let old : KeptMaildrop g.row.A.Denot = record { messages = c.self.inside.messages.items; next_uid = c.self.inside.next_uid; keys = c.self.inside.keys.entries } in
    (c.octets_of-octets.ensures ∙ ap message_octets c.deref.ensures.value, rw c.remove_listed.ensures (consistent_without old c.args.uids.now c.self.invariant.1))
