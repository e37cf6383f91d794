use Rattle.std.proofs.Common.{refl}
use Rattle.maildrop.specs.Kept.{KeptMaildrop}
use Rattle.maildrop.proofs.Consistent.{consistent_without_keys}
use Rattle.maildrop.proofs.LastKeys.{last_keys-drop}
use Rattle.maildrop.proofs.maildrop.Maildrop.reopen.Goals as goal

pub invariant_of-result : goal.invariant_of-result
invariant_of-result g c =
    let old : KeptMaildrop g.row.A.Denot = record { messages = c.self.inside.messages.items; next_uid = c.self.inside.next_uid; keys = c.self.inside.keys.entries } in
    rw (c.in_ok-copies_of.ensures.value, c.deref.ensures.value, c.in_ok-copy_from.ensures) (c.self.invariant.0, consistent_without_keys old c.saturating_sub-dropped.result c.self.invariant.1)

pub returns : goal.returns
returns g c = rw (← c.self.view_is, c.in_ok-copies_of.ensures.value, c.deref.ensures.value, c.in_ok-copy_from.ensures, c.saturating_sub-dropped.ensures, c.len.ensures.len, last_keys-drop c.args.keys c.self.inside.keys.entries) refl
