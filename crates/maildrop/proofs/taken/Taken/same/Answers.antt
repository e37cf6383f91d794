use Rattle.std.proofs.Common.{◌≡◌}
use Rattle.std.proofs.lemmas.Bool.Decides.{Decides-at}
use Rattle.maildrop.specs.Same.{same_messages}
use Rattle.maildrop.specs.Equality.{messages_decide}
use Rattle.maildrop.proofs.taken.Taken.same.Goals as goal

pub returns-clause-equal : goal.returns-clause-equal
returns-clause-equal g c =
    let tested : c.are_same.result ≡ same_messages c.args.self.now c.args.other.now = rw (← c.get.ensures.value, ← c.get-2.ensures.value) c.are_same.ensures in
    Decides-at c.are_same.result _ tested (messages_decide c.args.self.now c.args.other.now)
