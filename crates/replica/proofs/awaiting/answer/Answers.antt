use Rattle.std.proofs.Common.{ap, sym, ◌∙◌}
use Rattle.replica.proofs.Identities.{set_none}
use Rattle.replica.proofs.awaiting.answer.Goals as goal

pub returns-in_default : goal.returns-in_default
returns-in_default g c =
    ap (λ m. m.entries) c.get_mut.follows.holds-at-none ∙ sym (set_none _ c.args.awaited.now.entries _ (sym c.in_default.ensures.value))
