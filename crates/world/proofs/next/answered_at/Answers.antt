use Rattle.std.proofs.Common.{◌∙◌, sym}
use Rattle.world.proofs.next.answered_at.Goals as goal

pub is_ready-requires : goal.is_ready-requires
is_ready-requires g c id awaits = c.requires c.in_ok-session.session.now c.in_ok-session.connection.now id c.in_ok-session.ensures.value awaits

pub returns-then-is_ready-clause-some : goal.returns-then-is_ready-clause-some
returns-then-is_ready-clause-some g c =
    (c.in_ok-session.connection.now, sym c.in_ok-session.ensures.entry, c.in_ok-session.ensures.value, sym (c.is_ready.ensures c.args.connections.now.entries) ∙ c.if-is_ready.true)
