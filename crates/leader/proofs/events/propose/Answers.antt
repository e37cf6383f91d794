use Rattle.std.proofs.Common.{sym, ap, ◌∙◌}
use Rattle.ballot.specs.Sends.{Move}
use Rattle.leader.specs.Leaders.{LeaderState}
use Rattle.leader.proofs.Idle.{proposed_idle, not_active}
use Rattle.leader.proofs.events.propose.Goals as goal

pub returns-clause-leader : goal.returns-clause-leader
returns-clause-leader g c =
    let same = proposed_idle c.args.state.now c.args.slot c.args.command (sym c.contains_key.ensures ∙ c.if-contains_key.false) (not_active c.args.state.now.phase c.in_default.not-Active) in
    rw c.in_ok-insert-2.ensures.entries (sym (ap (λ (m : Move (LeaderState g.row.C.Denot) g.row.C.Denot g.row.A.Denot). m.after) same))
