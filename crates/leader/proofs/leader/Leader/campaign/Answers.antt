use Rattle.std.proofs.Common.{refl}
use Rattle.leader.specs.Leaders.{LeaderState, campaigned}
use Rattle.leader.specs.States.{state_of}
use Rattle.leader.proofs.Idle.{moved}
use Rattle.leader.proofs.leader.Leader.campaign.Goals as goal

pub returns-clause-moves : goal.returns-clause-moves
returns-clause-moves g c =
    let L = LeaderState g.row.C.Denot in
    moved (λ (l : L). campaigned {A = g.row.A.Denot} l) c.self.inside.spent (state_of c.self.inside.state) (state_of c.campaign.new.state) c.args.self.now c.in_ok-sends.sends
    (c.in_ok-spend.ensures.once.0 refl) c.self.view_is c.in_ok-sends.ensures.leader c.in_ok-sends.ensures.sends
