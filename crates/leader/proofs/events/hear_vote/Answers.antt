use Rattle.std.proofs.Common.{refl, sym, ap, ◌∙◌}
use Rattle.ballot.specs.Sends.{Move}
use Rattle.leader.specs.Leaders.{LeaderState}
use Rattle.leader.proofs.Idle.{vote_idle, not_active}
use Rattle.leader.proofs.events.hear_vote.Goals as goal

pub returns-in_default : goal.returns-in_default
returns-in_default g c =
    let same = vote_idle c.args.state.now c.args.from c.args.vote (not_active c.args.state.now.phase c.in_default.not-Active) in
    record {
      leader = sym (ap (λ (m : Move (LeaderState g.row.C.Denot) g.row.C.Denot g.row.A.Denot). m.after) same);
      sends = c.new.ensures ∙ sym (ap (λ (m : Move (LeaderState g.row.C.Denot) g.row.C.Denot g.row.A.Denot). m.sends) same);
      undecided = λ _. refl;
    }
