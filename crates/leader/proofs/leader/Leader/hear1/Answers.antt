use Rattle.std.proofs.Common.{rules, refl, ap, ◌∙◌}
use Rattle.leader.specs.Leaders.{LeaderState, hears_promise}
use Rattle.leader.specs.States.{state_of}
use Rattle.leader.proofs.Idle.{unspent}
use Rattle.leader.proofs.leader.Leader.hear1.Goals as goal

pub returns-clause-moves : goal.returns-clause-moves
returns-clause-moves g c =
    record {
      leader = search rules;
      sends = λ l is.
          c.in_ok-sends.ensures.sends ∙ ap (λ (x : LeaderState g.row.C.Denot). (hears_promise {A = g.row.A.Denot} g.C.Payload.equal x c.args.from c.args.promise).sends)
          (unspent c.self.inside.spent (state_of c.self.inside.state) l c.args.self.now (c.in_ok-spend.ensures.once.0 refl) c.self.view_is is);
      spent = search rules;
      err = search rules;
    }
