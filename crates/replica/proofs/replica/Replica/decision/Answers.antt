use Rattle.std.proofs.Common.{refl, sym, subst}
use Rattle.replica.specs.Replicas.{Rules, ReplicaState, rules_of, learns, IsSettled}
use Rattle.replica.proofs.Settled.{decided_settled}
use Rattle.replica.proofs.Moved.{moved}
use Rattle.replica.proofs.replica.Replica.decision.Given.{Over}
use Rattle.replica.proofs.replica.Replica.decision.Goals as goal

abbrev the_rules : (g : Over) → Rules g.row.M-Command.Denot g.row.M-Command-Id.Denot g.row.M-Answer.Denot g.row.M.Denot
the_rules g = rules_of g.M.Command.Payload.identity g.M.Command.Id.Ord.cmp g.M.Machine.answer_to g.M.Machine.after

pub invariant_of-self-2 : goal.invariant_of-self-2
invariant_of-self-2 g c fresh =
    subst (IsSettled (the_rules g)) (sym c.in_ok-sends.ensures.replica) (decided_settled (the_rules g) g.row.A.Denot c.args.slot c.args.command c.self.inside.state (c.self.invariant (c.in_ok-spend.ensures.once.0 refl)))

pub returns-clause-moves : goal.returns-clause-moves
returns-clause-moves g c =
    let S = ReplicaState g.row.M-Command.Denot g.row.M-Command-Id.Denot g.row.M-Answer.Denot g.row.M.Denot in
    moved (λ (r : S). learns {A = g.row.A.Denot} (the_rules g) c.args.slot c.args.command r) c.self.inside.spent c.self.inside.state c.decide.new.state c.args.self.now c.in_ok-sends.sends
    (c.in_ok-spend.ensures.once.0 refl) c.self.view_is c.in_ok-sends.ensures.replica c.in_ok-sends.ensures.sends
