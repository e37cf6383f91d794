use Rattle.std.proofs.Common.{◌≡◌, ◌+◌, ◌≤◌, ap, subst, Option}
use Rattle.std.specs.Prelude.{IfSome}
use Rattle.ballot.specs.declared.slot.TheConstants.{LAST_SLOT}
use Rattle.replica.specs.Replicas.{ReplicaState, rules_of}
use Rattle.replica.specs.declared.replica.Replica.TheInside.{Inside}
use Rattle.replica.proofs.Seen.{seen}
use Rattle.replica.proofs.Settled.{shown_near}
use Rattle.replica.proofs.replica.Replica.slot_out.Goals as goal

pub returns-clause-range : goal.returns-clause-range
returns-clause-range g c =
    let S = ReplicaState g.row.M-Command.Denot g.row.M-Command-Id.Denot g.row.M-Answer.Denot g.row.M.Denot in
    let here : S = seen c.self-inside.inside.0.0 in
    let same : here ≡ c.self.inside.state = ap (λ (r : Inside g.row.M.Denot g.row.A.Denot g.row.M-Command.Denot g.row.M-Answer.Denot g.row.M-Command-Id.Denot). r.state) c.self-inside.view_is in
    subst (λ (o : Option S). IfSome o (λ (_ : S). (1 ≤ here.slot_out) × (here.slot_out ≤ LAST_SLOT + 1))) c.self.view_is
    (shown_near (rules_of g.M.Command.Payload.identity g.M.Command.Id.Ord.cmp g.M.Machine.answer_to g.M.Machine.after) c.self.inside.spent c.self.inside.state here c.self.invariant same c.self-inside.invariant.2)
