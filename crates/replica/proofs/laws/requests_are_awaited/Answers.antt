use Rattle.replica.specs.Replicas.{Rules, rules_of}
use Rattle.replica.proofs.Requested.{requested_for, waiting_for, held_for}
use Rattle.replica.proofs.laws.requests_are_awaited.Given.{Over}
use Rattle.replica.proofs.laws.requests_are_awaited.Goals as goal

abbrev the_rules : (g : Over) → Rules g.row.M-Command.Denot g.row.M-Command-Id.Denot g.row.M-Answer.Denot g.row.M.Denot
the_rules g = rules_of g.M.Command.Payload.identity g.M.Command.Id.Ord.cmp g.M.Machine.answer_to g.M.Machine.after

pub returns : goal.returns
returns g c =
    record {
      request = requested_for g.row.A.Denot (the_rules g) g.met.M.Command.Id.Ord.total;
      waiting = waiting_for g.row.A.Denot (the_rules g) g.met.M.Command.Id.Ord.total;
      answers = held_for g.row.A.Denot (the_rules g) g.met.M.Command.Id.Ord.total;
    }
