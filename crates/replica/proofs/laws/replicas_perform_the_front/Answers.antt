use Rattle.replica.specs.Replicas.{Rules, rules_of}
use Rattle.replica.proofs.History.{front_of_given, called_settled}
use Rattle.replica.proofs.Settled.{settled_new}
use Rattle.replica.proofs.laws.replicas_perform_the_front.Given.{Over}
use Rattle.replica.proofs.laws.replicas_perform_the_front.Goals as goal

abbrev the_rules : (g : Over) → Rules g.row.M-Command.Denot g.row.M-Command-Id.Denot g.row.M-Answer.Denot g.row.M.Denot
the_rules g = rules_of g.M.Command.Payload.identity g.M.Command.Id.Ord.cmp g.M.Machine.answer_to g.M.Machine.after

pub returns : goal.returns
returns g c =
    record {
      front = front_of_given g.row.A.Denot (the_rules g);
      at_first = settled_new (the_rules g);
      after_each_call = called_settled g.row.A.Denot (the_rules g);
    }
