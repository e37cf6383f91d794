use Rattle.replica.specs.Replicas.{Rules, rules_of}
use Rattle.replica.proofs.History.{always_answers, called_answers, decided_performs, requests_add_none}
use Rattle.replica.proofs.laws.answers_are_of_what_is_performed.Given.{Over}
use Rattle.replica.proofs.laws.answers_are_of_what_is_performed.Goals as goal

abbrev the_rules : (g : Over) → Rules g.row.M-Command.Denot g.row.M-Command-Id.Denot g.row.M-Answer.Denot g.row.M.Denot
the_rules g = rules_of g.M.Command.Payload.identity g.M.Command.Id.Ord.cmp g.M.Machine.answer_to g.M.Machine.after

pub returns : goal.returns
returns g c =
    record {
      always = always_answers g.row.A.Denot (the_rules g) g.met.M.Command.Id.Ord.total;
      after_each_call = called_answers g.row.A.Denot (the_rules g) g.met.M.Command.Id.Ord.total;
      decision = decided_performs g.row.A.Denot (the_rules g) g.met.M.Command.Id.Ord.total;
      request = λ first command i r h. requests_add_none g.row.A.Denot (the_rules g) g.met.M.Command.Id.Ord.total first command r h i;
    }
