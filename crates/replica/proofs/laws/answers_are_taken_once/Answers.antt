use Rattle.replica.specs.Replicas.{Rules, rules_of}
use Rattle.replica.proofs.History.{gone_for_good, others_stay}
use Rattle.replica.proofs.laws.answers_are_taken_once.Given.{Over}
use Rattle.replica.proofs.laws.answers_are_taken_once.Goals as goal

abbrev the_rules : (g : Over) → Rules g.row.M-Command.Denot g.row.M-Command-Id.Denot g.row.M-Answer.Denot g.row.M.Denot
the_rules g = rules_of g.M.Command.Payload.identity g.M.Command.Id.Ord.cmp g.M.Machine.answer_to g.M.Machine.after

pub returns : goal.returns
returns g c =
    record {
      gone = gone_for_good g.row.A.Denot (the_rules g) g.met.M.Command.Id.Ord.total;
      others = λ first i j r h. others_stay g.row.A.Denot (the_rules g) g.met.M.Command.Id.Ord.total i j r h.ordered;
    }
