use Rattle.replica.specs.Replicas.{Rules, rules_of}
use Rattle.replica.proofs.Behind.{is_behind}
use Rattle.replica.proofs.History.{fronts_agree}
use Rattle.replica.proofs.laws.fronts_agree.Given.{Over}
use Rattle.replica.proofs.laws.fronts_agree.Goals as goal

abbrev the_rules : (g : Over) → Rules g.row.M-Command.Denot g.row.M-Command-Id.Denot g.row.M-Answer.Denot g.row.M.Denot
the_rules g = rules_of g.M.Command.Payload.identity g.M.Command.Id.Ord.cmp g.M.Machine.answer_to g.M.Machine.after

pub returns : goal.returns
returns g c =
    record {
      behind = is_behind (the_rules g);
      same = fronts_agree (the_rules g);
    }
