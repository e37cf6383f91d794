use Rattle.replica.specs.Replicas.{Rules, rules_of}
use Rattle.replica.proofs.Settled.{decided_again}
use Rattle.replica.proofs.laws.repeated_decisions_do_nothing.Given.{Over}
use Rattle.replica.proofs.laws.repeated_decisions_do_nothing.Goals as goal

abbrev the_rules : (g : Over) → Rules g.row.M-Command.Denot g.row.M-Command-Id.Denot g.row.M-Answer.Denot g.row.M.Denot
the_rules g = rules_of g.M.Command.Payload.identity g.M.Command.Id.Ord.cmp g.M.Machine.answer_to g.M.Machine.after

pub returns : goal.returns
returns g c = decided_again (the_rules g) g.row.A.Denot
