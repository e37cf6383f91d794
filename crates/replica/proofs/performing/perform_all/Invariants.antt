use Rattle.std.proofs.Common.{◌≡◌, ◌-◌}
use Rattle.replica.specs.Replicas.{Rules, rules_of, performs_slots}
use Rattle.replica.proofs.performing.perform_all.Given as goal

abbrev pub the_rules : (g : goal.Over) → Rules g.row.M-Command.Denot g.row.M-Command-Id.Denot g.row.M-Answer.Denot g.row.M.Denot
the_rules g = rules_of g.M.Command.Payload.identity g.M.Command.Id.Ord.cmp g.M.Machine.answer_to g.M.Machine.after

abbrev pub invariant-loop-turn : goal.invariant-loop-turn
invariant-loop-turn g l = performs_slots (the_rules g) (l.turns - l.turn) l.state ≡ performs_slots (the_rules g) l.turns l.initial.state
