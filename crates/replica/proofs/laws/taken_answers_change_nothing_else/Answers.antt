use Rattle.replica.specs.Replicas.{Rules, rules_of}
use Rattle.replica.proofs.ButAwaited.{requested_alike, decided_alike, ticked_alike}
use Rattle.replica.proofs.Left.{itself_left, requested_left, decided_left, taken_left}
use Rattle.replica.proofs.Waiting.{waiting_left}
use Rattle.replica.proofs.laws.taken_answers_change_nothing_else.Given.{Over}
use Rattle.replica.proofs.laws.taken_answers_change_nothing_else.Goals as goal

abbrev the_rules : (g : Over) → Rules g.row.M-Command.Denot g.row.M-Command-Id.Denot g.row.M-Answer.Denot g.row.M.Denot
the_rules g = rules_of g.M.Command.Payload.identity g.M.Command.Id.Ord.cmp g.M.Machine.answer_to g.M.Machine.after

pub returns : goal.returns
returns g c =
    record {
      at_first = itself_left (the_rules g);
      request = λ first command r s h. (requested_left g.row.A.Denot (the_rules g) g.met.M.Command.Id.Ord.total first command r s h, (requested_alike {A = g.row.A.Denot} (the_rules g) command r s h.same).sends);
      decision = λ first slot command r s h. (decided_left g.row.A.Denot (the_rules g) g.met.M.Command.Id.Ord.total first slot command r s h, (decided_alike {A = g.row.A.Denot} (the_rules g) slot command r s h.same).sends);
      tick = λ first r s h. (h, ticked_alike {A = g.row.A.Denot} r s h.same);
      taking = taken_left g.row.A.Denot (the_rules g) g.met.M.Command.Id.Ord.total;
      waiting = waiting_left (the_rules g) g.met.M.Command.Id.Ord.total;
    }
