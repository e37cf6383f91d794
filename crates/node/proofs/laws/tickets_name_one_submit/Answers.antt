use Rattle.node.proofs.Submitting.{op_new, op_stays, op_found, op_named, one_submit, submitted_here}
use Rattle.node.proofs.laws.tickets_name_one_submit.Goals as goal

pub returns : goal.returns
returns g c =
    record {
      new = op_new;
      stays = op_stays;
      found = λ log id op. (op_found log id op, op_named log id op);
      one = one_submit;
      own = submitted_here;
    }
