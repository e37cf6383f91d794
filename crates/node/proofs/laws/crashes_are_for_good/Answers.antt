use Rattle.std.proofs.Common.{refl}
use Rattle.node.proofs.Crashing.{crash_sends, crash_answers, crash_is_last, crash_is_silent}
use Rattle.node.proofs.laws.crashes_are_for_good.Goals as goal

pub returns : goal.returns
returns g c =
    record {
      opening = λ opening. refl;
      sends = crash_sends;
      answers = crash_answers;
      behind = crash_is_last;
      silent = crash_is_silent;
    }
