use Rattle.std.proofs.Common.{sym, subst}
use Rattle.std.specs.Prelude.{is_ok}
use Rattle.simulator.specs.Undelivered.{AreMarks}
use Rattle.simulator.proofs.Marks.{set_marks, pushed_marks}
use Rattle.simulator.proofs.deliveries.keep.Goals as goal

pub returns-in-Some : goal.returns-in-Some
returns-in-Some c = λ sent marks here. set_marks sent c.args.marks.now.items c.in-Some.at (record { route = c.args.route; place = c.args.place }) marks here

pub returns-in-None : goal.returns-in-None
returns-in-None c = λ sent marks here.
    subst (AreMarks sent) (sym c.push-forgotten.ensures.items)
    (pushed_marks sent c.args.marks.now.items (is_ok c.push-forgotten.result) (record { route = c.args.route; place = c.args.place }) marks here)
