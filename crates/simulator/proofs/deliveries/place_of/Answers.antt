use Rattle.std.proofs.Common.{sym, ◌∙◌, get_or}
use Rattle.std.proofs.lemmas.Option.{slice_get-get_or}
use Rattle.simulator.proofs.Marks.{marked, unmarked}
use Rattle.simulator.proofs.deliveries.place_of.Goals as goal

pub returns-in-Some : goal.returns-in-Some
returns-in-Some c = λ sent marks.
    let all = c.args.marks.now in
    let at = c.in-Some.at in
    marked sent all c.args.route.now at (get_or all at c.index-marks-at.result) marks (sym c.find.ensures.value ∙ c.in-Some.is)
    (slice_get-get_or all at c.index-marks-at.result c.in-Some.ensures.within)

pub returns-in-None : goal.returns-in-None
returns-in-None c = λ sent marks. unmarked sent c.args.route.now
