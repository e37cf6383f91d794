use Rattle.std.proofs.Common.{sym, ap, ◌∙◌}
use Rattle.std.specs.List.{position}
use Rattle.simulator.specs.Undelivered.{is_next}
use Rattle.simulator.proofs.Places.{found_behind, none_behind}
use Rattle.simulator.proofs.undelivered.Route.first_undelivered.Goals as goal

pub returns-in-Some : goal.returns-in-Some
returns-in-Some c =
    let test = is_next c.args.self.now in
    sym (found_behind test c.args.sent.now c.args.from c.in-Some.place c.requires.within c.requires.each
    (ap (position test) (sym c.behind.ensures) ∙ sym c.first_of.ensures.value ∙ c.in-Some.is))

pub returns-in-None : goal.returns-in-None
returns-in-None c =
    let test = is_next c.args.self.now in
    sym (none_behind test c.args.sent.now c.args.from c.requires.within c.requires.each
    (ap (position test) (sym c.behind.ensures) ∙ sym c.first_of.ensures.value ∙ c.in-None.is))
