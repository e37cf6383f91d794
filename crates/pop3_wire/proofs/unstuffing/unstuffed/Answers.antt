use Rattle.std.proofs.Common.{sym, ◌∙◌}
use Rattle.pop3_wire.proofs.WireForms.{same_texts}
use Rattle.pop3_wire.proofs.unstuffing.unstuffed.Goals as goal

pub returns-in_ok-text_of-in-Some-clause-every : goal.returns-in_ok-text_of-in-Some-clause-every
returns-in_ok-text_of-in-Some-clause-every g c text rest lines whole =
    let same = c.in-Some.ensures.alone text rest lines whole in
    (same_texts c.in_ok-text_of-in-Some.field-0 text c.in_ok-text_of-in-Some.ensures.lines lines (sym c.in_ok-text_of-in-Some.ensures.value ∙ same.0), same.1)
