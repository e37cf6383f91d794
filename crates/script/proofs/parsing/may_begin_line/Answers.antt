use Rattle.std.proofs.Common.{sym, ap, ◌∙◌}
use Rattle.script.specs.Beginnings.{may_begin_cut}
use Rattle.script.proofs.Beginnings.{begins_no_line}
use Rattle.script.proofs.parsing.may_begin_line.Goals as goal

pub returns-in-Some-clause-none : goal.returns-in-Some-clause-none
returns-in-Some-clause-none c refused =
    begins_no_line c.args.bytes.now (ap (λ cut. may_begin_cut cut c.args.bytes.now) (sym c.in-Some.ensures.parts) ∙ sym c.is_keyword.ensures ∙ refused)

pub returns-in-None-clause-none : goal.returns-in-None-clause-none
returns-in-None-clause-none c long =
    begins_no_line c.args.bytes.now (ap (λ cut. may_begin_cut cut c.args.bytes.now) (sym c.in-None.ensures.parts) ∙ long)
