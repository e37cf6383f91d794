use Rattle.std.proofs.Common.{◌∷◌, [], ◌∙◌, sym, ap, length, arith, length-append}
use Rattle.std.proofs.lemmas.List.{same_from_push}
use Rattle.pop3_wire.proofs.WireForms.{no_line_end, line_end, cut_line}
use Rattle.pop3_wire.proofs.unstuffing.cut_at_line_end.Goals as goal

pub returns-in_default : goal.returns-in_default
returns-in_default c line rest is_line parts = no_line_end c.args.bytes.now line rest c.in_default.ensures is_line parts

pub returns-in-None : goal.returns-in-None
returns-in-None c line rest is_line parts =
    let ended = line_end c.args.bytes.now line rest c.in-Some.end c.in-Some.ensures.0 c.in-Some.ensures.1 is_line parts in
    omega (arith, c.in-None.ensures.cases, ap length ended, length-append line (13 ∷ []))

pub returns-then-last-eq13 : goal.returns-then-last-eq13
returns-then-last-eq13 c =
    cut_line c.args.bytes.now c.in-Some-split_last.line.now c.in-Some.end c.in-Some.ensures.0 c.in-Some.ensures.1 (rw c.if-last-eq13.true at c.in-Some-split_last.ensures.cases.0)

pub returns-else-last-eq13 : goal.returns-else-last-eq13
returns-else-last-eq13 c line rest is_line parts =
    let ended = line_end c.args.bytes.now line rest c.in-Some.end c.in-Some.ensures.0 c.in-Some.ensures.1 is_line parts in
    c.if-last-eq13.false (same_from_push c.in-Some-split_last.line.now line c.in-Some-split_last.last.now 13 (sym c.in-Some-split_last.ensures.cases.0 ∙ ended)).1
