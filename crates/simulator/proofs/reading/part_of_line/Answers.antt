use Rattle.std.proofs.Common.{sym}
use Rattle.std.proofs.lemmas.List.Folds.{list_any_none, list_any_at}
use Rattle.maildrop.proofs.TextLemmas.{first_line_feed}
use Rattle.maildrop.proofs.FileLemmas.{no_line_feed}
use Rattle.memchr.specs.Find.{is_byte}
use Rattle.simulator.proofs.Parts.{whole_part, open_part}
use Rattle.simulator.proofs.reading.part_of_line.Goals as goal

pub returns-in-Some-clause-part : goal.returns-in-Some-clause-part
returns-in-Some-clause-part c behind =
    let found = first_line_feed c.args.bytes.now c.in-Some.end c.in-Some.ensures in
    whole_part c.args.bytes.now behind c.in-Some.end found.0 found.1 found.2

pub returns-in-Some-clause-whole : goal.returns-in-Some-clause-whole
returns-in-Some-clause-whole c =
    let found = first_line_feed c.args.bytes.now c.in-Some.end c.in-Some.ensures in
    sym (list_any_at (is_byte 10) c.args.bytes.now c.in-Some.end 0 found.0 found.2)

pub returns-in-None-clause-part : goal.returns-in-None-clause-part
returns-in-None-clause-part c behind = open_part c.args.bytes.now behind (no_line_feed c.args.bytes.now c.in-None.ensures)

pub returns-in-None-clause-whole : goal.returns-in-None-clause-whole
returns-in-None-clause-whole c = sym (list_any_none (is_byte 10) c.args.bytes.now (no_line_feed c.args.bytes.now c.in-None.ensures))
