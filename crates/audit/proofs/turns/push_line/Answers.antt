use Rattle.std.proofs.Common.{◌+◌, length, refl, arith}
use Rattle.std.proofs.lemmas.Option.{slice_get_read}
use Rattle.audit.proofs.Turning.{line_asks, line_says, last_says}
use Rattle.audit.proofs.turns.push_line.Goals as goal
use Rattle.audit.proofs.turns.push_line.Goals.{then-next-entries+else-is_of_line, else-next-entries}

pub returns-then-is_of_line-clause-turn : goal.returns-then-is_of_line-clause-turn
returns-then-is_of_line-clause-turn g c =
    let entries = c.args.entries.now in
    line_asks c.args.number c.args.next (c.args.next + 1) entries c.index-entries-next.result c.args.kinds.now.items c.push_asking.new.kinds.items c.is_of_line.result (slice_get_read entries (length entries) c.args.next c.index-entries-next.result refl c.if-next-entries.true c.index-entries-next.is)
    (omega arith) c.is_of_line.ensures c.if-is_of_line.true c.in_ok-push_asking.ensures

pub returns-clause-turn : goal.returns-clause-turn
returns-clause-turn g c =
    let entries = c.args.entries.now in
    elim c.if-next-entries.branch [
      | then-next-entries+else-is_of_line w ↦ line_says c.args.number c.args.next entries w.index-entries-next.result c.args.kinds.now.items c.push.new.self.items w.is_of_line.result (slice_get_read entries (length entries) c.args.next w.index-entries-next.result refl w.if-next-entries.true w.index-entries-next.is)
          w.is_of_line.ensures w.if-is_of_line.false c.in_ok-push.ensures.items
      | else-next-entries w ↦ last_says c.args.number c.args.next entries c.args.kinds.now.items c.push.new.self.items w.if-next-entries.false c.in_ok-push.ensures.items
    ]
