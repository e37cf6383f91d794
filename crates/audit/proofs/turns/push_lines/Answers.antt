use Rattle.std.proofs.Common.{◌≡◌, ◌+◌, ◌<◌, ◌≤◌, ◌++◌, List, ◌∷◌, drop, suc, length, subst, arith}
use Rattle.pop3_wire.specs.declared.line.Line.{Line}
use Rattle.session.specs.declared.transcript.Asked.{Asked}
use Rattle.audit.specs.Events.{kinds}
use Rattle.audit.specs.Turns.{turns_from}
use Rattle.audit.proofs.Turning.{lines_next}
use Rattle.audit.proofs.turns.push_lines.Goals as goal

pub loop-number-preserved : goal.loop-number-preserved
loop-number-preserved g c =
    let t = c.args.transcript.now in
    let n = c.loop-number.number in
    let turn = subst (λ (entries : List (Asked g.row.A.Denot)). (line : Line) (lines : List Line) → c.loop-number.kinds.items ++ kinds (turns_from n (line ∷ lines) (drop c.loop-number.next entries)) ≡ c.push_line.new.kinds.items ++ kinds (turns_from (suc n) lines (drop c.in_ok-next.next entries))) c.get.ensures c.in_ok-next.ensures.turn in
    let test = c.loop-number-test.true in
    let count = c.len-number-end.ensures in
    let within : n < length t.lines = omega (arith, test, count) in
    record {
      within = subst (λ (entries : List (Asked g.row.A.Denot)). c.in_ok-next.next ≤ length entries) c.get.ensures c.in_ok-next.ensures.within;
      turns = lines_next n c.loop-number.next c.in_ok-next.next t.lines t.asked c.args.kinds.now.items c.loop-number.kinds.items c.push_line.new.kinds.items _ within c.loop-number.invariant.turns turn (n + 1) (omega arith);
    }
