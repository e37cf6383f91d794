use Rattle.std.proofs.Common.{◌≡◌, sym, refl}
use Rattle.pop3_wire.specs.Reader.{Open}
use Rattle.pop3_wire.proofs.Feeding.{lines_after-none}
use Rattle.pop3_wire.proofs.line_reader.LineReader.next_line.Goals as goal

pub returns-then-not-self-clause-none : goal.returns-then-not-self-clause-none
returns-then-not-self-clause-none c =
    let is_open : c.args.self.now ≡ Open c.self.inside.bytes.items = rw c.if-not-self.true at (sym c.self.view_is) in
    rw is_open (lines_after-none (Open c.self.inside.bytes.items) c.self.invariant refl)
