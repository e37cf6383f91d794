use Rattle.std.proofs.Common.{arith}
use Rattle.apop.proofs.ReadingLemmas.{HasRead-more}
use Rattle.apop.proofs.accounts.Accounts.read.Goals as goal

pub loop-line-preserved : goal.loop-line-preserved
loop-line-preserved g c =
    let first = rw c.in-Some.ensures.0 at c.loop-line.invariant.read in
    record {
      read = rw c.in_ok-add_line.ensures.added (HasRead-more _ c.in-Some.line.now _ c.loop-line.accounts c.loop-line.number first c.in_ok-add_line.ensures.sound);
      small = omega (arith, c.in-Some.ensures);
    }
