use Rattle.std.proofs.Common.{◌<◌, length, arith}
use Rattle.std.proofs.lemmas.Bool.Decides.{nat_tests}
use Rattle.mboxrd.proofs.ReadingLemmas.{without_last_empty-push}
use Rattle.mboxrd.proofs.open_text.OpenText.push.Goals as goal

pub invariant_of-self-2 : goal.invariant_of-self-2
invariant_of-self-2 g c held_none =
    let some : 0 < length c.args.line.now = grind (arith, nat_tests) in
    rw (c.in_ok-push_line-2.ensures.ok) (without_last_empty-push _ c.args.line.now some)
