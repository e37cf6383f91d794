use Rattle.std.proofs.Common.{⊎_elim}
use Rattle.ballot.proofs.Member.{joined_old, joined_new, joined_cases}
use Rattle.ballot.proofs.laws.a_union_holds_both.Goals as goal

pub returns : goal.returns
returns g c =
    let eq = g.C.Payload.equal in
    let law = g.met.C.Payload.equality in
    λ first second pvalue. (
      joined_cases eq law first second pvalue,
      ⊎_elim (joined_old eq law first second pvalue) (joined_new eq law first second pvalue),
    )
