use Rattle.std.proofs.Common.{◌≡◌, ◌+◌, ◌++◌, [], ◌∷◌, suc, take, sym, ◌∙◌, ap, subst, arith}
use Rattle.mend.specs.Raising.{names_in}
use Rattle.mend.proofs.Raises.{take_got}
use Rattle.mend.proofs.raising.names_of.Goals as goal

pub loop-i-preserved : goal.loop-i-preserved
loop-i-preserved c =
    let names = names_in c.args.kept.now in
    let one = take_got names c.loop-i.i c.in-Some.name (sym c.name_at.ensures ∙ c.in-Some.is) in
    let next : suc c.loop-i.i ≡ c.loop-i.i + 1 = omega arith in
    c.in_ok-push.ensures.items ∙ ap (λ ns. ns ++ c.in-Some.name ∷ []) c.loop-i.invariant ∙ sym one ∙ ap (λ n. take n names) next
