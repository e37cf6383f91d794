use Rattle.std.proofs.Common.{◌≡◌, ◌+◌, ◌<◌, length, drop, true, ap, sym, ◌∙◌, arith}
use Rattle.std.proofs.lemmas.List.{length-drop}
use Rattle.records.specs.declared.place.TheConstants.{LARGEST_PAYLOAD, FRAME}
use Rattle.records.specs.Reading.{is_cut}
use Rattle.records.proofs.More.{cut_small}
use Rattle.records.proofs.search.pass_over.Goals as goal

pub returns-then-is_cut-clause-small : goal.returns-then-is_cut-clause-small
returns-then-is_cut-clause-small c = λ _.
    let rest = drop c.loop-k.k c.args.bytes.now in
    let cut : is_cut c.args.salt (c.args.at + c.loop-k.k) rest ≡ true = ap (is_cut c.args.salt (c.args.at + c.loop-k.k)) (sym c.split_at.ensures.back) ∙ sym c.is_cut.ensures ∙ c.if-is_cut.true in
    let small : length rest < FRAME + LARGEST_PAYLOAD = cut_small c.args.salt (c.args.at + c.loop-k.k) rest cut in
    omega (arith, small, length-drop c.loop-k.k c.args.bytes.now)
