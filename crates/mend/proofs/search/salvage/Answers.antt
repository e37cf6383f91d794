use Rattle.std.proofs.Common.{◌≡◌, ◌+◌, ◌-◌, ◌<◌, suc, [], length, sym, ◌∙◌, ap, subst, arith}
use Rattle.std.proofs.lemmas.Bool.Decides.{nat_tests}
use Rattle.records.specs.Reading.{record_at}
use Rattle.mend.specs.Taking.{AreTaken}
use Rattle.mend.specs.Finding.{found, missed, missed_in}
use Rattle.mend.proofs.Steps.{none_left, no_turn, no_bytes, found_step, missed_step}
use Rattle.mend.proofs.search.salvage.Goals.{else-loop-test, then-loop-test+then-is_empty}
use Rattle.mend.proofs.search.salvage.Goals as goal

pub loop-preserved : goal.loop-preserved
loop-preserved c =
    let batched = c.args.head.now.is_batched in
    let salt = c.args.head.now.salt in
    let size = length c.args.bytes.now in
    let turns = size - (c.loop.counter + 1) in
    let rest = c.loop.rest.now in
    let others = c.in_ok-rest.rest.now in
    let same : size - c.loop.counter ≡ suc turns = omega (arith, c.loop-test.true) in
    let some : 0 < length rest = grind (arith, nat_tests, c.is_empty.ensures, c.if-is_empty.false) in
    let step = c.in_ok-rest.ensures.step in
    let one : missed (size - c.loop.counter) salt size rest ≡ missed_in (record_at salt (size - length rest) rest) + missed turns salt size others =
    ap (λ t. missed t salt size rest) same ∙ missed_step batched turns salt size rest others c.loop.kept c.step.new.kept some step in
    record {
      within = omega (arith, c.in_ok-rest.ensures.few, c.in_ok-rest.ensures.dropped, c.loop.invariant.few, c.loop.invariant.within);
      few = omega (arith, c.in_ok-rest.ensures.few, c.loop.invariant.few);
      missed = omega (arith, one, c.in_ok-rest.ensures.dropped, c.loop.invariant.missed);
      taken = λ new after. c.loop.invariant.taken new
          (subst (λ t. AreTaken batched (found t salt size rest) c.loop.kept new) (sym same) (found_step batched turns salt size rest others c.loop.kept c.step.new.kept new some step after));
    }

pub returns-clause-taken : goal.returns-clause-taken
returns-clause-taken c =
    let batched = c.args.head.now.is_batched in
    let salt = c.args.head.now.salt in
    let size = length c.args.bytes.now in
    let rest = c.loop.rest.now in
    let kept = c.loop.kept in
    let none : found (size - c.loop.counter) salt size rest ≡ [] = elim c.loop-test.branch [
      | else-loop-test w ↦
          let zero : size - c.loop.counter ≡ 0 = omega (arith, w.loop-test.false) in
          ap (λ t. found t salt size rest) zero ∙ no_turn salt size rest
      | then-loop-test+then-is_empty w ↦
          let empty : length rest ≡ 0 = grind (arith, nat_tests, w.is_empty.ensures, w.if-is_empty.true) in
          no_bytes (size - c.loop.counter) salt size rest empty
    ] in
    c.loop.invariant.taken kept (subst (λ rs. AreTaken batched rs kept kept) (sym none) (none_left batched kept))
