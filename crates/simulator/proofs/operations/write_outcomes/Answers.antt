use Rattle.std.proofs.Common.{◌≡◌, ◌∙◌, ◌<◌, Some, arith, length, subst}
use Rattle.std.specs.Prelude.{slice_get}
use Rattle.std.proofs.lemmas.Option.{slice_get_within}
use Rattle.world.specs.Waiting.{NoneMay}
use Rattle.world.proofs.HostList.{got}
use Rattle.simulator.proofs.Following.{all_told, next_told}
use Rattle.simulator.proofs.operations.write_outcomes.Goals as goal

pub loop-at-preserved : goal.loop-at-preserved
loop-at-preserved c =
    let so = c.loop-at.invariant in
    let ids = c.args.operations.now.ids.items in
    let found = c.in-Some.ensures.some in
    let within : c.in-Some.at < length c.loop-at.operations.ids.items = subst (λ xs. c.in-Some.at < length xs) c.as_slice.ensures.value found.1 in
    let here : slice_get ids c.in-Some.at ≡ Some c.index-id.result.now = got c.loop-at.operations.ids.items ids c.in-Some.at c.index-id.result.now so.ids within c.index-id.ensures in
    record {
      ids = so.ids;
      bound = let low = slice_get_within ids c.in-Some.at c.index-id.result.now here in omega (arith, low);
      followed = c.write_outcome.ensures.followed ids here so.followed;
      current = c.write_outcome.ensures.current ids here so.followed so.current;
      told = next_told ids c.loop-at.world.world c.write_outcome.new.world.world c.loop-at.operations.waiting c.loop-at.place c.in-Some.at c.index-id.result.now c.loop-at.report c.write_outcome.new.report so.current found.0 found.2 here
          c.in_ok-write_outcome.ensures.written ∙ so.told;
      service = c.write_outcome.ensures.service ∙ so.service;
      crashed = c.write_outcome.ensures.crashed ∙ so.crashed;
    }

pub returns-clause-written : goal.returns-clause-written
returns-clause-written c =
    let so = c.loop-at.invariant in
    let ids = c.args.operations.now.ids.items in
    let none : NoneMay c.loop-at.operations.waiting c.loop-at.place (length ids) =
    subst (λ xs. NoneMay c.loop-at.operations.waiting c.loop-at.place (length xs)) (c.as_slice.ensures.value ∙ so.ids) c.in_default.ensures.none in
    all_told ids c.args.world.now.world c.loop-at.world.world c.loop-at.operations.waiting c.loop-at.place c.args.report.now c.loop-at.report so.current so.bound none so.told
