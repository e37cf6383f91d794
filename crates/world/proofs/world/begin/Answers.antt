use Rattle.std.proofs.Common.{◌∙◌, ◌++◌, ◌∷◌, [], ap, arith, sym}
use Rattle.world.specs.Kept.{new_host, new_hosts}
use Rattle.runs.specs.Services.{opening_of}
use Rattle.world.proofs.Keeping.{host_more, in_it}
use Rattle.world.proofs.world.begin.Goals as goal

pub begin_one-requires-clause-its : goal.begin_one-requires-clause-its
begin_one-requires-clause-its g c =
    let size = c.loop-place.invariant.size in
    let test = c.loop-place-test.true in
    in_it c.args.config.now.cluster c.loop-place.place c.in-Some.me c.in-Some.ensures.value (omega (arith, size, test))

pub loop-place-preserved : goal.loop-place-preserved
loop-place-preserved g c = record {
  size = c.loop-place.invariant.size;
  last = c.loop-place.invariant.last;
  within = let test = c.loop-place-test.true in omega (arith, test);
  begun =
      let first = opening_of c.args.config.now in
      c.in_ok-push.ensures.items
      ∙ ap (λ hs. hs ++ c.in_ok-begin_one.field-0 ∷ []) c.loop-place.invariant.begun
      ∙ ap (λ h. new_hosts first 1 c.loop-place.place ++ h ∷ []) (c.in_ok-begin_one.ensures ∙ ap (new_host first) c.in-Some.ensures.value)
      ∙ sym (host_more first c.loop-place.place);
}
