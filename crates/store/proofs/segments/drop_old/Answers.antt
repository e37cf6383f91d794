use Rattle.std.proofs.Common.{◌≡◌, ◌<◌, ◌≤◌, get_or, max, take, sym, ap, ◌∙◌, arith}
use Rattle.std.proofs.lemmas.List.{take_all}
use Rattle.std.specs.List.Sorted.{IsPermutation}
use Rattle.store.specs.Folders.{numbers_of}
use Rattle.store.specs.Numbers.{count_above}
use Rattle.store.proofs.Dropping.{is_kept, left_after, left_kept, left_newest, left_none, left_removed}
use Rattle.store.proofs.segments.drop_old.Goals.{then-count_above-max+in_ok-remove, else-count_above-max}
use Rattle.store.proofs.segments.drop_old.Goals as goal

pub loop-number-init : goal.loop-number-init
loop-number-init g c known is =
    let numbers = c.deref-number-items.result.now in
    rw (left_none (is_kept (max c.args.keep 1) numbers) known.files) is

pub loop-number-preserved : goal.loop-number-preserved
loop-number-preserved g c known is =
    let keep = max c.args.keep 1 in
    let numbers = c.deref-number-items.result.now in
    let i = c.loop-number.number-index in
    let same = ap (count_above (get_or numbers i 0)) (c.deref.ensures.value ∙ sym c.deref-number-items.ensures.value) in
    elim c.if-count_above-max.branch [
      | then-count_above-max+in_ok-remove w ↦
          let before = record known { files = left_after (is_kept keep numbers) (take i numbers) known.files } in
          let many : keep ≤ count_above (get_or numbers i 0) numbers = omega (arith, same) in
          rw (w.folder-is, left_removed keep numbers i c.loop-number-test.true known.files many) (w.in_ok-remove.ensures before (c.loop-number.invariant known is))
      | else-count_above-max w ↦
          let few : count_above (get_or numbers i 0) numbers < keep = omega (arith, same) in
          rw (w.folder-is, left_kept keep numbers i c.loop-number-test.true known.files few) (c.loop-number.invariant known is)
    ]

pub returns : goal.returns
returns g c known is =
    let keep = max c.args.keep 1 in
    let numbers = c.deref-number-items.result.now in
    let all : take c.loop-number.number-index numbers ≡ numbers = take_all _ _ c.loop-number-test.false in
    let sorted = rw (← c.deref-number-items.ensures.value) at c.sort_unstable.ensures.permutation in
    let moved : IsPermutation (numbers_of known.files) numbers = rw (c.in_ok-numbers.ensures known is) at sorted in
    rw (← left_newest keep known.files numbers moved) (rw all at (c.loop-number.invariant known is))
