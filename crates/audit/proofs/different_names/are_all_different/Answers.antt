use Rattle.std.proofs.Common.{◌≡◌, ◌+◌, true, false, drop, ap, ◌∙◌, rules}
use Rattle.std.specs.BTreeSet.{Updates}
use Rattle.std.specs.Cmp.Lexicographic.{slice_cmp}
use Rattle.std.specs.Ordering.{nat_cmp}
use Rattle.audit.proofs.DifferentNames.{has, differ_from, differ_from-empty, differ_from-more, drop-name}
use Rattle.audit.proofs.different_names.are_all_different.Goals as goal

pub loop-i-init : goal.loop-i-init
loop-i-init g c = differ_from-empty c.new-seen.result c.args.names.now c.new-seen.ensures.empty

pub loop-i-preserved : goal.loop-i-preserved
loop-i-preserved g c =
    let names = c.args.names.now in
    let name = c.index-names-i.result in
    let from_here = drop-name names c.loop-i.i name c.loop-i-test.true c.index-names-i.is in
    let new : has c.loop-i.seen name ≡ false = search rules in
    let updates : Updates (slice_cmp nat_cmp) c.loop-i.seen c.insert.new.self name true = search rules in
    c.loop-i.invariant ∙ ap (differ_from c.loop-i.seen) from_here ∙ differ_from-more c.loop-i.seen c.insert.new.self name (drop (c.loop-i.i + 1) names) new updates
