use Rattle.std.proofs.Common.{◌≡◌, ◌∙◌, ◌-◌, ◌<◌, suc, length, ap, sym, refl, arith, Some}
use Rattle.std.proofs.lemmas.Option.{slice_get_read}
use Rattle.audit.specs.Names.{key_by}
use Rattle.audit.proofs.Naming.{entered, passed_over}
use Rattle.audit.proofs.command_index.enter.Goals as goal

pub loop-number-preserved-in-Some : goal.loop-number-preserved-in-Some
loop-number-preserved-in-Some g c id =
    let n = c.loop-number.number in
    let asked = c.args.asked.now in
    let entry = c.index-asked-number.result in
    let positive = c.loop-number-test.true in
    let bound = c.loop-number.auto.number in
    let next : suc (n - 1) ≡ n = omega (arith, positive) in
    let within : n - 1 < length asked = omega (arith, positive, bound) in
    entered id c.args.session (n - 1) n asked entry c.new.result _ _ _ next
    (slice_get_read asked (length asked) (n - 1) entry refl within c.index-asked-number.is)
    (ap (key_by entry.name) c.in-Some.is ∙ ap Some (sym c.new.ensures))
    (c.in_ok-insert.ensures.updates.0 id)
    (c.loop-number.invariant id)

pub loop-number-preserved : goal.loop-number-preserved
loop-number-preserved g c id =
    let n = c.loop-number.number in
    let asked = c.args.asked.now in
    let entry = c.index-asked-number.result in
    let positive = c.loop-number-test.true in
    let bound = c.loop-number.auto.number in
    let next : suc (n - 1) ≡ n = omega (arith, positive) in
    let within : n - 1 < length asked = omega (arith, positive, bound) in
    passed_over id c.args.session (n - 1) n asked entry _ _ next
    (slice_get_read asked (length asked) (n - 1) entry refl within c.index-asked-number.is)
    (ap (key_by entry.name) c.in_default.is)
    (c.loop-number.invariant id)
