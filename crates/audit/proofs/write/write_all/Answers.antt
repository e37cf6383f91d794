use Rattle.std.proofs.Common.{◌≡◌, ℕ, ◌+◌, ◌++◌, true, length, get_or, subst, sym, arith}
use Rattle.std.specs.Prelude.{slice_get}
use Rattle.std.proofs.lemmas.Option.{slice_get-get_or}
use Rattle.audit.specs.Events.{events_of, talks_after, all_go_on}
use Rattle.audit.specs.Records.{number_in}
use Rattle.audit.specs.Speakers.{AreSpeakers, IsKnown}
use Rattle.audit.specs.declared.placement.Placement.{Placement}
use Rattle.audit.specs.declared.placement.Source.TheVariants.{Own}
use Rattle.audit.proofs.Writing.{on_ok, one_writ, all_writ}
use Rattle.audit.proofs.write.write_all.Goals as goal

pub write_one-requires : goal.write_one-requires
write_one-requires g c =
    let placements = c.args.placements.now in
    let k = c.loop-placement.placement-index in
    let none : Placement = record { node = 0; source = Own } in
    subst (λ n. IsKnown (length c.args.logs.now) n (get_or placements k none)) (sym c.loop-placement.auto.speakers) (c.requires.each k (get_or placements k none) (slice_get-get_or placements k none c.loop-placement-test.true))

pub loop-placement-preserved : goal.loop-placement-preserved
loop-placement-preserved g c = λ at answered talks h.
    let number : ℕ → ℕ = λ n. number_in (slice_get c.args.logs.now n) in
    let placements = c.args.placements.now in
    let k = c.loop-placement.placement-index in
    let none : Placement = record { node = 0; source = Own } in
    let p = get_or placements k none in
    let w = c.loop-placement.invariant at answered talks h in
    one_writ number at answered (length c.args.speakers.now) c.args.events.now.items talks placements k (k + 1) c.loop-placement.events.items c.write_one.new.events.items c.loop-placement.speakers c.write_one.new.speakers p w (omega arith)
    (slice_get-get_or placements k none c.loop-placement-test.true)
    (subst (λ (n : ℕ). (c.write_one.new.events.items ≡ c.loop-placement.events.items ++ events_of number at answered n w.talks p.node p.source) × AreSpeakers at answered (talks_after number at answered n w.talks p.node p.source) c.write_one.new.speakers) c.loop-placement.auto.speakers (c.in_ok-write_one.ensures at answered w.talks w.now))

pub returns : goal.returns
returns g c =
    let number : ℕ → ℕ = λ n. number_in (slice_get c.args.logs.now n) in
    on_ok c.sweep.result c.sweep.ensures (λ f at answered talks h.
    let w = c.loop-placement.invariant at answered talks h in
    all_writ number at answered (length c.args.speakers.now) c.args.events.now.items talks c.args.placements.now c.loop-placement.placement-index c.loop-placement.events.items c.sweep.new.events.items c.loop-placement.speakers w c.loop-placement-test.false
    (subst (λ (n : ℕ). c.sweep.new.events.items ≡ c.loop-placement.events.items ++ all_go_on (λ i. true) answered w.talks n) c.loop-placement.auto.speakers ((f at answered w.talks w.now).0)))
