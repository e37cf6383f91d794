use Rattle.std.proofs.Common.{◌∙◌, ◌-◌, ◌≤◌, ◌<◌, length, sym, arith}
use Rattle.std.proofs.lemmas.Option.{slice_get_within}
use Rattle.world.specs.Hosts.{network_of}
use Rattle.world.specs.Scheduling.{can_arrive}
use Rattle.world.proofs.Blocks.{quiet_on, arrives_up}
use Rattle.world.proofs.Searching.{there, last_from, no_last_from}
use Rattle.world.proofs.hosts.Hosts.last_to_arrive.Goals as goal

pub loop-end-preserved-then-is_quiet : goal.loop-end-preserved-then-is_quiet
loop-end-preserved-then-is_quiet g c = record {
  within = omega (arith, c.block_start-end.ensures, c.loop-end.invariant.within);
  quiet = quiet_on (network_of c.args.self.now) c.args.copies c.block_start-end.result c.loop-end.end (length c.args.self.now.sent)
      (c.is_quiet.ensures.quiet c.if-is_quiet.true c.block_start-end.result c.loop-end.end (omega (arith, c.block_start-end.ensures)) (omega (arith, c.loop-end-test.true)))
      c.loop-end.invariant.quiet;
}

pub returns-then-may_arrive-clause-value : goal.returns-then-may_arrive-clause-value
returns-then-may_arrive-clause-value g c =
    let sent = c.args.self.now.sent in
    let within : c.loop-end.end - 1 < length sent = omega (arith, c.loop-end-test.true, c.loop-end.invariant.within) in
    let low : c.args.from ≤ c.loop-end.end - 1 = omega (arith, c.loop-end-test.true) in
    let here = there sent (c.loop-end.end - 1) within in
    sym (last_from (can_arrive (network_of c.args.self.now) c.args.copies) sent c.args.from (c.loop-end.end - 1) here.0 low
    (λ k y above at. let inside = slice_get_within sent k y at in c.loop-end.invariant.quiet.each k y (omega arith) inside at) here.1 (sym (c.may_arrive.ensures here.0 here.1) ∙ c.if-may_arrive.true))

pub returns-then-may_arrive-clause-possible : goal.returns-then-may_arrive-clause-possible
returns-then-may_arrive-clause-possible g c =
    let sent = c.args.self.now.sent in
    let within : (c.loop-end.end - 1) < length sent = omega (arith, c.loop-end-test.true, c.loop-end.invariant.within) in
    let here = there sent (c.loop-end.end - 1) within in
    (here.0, here.1, arrives_up (network_of c.args.self.now) c.args.copies here.0 (sym (c.may_arrive.ensures here.0 here.1) ∙ c.if-may_arrive.true))

pub returns-clause-value : goal.returns-clause-value
returns-clause-value g c =
    let sent = c.args.self.now.sent in
    sym (no_last_from (can_arrive (network_of c.args.self.now) c.args.copies) sent c.args.from
    (λ k y low at. let inside = slice_get_within sent k y at in c.loop-end.invariant.quiet.each k y (omega (arith, c.loop-end-test.false)) inside at))
