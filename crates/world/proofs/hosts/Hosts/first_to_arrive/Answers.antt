use Rattle.std.proofs.Common.{◌∙◌, ◌≤◌, ◌<◌, length, ap, sym, arith}
use Rattle.std.proofs.lemmas.Option.{slice_get_within}
use Rattle.world.specs.Hosts.{Hosts, network_of}
use Rattle.world.specs.Scheduling.{can_arrive}
use Rattle.world.proofs.Blocks.{quiet_on, arrives_up}
use Rattle.world.proofs.Searching.{there, first_from, none_from}
use Rattle.world.proofs.hosts.Hosts.first_to_arrive.Goals as goal

pub loop-place-preserved-then-is_quiet : goal.loop-place-preserved-then-is_quiet
loop-place-preserved-then-is_quiet g c = record {
  behind = omega (arith, c.block_end-place.ensures, c.loop-place.invariant.behind);
  quiet = quiet_on (network_of c.args.self.now) c.args.copies c.args.from c.loop-place.place c.block_end-place.result c.loop-place.invariant.quiet
      (c.is_quiet.ensures.quiet c.if-is_quiet.true c.loop-place.place c.block_end-place.result (omega arith) (omega (arith, c.block_end-place.ensures)));
}

pub returns-then-may_arrive-clause-value : goal.returns-then-may_arrive-clause-value
returns-then-may_arrive-clause-value g c =
    let sent = c.args.self.now.sent in
    let within : c.loop-place.place < length sent = omega (arith, c.loop-place-test.true, ap length c.sent.ensures, ap (λ (w : Hosts g.row.A.Denot). length w.sent) c.self.view_is) in
    let here = there sent c.loop-place.place within in
    sym (first_from (can_arrive (network_of c.args.self.now) c.args.copies) sent c.args.from c.loop-place.place here.0 c.loop-place.invariant.behind
    (λ k y low high at. c.loop-place.invariant.quiet.each k y low high at) here.1 (sym (c.may_arrive.ensures here.0 here.1) ∙ c.if-may_arrive.true))

pub returns-then-may_arrive-clause-possible : goal.returns-then-may_arrive-clause-possible
returns-then-may_arrive-clause-possible g c =
    let sent = c.args.self.now.sent in
    let within : c.loop-place.place < length sent = omega (arith, c.loop-place-test.true, ap length c.sent.ensures, ap (λ (w : Hosts g.row.A.Denot). length w.sent) c.self.view_is) in
    let here = there sent c.loop-place.place within in
    (here.0, here.1, arrives_up (network_of c.args.self.now) c.args.copies here.0 (sym (c.may_arrive.ensures here.0 here.1) ∙ c.if-may_arrive.true))

pub returns-clause-value : goal.returns-clause-value
returns-clause-value g c =
    let sent = c.args.self.now.sent in
    let past : length sent ≤ c.loop-place.place = omega (arith, c.loop-place-test.false, ap length c.sent.ensures, ap (λ (w : Hosts g.row.A.Denot). length w.sent) c.self.view_is) in
    sym (none_from (can_arrive (network_of c.args.self.now) c.args.copies) sent c.args.from
    (λ k y low at. let within = slice_get_within sent k y at in c.loop-place.invariant.quiet.each k y low (omega (arith, within, past)) at))
