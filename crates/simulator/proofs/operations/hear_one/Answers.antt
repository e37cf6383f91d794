use Rattle.std.proofs.Common.{rules, ◌≡◌, ◌+◌, ◌-◌, arith, sym}
use Rattle.simulator.proofs.Following.{heard_followed, heard_here, performed_there}
use Rattle.simulator.proofs.operations.hear_one.Goals as goal

pub returns-in-Some-performed-clause-followed : goal.returns-in-Some-performed-clause-followed
returns-in-Some-performed-clause-followed c ids so =
    let valid = c.in-Some.ensures.valid.0 (search rules) in
    let is : (c.from.result - 1) + 1 ≡ c.args.number = omega (arith, c.from.ensures, valid.0) in
    let e = c.hear.ensures in
    heard_followed c.args.world.now.world ids c.args.waiting.now c.hear.new.self (c.from.result - 1) c.in-Some-performed.performed.now so
    (performed_there c.args.world.now.world.service (c.from.result - 1) c.args.number c.in-Some.node c.in-Some-performed.performed.now is c.in-Some.ensures.value c.in-Some-performed.ensures.value)
    e.heard e.own e.watched e.may

pub returns-in-Some-performed-clause-own : goal.returns-in-Some-performed-clause-own
returns-in-Some-performed-clause-own c ids so low high =
    let is : (c.from.result - 1) + 1 ≡ c.args.number = omega (arith, c.from.ensures, low) in
    let e = c.hear.ensures in
    heard_here c.args.world.now.world ids c.args.waiting.now c.hear.new.self (c.from.result - 1) c.in-Some-performed.performed.now so
    (performed_there c.args.world.now.world.service (c.from.result - 1) c.args.number c.in-Some.node c.in-Some-performed.performed.now is c.in-Some.ensures.value c.in-Some-performed.ensures.value)
    e.heard e.own e.watched e.may c.args.number (sym is)
