use Rattle.std.proofs.Common.{rules, ◌≡◌, []}
use Rattle.std.specs.Str.Lines.{lines}
use Rattle.simulator.specs.Runs.{run_of}
use Rattle.simulator.proofs.Playing.{plays_line, plays_nothing, stops_at}
use Rattle.simulator.proofs.sim.play_line.Goals as goal

pub returns-in_default-clause-goes_on : goal.returns-in_default-clause-goes_on
returns-in_default-clause-goes_on c =
    let none : lines c.args.line.now ≡ [] = search rules in
    plays_nothing c.args.line.now c.args.number (run_of c.args.run.now) c.args.run.now.report none

pub returns-in-Ok-clause-goes_on : goal.returns-in-Ok-clause-goes_on
returns-in-Ok-clause-goes_on c =
    let found = c.in-Some.ensures.0 in
    let told = c.in-Ok.ensures.told in
    plays_line c.args.line.now c.in-Some.content.now c.in-Some.field-0-1.now c.args.number (run_of c.args.run.now) (run_of c.take_line.new.self) c.args.run.now.report c.take_line.new.self.report told.0 found told.1 told.2

pub returns-in-Err-clause-stops : goal.returns-in-Err-clause-stops
returns-in-Err-clause-stops c =
    let found = c.in-Some.ensures.0 in
    rw c.fault_at.ensures (stops_at c.args.line.now c.in-Some.content.now c.in-Some.field-0-1.now c.args.number (run_of c.args.run.now) c.args.run.now.report c.take_line.new.self.report c.in-Err.fault found c.in-Err.ensures.refused)
