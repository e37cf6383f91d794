use Rattle.std.proofs.Common.{rules}
use Rattle.proposer.specs.declared.commander.Verdict.TheVariants.{Waiting, Decided}
use Rattle.proposer.specs.Commanders.{CommanderState}
use Rattle.proposer.proofs.Wins.{decides}
use Rattle.proposer.proofs.commander.Commander.hear.Goals as goal

pub returns-then-majority-clause-decided : goal.returns-then-majority-clause-decided
returns-then-majority-clause-decided c =
    let was : CommanderState = record { ballot = c.self.inside.ballot; slot = c.self.inside.slot; heard = c.self.inside.heard } in
    decides c.self.inside.cluster was c.args.from c.args.vote Decided c.self.invariant c.args.self.now (rw c.if-self.false at c.self.view_is) (search rules)

pub returns-clause-decided : goal.returns-clause-decided
returns-clause-decided c =
    let was : CommanderState = record { ballot = c.self.inside.ballot; slot = c.self.inside.slot; heard = c.self.inside.heard } in
    decides c.self.inside.cluster was c.args.from c.args.vote Waiting c.self.invariant c.args.self.now (rw c.if-self.false at c.self.view_is) (search rules)
