use Rattle.std.proofs.Common.{rules}
use Rattle.proposer.specs.declared.scout.Progress.TheVariants.{Waiting, Adopted}
use Rattle.proposer.specs.Scouts.{ScoutState}
use Rattle.proposer.proofs.Wins.{adopts}
use Rattle.proposer.proofs.scout.Scout.hear.Goals as goal

pub returns-then-majority-clause-adopted : goal.returns-then-majority-clause-adopted
returns-then-majority-clause-adopted g c =
    let was : ScoutState g.row.C.Denot = record { ballot = c.self.inside.ballot; heard = c.self.inside.heard; pvalues = c.self.inside.pvalues } in
    adopts g.C.Payload.equal c.self.inside.cluster was c.args.from c.args.promise (Adopted c.take.result) c.self.invariant c.args.self.now (rw c.if-self.false at c.self.view_is) (search rules)

pub returns-clause-adopted : goal.returns-clause-adopted
returns-clause-adopted g c =
    let was : ScoutState g.row.C.Denot = record { ballot = c.self.inside.ballot; heard = c.self.inside.heard; pvalues = c.self.inside.pvalues } in
    adopts g.C.Payload.equal c.self.inside.cluster was c.args.from c.args.promise Waiting c.self.invariant c.args.self.now (rw c.if-self.false at c.self.view_is) (search rules)
