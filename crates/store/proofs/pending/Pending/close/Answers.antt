use Rattle.std.proofs.Common.{◌∙◌}
use Rattle.store.specs.declared.pending.Closed.{Closed}
use Rattle.store.proofs.Additions.{closed_contents, closes_to}
use Rattle.store.proofs.pending.Pending.close.Goals as goal

pub invariant_of-self : goal.invariant_of-self
invariant_of-self c =
    let p = c.self.inside in
    let one : Closed = record { batch = c.replace-batch.result; upto = c.args.upto } in
    closes_to p.closed.items c.push_back.new.self.items one p.last c.replace-batch.new.dest p.size c.in-Ok.ensures.items c.replace-batch.ensures.value (c.replace-batch.ensures.after ∙ c.new.ensures) c.self.invariant

pub returns-in-Ok : goal.returns-in-Ok
returns-in-Ok c =
    let p = c.self.inside in
    let one : Closed = record { batch = c.replace-batch.result; upto = c.args.upto } in
    closed_contents p.closed.items c.push_back.new.self.items one p.last c.replace-batch.new.dest p.size c.in-Ok.ensures.items c.replace-batch.ensures.value (c.replace-batch.ensures.after ∙ c.new.ensures) ∙ c.self.view_is
