use Rattle.std.proofs.Common.{◌∙◌, ap}
use Rattle.maildrop.specs.Office.{kept_of}
use Rattle.node.proofs.Kept.{office_known}
use Rattle.node.proofs.node.Node.close.Goals as goal

pub returns-clause-kept : goal.returns-clause-kept
returns-clause-kept g c =
    rw (← c.self.view_is)
    (λ known. c.close.ensures ∙ ap kept_of (office_known c.self.inside.log c.self.inside.roles c.self.inside.given.entries c.self.inside.stopped c.into_parts-office.result.0 c.self.invariant c.into_parts-office.ensures known))
