use Rattle.std.proofs.Common.{◌≡◌, ◌∙◌, ap, sym}
use Rattle.std.proofs.lemmas.Option.{IfSome_then}
use Rattle.runs.specs.Worlds.{performed_by}
use Rattle.runs.proofs.Decisions.{performed_decided, front_submitted}
use Rattle.world.specs.Kept.{world_of}
use Rattle.world.specs.Values.{WorldValue}
use Rattle.world.proofs.Keeping.{kept_nodes}
use Rattle.world.proofs.world.World.performed.Goals as goal

pub returns-clause-decided : goal.returns-clause-decided
returns-clause-decided g c =
    let w = c.self.inside in
    let v = c.args.self.now.world in
    let same : world_of w.config w.hosts w.connections.entries w.operations.entries ≡ v = ap (λ (x : WorldValue g.row.A.Denot). x.world) c.self.view_is in
    let nodes = kept_nodes w.config w.hosts w.connections.entries w.operations.entries v same c.self.invariant.0 in
    IfSome_then c.performed.result c.performed.ensures.value
    (λ commands h. performed_decided v.config v.service nodes c.args.node commands.now (ap (λ (x : WorldValue g.row.A.Denot). performed_by x.world.service c.args.node) (sym c.self.view_is) ∙ h))

pub returns-clause-submitted : goal.returns-clause-submitted
returns-clause-submitted g c =
    let w = c.self.inside in
    let v = c.args.self.now.world in
    let same : world_of w.config w.hosts w.connections.entries w.operations.entries ≡ v = ap (λ (x : WorldValue g.row.A.Denot). x.world) c.self.view_is in
    let nodes = kept_nodes w.config w.hosts w.connections.entries w.operations.entries v same c.self.invariant.0 in
    IfSome_then c.performed.result c.performed.ensures.value
    (λ commands h. front_submitted v.config v.service nodes commands.now
    (performed_decided v.config v.service nodes c.args.node commands.now (ap (λ (x : WorldValue g.row.A.Denot). performed_by x.world.service c.args.node) (sym c.self.view_is) ∙ h)))

pub returns-clause-known : goal.returns-clause-known
returns-clause-known g c = rw (← c.self.view_is) c.performed.ensures.known
