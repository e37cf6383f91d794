use Rattle.std.proofs.Common.{◌≡◌, ap}
use Rattle.world.specs.Kept.{world_of}
use Rattle.world.specs.Values.{WorldValue}
use Rattle.runs.proofs.Decisions.{chooses_one, tells_chosen, chooses_submitted}
use Rattle.world.proofs.Keeping.{kept_nodes}
use Rattle.world.proofs.world.World.sent.Goals as goal

pub returns-clause-agreement : goal.returns-clause-agreement
returns-clause-agreement g c =
    let w = c.self.inside in
    let v = c.args.self.now.world in
    let same : world_of w.config w.hosts w.connections.entries w.operations.entries ≡ v = ap (λ (x : WorldValue g.row.A.Denot). x.world) c.self.view_is in
    chooses_one v.config v.service (kept_nodes w.config w.hosts w.connections.entries w.operations.entries v same c.self.invariant.0)

pub returns-clause-learning : goal.returns-clause-learning
returns-clause-learning g c =
    let w = c.self.inside in
    let v = c.args.self.now.world in
    let same : world_of w.config w.hosts w.connections.entries w.operations.entries ≡ v = ap (λ (x : WorldValue g.row.A.Denot). x.world) c.self.view_is in
    tells_chosen v.config v.service (kept_nodes w.config w.hosts w.connections.entries w.operations.entries v same c.self.invariant.0)

pub returns-clause-validity : goal.returns-clause-validity
returns-clause-validity g c =
    let w = c.self.inside in
    let v = c.args.self.now.world in
    let same : world_of w.config w.hosts w.connections.entries w.operations.entries ≡ v = ap (λ (x : WorldValue g.row.A.Denot). x.world) c.self.view_is in
    chooses_submitted v.config v.service (kept_nodes w.config w.hosts w.connections.entries w.operations.entries v same c.self.invariant.0)
