use Rattle.std.proofs.Common.{◌∙◌, Some, ap, sym}
use Rattle.world.specs.Values.{WorldValue}
use Rattle.world.proofs.Keeping.{replies_found, replies_absent, kept_projected}
use Rattle.world.proofs.world.World.replies.Goals as goal

pub returns-in-Some-clause-value : goal.returns-in-Some-clause-value
returns-in-Some-clause-value g c =
    rw (← c.self.view_is) (ap Some c.get-in-Some.ensures ∙ sym (replies_found c.self.inside.hosts c.self.inside.connections.entries c.args.session c.in-Some.connection.now (sym c.in-Some.ensures.value)))

pub returns-in-Some-clause-projected : goal.returns-in-Some-clause-projected
returns-in-Some-clause-projected g c x at =
    let w = c.self.inside in
    kept_projected w.config w.hosts w.connections.entries w.operations.entries c.args.self.now.world (ap (λ (v : WorldValue g.row.A.Denot). v.world) c.self.view_is) c.self.invariant.0 c.args.session x at

pub returns-in-None-clause-value : goal.returns-in-None-clause-value
returns-in-None-clause-value g c =
    rw (← c.self.view_is) (sym (replies_absent c.self.inside.hosts c.self.inside.connections.entries c.args.session (sym c.in-None.ensures.value)))

pub returns-in-None-clause-projected : goal.returns-in-None-clause-projected
returns-in-None-clause-projected g c x at =
    let w = c.self.inside in
    kept_projected w.config w.hosts w.connections.entries w.operations.entries c.args.self.now.world (ap (λ (v : WorldValue g.row.A.Denot). v.world) c.self.view_is) c.self.invariant.0 c.args.session x at
