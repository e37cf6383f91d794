use Rattle.std.proofs.Common.{◌≡◌, inl, sym, ◌∙◌, subst}
use Rattle.runs.proofs.Logs.{some_same}
use Rattle.world.specs.Waiting.{Sessions, IsWatched, IsBehind, only_at, place_of}
use Rattle.world.specs.Hosts.{network_of}
use Rattle.world.proofs.Noting.{nobody_noted, its_noted, not_there}
use Rattle.world.proofs.Watching.{may_watches}
use Rattle.world.proofs.sessions.Sessions.note.Goals as goal

pub returns-in_default-clause-behind : goal.returns-in_default-clause-behind
returns-in_default-clause-behind g c =
    nobody_noted c.args.hosts.now c.args.self.now.entries c.args.session c.args.self.now.waiting c.requires.behind
    (rw (← c.self.view_is) (sym c.in_default.ensures.index))

pub returns-in-Some-awaited-clause-behind : goal.returns-in-Some-awaited-clause-behind
returns-in-Some-awaited-clause-behind g c =
    let inside = c.self.inside in
    let before : IsBehind (λ place. place_of c.args.session inside.connections.entries ≡ place) c.args.hosts.now inside.connections.entries inside.waiting =
    subst (λ (s : Sessions g.row.A.Denot). IsBehind (λ place. place_of c.args.session s.entries ≡ place) c.args.hosts.now s.entries s.waiting) (sym c.self.view_is) c.requires.behind in
    its_noted c.args.hosts.now inside.connections.entries c.args.session inside.waiting before c.in-Some.place c.in-Some.connection.now c.add.new.self
    (sym c.in-Some.ensures.index) _ c.in-Some.ensures.entry
    (may_watches (only_at c.in-Some.place) inside.waiting c.add.new.self c.add.ensures.commands (λ k apart may. c.add.ensures.others k may) c.add.ensures.heard)
    (λ id waits. inl c.add.ensures.own)
    (λ id log waits at up some. c.add.ensures.own)

pub returns-in-Some-2-clause-behind : goal.returns-in-Some-2-clause-behind
returns-in-Some-2-clause-behind g c =
    let inside = c.self.inside in
    let before : IsBehind (λ place. place_of c.args.session inside.connections.entries ≡ place) c.args.hosts.now inside.connections.entries inside.waiting =
    subst (λ (s : Sessions g.row.A.Denot). IsBehind (λ place. place_of c.args.session s.entries ≡ place) c.args.hosts.now s.entries s.waiting) (sym c.self.view_is) c.requires.behind in
    let has = c.requires.untaken c.args.session c.in-Some.connection.now c.in-Some-awaited.id (rw (← c.self.view_is) (sym c.in-Some.ensures.value)) (sym c.awaited.ensures ∙ c.in-Some-awaited.is) in
    its_noted c.args.hosts.now inside.connections.entries c.args.session inside.waiting before c.in-Some.place c.in-Some.connection.now c.watch.new.self
    (sym c.in-Some.ensures.index) _ c.in-Some.ensures.entry
    c.watch.ensures.others
    (λ id waits. subst (λ i. IsWatched c.watch.new.self c.in-Some.place i) (some_same c.in-Some-awaited.id id (sym c.in-Some-awaited.is ∙ c.awaited.ensures ∙ waits)) c.watch.ensures.own)
    (λ id log waits at up some.
    let same = some_same c.in-Some-awaited.id id (sym c.in-Some-awaited.is ∙ c.awaited.ensures ∙ waits) in
    not_there (network_of c.args.hosts.now).logs c.in-Some.connection.now.node c.in-Some-awaited.id id log same (sym c.if-has_answer.false ∙ c.has_answer.ensures has) at up some)

pub returns-in-None-clause-behind : goal.returns-in-None-clause-behind
returns-in-None-clause-behind g c =
    let inside = c.self.inside in
    let before : IsBehind (λ place. place_of c.args.session inside.connections.entries ≡ place) c.args.hosts.now inside.connections.entries inside.waiting =
    subst (λ (s : Sessions g.row.A.Denot). IsBehind (λ place. place_of c.args.session s.entries ≡ place) c.args.hosts.now s.entries s.waiting) (sym c.self.view_is) c.requires.behind in
    its_noted c.args.hosts.now inside.connections.entries c.args.session inside.waiting before c.in-Some.place c.in-Some.connection.now c.remove.new.self
    (sym c.in-Some.ensures.index) _ c.in-Some.ensures.entry
    (may_watches (only_at c.in-Some.place) inside.waiting c.remove.new.self c.remove.ensures.commands (λ k apart may. c.remove.ensures.others k apart may) c.remove.ensures.heard)
    (λ id waits. absurd (cc (sym c.in-None.is ∙ c.awaited.ensures ∙ waits)))
    (λ id log waits at up some. absurd (cc (sym c.in-None.is ∙ c.awaited.ensures ∙ waits)))
