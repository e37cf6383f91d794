use Rattle.std.proofs.Common.{◌<◌, length, sym, subst}
use Rattle.std.specs.Prelude.{slice_get}
use Rattle.world.specs.Hosts.{crashes_of}
use Rattle.world.specs.Waiting.{Sessions, IsBehind, IsHeard, nowhere}
use Rattle.world.proofs.Hearing.{heard_behind, heard_here, heard_there, down_heard}
use Rattle.world.proofs.sessions.Sessions.hear_one.Goals as goal

pub returns-in-Some-clause-behind : goal.returns-in-Some-clause-behind
returns-in-Some-clause-behind g c =
    let inside = c.self.inside in
    let before : IsBehind nowhere c.args.hosts.now inside.connections.entries inside.waiting = subst (λ (s : Sessions g.row.A.Denot). IsBehind nowhere c.args.hosts.now s.entries s.waiting) (sym c.self.view_is) c.requires in
    let e = c.hear.ensures in
    heard_behind c.args.hosts.now inside.connections.entries inside.waiting c.hear.new.self c.args.node c.in-Some.performed.now before c.in-Some.ensures.value e.heard e.own e.watched e.may

pub returns-in-Some-clause-own : goal.returns-in-Some-clause-own
returns-in-Some-clause-own g c low =
    let inside = c.self.inside in
    let before : IsBehind nowhere c.args.hosts.now inside.connections.entries inside.waiting = subst (λ (s : Sessions g.row.A.Denot). IsBehind nowhere c.args.hosts.now s.entries s.waiting) (sym c.self.view_is) c.requires in
    let e = c.hear.ensures in
    heard_here c.args.hosts.now inside.connections.entries inside.waiting c.hear.new.self c.args.node c.in-Some.performed.now before c.in-Some.ensures.value e.heard e.own e.watched e.may
    (subst (λ (s : Sessions g.row.A.Denot). c.args.node < length s.waiting.heard) (sym c.self.view_is) low)

pub returns-in-Some-clause-others : goal.returns-in-Some-clause-others
returns-in-Some-clause-others g c other apart is =
    let inside = c.self.inside in
    let before : IsBehind nowhere c.args.hosts.now inside.connections.entries inside.waiting = subst (λ (s : Sessions g.row.A.Denot). IsBehind nowhere c.args.hosts.now s.entries s.waiting) (sym c.self.view_is) c.requires in
    let e = c.hear.ensures in
    heard_there c.args.hosts.now inside.connections.entries inside.waiting c.hear.new.self c.args.node c.in-Some.performed.now before c.in-Some.ensures.value e.heard e.own e.watched e.may
    other apart (subst (λ (s : Sessions g.row.A.Denot). IsHeard c.args.hosts.now s.waiting other) (sym c.self.view_is) is)

pub returns-in_default-clause-own : goal.returns-in_default-clause-own
returns-in_default-clause-own g c low = down_heard c.args.hosts.now c.args.self.now.waiting c.args.node (slice_get (crashes_of c.args.hosts.now) c.args.node) c.in_default.ensures.known
