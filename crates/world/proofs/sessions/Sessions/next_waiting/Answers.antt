use Rattle.std.proofs.Common.{◌≤◌, ap, arith, length, subst}
use Rattle.world.specs.Waiting.{Sessions, NoneMay}
use Rattle.world.proofs.Noting.{if_none}
use Rattle.world.proofs.Watching.{none_may_on, none_may_short}
use Rattle.world.proofs.sessions.Sessions.next_waiting.Goals as goal

pub returns-in_err-place-clause-none : goal.returns-in_err-place-clause-none
returns-in_err-place-clause-none g c =
    let inside = c.self.inside in
    if_none c.from_residual.result
    (subst (λ (s : Sessions g.row.A.Denot). NoneMay s.waiting c.args.from (length s.entries)) c.self.view_is
    (none_may_on inside.waiting c.args.from (length inside.connections.entries) c.in_err-place.ensures.none))

pub returns-then-place-len-clause-some : goal.returns-then-place-len-clause-some
returns-then-place-len-clause-some g c =
    let some = c.in_ok-place.ensures.some in (
      some.0,
      omega (arith, c.if-place-len.true, c.len.ensures.len, ap (λ (s : Sessions g.row.A.Denot). length s.entries) c.self.view_is),
      subst (λ (s : Sessions g.row.A.Denot). NoneMay s.waiting c.args.from c.in_ok-place.place) c.self.view_is some.1,
    )

pub returns-else-place-len-clause-none : goal.returns-else-place-len-clause-none
returns-else-place-len-clause-none g c =
    let inside = c.self.inside in
    let some = c.in_ok-place.ensures.some in
    let past : length inside.connections.entries ≤ c.in_ok-place.place = omega (arith, c.if-place-len.false, c.len.ensures.len) in
    subst (λ (s : Sessions g.row.A.Denot). NoneMay s.waiting c.args.from (length s.entries)) c.self.view_is
    (none_may_short inside.waiting c.args.from c.in_ok-place.place (length inside.connections.entries) past some.1)
