use Rattle.std.proofs.Common.{◌≡◌, ◌∙◌, ap, ℕ, List}
use Rattle.std.specs.Prelude.{drop}
use Rattle.std.specs.declared.alloc.Global.{Global}
use Rattle.maildrop.specs.declared.command.Command.{Command}
use Rattle.node.specs.Replay.{replayed}
use Rattle.cluster.specs.Members.{IsLogOf}
use Rattle.cluster.proofs.member.Member.performed_after.Goals as goal

pub returns : goal.returns
returns g c =
    let log = c.args.self.now.log in
    let performed : List (ℕ × Command Global) = (replayed log).replica.performed in
    let same : c.in-Some.performed.now ≡ performed = c.in-Some.ensures in
    let opened : IsLogOf g.D.Deployment.setup log.opening.me log = rw (← c.self.view_is) c.self.invariant in
    record { logged = (log, opened, c.in_ok-commands.ensures ∙ ap (drop c.args.taken) same) }
