use Rattle.std.proofs.Common.{◌≡◌, Some, subst}
use Rattle.std.proofs.lemmas.Option.{IfSome_then}
use Rattle.world.specs.Connections.{connection_of}
use Rattle.world.specs.Waiting.{Sessions}
use Rattle.world.proofs.sessions.Sessions.get_index.Goals as goal

pub returns-clause-value : goal.returns-clause-value
returns-clause-value g c =
    IfSome_then c.get_index.result c.get_index.ensures.value
    (λ e h. subst (λ (s : Sessions g.row.A.Denot). connection_of e.0.now s.entries ≡ Some e.1.now) c.self.view_is h)
