use Rattle.std.proofs.Common.{◌≡◌, ◌∙◌, ap, length, rules}
use Rattle.replica.proofs.Gapless.{how_many}
use Rattle.replica.proofs.decisions.Decisions.count.Goals as goal

pub returns : goal.returns
returns g c =
    let front : c.len.result ≡ length c.self.inside.front.items = search rules in
    let ahead : c.len-2.result ≡ length c.self.inside.ahead.entries = search rules in
    rw (front, ahead) (how_many c.self.inside.front.items c.self.inside.ahead.entries ∙ ap length c.self.view_is)
