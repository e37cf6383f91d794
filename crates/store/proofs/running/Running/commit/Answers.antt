use Rattle.std.proofs.Common.{◌≡◌, ◌+◌, ◌∙◌, ◌++◌, ℕ, List, length, ap, arith}
use Rattle.records.specs.Spelling.{spell}
use Rattle.store.proofs.Additions.{numbered_grows}
use Rattle.store.proofs.running.Running.commit.Goals as goal

pub invariant_of-self : goal.invariant_of-self
invariant_of-self g c =
    let old = g.D.Device.synced c.self.inside.file.device in
    let new = g.D.Device.synced c.commit.new.self.device in
    let content = c.args.batch in
    let bytes = c.deref.ensures.value ∙ c.in-Ok.ensures in
    let is = c.in-Ok-commit.ensures.kept ∙ ap (λ (b : List ℕ). old ++ b) bytes in
    let step : c.in-Some.size ≡ c.self.inside.size + length (spell c.self.inside.salt c.self.inside.size content) = grind (arith, c.in-Some.ensures, c.len.ensures, c.deref.ensures.len, ap length bytes) in
    numbered_grows c.self.inside.number c.self.inside.salt c.self.inside.size c.in-Some.size content old new c.self.invariant c.requires is step
