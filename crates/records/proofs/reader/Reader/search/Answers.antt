use Rattle.std.proofs.Common.{◌+◌, ◌<◌, ◌≤◌, ℕ, List, length, drop, subst}
use Rattle.records.specs.Files.{IsBad}
use Rattle.records.specs.Search.{StandsAt}
use Rattle.records.proofs.Readers.{step_passed, step_found}
use Rattle.records.proofs.reader.Reader.search.Goals as goal

pub returns-then-passed-clause-read : goal.returns-then-passed-clause-read
returns-then-passed-clause-read g c = λ bytes given h.
    let found : StandsAt c.args.salt c.self.inside.place c.pass_over-passed.result.count c.self.inside.unread =
    subst (λ (x : List ℕ). StandsAt c.args.salt c.self.inside.place c.pass_over-passed.result.count x) c.get.ensures (c.pass_over-passed.ensures.found c.if-passed.true) in
    step_found bytes given c.self.inside.phase c.args.salt c.args.bad c.self.inside.place c.self.inside.unread c.clear.new.self c.args.self.now c.pass_over-passed.result.count (c.self.inside.place + c.pass_over-passed.result.count) c.self.view_is c.requires found c.clear.ensures h

pub returns-else-passed-clause-read : goal.returns-else-passed-clause-read
returns-else-passed-clause-read g c = λ bytes given h.
    let within : c.pass_over-passed.result.count ≤ length c.self.inside.unread = subst (λ (x : List ℕ). c.pass_over-passed.result.count ≤ length x) c.get.ensures c.pass_over-passed.ensures.within in
    let bad : (j : ℕ) → j < c.pass_over-passed.result.count → IsBad c.args.salt (c.self.inside.place + j) (drop j c.self.inside.unread) =
    subst (λ (x : List ℕ). (j : ℕ) → j < c.pass_over-passed.result.count → IsBad c.args.salt (c.self.inside.place + j) (drop j x)) c.get.ensures c.pass_over-passed.ensures.bad in
    step_passed bytes given c.self.inside.phase c.args.salt c.args.bad c.self.inside.place c.self.inside.unread c.pass.new.self c.args.self.now c.pass_over-passed.result.count c.self.view_is c.requires c.pass.ensures within bad h
