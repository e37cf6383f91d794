use Rattle.std.proofs.Common.{◌≡◌, ℕ, ◌≤◌, ◌<◌, true, false, length, sym, ap, ◌∙◌, subst}
use Rattle.std.specs.Prelude.{◌==◌}
use Rattle.replica.specs.Replicas.{ReplicaState, is_decided, proposes}
use Rattle.replica.proofs.Settled.{whole_from}
use Rattle.replica.proofs.Seen.{seen}
use Rattle.replica.proofs.Turns.{passed_over}
use Rattle.replica.proofs.proposing.pass_over.Goals as goal

pub returns-then-not-is_empty : goal.returns-then-not-is_empty
returns-then-not-is_empty g c =
    let S = ReplicaState g.row.M-Command.Denot g.row.M-Command-Id.Denot g.row.M-Answer.Denot g.row.M.Denot in
    let old : S = seen c.state.inside in
    let whole : (s : ℕ) → old.slot_in ≤ s → s < old.slot_out → is_decided s old.decisions ≡ true =
    whole_from old c.state.invariant.0 (subst (λ (r : S). (s : ℕ) → 1 ≤ s → s < r.slot_out → is_decided s r.decisions ≡ true) (sym c.state.view_is) c.requires) in
    let below : old.slot_in < old.slot_out = c.if-state.true in
    let waits : (length old.requests == 0) ≡ false = ap (λ n. n == 0) (sym c.state.inside.requests.ok.0) ∙ (sym c.is_empty.ensures ∙ c.if-not-is_empty.true) in
    passed_over g.row.A.Denot old below waits c.state.invariant.2 whole ∙ ap (λ (r : S). proposes {A = g.row.A.Denot} r) c.state.view_is
