use Rattle.std.proofs.Common.{◌≡◌, ℕ, List, false, ap, ◌∙◌}
use Rattle.replica.specs.Replicas.{ReplicaState, is_decided}
use Rattle.replica.proofs.Gapless.{slots_still}
use Rattle.replica.proofs.performing.keep.Goals as goal

pub invariant_of-state : goal.invariant_of-state
invariant_of-state g c =
    let S = ReplicaState g.row.M-Command.Denot g.row.M-Command-Id.Denot g.row.M-Answer.Denot g.row.M.Denot in
    let old : List (ℕ × g.row.M-Command.Denot) = c.state.inside.decisions in
    let undecided : is_decided c.args.slot old ≡ false = ap (λ (r : S). is_decided c.args.slot r.decisions) c.state.view_is ∙ c.requires in (
      c.state.invariant.0,
      c.state.invariant.1,
      slots_still c.args.slot c.args.command old c.insert.new.self c.insert.result c.insert.ensures.ok c.insert.ensures.err c.get.ensures.range.1 undecided c.state.invariant.2,
    )
