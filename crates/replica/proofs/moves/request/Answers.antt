use Rattle.std.proofs.Common.{◌≡◌, ℕ, ◌<◌, ◌≤◌, true, sym, ap, ◌∙◌, subst, OnOk, IfOk}
use Rattle.replica.specs.Replicas.{Rules, ReplicaState, rules_of, is_decided, awaiting, proposes}
use Rattle.replica.specs.Parts.{with_request}
use Rattle.replica.proofs.moves.request.Given.{Over}
use Rattle.replica.proofs.moves.request.Goals as goal

abbrev the_rules : (g : Over) → Rules g.row.M-Command.Denot g.row.M-Command-Id.Denot g.row.M-Answer.Denot g.row.M.Denot
the_rules g = rules_of g.M.Command.Payload.identity g.M.Command.Id.Ord.cmp g.M.Machine.answer_to g.M.Machine.after

pub propose_all-requires : goal.propose_all-requires
propose_all-requires g c =
    let S = ReplicaState g.row.M-Command.Denot g.row.M-Command-Id.Denot g.row.M-Answer.Denot g.row.M.Denot in
    let asked : S = with_request c.args.command (awaiting (the_rules g) c.args.command c.args.state.now) in
    let same : c.add_request.new.state ≡ asked = c.in_ok-add_request.ensures ∙ ap (λ (r : S). with_request c.args.command r) c.in_ok-await_answer.ensures in
    subst (λ (r : S). (s : ℕ) → 1 ≤ s → s < r.slot_out → is_decided s r.decisions ≡ true) (sym same) c.requires.front.gapless

pub returns : goal.returns
returns g c =
    let S = ReplicaState g.row.M-Command.Denot g.row.M-Command-Id.Denot g.row.M-Answer.Denot g.row.M.Denot in
    let asked : S = with_request c.args.command (awaiting (the_rules g) c.args.command c.args.state.now) in
    let same : c.add_request.new.state ≡ asked = c.in_ok-add_request.ensures ∙ ap (λ (r : S). with_request c.args.command r) c.in_ok-await_answer.ensures in
    record {
      replica = subst (λ (r : S). OnOk c.propose_all.result (c.propose_all.new.state ≡ (proposes {A = g.row.A.Denot} r).after)) same c.propose_all.ensures.replica;
      sends = subst (λ (r : S). IfOk c.propose_all.result (λ sends. sends ≡ (proposes {A = g.row.A.Denot} r).sends)) same c.propose_all.ensures.sends;
    }
