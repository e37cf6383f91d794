use Rattle.std.proofs.Common.{◌≡◌, ℕ, ◌<◌, ◌≤◌, length, true, sym, ap, ◌∙◌, subst, OnOk, IfOk}
use Rattle.replica.specs.Replicas.{Rules, ReplicaState, rules_of, is_decided, performs_slots, proposes}
use Rattle.ballot.specs.Sends.{Move}
use Rattle.replica.specs.Parts.{with_decided, with_decision}
use Rattle.replica.proofs.Front.{part_slots, part_with}
use Rattle.replica.proofs.Settled.{part_of, decided_again}
use Rattle.replica.proofs.moves.decide.Given.{Over}
use Rattle.replica.proofs.moves.decide.Goals as goal

abbrev the_rules : (g : Over) → Rules g.row.M-Command.Denot g.row.M-Command-Id.Denot g.row.M-Answer.Denot g.row.M.Denot
the_rules g = rules_of g.M.Command.Payload.identity g.M.Command.Id.Ord.cmp g.M.Machine.answer_to g.M.Machine.after

pub propose_all-requires : goal.propose_all-requires
propose_all-requires g c =
    let S = ReplicaState g.row.M-Command.Denot g.row.M-Command-Id.Denot g.row.M-Answer.Denot g.row.M.Denot in
    let n : ℕ = length (with_decided c.args.slot c.args.command c.args.state.now.decisions) in
    let known : S = with_decision c.args.slot c.args.command c.args.state.now in
    let same : c.perform_all.new.state ≡ performs_slots (the_rules g) n known = c.in_ok-perform_all.ensures ∙ ap (λ (r : S). performs_slots (the_rules g) (length r.decisions) r) c.in_ok-keep.ensures in
    subst (λ (r : S). (s : ℕ) → 1 ≤ s → s < r.slot_out → is_decided s r.decisions ≡ true) (sym same)
    (part_slots (the_rules g) n known (part_with (the_rules g) c.args.slot c.args.command c.args.state.now (part_of (the_rules g) c.args.state.now c.requires.front))).gapless

pub returns-then-has_decision-clause-replica : goal.returns-then-has_decision-clause-replica
returns-then-has_decision-clause-replica g c =
    let W = Move (ReplicaState g.row.M-Command.Denot g.row.M-Command-Id.Denot g.row.M-Answer.Denot g.row.M.Denot) g.row.M-Command.Denot g.row.A.Denot in
    let same = decided_again (the_rules g) g.row.A.Denot c.args.slot c.args.command c.args.state.now c.requires (sym c.has_decision.ensures ∙ c.if-has_decision.true) in
    sym (ap (λ (m : W). m.after) same)

pub returns-then-has_decision-clause-sends : goal.returns-then-has_decision-clause-sends
returns-then-has_decision-clause-sends g c =
    let W = Move (ReplicaState g.row.M-Command.Denot g.row.M-Command-Id.Denot g.row.M-Answer.Denot g.row.M.Denot) g.row.M-Command.Denot g.row.A.Denot in
    let same = decided_again (the_rules g) g.row.A.Denot c.args.slot c.args.command c.args.state.now c.requires (sym c.has_decision.ensures ∙ c.if-has_decision.true) in
    c.new.ensures ∙ sym (ap (λ (m : W). m.sends) same)

pub returns-clause-replica : goal.returns-clause-replica
returns-clause-replica g c =
    let S = ReplicaState g.row.M-Command.Denot g.row.M-Command-Id.Denot g.row.M-Answer.Denot g.row.M.Denot in
    let n : ℕ = length (with_decided c.args.slot c.args.command c.args.state.now.decisions) in
    let known : S = with_decision c.args.slot c.args.command c.args.state.now in
    let same : c.perform_all.new.state ≡ performs_slots (the_rules g) n known = c.in_ok-perform_all.ensures ∙ ap (λ (r : S). performs_slots (the_rules g) (length r.decisions) r) c.in_ok-keep.ensures in
    subst (λ (r : S). OnOk c.propose_all.result (c.propose_all.new.state ≡ (proposes {A = g.row.A.Denot} r).after)) same c.propose_all.ensures.replica

pub returns-clause-sends : goal.returns-clause-sends
returns-clause-sends g c =
    let S = ReplicaState g.row.M-Command.Denot g.row.M-Command-Id.Denot g.row.M-Answer.Denot g.row.M.Denot in
    let n : ℕ = length (with_decided c.args.slot c.args.command c.args.state.now.decisions) in
    let known : S = with_decision c.args.slot c.args.command c.args.state.now in
    let same : c.perform_all.new.state ≡ performs_slots (the_rules g) n known = c.in_ok-perform_all.ensures ∙ ap (λ (r : S). performs_slots (the_rules g) (length r.decisions) r) c.in_ok-keep.ensures in
    subst (λ (r : S). IfOk c.propose_all.result (λ sends. sends ≡ (proposes {A = g.row.A.Denot} r).sends)) same c.propose_all.ensures.sends
