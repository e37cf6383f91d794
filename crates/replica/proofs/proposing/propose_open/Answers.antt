use Rattle.std.proofs.Common.{◌≡◌, ℕ, ◌+◌, ◌-◌, ◌++◌, false, sym, ap, ◌∙◌, arith, append_assoc}
use Rattle.std.proofs.lemmas.List.{append-nil}
use Rattle.replica.specs.Replicas.{ReplicaState, can_propose, proposes_next, proposes_slots}
use Rattle.ballot.specs.Sends.{Move}
use Rattle.replica.proofs.Turns.{idle_next, idle_slots, turn}
use Rattle.replica.proofs.proposing.propose_open.Goals as goal

pub returns-then-not-branch-clause-replica : goal.returns-then-not-branch-clause-replica
returns-then-not-branch-clause-replica g c =
    let S = ReplicaState g.row.M-Command.Denot g.row.M-Command-Id.Denot g.row.M-Answer.Denot g.row.M.Denot in
    let W = Move (ReplicaState g.row.M-Command.Denot g.row.M-Command-Id.Denot g.row.M-Answer.Denot g.row.M.Denot) g.row.M-Command.Denot g.row.A.Denot in
    let st : S = c.loop-turn.state in
    let n : ℕ = c.saturating_sub-turns.result in
    let turns : n ≡ (c.args.state.now.slot_out + c.args.state.now.window) - c.args.state.now.slot_in = c.saturating_sub-turns.ensures ∙ ap (λ (r : S). (r.slot_out + r.window) - r.slot_in) c.state.view_is in
    let none : can_propose st.requests st ≡ false = sym c.in_ok-propose_next.ensures.proposes ∙ c.if-not-branch.true in
    let idle : proposes_next {A = g.row.A.Denot} st.requests st ≡ proposes_slots (n - c.loop-turn.turn) st = idle_next g.row.A.Denot st.requests st none ∙ sym (idle_slots g.row.A.Denot (n - c.loop-turn.turn) st none) in
    c.in_ok-propose_next.ensures.replica ∙ (ap (λ (m : W). m.after) idle ∙ (c.loop-turn.invariant.replica ∙ ap (λ k. (proposes_slots {A = g.row.A.Denot} k c.args.state.now).after) turns))

pub returns-then-not-branch-clause-sends : goal.returns-then-not-branch-clause-sends
returns-then-not-branch-clause-sends g c =
    let S = ReplicaState g.row.M-Command.Denot g.row.M-Command-Id.Denot g.row.M-Answer.Denot g.row.M.Denot in
    let W = Move (ReplicaState g.row.M-Command.Denot g.row.M-Command-Id.Denot g.row.M-Answer.Denot g.row.M.Denot) g.row.M-Command.Denot g.row.A.Denot in
    let st : S = c.loop-turn.state in
    let n : ℕ = c.saturating_sub-turns.result in
    let turns : n ≡ (c.args.state.now.slot_out + c.args.state.now.window) - c.args.state.now.slot_in = c.saturating_sub-turns.ensures ∙ ap (λ (r : S). (r.slot_out + r.window) - r.slot_in) c.state.view_is in
    let none : can_propose st.requests st ≡ false = sym c.in_ok-propose_next.ensures.proposes ∙ c.if-not-branch.true in
    let idle : proposes_next {A = g.row.A.Denot} st.requests st ≡ proposes_slots (n - c.loop-turn.turn) st = idle_next g.row.A.Denot st.requests st none ∙ sym (idle_slots g.row.A.Denot (n - c.loop-turn.turn) st none) in
    c.in_ok-propose_next.ensures.sends ∙ (ap (λ (m : W). c.loop-turn.sends ++ m.sends) idle ∙ (c.loop-turn.invariant.sends ∙ ap (λ k. (proposes_slots {A = g.row.A.Denot} k c.args.state.now).sends) turns))

pub loop-turn-preserved : goal.loop-turn-preserved
loop-turn-preserved g c =
    let S = ReplicaState g.row.M-Command.Denot g.row.M-Command-Id.Denot g.row.M-Answer.Denot g.row.M.Denot in
    let W = Move (ReplicaState g.row.M-Command.Denot g.row.M-Command-Id.Denot g.row.M-Answer.Denot g.row.M.Denot) g.row.M-Command.Denot g.row.A.Denot in
    let st : S = c.loop-turn.state in
    let n : ℕ = c.saturating_sub-turns.result in
    let turns : n ≡ (c.args.state.now.slot_out + c.args.state.now.window) - c.args.state.now.slot_in = c.saturating_sub-turns.ensures ∙ ap (λ (r : S). (r.slot_out + r.window) - r.slot_in) c.state.view_is in
    let rest : ℕ = n - (c.loop-turn.turn + 1) in
    let next : W = proposes_next {A = g.row.A.Denot} st.requests st in
    let one = turn g.row.A.Denot n c.loop-turn.turn st (omega arith) in
    let state : c.propose_next.new.state ≡ next.after = c.in_ok-propose_next.ensures.replica in
    record {
      replica = ap (λ (r : S). (proposes_slots {A = g.row.A.Denot} rest r).after) state ∙ (sym (ap (λ (m : W). m.after) one) ∙ c.loop-turn.invariant.replica);
      sends =
          ap (λ (r : S). c.propose_next.new.sends ++ (proposes_slots {A = g.row.A.Denot} rest r).sends) state
          ∙ (ap (λ sent. sent ++ (proposes_slots {A = g.row.A.Denot} rest next.after).sends) c.in_ok-propose_next.ensures.sends
          ∙ (append_assoc c.loop-turn.sends next.sends (proposes_slots {A = g.row.A.Denot} rest next.after).sends
          ∙ (sym (ap (λ (m : W). c.loop-turn.sends ++ m.sends) one) ∙ c.loop-turn.invariant.sends)));
    }

pub returns-clause-replica : goal.returns-clause-replica
returns-clause-replica g c =
    let S = ReplicaState g.row.M-Command.Denot g.row.M-Command-Id.Denot g.row.M-Answer.Denot g.row.M.Denot in
    let W = Move (ReplicaState g.row.M-Command.Denot g.row.M-Command-Id.Denot g.row.M-Answer.Denot g.row.M.Denot) g.row.M-Command.Denot g.row.A.Denot in
    let st : S = c.loop-turn.state in
    let n : ℕ = c.saturating_sub-turns.result in
    let turns : n ≡ (c.args.state.now.slot_out + c.args.state.now.window) - c.args.state.now.slot_in = c.saturating_sub-turns.ensures ∙ ap (λ (r : S). (r.slot_out + r.window) - r.slot_in) c.state.view_is in
    let over : n - c.loop-turn.turn ≡ 0 = omega arith in
    sym (ap (λ k. (proposes_slots {A = g.row.A.Denot} k st).after) over) ∙ (c.loop-turn.invariant.replica ∙ ap (λ k. (proposes_slots {A = g.row.A.Denot} k c.args.state.now).after) turns)

pub returns-clause-sends : goal.returns-clause-sends
returns-clause-sends g c =
    let S = ReplicaState g.row.M-Command.Denot g.row.M-Command-Id.Denot g.row.M-Answer.Denot g.row.M.Denot in
    let W = Move (ReplicaState g.row.M-Command.Denot g.row.M-Command-Id.Denot g.row.M-Answer.Denot g.row.M.Denot) g.row.M-Command.Denot g.row.A.Denot in
    let st : S = c.loop-turn.state in
    let n : ℕ = c.saturating_sub-turns.result in
    let turns : n ≡ (c.args.state.now.slot_out + c.args.state.now.window) - c.args.state.now.slot_in = c.saturating_sub-turns.ensures ∙ ap (λ (r : S). (r.slot_out + r.window) - r.slot_in) c.state.view_is in
    let over : n - c.loop-turn.turn ≡ 0 = omega arith in
    sym (append-nil c.loop-turn.sends) ∙ (sym (ap (λ k. c.loop-turn.sends ++ (proposes_slots {A = g.row.A.Denot} k st).sends) over) ∙ (c.loop-turn.invariant.sends ∙ ap (λ k. (proposes_slots {A = g.row.A.Denot} k c.args.state.now).sends) turns))
