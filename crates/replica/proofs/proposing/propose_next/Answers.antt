use Rattle.std.proofs.Common.{◌≡◌, ◌+◌, ◌∷◌, ◌++◌, length, true, false, refl, sym, ap, ◌∙◌, subst}
use Rattle.std.specs.Prelude.{◌==◌}
use Rattle.std.proofs.lemmas.List.{append-nil}
use Rattle.replica.specs.Replicas.{ReplicaState, is_decided, proposes_next}
use Rattle.ballot.specs.Sends.{Move, stays}
use Rattle.replica.proofs.Seen.{seen}
use Rattle.replica.proofs.Turns.{opened, waits_open, next_passes, next_proposes}
use Rattle.replica.proofs.proposing.propose_next.Goals as goal

pub returns-then-has-clause-replica : goal.returns-then-has-clause-replica
returns-then-has-clause-replica g c =
    let S = ReplicaState g.row.M-Command.Denot g.row.M-Command-Id.Denot g.row.M-Answer.Denot g.row.M.Denot in
    let W = Move (ReplicaState g.row.M-Command.Denot g.row.M-Command-Id.Denot g.row.M-Answer.Denot g.row.M.Denot) g.row.M-Command.Denot g.row.A.Denot in
    let old : S = seen c.state.inside in
    let at : c.in-Some.slot ≡ old.slot_in = c.in-Some.ensures.slot in
    let here : is_decided old.slot_in old.decisions ≡ true = subst (λ s. is_decided s old.decisions ≡ true) at (sym c.has.ensures ∙ c.if-has.true) in
    let waits : (length old.requests == 0) ≡ false = ap (λ n. n == 0) (sym c.state.inside.requests.ok.0) ∙ (sym c.is_empty.ensures ∙ c.if-is_empty.false) in
    let step : proposes_next {A = g.row.A.Denot} old.requests old ≡ stays (record old { slot_in = old.slot_in + 1 }) = next_passes g.row.A.Denot old.requests old (waits_open old.requests old waits (opened old (c.in-Some.ensures.open.0 refl))) here in
    ap (λ n. record old { slot_in = n + 1 }) (c.get.ensures.value ∙ at) ∙ (sym (ap (λ (m : W). m.after) step) ∙ ap (λ (r : S). (proposes_next {A = g.row.A.Denot} r.requests r).after) c.state.view_is)

pub returns-then-has-clause-sends : goal.returns-then-has-clause-sends
returns-then-has-clause-sends g c =
    let S = ReplicaState g.row.M-Command.Denot g.row.M-Command-Id.Denot g.row.M-Answer.Denot g.row.M.Denot in
    let W = Move (ReplicaState g.row.M-Command.Denot g.row.M-Command-Id.Denot g.row.M-Answer.Denot g.row.M.Denot) g.row.M-Command.Denot g.row.A.Denot in
    let old : S = seen c.state.inside in
    let at : c.in-Some.slot ≡ old.slot_in = c.in-Some.ensures.slot in
    let here : is_decided old.slot_in old.decisions ≡ true = subst (λ s. is_decided s old.decisions ≡ true) at (sym c.has.ensures ∙ c.if-has.true) in
    let waits : (length old.requests == 0) ≡ false = ap (λ n. n == 0) (sym c.state.inside.requests.ok.0) ∙ (sym c.is_empty.ensures ∙ c.if-is_empty.false) in
    let step : proposes_next {A = g.row.A.Denot} old.requests old ≡ stays (record old { slot_in = old.slot_in + 1 }) = next_passes g.row.A.Denot old.requests old (waits_open old.requests old waits (opened old (c.in-Some.ensures.open.0 refl))) here in
    sym (append-nil c.args.sends.now) ∙ ap (λ (m : W). c.args.sends.now ++ m.sends) (sym step ∙ ap (λ (r : S). proposes_next {A = g.row.A.Denot} r.requests r) c.state.view_is)

pub returns-clause-replica : goal.returns-clause-replica
returns-clause-replica g c =
    let S = ReplicaState g.row.M-Command.Denot g.row.M-Command-Id.Denot g.row.M-Answer.Denot g.row.M.Denot in
    let W = Move (ReplicaState g.row.M-Command.Denot g.row.M-Command-Id.Denot g.row.M-Answer.Denot g.row.M.Denot) g.row.M-Command.Denot g.row.A.Denot in
    let old : S = seen c.state.inside in
    let at : c.in-Some.slot ≡ old.slot_in = c.in-Some.ensures.slot in
    let free : is_decided old.slot_in old.decisions ≡ false = subst (λ s. is_decided s old.decisions ≡ false) at (sym c.has.ensures ∙ c.if-has.false) in
    let first : old.requests ≡ c.in-Some-pop_front.command ∷ c.pop_front.new.self.items = c.in-Some-pop_front.ensures.items in
    let step = next_proposes g.row.A.Denot c.in-Some-pop_front.command c.pop_front.new.self.items old.requests old first (opened old (c.in-Some.ensures.open.0 refl)) free in
    rw (c.in_ok-keep_proposal.ensures, c.get-2.ensures.value, at) (sym (ap (λ (m : W). m.after) step) ∙ ap (λ (r : S). (proposes_next {A = g.row.A.Denot} r.requests r).after) c.state.view_is)

pub returns-clause-sends : goal.returns-clause-sends
returns-clause-sends g c =
    let S = ReplicaState g.row.M-Command.Denot g.row.M-Command-Id.Denot g.row.M-Answer.Denot g.row.M.Denot in
    let W = Move (ReplicaState g.row.M-Command.Denot g.row.M-Command-Id.Denot g.row.M-Answer.Denot g.row.M.Denot) g.row.M-Command.Denot g.row.A.Denot in
    let old : S = seen c.state.inside in
    let at : c.in-Some.slot ≡ old.slot_in = c.in-Some.ensures.slot in
    let free : is_decided old.slot_in old.decisions ≡ false = subst (λ s. is_decided s old.decisions ≡ false) at (sym c.has.ensures ∙ c.if-has.false) in
    let first : old.requests ≡ c.in-Some-pop_front.command ∷ c.pop_front.new.self.items = c.in-Some-pop_front.ensures.items in
    let step = next_proposes g.row.A.Denot c.in-Some-pop_front.command c.pop_front.new.self.items old.requests old first (opened old (c.in-Some.ensures.open.0 refl)) free in
    c.in_ok-send_proposal.ensures ∙ rw at (ap (λ (m : W). c.args.sends.now ++ m.sends) (sym step ∙ ap (λ (r : S). proposes_next {A = g.row.A.Denot} r.requests r) c.state.view_is))
