use Rattle.std.proofs.Common.{◌≡◌, ◌∙◌, suc, ap, sym, subst, true, Some}
use Rattle.std.proofs.lemmas.Result.{err_from_is_err_and}
use Rattle.node.specs.declared.input.Input.TheVariants.{Crash}
use Rattle.audit.specs.Nodes.{Replayed, RunsUnlessStopped, state_shown, is_plain}
use Rattle.audit.specs.Replays.{runs, sends, after}
use Rattle.audit.proofs.Replaying.{crashed_now, up_and_plain, plain_unless, taken, sent_of}
use Rattle.audit.proofs.replay.Replay.take.Goals as goal

pub returns-in-Crash-clause-value : goal.returns-in-Crash-clause-value
returns-in-Crash-clause-value g c =
    let node = c.self.inside.node in
    let crashed = c.self.inside.crashed in
    let up : runs (state_shown node crashed) ≡ true = ap (λ (r : Replayed g.row.A.Denot). runs r.state) c.self.view_is ∙ c.requires in
    let state : state_shown node true ≡ after c.args.self.now.state c.args.input.now =
    (crashed_now node crashed c.self.invariant up).0
    ∙ ap (λ (r : Replayed g.row.A.Denot). after r.state Crash) c.self.view_is
    ∙ ap (λ x. after c.args.self.now.state x) (sym c.in-Crash.is) in
    let placed = c.in_ok-placed.ensures ∙ ap (λ (r : Replayed g.row.A.Denot). suc r.placed) c.self.view_is in
    λ i. record { state = state i; placed = placed i }

pub returns-in-Crash-clause-sends : goal.returns-in-Crash-clause-sends
returns-in-Crash-clause-sends g c =
    let node = c.self.inside.node in
    let crashed = c.self.inside.crashed in
    let up : runs (state_shown node crashed) ≡ true = ap (λ (r : Replayed g.row.A.Denot). runs r.state) c.self.view_is ∙ c.requires in
    c.new.ensures
    ∙ sym ((crashed_now node crashed c.self.invariant up).1)
    ∙ ap (λ (r : Replayed g.row.A.Denot). sends r.state Crash) c.self.view_is
    ∙ ap (λ x. sends c.args.self.now.state x) (sym c.in-Crash.is)

pub step-requires : goal.step-requires
step-requires g c =
    let node = c.in-Some.node in
    let crashed = c.self.inside.crashed in
    let run = subst RunsUnlessStopped c.in-Some.is c.self.invariant in
    let up : runs (state_shown (Some node) crashed) ≡ true = ap (λ n. runs (state_shown n crashed)) (sym c.in-Some.is) ∙ ap (λ (r : Replayed g.row.A.Denot). runs r.state) c.self.view_is ∙ c.requires in
    record {
      runs = (up_and_plain node crashed run up).0;
      plain = ap is_plain c.in_ok-copy.ensures ∙ plain_unless c.args.input.now c.in_default.not-Crash;
    }

pub returns-in_err-sends : goal.returns-in_err-sends
returns-in_err-sends g c =
    let p = err_from_is_err_and c.from_residual-in_err-sends.result c.from_residual-in_err-sends.ensures.1 in
    rw p.1 (record { value = tt; sends = tt })

pub returns : goal.returns
returns g c =
    let old = c.in-Some.node in
    let crashed = c.self.inside.crashed in
    let input = c.in_ok-copy.copy in
    let run = subst RunsUnlessStopped c.in-Some.is c.self.invariant in
    let was : state_shown (Some old) crashed ≡ c.args.self.now.state = ap (λ n. state_shown n crashed) (sym c.in-Some.is) ∙ ap (λ (r : Replayed g.row.A.Denot). r.state) c.self.view_is in
    let both = up_and_plain old crashed run (ap runs was ∙ c.requires) in
    let state = taken old c.step.new.node crashed input both.0 c.in_ok-sends.ensures.runs both.1 c.in_ok-sends.ensures.log ∙ ap (λ s. after s input) was ∙ ap (λ x. after c.args.self.now.state x) c.in_ok-copy.ensures in
    let placed = c.in_ok-placed.ensures ∙ ap (λ (r : Replayed g.row.A.Denot). suc r.placed) c.self.view_is in
    record {
      value = λ i. record { state = state i; placed = placed i };
      sends = c.in_ok-sends.ensures.sends ∙ sym (sent_of old crashed input both.0 both.1) ∙ ap (λ s. sends s input) was ∙ ap (λ x. sends c.args.self.now.state x) c.in_ok-copy.ensures;
    }
