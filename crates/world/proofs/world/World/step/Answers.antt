use Rattle.std.proofs.Common.{◌≡◌, ◌∙◌, ℕ, Option, None, sym, ap, subst}
use Rattle.world.specs.Connections.{service_of}
use Rattle.runs.specs.Decisions.{KeepsDecided}
use Rattle.world.specs.Kept.{IsKept}
use Rattle.runs.specs.Refusals.{refusal_of}
use Rattle.runs.specs.Services.{Occurs}
use Rattle.world.specs.Waiting.{KeepsOthersOf}
use Rattle.world.specs.Values.{WorldValue, crashed_after}
use Rattle.world.proofs.Awaiting.{are_numbered}
use Rattle.world.proofs.CatchingUp.{acted_untaken, acted_follows, event_behind}
use Rattle.runs.proofs.Decisions.{reached_nodes, cut_decided, happened_decided}
use Rattle.world.proofs.Crashes.{crashes_event, on_err_so}
use Rattle.world.proofs.Keeping.{kept_untaken, kept_new, kept_after, kept_cut, first_none}
use Rattle.world.proofs.world.World.step.Goals as goal

pub refusal_of-requires : goal.refusal_of-requires
refusal_of-requires g c =
    let w = c.self.inside in
    kept_untaken w.config w.hosts w.connections.entries w.operations.entries c.self.invariant.0

pub act-acted-requires-clause-untaken : goal.act-acted-requires-clause-untaken
act-acted-requires-clause-untaken g c =
    let w = c.self.inside in
    kept_untaken w.config w.hosts w.connections.entries w.operations.entries c.self.invariant.0

pub act-acted-requires-clause-new : goal.act-acted-requires-clause-new
act-acted-requires-clause-new g c =
    let w = c.self.inside in
    kept_new w.config w.hosts w.connections.entries w.operations.entries c.self.invariant.0

pub catch_up-requires-clause-untaken : goal.catch_up-requires-clause-untaken
catch_up-requires-clause-untaken g c =
    let w = c.self.inside in
    let possible : refusal_of (service_of w.hosts w.connections.entries) c.args.event ≡ None = first_none _ _ (sym c.refusal_of.ensures ∙ c.in_default.is) in
    acted_untaken w.config w.hosts c.act-acted.new.hosts w.connections.entries c.act-acted.new.connections.entries w.operations.entries c.self.invariant.0 c.act-acted.ensures.fit
    c.args.event possible c.act-acted.ensures.answers c.act-acted.result c.act-acted.ensures.service c.act-acted.ensures.err

pub catch_up-requires-clause-behind : goal.catch_up-requires-clause-behind
catch_up-requires-clause-behind g c =
    let w = c.self.inside in
    let possible : refusal_of (service_of w.hosts w.connections.entries) c.args.event ≡ None = first_none _ _ (sym c.refusal_of.ensures ∙ c.in_default.is) in
    event_behind w.hosts c.act-acted.new.hosts w.connections.entries c.act-acted.new.connections.entries w.connections.waiting c.act-acted.new.connections.waiting c.session-session.result
    c.self.invariant.1 c.act-acted.ensures.waiting
    (subst (λ (s : Option ℕ). KeepsOthersOf s w.connections.entries c.act-acted.new.connections.entries) (sym c.session-session.ensures) c.act-acted.ensures.sessions)
    (are_numbered w.config (service_of w.hosts w.connections.entries) (reached_nodes w.config (service_of w.hosts w.connections.entries) c.self.invariant.0.reached))
    (acted_follows w.config w.hosts c.act-acted.new.hosts w.connections.entries c.act-acted.new.connections.entries w.operations.entries c.self.invariant.0 c.act-acted.ensures.fit
    c.args.event possible c.act-acted.ensures.answers c.act-acted.result c.act-acted.ensures.service c.act-acted.ensures.err)

pub invariant_of-self : goal.invariant_of-self
invariant_of-self g c =
    let w = c.self.inside in
    let possible : refusal_of (service_of w.hosts w.connections.entries) c.args.event ≡ None = first_none _ _ (sym c.refusal_of.ensures ∙ c.in_default.is) in (
      subst (λ es. IsKept w.config c.act-acted.new.hosts es c.act-acted.new.operations.entries) (sym c.catch_up.ensures.entries)
          (subst (λ os. IsKept w.config c.act-acted.new.hosts c.act-acted.new.connections.entries os) (sym c.in_err-acted.ensures.unchanged)
          (kept_cut w.config w.hosts c.act-acted.new.hosts w.connections.entries c.act-acted.new.connections.entries w.operations.entries c.self.invariant.0 c.act-acted.ensures.fit
          c.args.event possible c.in_err-acted.ensures.err c.act-acted.ensures.answers)),
      c.catch_up.ensures.current,
    )

pub invariant_of-self-2 : goal.invariant_of-self-2
invariant_of-self-2 g c =
    let w = c.self.inside in
    let possible : refusal_of (service_of w.hosts w.connections.entries) c.args.event ≡ None = first_none _ _ (sym c.refusal_of.ensures ∙ c.in_default.is) in (
      subst (λ es. IsKept w.config c.act-acted.new.hosts es c.act-acted.new.operations.entries) (sym c.catch_up.ensures.entries)
          (subst (λ os. IsKept w.config c.act-acted.new.hosts c.act-acted.new.connections.entries os) (sym (c.in_ok-acted.ensures.operations possible))
          (kept_after w.config w.hosts c.act-acted.new.hosts w.connections.entries c.act-acted.new.connections.entries w.operations.entries c.self.invariant.0 c.act-acted.ensures.fit
          c.args.event possible c.in_ok-acted.ensures.service c.act-acted.ensures.answers)),
      c.catch_up.ensures.current,
    )

pub returns-in_err-acted-clause-decided : goal.returns-in_err-acted-clause-decided
returns-in_err-acted-clause-decided g c =
    let w = c.self.inside in
    let before = service_of w.hosts w.connections.entries in
    let after = service_of c.act-acted.new.hosts c.act-acted.new.connections.entries in
    subst (λ (x : WorldValue g.row.A.Denot). KeepsDecided x.world.config x.world.service (service_of c.act-acted.new.hosts c.catch_up.new.self.entries)) c.self.view_is
    (subst (λ es. KeepsDecided w.config before (service_of c.act-acted.new.hosts es)) (sym c.catch_up.ensures.entries)
    (cut_decided w.config before (reached_nodes w.config before c.self.invariant.0.reached) after c.args.event c.in_err-acted.ensures.err))

pub returns-clause-decided : goal.returns-clause-decided
returns-clause-decided g c =
    let w = c.self.inside in
    let before = service_of w.hosts w.connections.entries in
    let after = service_of c.act-acted.new.hosts c.act-acted.new.connections.entries in
    subst (λ (x : WorldValue g.row.A.Denot). KeepsDecided x.world.config x.world.service (service_of c.act-acted.new.hosts c.catch_up.new.self.entries)) c.self.view_is
    (subst (λ es. KeepsDecided w.config before (service_of c.act-acted.new.hosts es)) (sym c.catch_up.ensures.entries)
    (happened_decided w.config before (reached_nodes w.config before c.self.invariant.0.reached) after (Occurs c.args.event) c.in_ok-acted.ensures.service))

pub returns-clause-crashed : goal.returns-clause-crashed
returns-clause-crashed g c =
    let w = c.self.inside in
    let possible : refusal_of (service_of w.hosts w.connections.entries) c.args.event ≡ None = first_none _ _ (sym c.refusal_of.ensures ∙ c.in_default.is) in
    c.in_ok-acted.ensures.crashed ∙ crashes_event w.hosts w.connections.entries c.args.event possible ∙ ap (λ (v : WorldValue g.row.A.Denot). crashed_after c.args.event v.crashed) c.self.view_is

pub returns-in_err-acted-clause-uncrashed : goal.returns-in_err-acted-clause-uncrashed
returns-in_err-acted-clause-uncrashed g c = on_err_so c.from_residual.result (c.in_err-acted.ensures.uncrashed ∙ ap (λ (v : WorldValue g.row.A.Denot). v.crashed) c.self.view_is)
