-- What comes next, by the sessions that were looked at.
use Rattle.std.proofs.Common.{◌≡◌, ℕ, List, Bool, true, false, Option, Some, None, refl, ap, ◌∙◌, cond, length}
use Rattle.std.specs.Prelude.{slice_get, is_some}
use Rattle.std.specs.Option.{option_map, option_or}
use Rattle.maildrop.specs.CommandId.{CommandId}
use Rattle.maildrop.specs.declared.outcome.Outcome.{Outcome}
use Rattle.node.specs.Nodes.{answered}
use Rattle.node.specs.declared.log.NodeLog.{NodeLog}
use Rattle.session.specs.declared.state.State.{State}
use Rattle.runs.specs.Clients.{Standing, Hears, Waits, Failed, Disconnected, Over, Client, standing_as, disconnected}
use Rattle.world.specs.Connections.{service_of, client_in, connection_of, shown}
use Rattle.world.specs.Hosts.{Hosts, network_of}
use Rattle.runs.specs.Messages.{log_of, is_up}
use Rattle.runs.specs.Refusals.{busy_without, collect_refusal, arrival_refusal, step_refusal}
use Rattle.runs.specs.Services.{Service}
use Rattle.world.specs.Scheduling.{has_its_answer, NoneAnswered}
use Rattle.runs.specs.Worlds.{answer_at, is_answered, next_answer}
use Rattle.runs.specs.declared.config.Config.{Config}
use Rattle.world.specs.declared.connection.Connection.{Connection}
use Rattle.runs.specs.declared.event.Event.TheVariants.{Collect, Arrive}
use Rattle.runs.specs.declared.refused.Refused.TheVariants.{Down}
use Rattle.runs.specs.declared.sent.Sent.{Sent}
use Rattle.world.proofs.Refusing.{refused_found, collect_stranded}
use Rattle.world.proofs.Searching.{find_none, find_found}

module _ {A : Type 0} (hosts : Hosts A) (es : List (ℕ × Connection A)) where
  pub next_none : NoneAnswered hosts es (length es) → next_answer (service_of hosts es) ≡ None
  next_none none =
      ap (option_map (λ e. Collect e.0)) (find_none (λ (e : ℕ × Connection A). (e.0, shown (network_of hosts).logs (client_in e.1))) (λ e. is_answered (service_of hosts es) e.1 e.1.standing) es none.each)

  pub next_found : (place session : ℕ) (c : Connection A) → NoneAnswered hosts es place → slice_get es place ≡ Some (session, c) → has_its_answer hosts es c ≡ true
      → next_answer (service_of hosts es) ≡ Some (Collect session)
  next_found place session c none at is =
      ap (option_map (λ e. Collect e.0)) (find_found (λ (e : ℕ × Connection A). (e.0, shown (network_of hosts).logs (client_in e.1))) (λ e. is_answered (service_of hosts es) e.1 e.1.standing) es place (session, c) none.each at is)

module _ {A : Type 0} where
  there_for : (o : Option (Outcome A)) → is_some o ≡ true → busy_without o ≡ None
  there_for None e = absurd (cc)
  there_for (Some x) e = refl

  stranded_waits : (w : Service A) (c : Client A) (s : Standing A) → is_answered w c (disconnected s) ≡ true → ⊥
  stranded_waits w c (Hears state) e = cc
  stranded_waits w c (Waits state id) e = cc
  stranded_waits w c (Failed lock) e = cc
  stranded_waits w c Disconnected e = cc
  stranded_waits w c Over e = cc

  -- an answer that is there can be taken
  there_taken : (o : Option (NodeLog A)) (state : State A) (id : CommandId) → is_some (answer_at o id) ≡ true → collect_refusal o (Waits state id) ≡ None
  there_taken None state id e = absurd (cc)
  there_taken (Some log) state id e =
      go (is_up (Some log)) e
    where
      go : (t : Bool) → is_some (cond t (answered log id) None) ≡ true → cond t (busy_without (answered log id)) (Some Down) ≡ None
      go true e = there_for (answered log id) e
      go false e = absurd (cc)

  standing_taken : (w : Service A) (c : Client A) (s : Standing A) → is_answered w c s ≡ true → collect_refusal (log_of c.node w.network.logs) s ≡ None
  standing_taken w c (Hears state) e = absurd (cc)
  standing_taken w c (Waits state id) e = there_taken (log_of c.node w.network.logs) state id e
  standing_taken w c (Failed lock) e = absurd (cc)
  standing_taken w c Disconnected e = absurd (cc)
  standing_taken w c Over e = absurd (cc)

  shown_taken : (w : Service A) (c : Client A) → is_answered w (shown w.network.logs c) (shown w.network.logs c).standing ≡ true → collect_refusal (log_of c.node w.network.logs) c.standing ≡ None
  shown_taken w c e =
      go (is_up (log_of c.node w.network.logs)) e
    where
      go : (t : Bool) → is_answered w (cond t c (standing_as c (disconnected c.standing))) (cond t c (standing_as c (disconnected c.standing))).standing ≡ true → collect_refusal (log_of c.node w.network.logs) c.standing ≡ None
      go true e = standing_taken w c c.standing e
      go false e = absurd (stranded_waits w (standing_as c (disconnected c.standing)) c.standing e)

  pub collect_possible : (hosts : Hosts A) (es : List (ℕ × Connection A)) (cfg : Config A) (session : ℕ) (c : Connection A) → connection_of session es ≡ Some c → has_its_answer hosts es c ≡ true
      → step_refusal cfg (service_of hosts es) (Collect session) ≡ None
  collect_possible hosts es cfg session c found is =
      ap (λ o. option_or o None) (refused_found hosts es session collect_refusal collect_stranded c found ∙ shown_taken (service_of hosts es) (client_in c) is)

  pub arrive_possible : (cfg : Config A) (w : Service A) (which : ℕ) (s : Sent A) → slice_get w.network.sent which ≡ Some s → is_up (log_of s.envelope.to w.network.logs) ≡ true
      → step_refusal cfg w (Arrive which) ≡ None
  arrive_possible cfg w which s at up = ap (λ o. option_or (arrival_refusal w o) None) at ∙ rw (up) refl
