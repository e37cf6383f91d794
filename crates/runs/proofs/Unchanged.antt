-- What is refused changes nothing.
use Rattle.std.proofs.Common.{◌≡◌, ℕ, Bool, true, false, cond, ◌++◌, Option, Some, None, refl, ap, set}
use Rattle.std.specs.Prelude.{◌-◌, slice_get}
use Rattle.maildrop.specs.declared.op.Op.TheVariants as op
use Rattle.maildrop.specs.declared.outcome.Outcome.{Outcome}
use Rattle.pop3_wire.specs.declared.line.Line.{Line}
use Rattle.node.specs.Nodes.{answered, logged}
use Rattle.node.specs.Replay.{sends_of}
use Rattle.node.specs.declared.input.Input.{Input}
use Rattle.node.specs.declared.input.Input.TheVariants as input
use Rattle.node.specs.declared.log.NodeLog.{NodeLog}
use Rattle.runs.specs.Clients.{Standing, Hears, Waits, Failed, Disconnected, Over, Client, new_client, client_of}
use Rattle.runs.specs.Messages.{Network, log_of, is_up, newly_sent, taken_by, given_input, with_arrival, message_arrives}
use Rattle.runs.specs.Refusals.{unless_down, node_refusal, connect_refusal, line_refusal, hangup_refusal, collect_refusal, busy_without, client_refusal, arrival_refusal, refusal_of}
use Rattle.runs.specs.Services.{Service, if_up, if_served, connects, hears_line, hangs_up, collects, takes_answer, crashes, occurs}
use Rattle.runs.specs.declared.config.Config.{Config}
use Rattle.runs.specs.declared.event.Event.{Event}
use Rattle.runs.specs.declared.event.Event.TheVariants as event
use Rattle.runs.specs.declared.refused.Refused.{Refused}
use Rattle.runs.specs.declared.refused.Refused.TheVariants.{Down}
use Rattle.runs.specs.declared.sent.Sent.{Sent}

module _ {A : Type 0} (cfg : Config A) (w : Service A) (r : Refused) where
  -- a node that isn't there, or is down
  down_takes : (n : ℕ) (i : Input A) → node_refusal w n ≡ Some r → given_input w.network n i ≡ w.network
  down_takes n i e =
      go (log_of n w.network.logs) e
    where
      go : (o : Option (NodeLog A)) → unless_down o None ≡ Some r → taken_by w.network n i o ≡ w.network
      go None q = refl
      go (Some log) q =
          one (is_up (Some log)) q
        where
          one : (t : Bool) → cond t None (Some Down) ≡ Some r → cond t (record { logs = set w.network.logs (n - 1) (logged log i); sent = w.network.sent ++ newly_sent (sends_of log i) }) w.network ≡ w.network
          one true f = absurd (cc)
          one false f = refl

  at_nodes_same : (later : Network A) → later ≡ w.network → record w { network = later } ≡ w
  at_nodes_same later e = ap (λ n. record w { network = n }) e

  down_up : (o : Option (NodeLog A)) (act : NodeLog A → Service A) → unless_down o None ≡ Some r → if_up w o act ≡ w
  down_up None act e = refl
  down_up (Some log) act e =
      go (is_up (Some log)) e
    where
      go : (t : Bool) → cond t None (Some Down) ≡ Some r → cond t (act log) w ≡ w
      go true q = absurd (cc)
      go false q = refl

  idle : (o : Option (NodeLog A)) → if_up w o (λ log. w) ≡ w
  idle None = refl
  idle (Some log) =
      go (is_up (Some log))
    where
      go : (t : Bool) → cond t w w ≡ w
      go true = refl
      go false = refl

  line_same : (session : ℕ) (line : Line) (c : Client A) (standing : Standing A) → line_refusal (log_of c.node w.network.logs) standing ≡ Some r →
      if_up w (log_of c.node w.network.logs) (λ log. hears_line cfg w session line c log standing) ≡ w
  line_same session line c (Hears state) e = down_up (log_of c.node w.network.logs) (λ log. hears_line cfg w session line c log (Hears state)) e
  line_same session line c (Waits state id) e = idle (log_of c.node w.network.logs)
  line_same session line c (Failed lock) e = idle (log_of c.node w.network.logs)
  line_same session line c Disconnected e = idle (log_of c.node w.network.logs)
  line_same session line c Over e = idle (log_of c.node w.network.logs)

  hangup_same : (session : ℕ) (c : Client A) (standing : Standing A) → hangup_refusal (log_of c.node w.network.logs) standing ≡ Some r →
      if_up w (log_of c.node w.network.logs) (λ log. hangs_up w session c log standing) ≡ w
  hangup_same session c (Hears state) e = down_up (log_of c.node w.network.logs) (λ log. hangs_up w session c log (Hears state)) e
  hangup_same session c (Waits state id) e = idle (log_of c.node w.network.logs)
  hangup_same session c (Failed lock) e = down_up (log_of c.node w.network.logs) (λ log. hangs_up w session c log (Failed lock)) e
  hangup_same session c Disconnected e = idle (log_of c.node w.network.logs)
  hangup_same session c Over e = idle (log_of c.node w.network.logs)

  collect_same : (session : ℕ) (c : Client A) (standing : Standing A) → collect_refusal (log_of c.node w.network.logs) standing ≡ Some r →
      if_up w (log_of c.node w.network.logs) (λ log. collects w session c log standing) ≡ w
  collect_same session c (Waits state id) e =
      go (log_of c.node w.network.logs) e
    where
      one : (log : NodeLog A) (t : Bool) (o : Option (Outcome A)) → cond t (busy_without o) (Some Down) ≡ Some r → cond t (takes_answer w session c state id.ticket o) w ≡ w
      one log true None q = refl
      one log true (Some outcome) q = absurd (cc)
      one log false o q = refl

      go : (o : Option (NodeLog A)) → collect_refusal o (Waits state id) ≡ Some r → if_up w o (λ log. collects w session c log (Waits state id)) ≡ w
      go None q = refl
      go (Some log) q = one log (is_up (Some log)) (answered log id) q
  collect_same session c (Hears state) e = idle (log_of c.node w.network.logs)
  collect_same session c (Failed lock) e = idle (log_of c.node w.network.logs)
  collect_same session c Disconnected e = idle (log_of c.node w.network.logs)
  collect_same session c Over e = idle (log_of c.node w.network.logs)

  client_same : (o : Option (Client A)) (refusal : Option (NodeLog A) → Standing A → Option Refused) (act : Client A → NodeLog A → Service A) →
      ((c : Client A) → refusal (log_of c.node w.network.logs) c.standing ≡ Some r → if_up w (log_of c.node w.network.logs) (act c) ≡ w) →
      client_refusal w o refusal ≡ Some r → if_served w o act ≡ w
  client_same None refusal act same e = refl
  client_same (Some c) refusal act same e = same c e

  connect_same : (session node : ℕ) (c : Client A) (known : Option (Client A)) → connect_refusal w node known ≡ Some r → if_up w (log_of node w.network.logs) (λ log. connects w session c known) ≡ w
  connect_same session node c None e = down_up (log_of node w.network.logs) (λ log. connects w session c None) e
  connect_same session node c (Some known) e = idle (log_of node w.network.logs)

  arrive_same : (which : ℕ) (o : Option (Sent A)) → arrival_refusal w o ≡ Some r → message_arrives w.network which o ≡ w.network
  arrive_same which None e = refl
  arrive_same which (Some s) e =
      go (is_up (log_of s.envelope.to w.network.logs)) e
    where
      go : (t : Bool) → cond t None (Some Down) ≡ Some r → cond t (given_input (record { logs = w.network.logs; sent = with_arrival which w.network.sent }) s.envelope.to (input.Arrive s.envelope)) w.network ≡ w.network
      go true q = absurd (cc)
      go false q = refl

  pub refused_same : (e : Event A) → refusal_of w e ≡ Some r → occurs cfg w e ≡ w
  refused_same (event.Connect session node stamp) e = connect_same session node (new_client node stamp) (client_of session w.clients) e
  refused_same (event.Line session line) e = client_same (client_of session w.clients) line_refusal (λ c log. hears_line cfg w session line c log c.standing) (λ c q. line_same session line c c.standing q) e
  refused_same (event.Hangup session) e = client_same (client_of session w.clients) hangup_refusal (λ c log. hangs_up w session c log c.standing) (λ c q. hangup_same session c c.standing q) e
  refused_same (event.Collect session) e = client_same (client_of session w.clients) collect_refusal (λ c log. collects w session c log c.standing) (λ c q. collect_same session c c.standing q) e
  refused_same (event.Mail node user text key) e = at_nodes_same _ (down_takes node (input.Submit user (op.Mail text key)) e)
  refused_same (event.Break node user) e = at_nodes_same _ (down_takes node (input.Submit user op.Break) e)
  refused_same (event.Arrive which) e = at_nodes_same _ (arrive_same which (slice_get w.network.sent which) e)
  refused_same (event.Tick node) e = at_nodes_same _ (down_takes node input.Tick e)
  refused_same (event.Campaign node) e = at_nodes_same _ (down_takes node input.Campaign e)
  refused_same (event.Crash node) e = down_up (log_of node w.network.logs) (crashes w node) e
