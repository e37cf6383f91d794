-- What the commands of a script make of a service, and what is written of it.
use Rattle.std.specs.Prelude.{ℕ, zero, suc, ◌==◌, List, [], drop, length, position, replicate, Bool, false, Option, Some, None, if◌then◌else◌}
use Rattle.std.specs.Option.{option_map_or}
use Rattle.std.specs.Map.{lookup}
use Rattle.indexmap.specs.IndexMap.{insert_entry}
use Rattle.maildrop.specs.declared.command.Command as maildrop
use Rattle.script.specs.Output.{refusal_line, reply_lines}
use Rattle.script.specs.Scripts.{Settings}
use Rattle.script.specs.declared.command.Command.{Command}
use Rattle.script.specs.declared.command.Command.TheVariants as command
use Rattle.script.specs.declared.refusal.Refusal.TheVariants.{NotSent, Down}
use Rattle.simulator.specs.Events.{event_of}
use Rattle.simulator.specs.Outcomes.{all_outcomes}
use Rattle.simulator.specs.Refusals.{refused_line}
use Rattle.simulator.specs.Reports.{order_lines}
use Rattle.simulator.specs.Told.{Told, followed, silent}
use Rattle.simulator.specs.Undelivered.{is_next}
use Rattle.simulator.specs.declared.undelivered.Route.{Route}
use Rattle.runs.specs.Clients.{Client, client_of}
use Rattle.runs.specs.Events.{session_of}
use Rattle.runs.specs.Refusals.{step_refusal}
use Rattle.runs.specs.Worlds.{World, new_world, stepped, performed_by, next_answer, next_oldest, next_newest}
use Rattle.runs.specs.declared.config.Config.{Config}
use Rattle.runs.specs.declared.event.Event.{Event}
use Rattle.runs.specs.declared.event.Event.TheVariants as event
use Rattle.runs.specs.declared.refused.Refused.{Refused}
use Rattle.world.specs.Values.{crashed_after, is_known_at}

-- of each session that was told something, how many bytes of its replies are written
abbrev pub Shown : Type 0
Shown = List (ℕ × ℕ)

abbrev pub shown_of : ℕ → Shown → ℕ
shown_of session shown = option_map_or (λ count. count) (lookup (λ s. session == s) shown) 0

abbrev pub with_shown : ℕ → ℕ → Shown → Shown
with_shown session count shown = insert_entry (λ s t. s == t) shown session count

pub record Play (A : Type 0) : Type 0 where
  pub world : World A
  -- of each node, whether an event has crashed it
  pub crashed : List Bool
  pub shown : Shown
  -- `settle` and `storm` look at messages from this place on
  pub first : ℕ

module _ {A : Type 0} where
  abbrev pub replies_told : ℕ → Play A → Option (Client A) → Told (Play A)
  replies_told session p None = silent p
  replies_told session p (Some c) = record {
    state = record p { shown = with_shown session (length c.replies) p.shown };
    text = reply_lines session (drop (shown_of session p.shown) c.replies);
  }

  -- what an event brought: the session that it is about is told what it wasn't told yet
  abbrev pub told_of : Option ℕ → Play A → Told (Play A)
  told_of (Some session) p = replies_told session p (client_of session p.world.service.clients)
  told_of None p = silent p

  abbrev pub given_by : Option Refused → Play A → Event A → Told (Play A)
  given_by (Some reason) p event = record { state = p; text = refused_line reason }
  given_by None p event = told_of (session_of event) (record p { world = stepped p.world event; crashed = crashed_after event p.crashed })

  -- the service is given an event: it is refused, or it happens
  abbrev pub given : Play A → Event A → Told (Play A)
  given p event = given_by (step_refusal p.world.config p.world.service event) p event

  -- the outcomes are told that are there
  abbrev pub with_outcomes : Play A → Told (World A) → Told (Play A)
  with_outcomes p t = record { state = record p { world = t.state }; text = t.text }

  abbrev pub outcomes : Play A → Told (Play A)
  outcomes p = with_outcomes p (all_outcomes p.world)

  abbrev pub collected_by : (Play A → Told (Play A)) → Play A → Option (Event A) → Told (Play A)
  collected_by rest p None = silent p
  collected_by rest p (Some event) = followed (given p event) rest

  -- the first session whose answer is there takes it, and the next one, at most this often
  abbrev pub collected : ℕ → Play A → Told (Play A)
  collected zero p = silent p
  collected (suc n) p = collected_by (collected n) p (next_answer p.world.service)

  -- each session takes the answer that it awaits, if that is there
  abbrev pub all_collected : Play A → Told (Play A)
  all_collected p = collected (length p.shown) p

  abbrev pub delivered_by : Play A → Option ℕ → Told (Play A)
  delivered_by p None = record { state = p; text = refusal_line NotSent }
  delivered_by p (Some which) = given p (event.Arrive which)

  -- the first message of the route that never arrived arrives
  abbrev pub delivered : Play A → Route → Told (Play A)
  delivered p route = delivered_by p (position (is_next route) p.world.service.network.sent)

  abbrev pub happened_by : Play A → Option (Event A) → Told (Play A)
  happened_by p None = silent p
  happened_by p (Some event) = given p event

  -- the event that a command names happens
  abbrev pub happened : List ℕ → Command → Play A → Told (Play A)
  happened host command p = happened_by p (event_of host command)

  abbrev pub settled_by : (Play A → Told (Play A)) → Told (Play A) → Option (Event A) → Told (Play A)
  settled_by rest t None = t
  settled_by rest t (Some event) = followed t (λ p. followed (given p event) rest)

  -- outcomes are told, what comes next happens, outcomes are told, and so on: until nothing comes next, or so many events
  -- have happened
  abbrev pub settled : (Play A → Option (Event A)) → ℕ → Play A → Told (Play A)
  settled next zero p = outcomes p
  settled next (suc n) p = settled_by (settled next n) (outcomes p) (next (outcomes p).state)

  -- what the node has performed, if there is such a node. (None too if it ran out of memory, but then no script goes
  -- on)
  abbrev pub performed_at : ℕ → Play A → Option (List (ℕ × maildrop.Command A))
  performed_at node p = if is_known_at (record { world = p.world; crashed = p.crashed }) node then performed_by p.world.service node else None

  abbrev pub order_by : ℕ → Play A → Option (List (ℕ × maildrop.Command A)) → Told (Play A)
  order_by node p None = record { state = p; text = refusal_line Down }
  order_by node p (Some performed) = record { state = p; text = order_lines node performed }

  -- what a node has performed is told, also of one that has crashed; if there is no such node, that it is down
  abbrev pub order : ℕ → Play A → Told (Play A)
  order node p = order_by node p (performed_at node p)

  -- `settle` and `storm` look no more at what was sent so far
  abbrev pub lost : Play A → Play A
  lost p = record p { first = length p.world.service.network.sent }

  -- what a command does by itself. The greetings of the script have this host
  abbrev pub done : List ℕ → Command → Play A → Told (Play A)
  done host command.Lose p = silent (lost p)
  done host (command.Order node) p = order node p
  done host (command.Deliver from to kind) p = delivered p (record { from = from; to = to; kind = kind })
  done host command p = happened host command p

  -- after a command outcomes are told, and then sessions take their answers
  abbrev pub done_to_the_end : List ℕ → Command → Play A → Told (Play A)
  done_to_the_end host command p = followed (done host command p) (λ q. followed (outcomes q) all_collected)

  abbrev pub oldest : Play A → Option (Event A)
  oldest p = next_oldest p.world.service p.first

  abbrev pub newest : ℕ → Play A → Option (Event A)
  newest copies p = next_newest p.world.service p.first copies

  -- `settle` and `storm` tell outcomes before each event, and sessions take their answers as events of their own
  abbrev pub performed : List ℕ → Command → Play A → Told (Play A)
  performed host (command.Settle limit) p = settled oldest limit p
  performed host (command.Storm copies limit) p = settled (newest copies) limit p
  performed host command p = done_to_the_end host command p

  -- the service that a script sets, before anything happens
  abbrev pub config_of : Settings → Config A
  config_of s = record { accounts = s.accounts; limits = s.limits; kept = []; keys = 0; cluster = s.cluster; window = s.window }

  abbrev pub new_play : Settings → Play A
  new_play s = record { world = new_world (config_of s); crashed = replicate s.cluster false; shown = []; first = 0 }
