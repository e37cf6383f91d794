-- What contracts see of a world, and of which nodes it still knows what they did.
use Rattle.std.specs.Prelude.{ℕ, zero, suc, ◌-◌, ◌||◌, Bool, true, false, List, set, Option, None, slice_get, if◌then◌else◌}
use Rattle.std.specs.Option.{option_map_or}
use Rattle.maildrop.specs.Ticket.{Ticket}
use Rattle.node.specs.declared.log.NodeLog.{NodeLog}
use Rattle.runs.specs.Messages.{log_of, is_up}
use Rattle.runs.specs.Worlds.{World, last_ticket}
use Rattle.runs.specs.declared.event.Event.{Event}
use Rattle.runs.specs.declared.event.Event.TheVariants as event

-- a world as its runs have it, and of each node, in the order of their numbers, whether an event has crashed it
pub record WorldValue (A : Type 0) : Type 0 where
  pub world : World A
  pub crashed : List Bool

-- whether an event has crashed the node, if there is such a node
abbrev pub crash_of : ℕ → List Bool → Option Bool
crash_of zero crashed = None
crash_of (suc n) crashed = slice_get crashed n

module _ {A : Type 0} where
  -- a Crash crashes its node
  abbrev pub crashed_after : Event A → List Bool → List Bool
  crashed_after (event.Crash node) crashed = set crashed (node - 1) true
  crashed_after event crashed = crashed

  -- What a node did is known while it is up, and after an event has crashed it. One that is down though no event has crashed
  -- it ran out of memory or tickets, and is no more known.
  abbrev pub is_known : Option (NodeLog A) → Option Bool → Bool
  is_known log crashed = is_up log || option_map_or (λ c. c) crashed false

  -- whether there is such a node, which hasn't run out of memory or tickets
  abbrev pub is_known_at : WorldValue A → ℕ → Bool
  is_known_at w node = is_known (log_of node w.world.service.network.logs) (crash_of node w.crashed)

  -- the ticket that the node gave last to the user, as far as that is known
  abbrev pub known_ticket : WorldValue A → ℕ → List ℕ → Option Ticket
  known_ticket w node user = if is_known_at w node then last_ticket w.world.service node user else None
