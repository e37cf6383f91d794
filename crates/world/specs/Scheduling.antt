-- An index of messages by how often they have arrived.
use Rattle.std.specs.Prelude.{◌≡◌, ℕ, ◌+◌, ◌<◌, ◌≤◌, ◌&&◌, nat_lt, bit_and, Bool, List, Option, Some, None, true, false, slice_get}
use Rattle.std.specs.Int.{w64, bit_not}
use Rattle.node.specs.declared.log.NodeLog.{NodeLog}
use Rattle.world.specs.Connections.{service_of, client_in, shown}
use Rattle.world.specs.Hosts.{Hosts}
use Rattle.runs.specs.Messages.{Network, log_of, is_up}
use Rattle.runs.specs.Worlds.{is_answered}
use Rattle.world.specs.declared.connection.Connection.{Connection}
use Rattle.runs.specs.declared.sent.Sent.{Sent}

-- how far the block of a place goes, on either side of it: the ones at the end of its number in binary
unfoldable pub reach : ℕ → ℕ
reach place = bit_and place (bit_not w64 (place + 1))

module _ {A : Type 0} where
  -- the message has arrived so often at least, if it can arrive at all. Where none was sent yet, no more is said than of one that is new
  abbrev pub HasArrived : List (NodeLog A) → ℕ → Option (Sent A) → Type 0
  HasArrived logs fewest None = fewest ≡ 0
  HasArrived logs fewest (Some s) = is_up (log_of s.envelope.to logs) ≡ true → fewest ≤ s.arrived

  -- each message from one place up to another
  pub record HaveArrived (w : Network A) (fewest from to : ℕ) : Type 0 where
    pub each : (k : ℕ) → from ≤ k → k < to → HasArrived w.logs fewest (slice_get w.sent k)

  -- each message of the block of a place
  pub record IsFewest (w : Network A) (place fewest : ℕ) : Type 0 where
    pub each : (k : ℕ) → place ≤ k + reach place → k ≤ place + reach place → HasArrived w.logs fewest (slice_get w.sent k)

  -- the index has a number for the block of each of its places
  abbrev pub AreFewest : Network A → List ℕ → Type 0
  AreFewest w index = (place fewest : ℕ) → slice_get index place ≡ Some fewest → IsFewest w place fewest

  -- whether the message has arrived fewer times than this, and its addressee is up
  abbrev pub can_arrive : Network A → ℕ → Sent A → Bool
  can_arrive w copies s = nat_lt s.arrived copies && is_up (log_of s.envelope.to w.logs)

  -- no message from one place up to another can
  pub record IsQuiet (w : Network A) (copies from to : ℕ) : Type 0 where
    pub each : (k : ℕ) (s : Sent A) → from ≤ k → k < to → slice_get w.sent k ≡ Some s → can_arrive w copies s ≡ false

  -- whether the answer is there that a session awaits, at a node that is up
  abbrev pub has_its_answer : Hosts A → List (ℕ × Connection A) → Connection A → Bool
  has_its_answer hosts connections c = let w = service_of hosts connections in let client = shown w.network.logs (client_in c) in is_answered w client client.standing

  -- no session among the first of those that connected has its answer there
  pub record NoneAnswered (hosts : Hosts A) (connections : List (ℕ × Connection A)) (count : ℕ) : Type 0 where
    pub each : (k : ℕ) (e : ℕ × Connection A) → k < count → slice_get connections k ≡ Some e → has_its_answer hosts connections e.1 ≡ false
