-- Messages that never arrived.
use Rattle.std.specs.Prelude.{◌≡◌, ℕ, ◌<◌, ◌≤◌, ◌==◌, ◌&&◌, Bool, false, List, length, Some, slice_get}
use Rattle.script.specs.Kinds.{kind_of}
use Rattle.script.specs.declared.message_kind.MessageKind.{MessageKind}
use Rattle.script.specs.declared.message_kind.MessageKind.TheVariants.{Propose, P1a, P1b, P2a, P2b, Decision, Ask}
use Rattle.simulator.specs.declared.deliveries.Mark.{Mark}
use Rattle.simulator.specs.declared.undelivered.Route.{Route}
use Rattle.runs.specs.declared.sent.Sent.{Sent}

-- the place of a kind in the order of kinds
abbrev pub rank : MessageKind → ℕ
rank Propose = 0
rank P1a = 1
rank P1b = 2
rank P2a = 3
rank P2b = 4
rank Decision = 5
rank Ask = 6

-- they are one kind: each has a place of its own
abbrev pub same_kind : MessageKind → MessageKind → Bool
same_kind kind other = rank kind == rank other

-- the routes have the same messages
abbrev pub same_route : Route → Route → Bool
same_route a b = (a.from == b.from) && (a.to == b.to) && same_kind a.kind b.kind

-- the mark is the route's
abbrev pub is_of : Route → Mark → Bool
is_of route mark = same_route mark.route route

module _ {A : Type 0} where
  -- the message goes that way, and never arrived
  abbrev pub is_next : Route → Sent A → Bool
  is_next route sent = (sent.arrived == 0) && (sent.envelope.from == route.from) && (sent.envelope.to == route.to) && same_kind (kind_of sent.envelope.message) route.kind

  -- each message of the route that stands before the place has arrived
  pub record HaveArrived (route : Route) (place : ℕ) (sent : List (Sent A)) : Type 0 where
    pub within : place ≤ length sent
    pub each : (k : ℕ) (s : Sent A) → k < place → slice_get sent k ≡ Some s → is_next route s ≡ false

  -- before the place of each mark all messages of its route have arrived
  pub record AreMarks (sent : List (Sent A)) (marks : List Mark) : Type 0 where
    pub each : (k : ℕ) (mark : Mark) → slice_get marks k ≡ Some mark → HaveArrived mark.route mark.place sent
