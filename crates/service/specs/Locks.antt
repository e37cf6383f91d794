-- Which locks are broken, since the nodes of their sessions are down.
use Rattle.std.specs.Prelude.{ℕ, Bool, true, ◌&&◌, not, List, Option, None, Some}
use Rattle.std.specs.List.{filter}
use Rattle.ballot.specs.Nodes.{is_among}
use Rattle.maildrop.specs.Ticket.{Ticket}
use Rattle.service.specs.declared.lock_breaker.Attempt.{Attempt}

-- the node of a ticket is down, by the numbers of all nodes that are up
abbrev pub is_of_down : List ℕ → Ticket → Bool
is_of_down up ticket = not (is_among ticket.node up)

-- the locks that sessions of nodes hold which are down, in their order
abbrev pub locks_of_down : List ℕ → List (List ℕ × Ticket) → List (List ℕ × Ticket)
locks_of_down up locks = filter (λ lock. is_of_down up lock.1) locks

-- a Break may be submitted for a lock: none was, or the last one's outcome isn't known, and the node that was asked is down
abbrev pub may_try : List ℕ → Option Attempt → Bool
may_try up None = true
may_try up (Some attempt) = not attempt.is_done && is_of_down up attempt.ticket

-- the outcome of a Break is still to come
abbrev pub is_awaited : List ℕ → Attempt → Bool
is_awaited up attempt = not attempt.is_done && is_among attempt.ticket.node up
