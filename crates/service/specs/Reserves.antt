-- What an epoch needs of the system.
use Rattle.std.specs.Prelude.{◌≡◌, refl, ℕ, ◌+◌, ◌*◌, min}
use Rattle.service.specs.declared.reserve.Needs.{Needs}
use Rattle.rolls.specs.Rolls.{highest}

-- 256 bytes a message, a kilobyte a user, and 4 MiB; a descriptor each port and five; a thread each node and port, and six
abbrev pub needs_of : (users messages nodes ports : ℕ) → Needs
needs_of users messages nodes ports = record {
  memory = min (min (min (messages * 256) highest + min (users * 1024) highest) highest + 4194304) highest;
  descriptors = min (ports + 5) highest;
  threads = min (min (nodes + ports) highest + 6) highest;
}

-- three nodes with a port each, over 10 users with 1,000 messages
three : needs_of 10 1000 3 3 ≡ record { memory = 4460544; descriptors = 8; threads = 12 }
three = refl
