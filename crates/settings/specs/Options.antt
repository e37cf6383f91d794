-- The options of a service.
use Rattle.std.specs.Prelude.{◌≡◌, refl, false, ℕ, ◌-◌, ◌^◌, ◌&&◌, ◌||◌, Bool, true, nat_eq, nat_le, Option, None, Some, is_some, is_none, IsTrue}
use Rattle.maildrop.specs.Limits.{Limits, AreLimits}
use Rattle.apop.specs.Stamp.{IsHost}
use Rattle.ports.specs.Ranges.{last_port, is_between, may_be_between}
use Rattle.settings.specs.declared.options.NodeOptions.{NodeOptions}
use Rattle.settings.specs.declared.options.ServeOptions.{ServeOptions}
use Rattle.rolls.specs.declared.rolls.RollLimits.{RollLimits}

abbrev pub most_nodes : ℕ
most_nodes = 9

abbrev pub widest_window : ℕ
widest_window = 1000

abbrev pub longest_tick : ℕ
longest_tick = 1000000

abbrev pub longest_pause : ℕ
longest_pause = 1000000

abbrev pub most_delivery_bytes : ℕ
most_delivery_bytes = 2 ^ 40

abbrev pub most_in_epoch : ℕ
most_in_epoch = 2 ^ 40

-- The ports of the nodes are those from one above `pop_port` on, and from one above `peer_port` on.
abbrev pub are_ports : ServeOptions → Bool
are_ports o =
    may_be_between 1 last_port o.port
    && may_be_between 0 (last_port - o.nodes) o.pop_port
    && may_be_between 0 (last_port - o.nodes) o.peer_port
    && may_be_between 1 last_port o.ctl_port

-- clients have a port or ports of the nodes, or both, and the operator has either a port or a socket
abbrev pub have_ways_in : ServeOptions → Bool
have_ways_in o =
    (is_some o.port || is_some o.pop_port)
    && ((is_some o.ctl_port && is_none o.ctl_socket) || (is_none o.ctl_port && is_some o.ctl_socket))

-- the bounds of epochs
abbrev pub are_of_epochs : ServeOptions → Bool
are_of_epochs o = nat_le o.epoch_sessions most_in_epoch && nat_le o.epoch_bytes most_in_epoch && nat_le o.keys most_in_epoch

abbrev pub roll_limits_of : ServeOptions → RollLimits
roll_limits_of o = record { sessions = o.epoch_sessions; bytes = o.epoch_bytes }

abbrev pub most_segments : ℕ
most_segments = 1000000

-- the numbers that are no limits of a maildrop
abbrev pub are_in_range : ServeOptions → Bool
are_in_range o =
    is_between 1 most_nodes o.nodes
    && is_between 1 widest_window o.window
    && is_between 1 longest_tick o.tick_ms
    && nat_le o.idle_seconds longest_pause
    && nat_le o.no_majority_seconds longest_pause
    && is_between 1 most_delivery_bytes o.delivery_bytes
    && are_of_epochs o
    && is_between 1 most_segments o.keep
    && are_ports o
    && have_ways_in o

abbrev pub limits_of : ServeOptions → Limits
limits_of o = record { messages = o.messages; octets = o.octets; ids = o.ids }

-- each value is in its range
abbrev pub AreGood : ServeOptions → Type 0
AreGood o = IsTrue (are_in_range o) × AreLimits (limits_of o) × IsHost o.host.now

-- whether a node runs in a process: in one that runs the node of this number, or all
abbrev pub runs : ℕ → Option ℕ → Bool
runs node None = true
runs node (Some only) = nat_eq only node

-- a node can run in a process of its own if it is in the cluster, the nodes have ports, and no mail is kept beyond the process
abbrev pub may_be_alone : NodeOptions → Bool
may_be_alone o = is_some o.service.peer_port && is_between 1 o.service.nodes o.node && is_none o.service.data

-- each value is in its range, and the node can run in a process of its own
abbrev pub AreNodeGood : NodeOptions → Type 0
AreNodeGood o = AreGood o.service × IsTrue (may_be_alone o)

no_node : is_between 1 most_nodes 0 ≡ false
no_node = refl

nine_nodes : is_between 1 most_nodes 9 ≡ true
nine_nodes = refl

-- port 65535 + 1 of node 1 is none
no_room_for_nodes : may_be_between 0 (last_port - 1) (Some 65535) ≡ false
no_room_for_nodes = refl

-- in the process of node 3 it runs, and node 4 does not
third_runs : runs 3 (Some 3) ≡ true
third_runs = refl

fourth_does_not : runs 4 (Some 3) ≡ false
fourth_does_not = refl
