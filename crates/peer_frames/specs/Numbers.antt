-- The numbers of versions, kinds and errors, and the ranges of fields.
use Rattle.std.specs.Prelude.{ℕ, ◌^◌, Bool, true, false, ◌&&◌, nat_le, Option, Some, None, ◌==◌, if◌then◌else◌}
use Rattle.ballot.specs.declared.node_id.TheConstants.{LAST_NODE}
use Rattle.ballot.specs.declared.slot.TheConstants.{LAST_SLOT}
use Rattle.maildrop.specs.Name.{longest_name}
use Rattle.maildrop.specs.Key.{longest_key}
use Rattle.peer_frames.specs.declared.version.Version.{Version}
use Rattle.peer_frames.specs.declared.version.Version.TheVariants.{First, Second}
use Rattle.peer_frames.specs.declared.kind.Kind.{Kind}
use Rattle.peer_frames.specs.declared.kind.Kind.TheVariants as kind
use Rattle.peer_frames.specs.declared.fault.FrameFault.{FrameFault}
use Rattle.peer_frames.specs.declared.fault.FrameFault.TheVariants as fault
use Rattle.peer_frames.specs.declared.encode_error.EncodeError.{EncodeError}
use Rattle.peer_frames.specs.declared.encode_error.EncodeError.TheVariants as error

abbrev pub version_number : Version → ℕ
version_number First = 1
version_number Second = 2

abbrev pub version_of : ℕ → Option Version
version_of n = if n == 1 then Some First else if n == 2 then Some Second else None

abbrev pub kind_number : Kind → ℕ
kind_number kind.Propose = 1
kind_number kind.P1a = 2
kind_number kind.P1b = 3
kind_number kind.P2a = 4
kind_number kind.P2b = 5
kind_number kind.Decision = 6
kind_number kind.Ask = 7

abbrev pub kind_of : ℕ → Option Kind
kind_of n =
    if n == 1 then Some kind.Propose
    else if n == 2 then Some kind.P1a
    else if n == 3 then Some kind.P1b
    else if n == 4 then Some kind.P2a
    else if n == 5 then Some kind.P2b
    else if n == 6 then Some kind.Decision
    else if n == 7 then Some kind.Ask
    else None

-- whether messages of a kind may have commands: only such messages take memory
abbrev pub has_commands : Kind → Bool
has_commands kind.Propose = true
has_commands kind.P1a = false
has_commands kind.P1b = true
has_commands kind.P2a = true
has_commands kind.P2b = false
has_commands kind.Decision = true
has_commands kind.Ask = false

-- the lengths that the content of a frame can have
abbrev pub shortest : ℕ
shortest = 4

abbrev pub longest : ℕ
longest = 2 ^ 30

abbrev pub is_length : ℕ → Bool
is_length n = nat_le shortest n && nat_le n longest

-- the ranges of fields
abbrev pub is_node : ℕ → Bool
is_node n = nat_le 1 n && nat_le n LAST_NODE

abbrev pub is_slot : ℕ → Bool
is_slot n = nat_le 1 n && nat_le n LAST_SLOT

abbrev pub is_seq : ℕ → Bool
is_seq n = nat_le 1 n

abbrev pub is_name_length : ℕ → Bool
is_name_length n = nat_le 1 n && nat_le n longest_name

abbrev pub is_key_length : ℕ → Bool
is_key_length n = nat_le n longest_key

-- the fixed numbers of the errors
abbrev pub fault_number : FrameFault → ℕ
fault_number fault.Version = 1
fault_number fault.Kind = 2
fault_number fault.Field = 3
fault_number fault.Length = 4
fault_number fault.Memory = 5

abbrev pub error_number : EncodeError → ℕ
error_number error.TooLong = 1
error_number error.Memory = 2
