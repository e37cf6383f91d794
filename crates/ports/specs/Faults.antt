-- What the ends of a run mean for the program.
use Rattle.std.specs.Prelude.{◌≡◌, refl, ℕ, Bool, true, false, Option, Some, None, [], ◌∷◌}
use Rattle.std.specs.Net.Addr.{ipv4_octets}
use Rattle.std.specs.declared.net.ip_addr.IpAddr.{IpAddr}
use Rattle.std.specs.declared.net.ip_addr.IpAddr.TheVariants.{V4, V6}
use Rattle.ports.specs.declared.fault.Fault.{Fault}
use Rattle.ports.specs.declared.fault.Fault.TheVariants.{Value, Account, NameTwice, NoAccounts, Listen, ListenSocket, Reach, ReachSocket, StartedBefore, Mark, Log, InUse, NotBegun, NotEmpty, Damaged, Missing, NoteDamaged, NoMajority, Memory, Read, Write}

abbrev pub status_at : Fault → ℕ
status_at Value = 2
status_at (Account line) = 2
status_at (NameTwice line) = 2
status_at NoAccounts = 2
status_at (Listen address port) = 1
status_at ListenSocket = 1
status_at (Reach port) = 1
status_at ReachSocket = 1
status_at (StartedBefore node) = 2
status_at Mark = 1
status_at Log = 1
status_at InUse = 1
status_at NotBegun = 1
status_at NotEmpty = 1
status_at (Damaged segment at) = 1
status_at (Missing segment) = 1
status_at NoteDamaged = 1
status_at NoMajority = 1
status_at Memory = 1
status_at Read = 1
status_at Write = 1

no_majority : status_at NoMajority ≡ 1
no_majority = refl

twice : status_at (NameTwice 3) ≡ 2
twice = refl

started_before : status_at (StartedBefore 3) ≡ 2
started_before = refl

-- whether a fault is one of the data folder
abbrev pub is_of_folder : Fault → Bool
is_of_folder InUse = true
is_of_folder NotBegun = true
is_of_folder NotEmpty = true
is_of_folder (Damaged segment at) = true
is_of_folder (Missing segment) = true
is_of_folder NoteDamaged = true
is_of_folder fault = false

damaged_folder : is_of_folder (Damaged 3 120) ≡ true
damaged_folder = refl

missing_segment : is_of_folder (Missing 3) ≡ true
missing_segment = refl

no_memory_of_a_folder : is_of_folder Memory ≡ false
no_memory_of_a_folder = refl

-- the address of this machine by which only its own programs reach it
abbrev pub IsLocal : IpAddr → Type 0
IsLocal (V4 address) = ipv4_octets address ≡ 127 ∷ 0 ∷ 0 ∷ 1 ∷ []
IsLocal (V6 address) = ⊥

-- what may be reported if an operator gets no port: the port of this machine, the socket, or out of memory
abbrev pub IsCtlFault : Option ℕ → Fault → Type 0
IsCtlFault port (Listen address number) = IsLocal address × (port ≡ Some number)
IsCtlFault port ListenSocket = port ≡ None
IsCtlFault port Memory = Unit {0}
IsCtlFault port fault = ⊥
