-- Why a service gets no ports, and why its nodes don't start.
use Rattle.std.specs.Prelude.{◌≡◌, ◌≤◌, ◌+◌, ◌⊎◌, ℕ, min, Option, Some, IfSome}
use Rattle.std.specs.declared.net.ip_addr.IpAddr.{IpAddr}
use Rattle.cluster.specs.declared.start_error.StartError.{StartError}
use Rattle.cluster.specs.declared.start_error.StartError.TheVariants as start
use Rattle.ports.specs.Faults.{IsCtlFault, IsLocal}
use Rattle.ports.specs.Ranges.{last_port}
use Rattle.ports.specs.declared.fault.Fault.{Fault}
use Rattle.ports.specs.declared.fault.Fault.TheVariants.{Value, Listen, Memory}
use Rattle.settings.specs.declared.options.Settings.{Settings}

-- why nodes don't start
abbrev pub start_fault : StartError → Fault
start_fault start.Setup = Value
start_fault start.Memory = Memory
start_fault start.Thread = Memory

-- what may be reported if nobody can listen at a port: this port, or out of memory
abbrev pub IsFaultAt : IpAddr → ℕ → Fault → Type 0
IsFaultAt address port Memory = Unit {0}
IsFaultAt address port fault = fault ≡ Listen address port

-- the same of a port of this machine
abbrev pub IsLocalFaultAt : ℕ → Fault → Type 0
IsLocalFaultAt port (Listen address number) = IsLocal address × (number ≡ port)
IsLocalFaultAt port Memory = Unit {0}
IsLocalFaultAt port fault = ⊥

-- a port of the nodes, which are above this one, or the last port there is if none is above it
abbrev pub IsNodePort : Option ℕ → Settings → ℕ → Type 0
IsNodePort base settings port =
    IfSome base (λ below. (min (below + 1) last_port ≤ port) × (port ≤ below + settings.cluster))

-- what may be reported if POP3 clients get no ports: one of their ports at their address, or out of memory
abbrev pub IsPopFault : Settings → Fault → Type 0
IsPopFault settings (Listen address port) = (address ≡ settings.listen) × ((settings.port ≡ Some port) ⊎ IsNodePort settings.pop_port settings port)
IsPopFault settings Memory = Unit {0}
IsPopFault settings fault = ⊥

-- what may be reported if nodes get no ports: one of their ports of this machine, or out of memory
abbrev pub IsPeerFault : Settings → Fault → Type 0
IsPeerFault settings (Listen address port) = IsLocal address × IsNodePort settings.peer_port settings port
IsPeerFault settings Memory = Unit {0}
IsPeerFault settings fault = ⊥

-- what may be reported if a service gets no ports
abbrev pub IsPortFault : Settings → Fault → Type 0
IsPortFault settings fault = IsPopFault settings fault ⊎ IsPeerFault settings fault ⊎ IsCtlFault settings.ctl_port fault
