-- A leader's fields, seen as its state.
use Rattle.leader.specs.declared.state.State.{State}
use Rattle.leader.specs.declared.state.Phase as rust
use Rattle.leader.specs.declared.state.Phase.TheVariants as doing
use Rattle.leader.specs.Leaders.{LeaderState, Phase, Passive, Scouting, Active, Over}

module _ {C A : Type 0} where
  abbrev pub phase_of : rust.Phase C A → Phase C
  phase_of doing.Passive = Passive
  phase_of (doing.Scouting scout) = Scouting scout
  phase_of (doing.Active commanders) = Active commanders.entries
  phase_of doing.Over = Over

  abbrev pub state_of : State C A → LeaderState C
  state_of s = record { me = s.me; size = s.cluster; ballot = s.ballot; proposals = s.proposals.entries; phase = phase_of s.phase }
