-- The events of a placing, as they are written down: a session takes its answer and says its lines just before it asks again, before its node crashes, and at the end.
use Rattle.std.specs.Prelude.{ℕ, zero, suc, List, [], ◌∷◌, ◌++◌, Bool, true, false, not, ◌&&◌, ◌==◌, Some, None, if◌then◌else◌}
use Rattle.audit.specs.Case.{Turn, Plain, Asks}
use Rattle.audit.specs.Placing.{put}
use Rattle.audit.specs.declared.event.Event.{Event}
use Rattle.audit.specs.declared.event.Event.TheVariants as event
use Rattle.audit.specs.declared.kind.Kind.{Kind}
use Rattle.audit.specs.declared.kind.Kind.TheVariants.{PlainLine, AskingLine, Hangup}
use Rattle.audit.specs.declared.placement.Placement.{Placement}
use Rattle.audit.specs.declared.placement.Source.{Source}
use Rattle.audit.specs.declared.placement.Source.TheVariants.{Own, Last, Message, FromSession}

module _ {I K O L : Type 0} where
  abbrev pub kind_of : Turn I K O L → Kind
  kind_of (Plain line) = PlainLine
  kind_of (Asks (Some line) input key outcome) = AskingLine
  kind_of (Asks None input key outcome) = Hangup

  abbrev pub kinds : List (Turn I K O L) → List Kind
  kinds [] = []
  kinds (t ∷ ts) = kind_of t ∷ kinds ts

-- a session: the turns that are left, and whether it awaits an answer
pub record Talk : Type 0 where
  pub left : List Kind
  pub asked : Bool

-- the lines up to the next turn that asks
abbrev pub said : ℕ → List Kind → List Event
said i [] = []
said i (PlainLine ∷ ks) = event.Line i ∷ said i ks
said i (AskingLine ∷ ks) = []
said i (Hangup ∷ ks) = []

abbrev pub unsaid : List Kind → List Kind
unsaid [] = []
unsaid (PlainLine ∷ ks) = unsaid ks
unsaid (AskingLine ∷ ks) = AskingLine ∷ ks
unsaid (Hangup ∷ ks) = Hangup ∷ ks

abbrev pub collected : ℕ → Bool → List Event
collected i asked = if asked then event.Collect i ∷ [] else []

-- a session goes on as far as it can, whether the answer that it awaits is there or not
abbrev pub goes_on : ℕ → Bool → Talk → List Event
goes_on i answered talk = if talk.asked && not answered then [] else collected i talk.asked ++ said i talk.left

abbrev pub gone_on : Bool → Talk → Talk
gone_on answered talk = if talk.asked && not answered then talk else record { left = unsaid talk.left; asked = false }

-- its turn to ask
abbrev pub asking_event : ℕ → List Kind → List Event
asking_event i [] = []
asking_event i (PlainLine ∷ ks) = []
asking_event i (AskingLine ∷ ks) = event.Line i ∷ []
asking_event i (Hangup ∷ ks) = event.Hangup i ∷ []

abbrev pub behind : List Kind → List Kind
behind [] = []
behind (k ∷ ks) = ks

abbrev pub asking : ℕ → Talk → List Event
asking i talk = goes_on i true talk ++ asking_event i (gone_on true talk).left

-- a line awaits an answer, and a hangup none
abbrev pub awaits_after : List Kind → Bool
awaits_after (AskingLine ∷ ks) = true
awaits_after ks = false

abbrev pub asked_on : Talk → Talk
asked_on talk = record { left = behind (gone_on true talk).left; asked = awaits_after (gone_on true talk).left }

-- the first m sessions that pass a test go on
abbrev pub all_go_on : (ℕ → Bool) → (ℕ → Bool) → (ℕ → Talk) → ℕ → List Event
all_go_on test answered talks zero = []
all_go_on test answered talks (suc m) = all_go_on test answered talks m ++ (if test m then goes_on m (answered m) (talks m) else [])

abbrev pub all_gone_on : (ℕ → Bool) → (ℕ → Bool) → (ℕ → Talk) → ℕ → Talk
all_gone_on test answered talks i = if test i then gone_on (answered i) (talks i) else talks i

module _ (number at : ℕ → ℕ) (answered : ℕ → Bool) (sessions : ℕ) where
  abbrev pub events_of : (ℕ → Talk) → ℕ → Source → List Event
  events_of talks n Own = event.Given (number n) ∷ []
  events_of talks n Last = all_go_on (λ i. at i == n) answered talks sessions ++ event.Given (number n) ∷ []
  events_of talks n (Message which) = event.Arrive which ∷ []
  events_of talks n (FromSession i) = asking i (talks i)

  abbrev pub talks_after : (ℕ → Talk) → ℕ → Source → ℕ → Talk
  talks_after talks n Own = talks
  talks_after talks n Last = all_gone_on (λ i. at i == n) answered talks
  talks_after talks n (Message which) = talks
  talks_after talks n (FromSession i) = put talks i (asked_on (talks i))

  abbrev pub events_from : (ℕ → Talk) → List Placement → List Event
  events_from talks [] = all_go_on (λ i. true) answered talks sessions
  events_from talks (p ∷ ps) = events_of talks p.node p.source ++ events_from (talks_after talks p.node p.source) ps
