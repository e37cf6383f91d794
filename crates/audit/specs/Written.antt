-- Placements with what brings each input, and the events that are written down of them.
use Rattle.std.specs.Prelude.{◌≡◌, ℕ, zero, suc, length, List, [], ◌∷◌, ◌++◌, Bool, true, false, Option, Some, None, slice_get}
use Rattle.ballot.specs.Lists.{IsIn}
use Rattle.audit.specs.Case.{Turn, Case, next, state_at, asked, key_in}
use Rattle.audit.specs.Events.{Talk, kinds, events_from}
use Rattle.audit.specs.Placing.{put, is_answered, can_place}
use Rattle.audit.specs.declared.event.Event.{Event}
use Rattle.audit.specs.declared.event.Event.TheVariants.{Connect}
use Rattle.audit.specs.declared.placement.Placement.{Placement}
use Rattle.audit.specs.declared.placement.Source.{Source}
use Rattle.audit.specs.declared.placement.Source.TheVariants.{Own, Last, Message, FromSession}

abbrev pub last_of : {X : Type 0} → List X → Option X
last_of [] = None
last_of (x ∷ []) = Some x
last_of (x ∷ y ∷ xs) = last_of (y ∷ xs)

module _ {S I E K O L : Type 0} (a : Case S I E K O L) where
  -- what brings the input x, the next of node n
  abbrev pub IsFrom : (ℕ → ℕ) → List E → ℕ → I → Source → Type 0
  IsFrom q sent n x Own = (a.brought x ≡ None) × (asked a (state_at a n (q n)) x ≡ None) × (a.runs (a.after (state_at a n (q n)) x) ≡ true)
  IsFrom q sent n x Last = (a.brought x ≡ None) × (asked a (state_at a n (q n)) x ≡ None) × (a.runs (a.after (state_at a n (q n)) x) ≡ false)
  IsFrom q sent n x (Message k) = (e : E) × (slice_get sent k ≡ Some e) × (a.brought x ≡ Some e) × (a.runs (a.after (state_at a n (q n)) x) ≡ true)
  IsFrom q sent n x (FromSession i) = (ts : List (Turn I K O L)) × (key : K) × (slice_get a.scripts i ≡ Some (Some ts)) × (asked a (state_at a n (q n)) x ≡ Some key) × IsIn key (key_in a ts) × (a.runs (a.after (state_at a n (q n)) x) ≡ true)

  -- these placements place all that is left
  abbrev pub ArePlaced : (ℕ → ℕ) → List E → List Placement → Type 0
  ArePlaced q sent [] = (n : ℕ) → q n ≡ length (a.logs n)
  ArePlaced q sent (p ∷ ps) =
      (x : I)
      × (next a p.node (q p.node) ≡ Some x)
      × (can_place a q p.node ≡ true)
      × IsFrom q sent p.node x p.source
      × ArePlaced (put q p.node (suc (q p.node))) (sent ++ a.sends (state_at a p.node (q p.node)) x) ps

  -- whether the last command of a session is answered in the end
  abbrev pub answered_last : Option K → Bool
  answered_last None = false
  answered_last (Some k) = is_answered a (λ n. length (a.logs n)) k

  abbrev pub script_keys : Option (Option (List (Turn I K O L))) → List K
  script_keys None = []
  script_keys (Some None) = []
  script_keys (Some (Some ts)) = key_in a ts

  abbrev pub in_the_end : ℕ → Bool
  in_the_end i = answered_last (last_of (script_keys (slice_get a.scripts i)))

  -- at first a session has all its turns left
  abbrev pub first_talk : Option (Option (List (Turn I K O L))) → Talk
  first_talk None = record { left = []; asked = false }
  first_talk (Some None) = record { left = []; asked = false }
  first_talk (Some (Some ts)) = record { left = kinds ts; asked = false }

  abbrev pub first_talks : ℕ → Talk
  first_talks i = first_talk (slice_get a.scripts i)

module _ {S I E K O L : Type 0} (a : Case S I E K O L) (at : ℕ → ℕ) where
  -- first each session connects
  abbrev pub connect : ℕ → Option (Option (List (Turn I K O L))) → List Event
  connect i None = []
  connect i (Some None) = []
  connect i (Some (Some ts)) = Connect i (a.number (at i)) ∷ []

  abbrev pub connects : ℕ → List Event
  connects zero = []
  connects (suc m) = connects m ++ connect m (slice_get a.scripts m)

  -- all events of these placements, where session i is at node `at i`
  abbrev pub written_order : List Placement → List Event
  written_order ps = connects (length a.scripts) ++ events_from a.number at (in_the_end a) (length a.scripts) (first_talks a) ps
