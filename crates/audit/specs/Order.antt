-- A legal order of logs and transcripts.
use mathlib.Core.Logic.{◌⊎◌}
use Rattle.std.specs.Prelude.{◌≡◌, ℕ, suc, length, List, [], ◌∷◌, ◌++◌, Option, Some, None, IsSome, true, false, slice_get}
use Rattle.audit.specs.Case.{Turn, Plain, Asks, EndsIfHangup, Case, next, state_at, asked, count_in, keys_among}
use Rattle.audit.specs.Placing.{put}
use Rattle.audit.specs.declared.event.Event.{Event}
use Rattle.audit.specs.declared.event.Event.TheVariants.{Connect, Line, Hangup, Collect, Given, Arrive}
use Rattle.ballot.specs.Lists.{IsIn}

pub record Awaited (K O : Type 0) : Type 0 where
  pub key : K
  -- the transcript's
  pub outcome : Option O

pub record Session (I K O L : Type 0) : Type 0 where
  pub node : Option ℕ
  pub done : List (Turn I K O L)
  pub left : List (Turn I K O L)
  pub awaits : Option (Awaited K O)

pub record World (I E K O L : Type 0) : Type 0 where
  -- how many inputs of each log came
  pub placed : ℕ → ℕ
  pub sent : List E
  pub sessions : ℕ → Session I K O L

module _ {K O L : Type 0} where
  -- a session that asks by a line awaits the answer. A hangup ends its session, which takes no answer any more
  abbrev pub awaited_by : Option L → K → Option O → Option (Awaited K O)
  awaited_by (Some line) key outcome = Some (record { key = key; outcome = outcome })
  awaited_by None key outcome = None

module _ {S I E K O L : Type 0} (a : Case S I E K O L) where
  abbrev pub opening : World I E K O L
  opening = record { placed = λ n. 0; sent = []; sessions = λ i. record { node = None; done = []; left = []; awaits = None } }

  abbrev pub Runs : World I E K O L → ℕ → Type 0
  Runs w n = a.runs (state_at a n (w.placed n)) ≡ true

  -- node n takes x, the next input of its log, and the sessions are then these
  abbrev pub Takes : World I E K O L → ℕ → I → (ℕ → Session I K O L) → World I E K O L → Type 0
  Takes w n x sessions w' =
      (next a n (w.placed n) ≡ Some x)
      × Runs w n
      × (w' ≡ record { placed = put w.placed n (suc (w.placed n)); sent = w.sent ++ a.sends (state_at a n (w.placed n)) x; sessions = sessions })

  -- session i's turn is to submit x: the node gives it the key
  abbrev pub Submits : World I E K O L → ℕ → ℕ → Option L → World I E K O L → Type 0
  Submits w i n line w' =
      (x : I) × (k : K) × (o : Option O) × (ts : List (Turn I K O L))
      × ((w.sessions i).left ≡ Asks line x k o ∷ ts)
      × (a.brought x ≡ None)
      × (asked a (state_at a n (w.placed n)) x ≡ Some k)
      × Takes w n x (put w.sessions i (record { node = Some n; done = (w.sessions i).done ++ Asks line x k o ∷ []; left = ts; awaits = awaited_by line k o })) w'
      × EndsIfHangup line o ts

  abbrev pub IsAt : World I E K O L → ℕ → ℕ → Type 0
  IsAt w i n = ((w.sessions i).node ≡ Some n) × Runs w n × ((w.sessions i).awaits ≡ None)

  abbrev pub Says : World I E K O L → ℕ → ℕ → L → World I E K O L → Type 0
  Says w i n l w' =
      (ts : List (Turn I K O L))
      × ((w.sessions i).left ≡ Plain l ∷ ts)
      × (w' ≡ record { placed = w.placed; sent = w.sent; sessions = put w.sessions i (record { node = Some n; done = (w.sessions i).done ++ Plain l ∷ []; left = ts; awaits = None }) })

  -- the transcript's outcome, if it has one, is the one that is found
  abbrev pub Agrees : Option O → O → Type 0
  Agrees None o = Unit {0}
  Agrees (Some o') o = o' ≡ o

  -- an event that is legal where it stands, and what it leads to
  abbrev pub Happens : World I E K O L → Event → World I E K O L → Type 0
  Happens w (Connect i number) w' =
      (n : ℕ)
      × (a.number n ≡ number)
      × (ts : List (Turn I K O L))
      × (slice_get a.scripts i ≡ Some (Some ts))
      × IsIn n a.nodes
      × ((w.sessions i).node ≡ None)
      × Runs w n
      × (w' ≡ record { placed = w.placed; sent = w.sent; sessions = put w.sessions i (record { node = Some n; done = []; left = ts; awaits = None }) })
  Happens w (Line i) w' = (n : ℕ) × IsAt w i n × (((l : L) × Says w i n l w') ⊎ ((l : L) × Submits w i n (Some l) w'))
  Happens w (Hangup i) w' = (n : ℕ) × IsAt w i n × Submits w i n None w'
  Happens w (Collect i) w' =
      (n : ℕ) × (y : Awaited K O) × (o : O)
      × ((w.sessions i).node ≡ Some n)
      × Runs w n
      × ((w.sessions i).awaits ≡ Some y)
      × (a.answer (state_at a n (w.placed n)) y.key ≡ Some o)
      × Agrees y.outcome o
      × (w' ≡ record { placed = w.placed; sent = w.sent; sessions = put w.sessions i (record { node = Some n; done = (w.sessions i).done; left = (w.sessions i).left; awaits = None }) })
  Happens w (Given number) w' = (n : ℕ) × (x : I) × (a.number n ≡ number) × (a.brought x ≡ None) × (asked a (state_at a n (w.placed n)) x ≡ None) × Takes w n x w.sessions w'
  Happens w (Arrive k) w' =
      (e : E) × (x : I)
      × (slice_get w.sent k ≡ Some e)
      × (a.brought x ≡ Some e)
      × (asked a (state_at a (a.to e) (w.placed (a.to e))) x ≡ None)
      × Takes w (a.to e) x w.sessions w'

  abbrev pub Leads : World I E K O L → List Event → World I E K O L → Type 0
  Leads w [] w' = w' ≡ w
  Leads w (e ∷ es) w' = (v : World I E K O L) × Happens w e v × Leads v es w'

  -- at the end each log is used up, and each transcript that has begun, its outcomes found
  abbrev pub NothingAwaited : Option (Awaited K O) → Type 0
  NothingAwaited None = Unit {0}
  NothingAwaited (Some y) = y.outcome ≡ None

  abbrev pub SessionEnds : Option (Option (List (Turn I K O L))) → Session I K O L → Type 0
  SessionEnds None s = Unit {0}
  SessionEnds (Some None) s = Unit {0}
  SessionEnds (Some (Some ts)) s = (s.done ≡ ts) × (s.left ≡ []) × NothingAwaited s.awaits × IsSome s.node

  abbrev pub Ends : World I E K O L → Type 0
  Ends w = ((n : ℕ) → w.placed n ≡ length (a.logs n)) × ((i : ℕ) → SessionEnds (slice_get a.scripts i) (w.sessions i))

  -- each Take, Commit and Free of a log is named by exactly one entry
  abbrev pub IsNamedOnce : Type 0
  IsNamedOnce = (n k : ℕ) (x : I) (key : K) → next a n k ≡ Some x → asked a (state_at a n k) x ≡ Some key → count_in a key (keys_among a a.scripts) ≡ 1

  -- no transcript has an outcome without a ticket
  abbrev pub AreTicketed : Type 0
  AreTicketed = (i : ℕ) (script : Option (List (Turn I K O L))) → slice_get a.scripts i ≡ Some script → a.loose i ≡ false

  abbrev pub IsLegalOrder : List Event → Type 0
  IsLegalOrder es = IsNamedOnce × AreTicketed × ((w : World I E K O L) × Leads opening es w × Ends w)
