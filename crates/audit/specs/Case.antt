-- What an audit is given: the rules of a node, the logs, and what each session did.
use Rattle.std.specs.Prelude.{◌≡◌, ℕ, zero, suc, List, [], ◌∷◌, ◌++◌, Option, Some, None, Bool, slice_get, if◌then◌else◌}

-- a session's turn: a line that submits nothing, or a line (or a hangup) that submits
pub data Turn (I K O L : Type 0) : Type 0 where
  Plain : (line : L) → Turn I K O L
  Asks : (line : Option L) → (input : I) → (key : K) → (outcome : Option O) → Turn I K O L

module _ {I K O L : Type 0} where
  -- what stands after a turn that asks: a hangup is the last of its session, and its transcript tells no outcome of it
  abbrev pub EndsIfHangup : Option L → Option O → List (Turn I K O L) → Type 0
  EndsIfHangup (Some line) outcome behind = Unit {0}
  EndsIfHangup None outcome behind = (outcome ≡ None) × (behind ≡ [])

-- S replays, I inputs, E envelopes, K a name and its ticket, O outcomes, L lines
pub record Case (S I E K O L : Type 0) : Type 0 where
  pub start : ℕ → S
  pub after : S → I → S
  pub sends : S → I → List E
  -- no crash yet
  pub runs : S → Bool
  -- the message that an input brings
  pub brought : I → Option E
  -- the name and ticket of a submit
  pub key_of : S → I → Option K
  -- it submits a Take, a Commit or a Free
  pub locks : I → Bool
  -- an answer that was given stays
  pub answer : S → K → Option O
  pub to : E → ℕ
  pub home : K → ℕ
  pub same_message : E → E → Bool
  pub same_key : K → K → Bool
  pub same_input : I → I → Bool
  pub same_outcome : O → O → Bool
  -- the places of the logs, and the number that the node of each has
  pub nodes : List ℕ
  pub number : ℕ → ℕ
  -- a node without a log has none
  pub logs : ℕ → List I
  -- an empty transcript has none
  pub scripts : List (Option (List (Turn I K O L)))
  -- whether a transcript has an outcome without a ticket
  pub loose : ℕ → Bool

module _ {S I E K O L : Type 0} (a : Case S I E K O L) where
  abbrev pub next : ℕ → ℕ → Option I
  next n k = slice_get (a.logs n) k

  abbrev pub after_next : S → Option I → S
  after_next s None = s
  after_next s (Some x) = a.after s x

  abbrev pub sends_next : S → Option I → List E
  sends_next s None = []
  sends_next s (Some x) = a.sends s x

  -- the replay of the first k inputs of node n
  abbrev pub state_at : ℕ → ℕ → S
  state_at n zero = a.start n
  state_at n (suc k) = after_next (state_at n k) (next n k)

  -- what they sent
  abbrev pub sent_at : ℕ → ℕ → List E
  sent_at n zero = []
  sent_at n (suc k) = sent_at n k ++ sends_next (state_at n k) (next n k)

  -- the key of a Take, Commit or Free
  abbrev pub asked : S → I → Option K
  asked s x = if a.locks x then a.key_of s x else None

  abbrev pub key_in : List (Turn I K O L) → List K
  key_in [] = []
  key_in (Plain l ∷ ts) = key_in ts
  key_in (Asks l x k o ∷ ts) = k ∷ key_in ts

  -- the keys before the first turn that names this one
  abbrev pub put_before : K → Option (List K) → Option (List K)
  put_before k None = None
  put_before k (Some ks) = Some (k ∷ ks)

  abbrev pub earlier_in : K → List (Turn I K O L) → Option (List K)
  earlier_in k [] = None
  earlier_in k (Plain l ∷ ts) = earlier_in k ts
  earlier_in k (Asks l x k' o ∷ ts) = if a.same_key k' k then Some [] else put_before k' (earlier_in k ts)

  abbrev pub turns_of : Option (List (Turn I K O L)) → List (Turn I K O L)
  turns_of None = []
  turns_of (Some ts) = ts

  abbrev pub or_else : Option (List K) → Option (List K) → Option (List K)
  or_else None o = o
  or_else (Some ks) o = Some ks

  abbrev pub earlier_among : K → List (Option (List (Turn I K O L))) → Option (List K)
  earlier_among k [] = None
  earlier_among k (s ∷ ss) = or_else (earlier_in k (turns_of s)) (earlier_among k ss)

  -- how many turns name a key
  abbrev pub count_in : K → List K → ℕ
  count_in k [] = 0
  count_in k (k' ∷ ks) = if a.same_key k' k then suc (count_in k ks) else count_in k ks

  abbrev pub keys_among : List (Option (List (Turn I K O L))) → List K
  keys_among [] = []
  keys_among (s ∷ ss) = key_in (turns_of s) ++ keys_among ss
