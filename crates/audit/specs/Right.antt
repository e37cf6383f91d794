-- Transcripts without a wrong answer.
use Rattle.std.specs.Prelude.{◌≡◌, ℕ, List, [], ◌∷◌, Option, Some, None, true, slice_get, length}
use Rattle.audit.specs.Case.{Turn, Plain, Asks, EndsIfHangup, Case, next, state_at, count_in, keys_among}
use Rattle.ballot.specs.Lists.{IsIn}

module _ {S I E K O L : Type 0} (a : Case S I E K O L) where
  -- an entry of a session at node n
  pub record IsRight (n : ℕ) (x : I) (k : K) (o : Option O) : Type 0 where
    -- all tickets of one node
    pub mine : a.home k ≡ n
    -- a Take, a Commit or a Free
    pub brings : a.brought x ≡ None
    pub locks : a.locks x ≡ true
    -- a Submit of its node has that entry's name and op
    pub submit : (j : ℕ) × (next a (a.home k) j ≡ Some x) × (a.key_of (state_at a (a.home k) j) x ≡ Some k)
    -- which no other entry names
    pub once : count_in a k (keys_among a a.scripts) ≡ 1
    -- the outcome is the replay's
    pub outcome : (v : O) → o ≡ Some v → a.answer (state_at a (a.home k) (length (a.logs (a.home k)))) k ≡ Some v

  abbrev pub HasNoLine : List (Turn I K O L) → Type 0
  HasNoLine [] = Unit {0}
  HasNoLine (Plain l ∷ ts) = ⊥
  HasNoLine (Asks l x k o ∷ ts) = HasNoLine ts

  -- no line follows an entry without an outcome, and nothing a hangup
  abbrev pub AreRight : ℕ → List (Turn I K O L) → Type 0
  AreRight n [] = Unit {0}
  AreRight n (Plain l ∷ ts) = AreRight n ts
  AreRight n (Asks l x k o ∷ ts) = IsRight n x k o × (o ≡ None → HasNoLine ts) × EndsIfHangup l o ts × AreRight n ts

  -- session i is at node `at i`
  abbrev pub NoneWrong : (ℕ → ℕ) → Type 0
  NoneWrong at = (i : ℕ) (ts : List (Turn I K O L)) → slice_get a.scripts i ≡ Some (Some ts) → IsIn (at i) a.nodes × AreRight (at i) ts
