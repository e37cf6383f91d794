-- The first transcript with a wrong answer.
use Rattle.std.specs.Prelude.{◌≡◌, ℕ, zero, suc, List, [], ◌∷◌, length, Option, Some, None, Bool, true, false, ◌==◌, ◌&&◌, ◌||◌, not, slice_get, if◌then◌else◌}
use Rattle.std.specs.List.{list_any}
use Rattle.audit.specs.Case.{Turn, Plain, Asks, EndsIfHangup, Case, next, state_at, turns_of}
use Rattle.audit.specs.Right.{HasNoLine}

module _ {S I E K O L : Type 0} (a : Case S I E K O L) where
  abbrev pub is_key : K → Option K → Bool
  is_key k None = false
  is_key k (Some k') = a.same_key k' k

  abbrev pub is_submit : S → K → I → Option I → Bool
  is_submit s k x None = false
  is_submit s k x (Some y) = is_key k (a.key_of s y) && a.same_input y x

  -- one of the first j inputs of node n is the submit of x with the key k
  abbrev pub has_submit : ℕ → K → I → ℕ → Bool
  has_submit n k x zero = false
  has_submit n k x (suc j) = is_submit (state_at a n j) k x (next a n j) || has_submit n k x j

  abbrev pub is_outcome : Option O → Option O → Bool
  is_outcome None found = true
  is_outcome (Some o) None = false
  is_outcome (Some o) (Some v) = a.same_outcome o v

  abbrev pub is_seen : List K → K → Bool
  is_seen seen k = list_any (λ k'. a.same_key k' k) seen

  -- an entry, if these were named by earlier ones, of a session whose tickets are of node n
  abbrev pub is_good : ℕ → List K → I → K → Option O → Bool
  is_good n seen x k o =
      has_submit (a.home k) k x (length (a.logs (a.home k)))
      && (not (is_seen seen k) && (a.home k == n && is_outcome o (a.answer (state_at a (a.home k) (length (a.logs (a.home k)))) k)))

  abbrev pub are_good : ℕ → List K → List (Turn I K O L) → Bool
  are_good n seen [] = true
  are_good n seen (Plain l ∷ ts) = are_good n seen ts
  are_good n seen (Asks l x k o ∷ ts) = is_good n seen x k o && are_good n (k ∷ seen) ts

  -- the keys of a script, the last first
  abbrev pub seen_after : List K → List (Turn I K O L) → List K
  seen_after seen [] = seen
  seen_after seen (Plain l ∷ ts) = seen_after seen ts
  seen_after seen (Asks l x k o ∷ ts) = seen_after (k ∷ seen) ts

  -- the node of a session: that of its first ticket, else the first node
  abbrev pub first_node : List ℕ → ℕ
  first_node [] = 0
  first_node (n ∷ ns) = n

  abbrev pub node_of : List (Turn I K O L) → ℕ
  node_of [] = first_node a.nodes
  node_of (Plain l ∷ ts) = node_of ts
  node_of (Asks l x k o ∷ ts) = a.home k

  abbrev pub first_wrong : ℕ → List K → List (Option (List (Turn I K O L))) → Option ℕ
  first_wrong i seen [] = None
  first_wrong i seen (s ∷ ss) = if not (a.loose i) && are_good (node_of (turns_of a s)) seen (turns_of a s) then first_wrong (suc i) (seen_after seen (turns_of a s)) ss else Some i

  -- what transcripts are, by how sessions are: entries ask Take, Commit or Free, no line follows an entry without an
  -- outcome, and a hangup comes last and tells none
  abbrev pub IsScript : List (Turn I K O L) → Type 0
  IsScript [] = Unit {0}
  IsScript (Plain l ∷ ts) = IsScript ts
  IsScript (Asks l x k o ∷ ts) = (a.brought x ≡ None) × (a.locks x ≡ true) × (o ≡ None → HasNoLine a ts) × EndsIfHangup l o ts × IsScript ts

  -- the node of each session
  abbrev pub turns_at : Option (Option (List (Turn I K O L))) → List (Turn I K O L)
  turns_at None = []
  turns_at (Some script) = turns_of a script

  abbrev pub seat : ℕ → ℕ
  seat i = node_of (turns_at (slice_get a.scripts i))
