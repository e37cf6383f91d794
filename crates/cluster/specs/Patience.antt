-- How long a node waits in vain before it asks to lead, counted in ticks.
use Rattle.std.specs.Prelude.{ℕ, ◌+◌, ◌*◌, ◌==◌, List, [], ◌∷◌, Bool, ◌&&◌, nat_le, if◌then◌else◌}
use Rattle.cluster.specs.declared.status.Status.{Status}

-- 4 ticks, and 4 more for each number up to the node's own, so that nodes with low numbers ask first
abbrev pub patience_of : ℕ → ℕ
patience_of me = 4 + 4 * me

-- where a node has come: the first slot that wasn't decided at its last tick, and how many ticks in a row it has waited
-- in vain since it was new, or last asked to lead
pub record Patience : Type 0 where
  pub me : ℕ
  pub slot_out : ℕ
  pub vain : ℕ

-- a new node, whose first slot isn't decided
abbrev pub new_patience : ℕ → Patience
new_patience me = record { me = me; slot_out = 1; vain = 0 }

-- a tick in vain: an answer is awaited, and no slot was decided since the tick before
abbrev pub is_vain : Patience → Status → Bool
is_vain p s = s.waiting && nat_le s.slot_out p.slot_out

abbrev pub vain_with : Patience → Status → ℕ
vain_with p s = if is_vain p s then p.vain + 1 else 0

-- whether the node asks to lead at a tick at which it stands so
abbrev pub campaigns : Patience → Status → Bool
campaigns p s = vain_with p s == patience_of p.me

abbrev pub ticked : Patience → Status → Patience
ticked p s = record {
  me = p.me;
  slot_out = s.slot_out;
  vain = if campaigns p s then 0 else vain_with p s;
}

-- at which of these ticks it asks to lead
abbrev pub campaigns_at : Patience → List Status → List Bool
campaigns_at p [] = []
campaigns_at p (s ∷ ss) = campaigns p s ∷ campaigns_at (ticked p s) ss
