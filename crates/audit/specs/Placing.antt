-- A placing: how much of each log is placed.
use Rattle.std.specs.Prelude.{◌≡◌, ℕ, suc, List, [], ◌∷◌, Option, Some, None, Bool, true, false, ◌&&◌, ◌==◌, is_some, if◌then◌else◌}
use Rattle.std.specs.List.{list_any, list_all}
use Rattle.audit.specs.Case.{Case, next, state_at, sent_at, asked, earlier_among}

abbrev pub put : {A : Type 0} → (ℕ → A) → ℕ → A → ℕ → A
put f n x m = if m == n then x else f m

module _ {S I E K O L : Type 0} (a : Case S I E K O L) where
  -- what is placed sent the message
  abbrev pub was_sent : (ℕ → ℕ) → E → Bool
  was_sent p e = list_any (λ n. list_any (λ e'. a.same_message e' e) (sent_at a n (p n))) a.nodes

  -- the answer to the key is there in its node's replay
  abbrev pub is_answered : (ℕ → ℕ) → K → Bool
  is_answered p k = is_some (a.answer (state_at a (a.home k) (p (a.home k))) k)

  abbrev pub all_answered : (ℕ → ℕ) → Option (List K) → Bool
  all_answered p None = false
  all_answered p (Some ks) = list_all (λ k. is_answered p k) ks

  abbrev pub message_there : (ℕ → ℕ) → ℕ → Option E → Bool
  message_there p n None = true
  message_there p n (Some e) = a.to e == n && was_sent p e

  abbrev pub turn_there : (ℕ → ℕ) → Option K → Bool
  turn_there p None = true
  turn_there p (Some k) = all_answered p (earlier_among a k a.scripts)

  abbrev pub is_met : (ℕ → ℕ) → ℕ → Option I → Bool
  is_met p n None = false
  is_met p n (Some x) = a.runs (state_at a n (p n)) && (message_there p n (a.brought x) && turn_there p (asked a (state_at a n (p n)) x))

  -- the next input of node n can be added
  abbrev pub can_place : (ℕ → ℕ) → ℕ → Bool
  can_place p n = is_met p n (next a n (p n))

  abbrev pub is_stuck : (ℕ → ℕ) → Bool
  is_stuck p = list_all (λ n. if can_place p n then false else true) a.nodes

  -- a placing that is reached by adding inputs of these nodes, one at a time
  abbrev pub IsPlacing : List ℕ → (ℕ → ℕ) → Type 0
  IsPlacing [] p = p ≡ (λ n. 0)
  IsPlacing (n ∷ ns) p = (q : ℕ → ℕ) × IsPlacing ns q × (can_place q n ≡ true) × (p ≡ put q n (suc (q n)))

  -- one try at a node, and one pass over all nodes
  abbrev pub tried : (ℕ → ℕ) → ℕ → ℕ → ℕ
  tried p n = if can_place p n then put p n (suc (p n)) else p

  abbrev pub passed : List ℕ → (ℕ → ℕ) → ℕ → ℕ
  passed [] p = p
  passed (n ∷ ns) p = passed ns (tried p n)
