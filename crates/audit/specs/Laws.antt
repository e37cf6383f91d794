-- What is asked of a node's rules, and of the logs.
use Rattle.std.specs.Prelude.{◌≡◌, ℕ, ◌<◌, Some, None, true, false}
use Rattle.ballot.specs.Lists.{IsIn}
use Rattle.audit.specs.Case.{Case, next, state_at}

pub record Laws {S I E K O L : Type 0} (a : Case S I E K O L) : Type 0 where
  -- an answer that the replay once gave stays
  pub stays : (s : S) (x : I) (k : K) (o : O) → a.answer s k ≡ Some o → a.answer (a.after s x) k ≡ Some o
  pub message_same : (e : E) → a.same_message e e ≡ true
  pub same_message : (e e' : E) → a.same_message e e' ≡ true → e ≡ e'
  pub key_same : (k : K) → a.same_key k k ≡ true
  pub same_key : (k k' : K) → a.same_key k k' ≡ true → k ≡ k'
  -- a node gives out tickets of its own
  pub home : (n k : ℕ) (x : I) (key : K) → next a n k ≡ Some x → a.key_of (state_at a n k) x ≡ Some key → a.home key ≡ n
  -- only nodes have logs
  pub there : (n k : ℕ) (x : I) → next a n k ≡ Some x → IsIn n a.nodes
  -- an input that brings a message submits nothing
  pub apart : (s : S) (x : I) (e : E) → a.brought x ≡ Some e → a.key_of s x ≡ None
  -- what a replay answers was submitted there
  pub answered : (k : ℕ) (key : K) (o : O) → a.answer (state_at a (a.home key) k) key ≡ Some o → (j : ℕ) × (x : I) × (j < k) × (next a (a.home key) j ≡ Some x) × (a.key_of (state_at a (a.home key) j) x ≡ Some key)
  -- a node gives out each ticket once
  pub once : (n j k : ℕ) (x y : I) (key : K) → next a n j ≡ Some x → next a n k ≡ Some y → a.key_of (state_at a n j) x ≡ Some key → a.key_of (state_at a n k) y ≡ Some key → j ≡ k
  -- a crash answers nothing
  pub last : (s : S) (x : I) (key : K) → a.runs (a.after s x) ≡ false → a.answer (a.after s x) key ≡ a.answer s key
  pub same_input : (x y : I) → a.same_input x y ≡ true → x ≡ y
  pub same_outcome : (o v : O) → a.same_outcome o v ≡ true → o ≡ v

-- each node that has a log can begin
abbrev pub AllBegin : {S I E K O L : Type 0} → Case S I E K O L → Type 0
AllBegin a = (n : ℕ) → IsIn n a.nodes → a.runs (a.start n) ≡ true
