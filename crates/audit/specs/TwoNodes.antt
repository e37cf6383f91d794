-- A small case for worked examples: two nodes with few rules. A tick at a node sends a message to the second node, and
-- with a message come the answers to all that was asked there before. The nodes' places are 0 and 1, their numbers 1 and 2.
use Rattle.std.specs.Prelude.{ℕ, suc, List, [], ◌∷◌, Option, Some, None, Bool, true, false, ◌==◌, ◌&&◌, nat_le, get_or, if◌then◌else◌}
use Rattle.audit.specs.Case.{Turn, Case}

pub data Input : Type 0 where
  Tick : Input
  Arrives : (message : ℕ) → Input
  Take : Input
  Free : Input
  Crashes : Input

pub data Outcome : Type 0 where
  Granted : Outcome
  Refused : Outcome

pub data Verb : Type 0 where
  Noop : Verb
  Pass : Verb

-- what a node's inputs have led to: how many of its commands were asked, and how many are answered
pub record Replay : Type 0 where
  pub node : ℕ
  pub asked : ℕ
  pub answered : ℕ
  pub up : Bool

-- a command of the node at a place, by its number there
pub record Key : Type 0 where
  pub node : ℕ
  pub number : ℕ

abbrev pub Script : Type 0
Script = List (Turn Input Key Outcome Verb)

abbrev pub SmallCase : Type 0
SmallCase = Case Replay Input ℕ Key Outcome Verb

abbrev pub after : Replay → Input → Replay
after s Tick = s
after s (Arrives message) = record s { answered = s.asked }
after s Take = record s { asked = suc s.asked }
after s Free = record s { asked = suc s.asked }
after s Crashes = record s { up = false }

-- there is one message, 7
abbrev pub sends : Replay → Input → List ℕ
sends s Tick = 7 ∷ []
sends s _ = []

abbrev pub brought : Input → Option ℕ
brought (Arrives message) = Some message
brought _ = None

abbrev pub locks : Input → Bool
locks Take = true
locks Free = true
locks _ = false

-- a node numbers its commands
abbrev pub key_of : Replay → Input → Option Key
key_of s x = if locks x then Some (record { node = s.node; number = suc s.asked }) else None

-- each command is granted
abbrev pub answer : Replay → Key → Option Outcome
answer s k = if s.node == k.node && nat_le k.number s.answered then Some Granted else None

abbrev pub same_input : Input → Input → Bool
same_input Take Take = true
same_input Free Free = true
same_input _ _ = false

abbrev pub same_outcome : Outcome → Outcome → Bool
same_outcome Granted Granted = true
same_outcome Refused Refused = true
same_outcome _ _ = false

-- the log of the first node, that of the second, and the transcripts
abbrev pub case : List Input → List Input → List (Option Script) → SmallCase
case first second scripts = record {
  start = λ n. record { node = n; asked = 0; answered = 0; up = true };
  after = after;
  sends = sends;
  runs = λ s. s.up;
  brought = brought;
  key_of = key_of;
  locks = locks;
  answer = answer;
  to = λ message. 1;
  home = λ k. k.node;
  same_message = λ sent message. sent == message;
  same_key = λ named key. named.node == key.node && named.number == key.number;
  same_input = same_input;
  same_outcome = same_outcome;
  nodes = 0 ∷ 1 ∷ [];
  number = suc;
  logs = λ n. get_or (first ∷ second ∷ []) n [];
  scripts = scripts;
  loose = λ i. false;
}
