-- Messages to send, and what a call leaves and sends.
use Rattle.std.specs.Prelude.{ℕ, zero, suc, List, [], ◌∷◌, ◌++◌, Bool, true, false}
use Rattle.ballot.specs.declared.message.Message.{Message}
use Rattle.ballot.specs.declared.message.Message.TheVariants.{Propose, P1a, P1b, P2a, P2b, Decision, Ask}
use Rattle.ballot.specs.declared.outgoing.Outgoing.{Outgoing}

-- the message to each of the nodes 1 to n, in this order
abbrev pub to_all : {C A : Type 0} → ℕ → Message C A → List (Outgoing C A)
to_all zero m = []
to_all (suc n) m = to_all n m ++ record { to = suc n; message = m } ∷ []

-- what a call leaves, and what it sends
pub record Move (S C A : Type 0) : Type 0 where
  pub after : S
  pub sends : List (Outgoing C A)

module _ {S C A : Type 0} where
  -- a call that changes nothing and sends nothing
  abbrev pub stays : S → Move S C A
  stays s = record { after = s; sends = [] }

  -- a call, and the next one on what it leaves: what both send
  abbrev pub followed_by : Move S C A → (S → Move S C A) → Move S C A
  followed_by first next = record { after = (next first.after).after; sends = first.sends ++ (next first.after).sends }

-- whether a message has a command or a list, so that a copy of it may find no memory
abbrev pub message_owns_memory : {C A : Type 0} → Message C A → Bool
message_owns_memory (Propose slot command) = true
message_owns_memory (P1a ballot) = false
message_owns_memory (P1b promise) = true
message_owns_memory (P2a pvalue) = true
message_owns_memory (P2b vote) = false
message_owns_memory (Decision slot command) = true
message_owns_memory (Ask slot) = false
