-- What is chosen, by the messages that were sent and nothing else.
use Rattle.std.specs.Prelude.{◌≡◌, refl, ℕ, ◌*◌, List, [], ◌∷◌, map, Bool, false, ◌==◌, ◌&&◌, nat_lt}
use Rattle.std.specs.List.{filter, flat_map, list_any}
use Rattle.ballot.specs.Ballots.{BallotNumber, same_ballot}
use Rattle.ballot.specs.Lists.{IsIn}
use Rattle.ballot.specs.Nodes.{count_to, IsMajority}
use Rattle.ballot.specs.declared.pvalue.PValue.{PValue}
use Rattle.ballot.specs.declared.message.Message.{Message}
use Rattle.ballot.specs.declared.message.Message.TheVariants.{P2a, P2b}
use Rattle.ballot.specs.declared.message.Envelope.{Envelope}

module _ {C A : Type 0} where
  abbrev pub pvalue_in : Message C A → List (PValue C)
  pvalue_in (P2a p) = p ∷ []
  pvalue_in m = []

  -- the pvalues that acceptors were asked to accept: those of the P2as
  abbrev pub asked : List (Envelope C A) → List (PValue C)
  asked sent = flat_map (λ e. pvalue_in e.message) sent

  -- whether the message is a vote for the ballot in the slot
  abbrev pub is_vote : BallotNumber → ℕ → Message C A → Bool
  is_vote b s (P2b v) = same_ballot v.asked b && (v.slot == s && same_ballot v.ballot b)
  is_vote b s m = false

  -- whether the node sent a vote for the ballot in the slot
  abbrev pub voted : List (Envelope C A) → BallotNumber → ℕ → ℕ → Bool
  voted sent b s node = list_any (λ e. e.from == node && is_vote b s e.message) sent

  -- the pvalue was asked for, and a majority voted for its ballot in its slot
  abbrev pub IsChosenBy : ℕ → List (Envelope C A) → PValue C → Type 0
  IsChosenBy size sent p = IsIn p (asked sent) × IsMajority size (voted sent p.ballot p.slot)

  -- the command is chosen in the slot
  abbrev pub IsChosen : ℕ → List (Envelope C A) → ℕ → C → Type 0
  IsChosen size sent s c = (b : BallotNumber) × IsChosenBy size sent (record { ballot = b; slot = s; command = c })

  -- the test of it, for a pvalue that was asked for
  abbrev pub is_chosen : ℕ → List (Envelope C A) → PValue C → Bool
  is_chosen size sent p = nat_lt size (2 * count_to size (voted sent p.ballot p.slot))

  -- the commands that are chosen, each with its slot, once for each P2a that asked for it
  abbrev pub chosen : ℕ → List (Envelope C A) → List (ℕ × C)
  chosen size sent =
      map (λ p. (p.slot, p.command)) (filter (λ p. nat_lt size (2 * count_to size (voted sent p.ballot p.slot))) (asked sent))

-- a worked example: of three nodes the first asks for c in slot 1. The votes of two choose it
module _ {C : Type 0} (A : Type 0) (c : C) where
  abbrev of_first : BallotNumber
  of_first = record { round = 0; leader = 1 }

  abbrev asks : ℕ → Envelope C A
  asks to = record { from = 1; to = to; message = P2a (record { ballot = of_first; slot = 1; command = c }) }

  abbrev votes : ℕ → Envelope C A
  votes from = record { from = from; to = 1; message = P2b (record { asked = of_first; slot = 1; ballot = of_first }) }

  one_vote : chosen 3 (asks 1 ∷ asks 2 ∷ votes 2 ∷ []) ≡ []
  one_vote = refl

  vote_again : chosen 3 (asks 1 ∷ asks 2 ∷ votes 2 ∷ votes 2 ∷ []) ≡ []
  vote_again = refl

  two_votes : chosen 3 (asks 2 ∷ votes 2 ∷ asks 3 ∷ votes 3 ∷ []) ≡ (1, c) ∷ (1, c) ∷ []
  two_votes = refl
