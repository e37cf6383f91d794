-- Parts of a leader's calls, and when these find memory: what contracts say of functions that do a part.
use Rattle.std.specs.Prelude.{ℕ, List, [], ◌∷◌, Option, Bool, true, false}
use Rattle.std.specs.List.{flat_map}
use Rattle.std.specs.Option.{option_map_or}
use Rattle.ballot.specs.Sends.{to_all}
use Rattle.ballot.specs.Slots.{at_slot, set_slot}
use Rattle.ballot.specs.declared.message.Promise.{Promise}
use Rattle.ballot.specs.declared.message.Vote.{Vote}
use Rattle.ballot.specs.declared.message.Message.TheVariants.{Decision}
use Rattle.ballot.specs.declared.outgoing.Outgoing.{Outgoing}
use Rattle.proposer.specs.Quorums.{Pending, left_by, is_counted}
use Rattle.proposer.specs.Scouts.{scout_step}
use Rattle.proposer.specs.Commanders.{CommanderState, commander_step, verdict_of}
use Rattle.proposer.specs.declared.commander.Verdict.{Verdict}
use Rattle.proposer.specs.declared.commander.Verdict.TheVariants.{Decided, Stale}
use Rattle.leader.specs.Leaders.{LeaderState, Phase, Scouting, Active, p2a}

-- the commanders after a vote, given to the one that waits at its slot
abbrev pub after_vote : List (ℕ × Pending CommanderState) → ℕ → Vote → Option (Pending CommanderState) → List (ℕ × Pending CommanderState)
after_vote ks from v o = option_map_or (λ k. set_slot v.slot (record k { state = left_by k.state (commander_step k from v) }) ks) o ks

-- what that one answers
abbrev pub verdict_on : Option (Pending CommanderState) → ℕ → Vote → Verdict
verdict_on o from v = option_map_or (λ k. verdict_of (commander_step k from v)) o Stale

abbrev pub verdict_decides : Verdict → Bool
verdict_decides Decided = true
verdict_decides _ = false

module _ {C : Type 0} where
  -- whether the vote decides
  abbrev pub decides_in : ℕ → Vote → Phase C → Bool
  decides_in from v (Active ks) = verdict_decides (verdict_on (at_slot v.slot ks) from v)
  decides_in from v _ = false

  -- whether its scout counts the promise
  abbrev pub counts_in : {A : Type 0} → (C → C → Bool) → ℕ → Promise C A → Phase C → Bool
  counts_in eq from p (Scouting scout) = is_counted (scout_step eq scout from p)
  counts_in eq from p _ = false

  -- whether there is something to ask again
  abbrev pub has_to_ask : Phase C → Bool
  has_to_ask (Scouting scout) = true
  has_to_ask (Active (k ∷ ks)) = true
  has_to_ask _ = false

module _ {C A : Type 0} where
  -- the decision of a slot, if it has a proposal
  abbrev pub decision : LeaderState C → ℕ → Option C → List (Outgoing C A)
  decision l s o = option_map_or (λ c. to_all l.size (Decision s c)) o []

  -- what these commanders ask
  abbrev pub p2as_again : LeaderState C → List (ℕ × Pending CommanderState) → List (Outgoing C A)
  p2as_again l ks = flat_map (λ k. option_map_or (p2a l k.0) (at_slot k.0 l.proposals) []) ks
