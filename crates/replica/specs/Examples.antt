-- Worked examples: a machine that sums up numbers, whose commands are a number and what it is known by.
use Rattle.std.specs.Prelude.{◌≡◌, refl, ℕ, ◌+◌, [], ◌∷◌, ◌++◌, true, false, Some, None}
use Rattle.std.specs.Ordering.{nat_cmp}
use Rattle.ballot.specs.Sends.{to_all, Move, stays}
use Rattle.ballot.specs.declared.message.Message.TheVariants.{Propose, Ask}
use Rattle.ballot.specs.declared.slot.TheConstants.{LAST_SLOT}
use Rattle.replica.specs.Replicas.{Rules, ReplicaState, rules_of, new_replica, requested, learns, replica_ticks, taken, answer_for, slots_used, is_behind}

-- the number that is added, and the identity
abbrev Adding : Type 0
Adding = ℕ × ℕ

-- it answers the sum so far
abbrev sums : Rules Adding ℕ ℕ ℕ
sums = rules_of (λ c. c.1) nat_cmp (λ sum c. sum + c.0) (λ sum c. sum + c.0)

abbrev State : Type 0
State = ReplicaState Adding ℕ ℕ ℕ

abbrev three : Adding
three = (3, 1)

abbrev five : Adding
five = (5, 2)

abbrev seven : Adding
seven = (7, 3)

-- the last slot is the next
abbrev at_the_end : State
at_the_end = record { me = 1; size = 1; window = 9; slot_in = LAST_SLOT; slot_out = LAST_SLOT; machine = 0; requests = []; proposals = []; decisions = []; performed = []; awaited = [] }

module _ (A : Type 0) where
  abbrev Step : Type 0
  Step = Move State Adding A

  -- node 1 of three with a window of 1 is asked for two commands, and another one is decided for slot 1
  abbrev asked_once : Step
  asked_once = requested sums three (new_replica 1 3 1 0)

  abbrev asked_twice : Step
  asked_twice = requested sums five asked_once.after

  abbrev another_decided : Step
  another_decided = learns sums 1 seven asked_twice.after

  abbrev first_decided : Step
  first_decided = learns sums 2 three another_decided.after

  asked_once_sends : asked_once.sends ≡ record { to = 1; message = Propose 1 three } ∷ record { to = 2; message = Propose 1 three } ∷ record { to = 3; message = Propose 1 three } ∷ []
  asked_once_sends = refl

  asked_twice_sends : asked_twice.sends ≡ []
  asked_twice_sends = refl

  -- what was proposed for slot 1 is proposed for slot 2
  another_decided_performs : another_decided.after.performed ≡ (1, seven) ∷ []
  another_decided_performs = refl

  another_decided_sends : another_decided.sends ≡ to_all 3 (Propose 2 three)
  another_decided_sends = refl

  first_decided_performs : first_decided.after.performed ≡ (1, seven) ∷ (2, three) ∷ []
  first_decided_performs = refl

  first_decided_sends : first_decided.sends ≡ to_all 3 (Propose 3 five)
  first_decided_sends = refl

  -- the answer is the sum after both, it is there once, and none is there for what wasn't requested here
  first_answer : answer_for sums 1 first_decided.after.awaited ≡ Some 10
  first_answer = refl

  taken_once : answer_for sums 1 (taken sums 1 first_decided.after).awaited ≡ None
  taken_once = refl

  not_requested : answer_for sums 3 first_decided.after.awaited ≡ None
  not_requested = refl

  not_performed : answer_for sums 2 first_decided.after.awaited ≡ None
  not_performed = refl

  -- what is proposed is sent again, and the next slot is asked for
  first_decided_ticks : (replica_ticks {A = A} first_decided.after).sends ≡ to_all 3 (Propose 3 five) ++ to_all 3 (Ask 3)
  first_decided_ticks = refl

  -- one command is decided for slot 2, for slot 1, and for slot 1 again: it is performed once
  abbrev decided_second : Step
  decided_second = learns sums 2 three (new_replica 1 3 1 0)

  abbrev decided_first : Step
  decided_first = learns sums 1 three decided_second.after

  decided_second_performs : decided_second.after.performed ≡ []
  decided_second_performs = refl

  decided_second_is_behind : is_behind decided_second.after ≡ true
  decided_second_is_behind = refl

  decided_first_performs : decided_first.after.performed ≡ (1, three) ∷ []
  decided_first_performs = refl

  decided_first_is_at : decided_first.after.slot_out ≡ 3
  decided_first_is_at = refl

  decided_first_is_not_behind : is_behind decided_first.after ≡ false
  decided_first_is_not_behind = refl

  decided_again : learns {A = A} sums 1 three decided_first.after ≡ stays decided_first.after
  decided_again = refl

  -- the last slot is proposed for, and none after it
  abbrev last_asked : Step
  last_asked = requested sums five (requested {A = A} sums three at_the_end).after

  last_waits : last_asked.after.requests ≡ five ∷ []
  last_waits = refl

  last_is_used : slots_used last_asked.after ≡ true
  last_is_used = refl

  -- and the slot after it isn't asked for
  last_ticks : (replica_ticks {A = A} (learns {A = A} sums LAST_SLOT three last_asked.after).after).sends ≡ []
  last_ticks = refl
