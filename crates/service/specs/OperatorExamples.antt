-- Worked examples of answers to operators, and of which locks are broken.
use Rattle.std.specs.Prelude.{◌≡◌, refl, List, [], ◌∷◌, true, false, codes, None, Some}
use Rattle.std.specs.Fmt.{digits}
use Rattle.maildrop.specs.declared.outcome.Outcome.TheVariants as outcome
use Rattle.service.specs.Deliveries.{delivered_after, none_delivered, outcome_lines}
use Rattle.service.specs.declared.delivery.Submitted.{Submitted}
use Rattle.service.specs.Locks.{may_try, locks_of_down}
use Rattle.service.specs.Maildrops.{lock_lines, user_lines}
use Rattle.service.specs.Standings.{standing_line}

-- nodes 2 and 3 are up, and a session of node 1 had alice's lock
one_stranded : locks_of_down (2 ∷ 3 ∷ []) ((codes "alice", record { node = 1; seq = 3 }) ∷ (codes "bob", record { node = 3; seq = 1 }) ∷ []) ≡ (codes "alice", record { node = 1; seq = 3 }) ∷ []
one_stranded = refl

-- the Break that node 2 was asked for is still to be decided
tried_once : may_try (2 ∷ 3 ∷ []) (Some (record { ticket = record { node = 2; seq = 1 }; is_done = false })) ≡ false
tried_once = refl

-- node 2 went down before the outcome was known
tried_in_vain : may_try (3 ∷ []) (Some (record { ticket = record { node = 2; seq = 1 }; is_done = false })) ≡ true
tried_in_vain = refl

-- the lock is broken
tried_with_success : may_try (3 ∷ []) (Some (record { ticket = record { node = 2; seq = 1 }; is_done = true })) ≡ false
tried_with_success = refl

locked : lock_lines ((codes "alice", record { node = 1; seq = 3 }) ∷ []) ≡ codes "user alice node 1 ticket 3\nend\n"
unfolding digits
locked = refl

nobody_locked : lock_lines [] ≡ codes "end\n"
nobody_locked = refl

listed : user_lines ((codes "bob", record { messages = 2; octets = 36; next_uid = 4 }) ∷ []) ≡ codes "user bob messages 2 octets 36 next_id 4\nend\n"
unfolding digits
listed = refl

down : standing_line 3 None ≡ codes "node 3 down\n"
unfolding digits
down = refl

up : standing_line 1 (Some (record { up = true; active = true; slot_out = 12; waiting = false })) ≡ codes "node 1 up active slot 12\n"
unfolding digits
up = refl

-- three texts of a file, of 4, 900 and 4 octets
abbrev texts : List Submitted
texts = record { ticket = record { node = 2; seq = 5 }; octets = 4 } ∷ record { ticket = record { node = 2; seq = 6 }; octets = 900 }
    ∷ record { ticket = record { node = 2; seq = 7 }; octets = 4 } ∷ []

-- the first two have outcomes: the first is stored, the second refused
two_lines : (A : Type 0) → outcome_lines {A = A} (codes "bob") (outcome.Stored 1 ∷ outcome.TooLarge ∷ []) texts
    ≡ codes "op bob 2/5 stored 1\nop bob 2/6 too large\n"
unfolding digits
two_lines A = refl

one_delivered : (A : Type 0) → delivered_after {A = A} (outcome.Stored 1 ∷ outcome.TooLarge ∷ []) texts none_delivered ≡ record { stored = 1; octets = 4; refused = 1 }
one_delivered A = refl
