-- Messages as they arrive.
use Rattle.std.proofs.Common.{◌≡◌, ℕ, zero, suc, ◌+◌, List, [], ◌∷◌, ◌++◌, Some, None, refl, sym, ap, set, map, true, Fits, w64, arith, ◌<◌}
use borrow.Author.Tests.{ltb-true}
use Rattle.std.specs.Prelude.{slice_get}
use Rattle.ballot.specs.declared.message.Envelope.{Envelope}
use Rattle.maildrop.specs.declared.command.Command.{Command}
use Rattle.world.specs.Hosts.{can_count}
use Rattle.runs.specs.Messages.{newly_sent, with_arrival}
use Rattle.runs.specs.declared.sent.Sent.{Sent}

module _ {A : Type 0} where
  abbrev pub once_more : Sent A → Sent A
  once_more s = record { envelope = s.envelope; arrived = s.arrived + 1 }

  pub arrival_none : (k : ℕ) (ss : List (Sent A)) → slice_get ss k ≡ None → with_arrival k ss ≡ ss
  arrival_none k [] e = refl
  arrival_none zero (s ∷ ss) e = absurd (cc)
  arrival_none (suc k) (s ∷ ss) e = ap (λ xs. s ∷ xs) (arrival_none k ss e)

  pub arrival_set : (k : ℕ) (ss : List (Sent A)) (s : Sent A) → slice_get ss k ≡ Some s → set ss k (once_more s) ≡ with_arrival k ss
  arrival_set k [] s e = absurd (cc)
  arrival_set zero (x ∷ ss) s e = let same : x ≡ s = cc in ap (λ (y : Sent A). once_more y ∷ ss) (sym same)
  arrival_set (suc k) (x ∷ ss) s e = ap (λ xs. x ∷ xs) (arrival_set k ss s e)

  -- more that is sent is after it
  pub arrival_more : (k : ℕ) (ss ts : List (Sent A)) (s : Sent A) → slice_get ss k ≡ Some s → with_arrival k (ss ++ ts) ≡ with_arrival k ss ++ ts
  arrival_more k [] ts s e = absurd (cc)
  arrival_more zero (x ∷ ss) ts s e = refl
  arrival_more (suc k) (x ∷ ss) ts s e = ap (λ xs. x ∷ xs) (arrival_more k ss ts s e)

  pub count_fits : (s : Sent A) → can_count s ≡ true → Fits w64 (s.arrived + 1)
  count_fits s h = let below : s.arrived < 18446744073709551615 = ltb-true s.arrived 18446744073709551615 h in omega arith

  pub sent_all : (es : List (Envelope (Command A) A)) → newly_sent es ≡ newly_sent (map (λ e. e) es)
  sent_all [] = refl
  sent_all (e ∷ es) = ap (λ ss. record { envelope = e; arrived = 0 } ∷ ss) (sent_all es)
