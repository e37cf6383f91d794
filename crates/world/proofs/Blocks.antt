-- How often all messages of a block have arrived.
use Rattle.std.proofs.Common.{◌≡◌, ◌≢◌, ◌⊎◌, inl, inr, ℕ, zero, suc, ◌+◌, ◌-◌, ◌<◌, ◌≤◌, List, [], ◌∷◌, ◌++◌, Bool, true, false, Option, Some, None, refl, sym, ap, ◌∙◌, subst, ⊎_elim, arith, cond, set, length}
use Rattle.std.specs.Prelude.{slice_get, nat_lt, ◌&&◌, Result, Ok, Err, OnOk, OnErr}
use Rattle.std.proofs.lemmas.Bool.{cases_eq, cases_lt, le-ltb}
use Rattle.std.proofs.lemmas.Option.{slice_get_within}
use Rattle.node.specs.Nodes.{logged}
use Rattle.node.specs.Replay.{sends_of}
use Rattle.node.specs.declared.input.Input.{Input}
use Rattle.node.specs.declared.input.Input.TheVariants.{Arrive, Crash}
use Rattle.node.specs.declared.log.NodeLog.{NodeLog}
use Rattle.world.specs.Hosts.{IsArrivalCut}
use Rattle.runs.specs.Messages.{Network, log_of, is_up, newly_sent, taken_by, given_input, with_arrival, message_arrives}
use Rattle.world.specs.Scheduling.{reach, HasArrived, HaveArrived, IsFewest, AreFewest, can_arrive, IsQuiet}
use Rattle.runs.specs.declared.sent.Sent.{Sent}
use Rattle.runs.proofs.Logs.{log_other}

set_or : (xs : List ℕ) (place k x y : ℕ) → slice_get (set xs place x) k ≡ Some y → ((k ≡ place) × (x ≡ y)) ⊎ (slice_get xs k ≡ Some y)
set_or [] place k x y e = inr e
set_or (z ∷ xs) zero zero x y e = inl (refl, cc)
set_or (z ∷ xs) zero (suc k) x y e = inr e
set_or (z ∷ xs) (suc place) zero x y e = inr e
set_or (z ∷ xs) (suc place) (suc k) x y e = ⊎_elim (λ p. inl (ap suc p.0, p.1)) (λ q. inr q) (set_or xs place k x y e)

last_or : (xs : List ℕ) (k x y : ℕ) → slice_get (xs ++ x ∷ []) k ≡ Some y → (x ≡ y) ⊎ (slice_get xs k ≡ Some y)
last_or [] zero x y e = inl cc
last_or [] (suc k) x y e = inr e
last_or (z ∷ xs) zero x y e = inr e
last_or (z ∷ xs) (suc k) x y e = last_or xs k x y e

with_false : (t : Bool) → (t && false) ≡ false
with_false true = refl
with_false false = refl

module _ {A : Type 0} where
  pub fewer : (logs : List (NodeLog A)) (a b : ℕ) (o : Option (Sent A)) → b ≤ a → HasArrived logs a o → HasArrived logs b o
  fewer logs a b None le h = let none : a ≡ 0 = h in omega arith
  fewer logs a b (Some s) le h = λ up. let most : a ≤ s.arrived = h up in omega arith

  pub never : (logs : List (NodeLog A)) (o : Option (Sent A)) → HasArrived logs 0 o
  never logs None = refl
  never logs (Some s) = λ up. omega arith

  pub all_fewer : (w : Network A) (a b from to : ℕ) → b ≤ a → HaveArrived w a from to → HaveArrived w b from to
  all_fewer w a b from to le h = record { each = λ k low high. fewer w.logs a b (slice_get w.sent k) le (h.each k low high) }

  pub joined : (w : Network A) (fewest from mid to : ℕ) → HaveArrived w fewest from mid → HaveArrived w fewest mid to → HaveArrived w fewest from to
  joined w fewest from mid to p q = record { each = λ k low high. ⊎_elim (λ (lt : k < mid). p.each k low lt) (λ (le : mid ≤ k). q.each k le high) (cases_lt k mid) }

  pub none_between : (w : Network A) (fewest from to : ℕ) → to ≤ from → HaveArrived w fewest from to
  none_between w fewest from to le = record { each = λ k low high. absurd (let no : k < k = omega arith in omega arith) }

  pub unknown : (w : Network A) (from to : ℕ) → HaveArrived w 0 from to
  unknown w from to = record { each = λ k low high. never w.logs (slice_get w.sent k) }

  -- no further than that
  pub shorter : (w : Network A) (fewest from mid to : ℕ) → to ≤ mid → HaveArrived w fewest from mid → HaveArrived w fewest from to
  shorter w fewest from mid to le h = record { each = λ k low high. h.each k low (omega arith) }

  -- a block, from its place on
  pub behind_place : (w : Network A) (place fewest : ℕ) → IsFewest w place fewest → HaveArrived w fewest place (place + reach place + 1)
  behind_place w place fewest h = record { each = λ k low high. h.each k (omega arith) (omega arith) }

  -- a block, up to its place
  pub before_place : (w : Network A) (place start fewest : ℕ) → start + reach place ≡ place → IsFewest w place fewest → HaveArrived w fewest start (place + 1)
  before_place w place start fewest is h = record { each = λ k low high. h.each k (omega arith) (omega arith) }

  pub whole_block : (w : Network A) (place start own before behind fewest : ℕ) → start + reach place ≡ place
      → HasArrived w.logs own (slice_get w.sent place) → HaveArrived w before start place → HaveArrived w behind (place + 1) (place + reach place + 1)
      → fewest ≤ own → fewest ≤ before → fewest ≤ behind → IsFewest w place fewest
  whole_block w place start own before behind fewest is here p q a b c =
      record {
        each = λ k low high. ⊎_elim
            (λ (lt : k < place). fewer w.logs before fewest (slice_get w.sent k) b (p.each k (omega arith) lt))
            (λ (le : place ≤ k). ⊎_elim
            (λ (e : k ≡ place). subst (λ j. HasArrived w.logs fewest (slice_get w.sent j)) (sym e) (fewer w.logs own fewest (slice_get w.sent place) a here))
            (λ (ne : k ≢ place). fewer w.logs behind fewest (slice_get w.sent k) c (q.each k (omega arith) (omega arith)))
            (cases_eq k place))
            (cases_lt k place);
      }

  pub index_set : (w : Network A) (index : List ℕ) (place fewest : ℕ) → AreFewest w index → IsFewest w place fewest → AreFewest w (set index place fewest)
  index_set w index place fewest h new k x e =
      ⊎_elim
      (λ (p : (k ≡ place) × (fewest ≡ x)). subst (λ j. IsFewest w j x) (sym p.0) (subst (λ y. IsFewest w place y) p.1 new))
      (λ (q : slice_get index k ≡ Some x). h k x q)
      (set_or index place k fewest x e)

  pub index_more : (w : Network A) (index : List ℕ) → AreFewest w index → AreFewest w (index ++ 0 ∷ [])
  index_more w index h k x e =
      ⊎_elim
      (λ (p : 0 ≡ x). subst (λ y. IsFewest w k y) p (record { each = λ j low high. never w.logs (slice_get w.sent j) }))
      (λ (q : slice_get index k ≡ Some x). h k x q)
      (last_or index k 0 x e)

  pub index_pushed : (w : Network A) (index : List ℕ) (t : Bool) → AreFewest w index → AreFewest w (cond t (index ++ 0 ∷ []) index)
  index_pushed w index true h = index_more w index h
  index_pushed w index false h = h

  -- arrivals only become more
  pub record Rises (w v : Network A) : Type 0 where
    pub each : (k fewest : ℕ) → HasArrived w.logs fewest (slice_get w.sent k) → HasArrived v.logs fewest (slice_get v.sent k)

  pub index_rises : (w v : Network A) (index : List ℕ) → Rises w v → AreFewest w index → AreFewest v index
  index_rises w v index r h k x e = record { each = λ j low high. r.each j x ((h k x e).each j low high) }

  -- a node that is down stays down, and what was sent stays
  later : (logs logs2 : List (NodeLog A)) → ((m : ℕ) → is_up (log_of m logs2) ≡ true → is_up (log_of m logs) ≡ true) → (ss ts : List (Sent A)) (k fewest : ℕ)
      → HasArrived logs fewest (slice_get ss k) → HasArrived logs2 fewest (slice_get (ss ++ ts) k)
  later logs logs2 down [] ts k fewest h = subst (λ n. HasArrived logs2 n (slice_get ts k)) (sym h) (never logs2 (slice_get ts k))
  later logs logs2 down (s ∷ ss) ts zero fewest h = λ up. h (down s.envelope.to up)
  later logs logs2 down (s ∷ ss) ts (suc k) fewest h = later logs logs2 down ss ts k fewest h

  pub takes_rises : (w : Network A) (n : ℕ) (i : Input A) → Rises w (given_input w n i)
  takes_rises w n i =
      go (log_of n w.logs) refl
    where
      go : (o : Option (NodeLog A)) → log_of n w.logs ≡ o → Rises w (taken_by w n i o)
      go None e = record { each = λ k x h. h }
      go (Some log) e =
          one (is_up (Some log)) refl
        where
          Logs : List (NodeLog A)
          Logs = set w.logs (n - 1) (logged log i)

          down : is_up (Some log) ≡ true → (m : ℕ) → is_up (log_of m Logs) ≡ true → is_up (log_of m w.logs) ≡ true
          down up m h =
              ⊎_elim
              (λ (q : m ≡ n). subst (λ j. is_up (log_of j w.logs) ≡ true) (sym q) (ap is_up e ∙ up))
              (λ (ne : m ≢ n). ap is_up (sym (log_other w.logs n log (logged log i) e m ne)) ∙ h)
              (cases_eq m n)

          one : (t : Bool) → is_up (Some log) ≡ t → Rises w (cond t (record { logs = set w.logs (n - 1) (logged log i); sent = w.sent ++ newly_sent (sends_of log i) }) w)
          one true up = record { each = λ k x h. later w.logs Logs (down up) w.sent (newly_sent (sends_of log i)) k x h }
          one false up = record { each = λ k x h. h }

  counted_more : (logs : List (NodeLog A)) (which : ℕ) (ss : List (Sent A)) (k fewest : ℕ) → HasArrived logs fewest (slice_get ss k) → HasArrived logs fewest (slice_get (with_arrival which ss) k)
  counted_more logs which [] k fewest h = h
  counted_more logs zero (s ∷ ss) zero fewest h = λ up. let most : fewest ≤ s.arrived = h up in omega arith
  counted_more logs zero (s ∷ ss) (suc k) fewest h = h
  counted_more logs (suc which) (s ∷ ss) zero fewest h = h
  counted_more logs (suc which) (s ∷ ss) (suc k) fewest h = counted_more logs which ss k fewest h

  pub arrives_rises : (w : Network A) (which : ℕ) (o : Option (Sent A)) → Rises w (message_arrives w which o)
  arrives_rises w which None = record { each = λ k x h. h }
  arrives_rises w which (Some s) =
      go (is_up (log_of s.envelope.to w.logs))
    where
      go : (t : Bool) → Rises w (cond t (given_input (record { logs = w.logs; sent = with_arrival which w.sent }) s.envelope.to (Arrive s.envelope)) w)
      go true = record {
        each = λ k x h. (takes_rises (record { logs = w.logs; sent = with_arrival which w.sent }) s.envelope.to (Arrive s.envelope)).each k x
            (counted_more w.logs which w.sent k x h);
      }
      go false = record { each = λ k x h. h }

  pub cut_rises : (w v : Network A) (o : Option (Sent A)) → IsArrivalCut w v o → Rises w v
  cut_rises w v None h = absurd h
  cut_rises w v (Some s) h = subst (Rises w) (sym h) (takes_rises w s.envelope.to Crash)

  -- what has arrived often enough can't arrive
  pub quiet_block : (w : Network A) (place fewest copies from to : ℕ) → IsFewest w place fewest → copies ≤ fewest → place ≤ from + reach place → to ≤ place + reach place + 1 → IsQuiet w copies from to
  quiet_block w place fewest copies from to h most low high = record { each = λ k s a b at. go s (is_up (log_of s.envelope.to w.logs)) refl (λ up. let x = subst (HasArrived w.logs fewest) at (h.each k (omega arith) (omega arith)) up in x) }
    where
      go : (s : Sent A) (t : Bool) → is_up (log_of s.envelope.to w.logs) ≡ t → (is_up (log_of s.envelope.to w.logs) ≡ true → fewest ≤ s.arrived) → (nat_lt s.arrived copies && t) ≡ false
      go s true up often = let le : fewest ≤ s.arrived = often up in rw (le-ltb s.arrived copies (omega arith)) refl
      go s false up often = with_false (nat_lt s.arrived copies)

  pub quiet_on : (w : Network A) (copies from mid to : ℕ) → IsQuiet w copies from mid → IsQuiet w copies mid to → IsQuiet w copies from to
  quiet_on w copies from mid to p q = record { each = λ k s low high at. ⊎_elim (λ (lt : k < mid). p.each k s low lt at) (λ (le : mid ≤ k). q.each k s le high at) (cases_lt k mid) }

  pub quiet_none : (w : Network A) (copies from to : ℕ) → to ≤ from → IsQuiet w copies from to
  quiet_none w copies from to le = record { each = λ k s low high at. absurd (let no : k < k = omega arith in omega arith) }

  pub quiet_one : (w : Network A) (copies place : ℕ) → ((s : Sent A) → slice_get w.sent place ≡ Some s → can_arrive w copies s ≡ false) → IsQuiet w copies place (place + 1)
  quiet_one w copies place h = record { each = λ k s low high at. let here : k ≡ place = omega arith in h s (ap (slice_get w.sent) (sym here) ∙ at) }

  -- past the end there is none
  pub quiet_past : (w : Network A) (copies from to : ℕ) → length w.sent ≤ from → IsQuiet w copies from to
  quiet_past w copies from to past = record { each = λ k s low high at. let within = slice_get_within w.sent k s at in absurd (let no : k < k = omega arith in omega arith) }

  -- whatever an input brought
  pub taken_rises : {X E : Type 0} (r : Result X E) (w v : Network A) (n : ℕ) (i : Input A) → OnOk r (v ≡ given_input w n i) → OnErr r (v ≡ given_input w n Crash) → Rises w v
  taken_rises (Ok x) w v n i ok err = subst (Rises w) (sym ok) (takes_rises w n i)
  taken_rises (Err e) w v n i ok err = subst (Rises w) (sym err) (takes_rises w n Crash)

  pub arrived_rises : {X E : Type 0} (r : Result X E) (w v : Network A) (which : ℕ) (o : Option (Sent A)) → OnOk r (v ≡ message_arrives w which o) → OnErr r (IsArrivalCut w v o) → Rises w v
  arrived_rises (Ok x) w v which o ok err = subst (Rises w) (sym ok) (arrives_rises w which o)
  arrived_rises (Err e) w v which o ok err = cut_rises w v o err

  -- what can arrive has an addressee that is up
  pub arrives_up : (w : Network A) (copies : ℕ) (s : Sent A) → can_arrive w copies s ≡ true → is_up (log_of s.envelope.to w.logs) ≡ true
  arrives_up w copies s e = second (nat_lt s.arrived copies) (is_up (log_of s.envelope.to w.logs)) e
    where
      second : (a b : Bool) → (a && b) ≡ true → b ≡ true
      second true b e = e
      second false b e = absurd (cc)
