-- One input more is placed.
use Rattle.std.proofs.Common.{◌≡◌, ◌∙◌, ℕ, zero, suc, ◌<◌, ◌≤◌, length, List, [], ◌∷◌, ◌++◌, Bool, true, false, Option, Some, None, refl, sym, ap, subst, ⊎_elim, cond, if◌then◌else◌, arith, set, take, append_assoc}
use Rattle.std.specs.Prelude.{slice_get, ◌&&◌, ◌==◌}
use Rattle.std.specs.List.{list_all, list_any}
use Rattle.std.proofs.lemmas.Bool.{true≢false, and_parts, and_from, eqb-true, eq-eqb}
use Rattle.std.proofs.lemmas.Option.{slice_get_within}
use Rattle.ballot.specs.Lists.{IsIn}
use Rattle.ballot.specs.declared.message.Envelope.{Envelope}
use Rattle.maildrop.specs.CommandId.{CommandId}
use Rattle.maildrop.specs.declared.command.Command.{Command}
use Rattle.node.specs.declared.input.Input.{Input}
use Rattle.node.specs.declared.log.NodeLog.{NodeLog}
use Rattle.session.specs.declared.transcript.Transcript.{Transcript}
use Rattle.audit.specs.Answered.{is_answered_by, are_answered, AreAnswered}
use Rattle.audit.specs.Case.{Case, next, state_at, sent_at, after_next, sends_next, asked}
use Rattle.audit.specs.Laws.{Laws}
use Rattle.audit.specs.Names.{entry_keys}
use Rattle.audit.specs.Nodes.{Replayed, count_at, counts_of}
use Rattle.audit.specs.Placing.{put, was_sent, message_there, turn_there, is_met, can_place, is_stuck}
use Rattle.audit.specs.Placings.{AreBegun, AreOnTheWay, AreSent, ArePlacedBy, CanCome, IsPlaced, HasTaken}
use Rattle.audit.specs.Records.{RealCase, case_of, inputs_in, places_from}
use Rattle.audit.specs.Replays.{after, sends, runs, brought}
use Rattle.audit.specs.Same.{same_envelope}
use Rattle.audit.specs.Written.{ArePlaced}
use Rattle.audit.specs.declared.placement.Placement.{Placement}
use Rattle.audit.specs.declared.placement.Source.{Source}
use Rattle.audit.specs.declared.placing.Placing.{Placing}
use Rattle.audit.proofs.Basics.{all_from, in_left, in_right, in_either, any_back, any_in, put_each, IsBelow, answered_more}
use Rattle.audit.proofs.Entries.{set_got, set_length}
use Rattle.audit.proofs.Fit.{from_place}
use Rattle.audit.proofs.Monotone.{sent_stays}
use Rattle.audit.proofs.Nexts.{answered_same}
use Rattle.audit.proofs.Numbering.{length_more}
use Rattle.audit.proofs.RealLaws.{real_laws}
use Rattle.audit.proofs.Walk.{put_at}

pub set_same : {X : Type 0} (xs : List X) (n : ℕ) (x : X) → n < length xs → slice_get (set xs n x) n ≡ Some x
set_same [] n x h = absurd (omega (arith, h))
set_same (y ∷ ys) zero x h = refl
set_same (y ∷ ys) (suc n) x h =
    let less : n < length ys = omega (arith, h) in
    set_same ys n x less

set_other : {X : Type 0} (xs : List X) (n m : ℕ) (x : X) → (m ≡ n → ⊥) → slice_get (set xs n x) m ≡ slice_get xs m
set_other [] n m x h = refl
set_other (y ∷ ys) zero zero x h = absurd (h refl)
set_other (y ∷ ys) zero (suc m) x h = refl
set_other (y ∷ ys) (suc n) zero x h = refl
set_other (y ∷ ys) (suc n) (suc m) x h = set_other ys n m x (λ e. h (ap suc e))

two_ways : (t u : Bool) → (t ≡ true → u ≡ true) → (u ≡ true → t ≡ true) → t ≡ u
two_ways true u there back = sym (there refl)
two_ways false true there back = back refl
two_ways false false there back = refl

all_mono : (f g : CommandId → Bool) → ((id : CommandId) → f id ≡ true → g id ≡ true) → (ids : List CommandId) → list_all f ids ≡ true → list_all g ids ≡ true
all_mono f g more [] h = refl
all_mono f g more (id ∷ ids) h =
    let b = and_parts (f id) (list_all f ids) h in
    and_from (g id) (list_all g ids) (more id b.0) (all_mono f g more ids b.1)

grown : (p : ℕ → ℕ) (n : ℕ) → IsBelow p (put p n (suc (p n)))
grown p n = put_each (λ m v. p m ≤ v) p n (suc (p n)) (omega arith) (λ m. omega arith)

module _ {S I E K O L : Type 0} (a : Case S I E K O L) (laws : Laws a) where
  -- what was sent, once an input more is placed
  sent_then : (p : ℕ → ℕ) (n : ℕ) (x : I) (sent : List E) (e : E) → next a n (p n) ≡ Some x → IsIn n a.nodes
      → list_any (λ other. a.same_message other e) sent ≡ was_sent a p e
      → list_any (λ other. a.same_message other e) (sent ++ a.sends (state_at a n (p n)) x) ≡ was_sent a (put p n (suc (p n))) e
  sent_then p n x sent e is there old =
      two_ways (list_any same (sent ++ more)) (was_sent a (put p n (suc (p n))) e) forth back
    where
      same : E → Bool
      same other = a.same_message other e

      more : List E
      more = a.sends (state_at a n (p n)) x

      now_sent : sent_at a n (suc (p n)) ≡ sent_at a n (p n) ++ more
      now_sent = ap (λ o. sent_at a n (p n) ++ sends_next a (state_at a n (p n)) o) is

      forth : list_any (λ other. a.same_message other e) (sent ++ a.sends (state_at a n (p n)) x) ≡ true → was_sent a (put p n (suc (p n))) e ≡ true
      forth h =
          let f = any_back (λ other. a.same_message other e) (sent ++ a.sends (state_at a n (p n)) x) h in
          ⊎_elim
          (λ before. sent_stays a laws p (put p n (suc (p n))) (grown p n) e (sym old ∙ any_in (λ other. a.same_message other e) sent f.0 before f.2))
          (λ new.
          any_in (λ m. list_any (λ other. a.same_message other e) (sent_at a m (put p n (suc (p n)) m))) a.nodes n there
          (any_in (λ other. a.same_message other e) (sent_at a n (put p n (suc (p n)) n)) f.0
          (subst (λ k. IsIn f.0 (sent_at a n k)) (sym (put_at p n (suc (p n)))) (subst (λ es. IsIn f.0 es) (sym (ap (λ o. sent_at a n (p n) ++ sends_next a (state_at a n (p n)) o) is)) (in_right f.0 (sent_at a n (p n)) (a.sends (state_at a n (p n)) x) new)))
          f.2))
          (in_either f.0 sent (a.sends (state_at a n (p n)) x) f.1)

      back : was_sent a (put p n (suc (p n))) e ≡ true → list_any (λ other. a.same_message other e) (sent ++ a.sends (state_at a n (p n)) x) ≡ true
      back h =
          let m = any_back (λ k. list_any (λ other. a.same_message other e) (sent_at a k (put p n (suc (p n)) k))) a.nodes h in
          let f = any_back (λ other. a.same_message other e) (sent_at a m.0 (put p n (suc (p n)) m.0)) m.2 in
          put_each (λ k v. IsIn k a.nodes → IsIn f.0 (sent_at a k v) → list_any (λ other. a.same_message other e) (sent ++ a.sends (state_at a n (p n)) x) ≡ true) p n (suc (p n))
          (λ at inside.
          ⊎_elim
          (λ before. any_in (λ other. a.same_message other e) (sent ++ a.sends (state_at a n (p n)) x) f.0 (old_ones n f.0 at before f.2) f.2)
          (λ new. any_in (λ other. a.same_message other e) (sent ++ a.sends (state_at a n (p n)) x) f.0 (in_right f.0 sent (a.sends (state_at a n (p n)) x) new) f.2)
          (in_either f.0 (sent_at a n (p n)) (a.sends (state_at a n (p n)) x) (subst (λ es. IsIn f.0 es) (ap (λ o. sent_at a n (p n) ++ sends_next a (state_at a n (p n)) o) is) inside)))
          (λ k at inside. any_in (λ other. a.same_message other e) (sent ++ a.sends (state_at a n (p n)) x) f.0 (old_ones k f.0 at inside f.2) f.2)
          m.0 m.1 f.1
        where
          old_ones : (k : ℕ) (g : E) → IsIn k a.nodes → IsIn g (sent_at a k (p k)) → a.same_message g e ≡ true → IsIn g (sent ++ a.sends (state_at a n (p n)) x)
          old_ones k g at inside h =
              let w = any_in (λ m. list_any (λ other. a.same_message other e) (sent_at a m (p m))) a.nodes k at (any_in (λ other. a.same_message other e) (sent_at a k (p k)) g inside h) in
              let f = any_back (λ other. a.same_message other e) sent (old ∙ w) in
              subst (λ z. IsIn z (sent ++ a.sends (state_at a n (p n)) x)) (laws.same_message f.0 e f.2 ∙ sym (laws.same_message g e h)) (in_left f.0 sent (a.sends (state_at a n (p n)) x) f.1)

module _ {A : Type 0} where
  -- how many inputs came, once one more has
  counts_then : (rs : List (Replayed A)) (n : ℕ) (r : Replayed A) → n < length rs → (m : ℕ) → counts_of (set rs n r) m ≡ put (counts_of rs) n r.placed m
  counts_then rs n r h m =
      go (m == n) refl
    where
      go : (t : Bool) → (m == n) ≡ t → counts_of (set rs n r) m ≡ cond t r.placed (counts_of rs m)
      go true e =
          let same : m ≡ n = eqb-true m n e in
          ap (λ k. count_at (slice_get (set rs n r) k)) same ∙ ap count_at (set_same rs n r h)
      go false e = ap count_at (set_other rs n m r (λ same. true≢false (sym (eq-eqb m n same) ∙ e)))

  counts_path : (rs : List (Replayed A)) (n : ℕ) (r : Replayed A) → n < length rs → put (counts_of rs) n r.placed ≡ counts_of (set rs n r)
  counts_path rs n r h = λ i m. sym (counts_then rs n r h m) i

module _ {A : Type 0} (logs : List (NodeLog A)) (transcripts : List (Transcript A)) where
  abbrev real : RealCase A
  real = case_of logs transcripts

  laws : Laws real
  laws = real_laws logs transcripts

  way_then : (rs : List (Replayed A)) (n : ℕ) (r : Replayed A) (x : Input A) → AreOnTheWay logs transcripts rs → slice_get rs n ≡ Some r → next real n r.placed ≡ Some x → AreOnTheWay logs transcripts (set rs n (record { state = after r.state x; placed = suc r.placed }))
  way_then rs n r x way its is = record {
    count = set_length rs n (record { state = after r.state x; placed = suc r.placed }) ∙ way.count;
    each = λ m other at. ⊎_elim
        (λ (new : (record { state = after r.state x; placed = suc r.placed } ≡ other) × (m ≡ n)).
        subst (λ (o : Replayed A). o.state ≡ state_at real m o.placed) new.0
        (subst (λ k. after r.state x ≡ state_at real k (suc r.placed)) (sym new.1)
        (ap (λ s. after s x) (way.each n r its) ∙ sym (ap (after_next real (state_at real n r.placed)) is))))
        (λ old. way.each m other old)
        (set_got rs n m (record { state = after r.state x; placed = suc r.placed }) other at);
  }

  written_then : (p : ℕ → ℕ) (sent : List (Envelope (Command A) A)) (ps : List Placement) (n : ℕ) (source : Source) (c : CanCome logs transcripts p sent n source) → ArePlacedBy logs transcripts p sent ps
      → ArePlacedBy logs transcripts (put p n (suc (p n))) (sent ++ sends (state_at real n (p n)) c.input) (ps ++ record { node = n; source = source } ∷ [])
  written_then p sent ps n source c w = record {
    onwards = λ rest placed. subst (λ all. ArePlaced real (λ m. 0) [] all) (sym (append_assoc ps (record { node = n; source = source } ∷ []) rest)) (w.onwards (record { node = n; source = source } ∷ rest) (c.input, c.is, c.can, c.by, placed));
  }

  module _ (old new : Placing A) (n : ℕ) (source : Source) (h : IsPlaced logs transcripts old) (c : CanCome logs transcripts (counts_of old.replays.items) old.sent n source) (t : HasTaken old new n c.input source) where
    before_it : ℕ → ℕ
    before_it = counts_of old.replays.items

    come : counts_of old.replays.items n ≡ t.replay.placed
    come = ap count_at t.its

    state_then : state_at real n (counts_of old.replays.items n) ≡ t.replay.state
    state_then = ap (state_at real n) come ∙ sym (h.replayed.each n t.replay t.its)

    path : put (counts_of old.replays.items) n (suc (counts_of old.replays.items n)) ≡ counts_of new.replays.items
    path =
        ap (λ k. put (counts_of old.replays.items) n (suc k)) come
        ∙ counts_path old.replays.items n (record { state = after t.replay.state c.input; placed = suc t.replay.placed }) (slice_get_within old.replays.items n t.replay t.its)
        ∙ ap counts_of (sym t.replays)

    sent_is : old.sent ++ sends (state_at real n (counts_of old.replays.items n)) c.input ≡ new.sent
    sent_is = ap (λ s. old.sent ++ sends s c.input) state_then ∙ sym t.sent

    -- then one input more is placed
    pub placed_then : IsPlaced logs transcripts new
    placed_then = record {
      replayed = subst (AreOnTheWay logs transcripts) (sym t.replays) (way_then old.replays.items n t.replay c.input h.replayed t.its (ap (next real n) (sym come) ∙ c.is));
      messages = subst (λ q. AreSent logs transcripts q new.sent) path (subst (λ s. AreSent logs transcripts (put (counts_of old.replays.items) n (suc (counts_of old.replays.items n))) s) sent_is
          (record { each = λ e. sent_then real laws (counts_of old.replays.items) n c.input old.sent e c.is (laws.there n (counts_of old.replays.items n) c.input c.is) (h.messages.each e) }));
      reached = record { order = n ∷ h.reached.order; steps = (counts_of old.replays.items, h.reached.steps, c.can, sym path) };
      written = subst (λ ps. ArePlacedBy logs transcripts (counts_of new.replays.items) new.sent ps) (sym t.placements)
          (subst (λ q. ArePlacedBy logs transcripts q new.sent (old.placements.items ++ record { node = n; source = source } ∷ [])) path
          (subst (λ s. ArePlacedBy logs transcripts (put (counts_of old.replays.items) n (suc (counts_of old.replays.items n))) s (old.placements.items ++ record { node = n; source = source } ∷ [])) sent_is
          (written_then (counts_of old.replays.items) old.sent old.placements.items n source c h.written)));
      counted = ap suc h.counted ∙ sym (ap length t.placements ∙ length_more old.placements.items (record { node = n; source = source }));
    }

    more_placed : (id : CommandId) → is_answered_by logs old.replays.items id ≡ true → is_answered_by logs new.replays.items id ≡ true
    more_placed id e =
        sym (answered_same logs transcripts new.replays.items placed_then.replayed id)
        ∙ answered_more real laws (counts_of old.replays.items) (counts_of new.replays.items) (subst (λ q. IsBelow (counts_of old.replays.items) q) path (grown (counts_of old.replays.items) n)) id (answered_same logs transcripts old.replays.items h.replayed id ∙ e)

    -- what was answered still is
    pub answered_then : (counts : List ℕ) → AreAnswered (is_answered_by logs old.replays.items) transcripts counts → AreAnswered (is_answered_by logs new.replays.items) transcripts counts
    answered_then counts known = record {
      count = known.count;
      each = λ i u so_many at its. all_mono (is_answered_by logs old.replays.items) (is_answered_by logs new.replays.items) more_placed (entry_keys (take so_many u.asked)) (known.each i u so_many at its);
    }

    pub one_more_placed : length new.placements.items ≡ suc (length old.placements.items)
    one_more_placed = ap length t.placements ∙ length_more old.placements.items (record { node = n; source = source })

  -- if an input can come, the node runs
  module _ (rs : List (Replayed A)) (way : AreOnTheWay logs transcripts rs) (sent : List (Envelope (Command A) A)) (n : ℕ) (source : Source) (c : CanCome logs transcripts (counts_of rs) sent n source) where
    pub it_runs : (r : Replayed A) → slice_get rs n ≡ Some r → runs r.state ≡ true
    it_runs r its =
        ap runs (way.each n r its ∙ sym (ap (state_at real n) (ap count_at its)))
        ∙ (and_parts (runs (state_at real n (counts_of rs n))) (message_there real (counts_of rs) n (brought c.input) && turn_there real (counts_of rs) (asked real (state_at real n (counts_of rs n)) c.input)) (sym (ap (is_met real (counts_of rs) n) c.is) ∙ c.can)).0

    -- and its log has it
    pub it_is_there : (r : Replayed A) (log : NodeLog A) → slice_get rs n ≡ Some r → slice_get logs n ≡ Some log → slice_get log.inputs r.placed ≡ Some c.input
    it_is_there r log its of_it =
        sym (ap (next real n) (ap count_at its) ∙ ap (λ (l : Option (NodeLog A)). slice_get (inputs_in l) r.placed) of_it) ∙ c.is

take_none_of : {X : Type 0} (xs : List X) → take 0 xs ≡ []
take_none_of [] = refl
take_none_of (x ∷ xs) = refl

module _ {A : Type 0} where
  counts_zero : (rs : List (Replayed A)) → ((n : ℕ) (r : Replayed A) → slice_get rs n ≡ Some r → r.placed ≡ 0) → (n : ℕ) → counts_of rs n ≡ 0
  counts_zero rs h n =
      go (slice_get rs n) refl
    where
      go : (o : Option (Replayed A)) → slice_get rs n ≡ o → counts_of rs n ≡ 0
      go None e = ap count_at e
      go (Some r) e = ap count_at e ∙ h n r e

  -- of each session no entry is known to be answered
  pub none_known : (test : CommandId → Bool) (ts : List (Transcript A)) (counts : List ℕ) → length counts ≡ length ts → ((i k : ℕ) → slice_get counts i ≡ Some k → k ≡ 0) → AreAnswered test ts counts
  none_known test ts counts size zero_each = record {
    count = size;
    each = λ i t k at its. ap (λ n. are_answered test n t.asked) (zero_each i k its) ∙ ap (λ es. list_all test (entry_keys es)) (take_none_of t.asked);
  }

module _ {A : Type 0} (logs : List (NodeLog A)) (transcripts : List (Transcript A)) where
  abbrev first_case : RealCase A
  first_case = case_of logs transcripts

  none_sent : (e : Envelope (Command A) A) (ns : List ℕ) → list_any (λ n. list_any (λ other. same_envelope other e) (sent_at first_case n 0)) ns ≡ false
  none_sent e [] = refl
  none_sent e (n ∷ ns) = none_sent e ns

  -- before any input nothing is placed
  pub nothing_is_placed : (placing : Placing A) → AreBegun logs placing.replays.items → placing.sent ≡ [] → placing.placements.items ≡ [] → IsPlaced logs transcripts placing
  nothing_is_placed placing begun sent placements = record {
    replayed = record { count = begun.count; each = λ n r e. (begun.each n r e).0 ∙ sym (ap (state_at first_case n) (begun.each n r e).1) };
    messages = record { each = λ e. ap (λ es. list_any (λ other. same_envelope other e) es) sent ∙ sym (ap (λ q. was_sent first_case q e) zeros ∙ none_sent e first_case.nodes) };
    reached = record { order = []; steps = zeros };
    written = record { onwards = λ rest h. subst (λ ps. ArePlaced first_case (λ n. 0) [] (ps ++ rest)) (sym placements) (subst (λ es. ArePlaced first_case (λ n. 0) es rest) sent (subst (λ q. ArePlaced first_case q placing.sent rest) zeros h)) };
    counted = sym (ap length placements);
  }
    where
      zeros : counts_of placing.replays.items ≡ (λ n. 0)
      zeros = λ i n. counts_zero placing.replays.items (λ m r e. (begun.each m r e).1) n i

  -- if none of all logs has an input that can come, the placing is stuck
  pub all_stuck : (placing : Placing A) → ((n : ℕ) → n < length logs → can_place first_case (counts_of placing.replays.items) n ≡ false) → is_stuck first_case (counts_of placing.replays.items) ≡ true
  all_stuck placing none =
      all_from (λ n. if can_place first_case (counts_of placing.replays.items) n then false else true) (places_from 0 logs) (λ n there.
      let r = from_place 0 n logs there in
      let third = r.2 in
      let same : r.0 ≡ n = omega (arith, third) in
      let within : n < length logs = subst (λ k. k < length logs) same (slice_get_within logs r.0 r.1 r.3) in
      ap (λ t. if t then false else true) (none n within))
