-- What is known once no input can be placed any more.
use Rattle.std.proofs.Common.{◌≡◌, ◌⊎◌, ◌∙◌, ℕ, zero, suc, ◌<◌, ◌≤◌, length, List, [], ◌∷◌, Bool, true, false, Option, Some, None, refl, sym, ap, subst, inl, inr, ⊎_elim, cond, arith}
use Rattle.std.specs.Prelude.{Result, Ok, Err, IfOk, slice_get, not, ◌&&◌}
use Rattle.std.proofs.lemmas.Bool.{true≢false, and_parts, or_cases, cases_lt}
use Rattle.std.proofs.lemmas.List.{append-nil}
use Rattle.std.proofs.lemmas.Option.{slice_get_within, slice_get_past}
use Rattle.maildrop.specs.CommandId.{CommandId}
use Rattle.node.specs.declared.input.Input.{Input}
use Rattle.node.specs.declared.log.NodeLog.{NodeLog}
use Rattle.session.specs.declared.transcript.Transcript.{Transcript}
use Rattle.audit.specs.Audits.{IsWhole, IsStuckAt}
use Rattle.audit.specs.Case.{next, state_at, turns_of, Plain, Asks}
use Rattle.audit.specs.Checks.{AreReplayed}
use Rattle.audit.specs.Left.{IsLeftAt, IsLeast}
use Rattle.audit.specs.Nodes.{Replayed, count_at, counts_of}
use Rattle.audit.specs.Placings.{IsPlaced, IsSettled}
use Rattle.audit.specs.Records.{RealCase, case_of, inputs_in, number_in, places_from}
use Rattle.audit.specs.Speakers.{AreSeated}
use Rattle.audit.specs.Turns.{Turns}
use Rattle.audit.specs.Written.{ArePlaced}
use Rattle.audit.specs.Wrong.{is_submit, has_submit, are_good, seen_after, first_node, node_of, turns_at, first_wrong}
use Rattle.audit.specs.declared.placing.Placing.{Placing}
use Rattle.audit.proofs.RealLaws.{real_laws}
use Rattle.audit.proofs.Remaining.{placing_below}

none_or_some : {X : Type 0} (xs : List X) (n : ℕ) → (length xs ≤ n) ⊎ ((x : X) × (slice_get xs n ≡ Some x))
none_or_some [] n = inl (omega arith)
none_or_some (x ∷ xs) zero = inr (x, refl)
none_or_some (x ∷ xs) (suc n) = ⊎_elim (λ (past : length xs ≤ n). inl (omega (arith, past))) (λ found. inr found) (none_or_some xs n)

module _ {A : Type 0} (logs : List (NodeLog A)) (transcripts : List (Transcript A)) (placing : Placing A) (h : IsPlaced logs transcripts placing) where
  abbrev real : RealCase A
  real = case_of logs transcripts

  placed : ℕ → ℕ
  placed = counts_of placing.replays.items

  below : (n : ℕ) → counts_of placing.replays.items n ≤ length (real.logs n)
  below = placing_below real (real_laws logs transcripts) h.reached.order (counts_of placing.replays.items) h.reached.steps

  its_replay : (n : ℕ) → n < length logs → (r : Replayed A) × (slice_get placing.replays.items n ≡ Some r)
  its_replay n within =
      ⊎_elim
      (λ (past : length placing.replays.items ≤ n). let size = h.replayed.count in absurd (omega (arith, past, size, within)))
      (λ found. found)
      (none_or_some placing.replays.items n)

  -- a log with an input left, as the code finds it
  left_at : (n : ℕ) → counts_of placing.replays.items n < length (real.logs n) → IsLeftAt logs placing.replays.items n (real.number n)
  left_at n left =
      ⊎_elim
      (λ (past : length logs ≤ n).
      let none = ap (λ (o : Option (NodeLog A)). length (inputs_in o)) (slice_get_past logs n past) in
      absurd (omega (arith, left, none)))
      (λ found.
      let replay = its_replay n (slice_get_within logs n found.0 found.1) in
      let inputs = ap (λ (o : Option (NodeLog A)). length (inputs_in o)) found.1 in
      let count = ap count_at replay.1 in
      record {
        log = found.0;
        replay = replay.0;
        its = found.1;
        of_it = replay.1;
        me = sym (ap number_in found.1);
        left = omega (arith, left, inputs, count);
      })
      (none_or_some logs n)

  module _ (none : IsLeast logs placing.replays.items (length logs) None) where
    -- if none is left all is placed
    pub all_placed : (n : ℕ) → counts_of placing.replays.items n ≡ length (real.logs n)
    all_placed n =
        ⊎_elim
        (λ (left : counts_of placing.replays.items n < length (real.logs n)).
        let at = left_at n left in
        absurd (none n (real.number n) (slice_get_within logs n at.log at.its) at))
        (λ (done : length (real.logs n) ≤ counts_of placing.replays.items n). let low = below n in omega (arith, done, low))
        (cases_lt (counts_of placing.replays.items n) (length (real.logs n)))

    pub is_whole : IsWhole real
    is_whole = record { placed = counts_of placing.replays.items; reached = h.reached; all = all_placed }

    pub are_replayed : AreReplayed logs transcripts placing.replays.items
    are_replayed = record {
      count = h.replayed.count;
      each = λ n r at. h.replayed.each n r at ∙ ap (state_at real n) (sym (ap count_at at) ∙ all_placed n);
    }

    pub are_placed : ArePlaced real (λ n. 0) [] placing.placements.items
    are_placed = subst (λ ps. ArePlaced real (λ n. 0) [] ps) (append-nil placing.placements.items) (h.written.onwards [] all_placed)

  -- and else there is no order
  pub is_stuck_at : (number : ℕ) → IsSettled logs transcripts placing → IsLeast logs placing.replays.items (length logs) (Some number) → IsStuckAt real number
  is_stuck_at number settled least =
      let n = least.0.0 in
      let at = least.0.1 in
      let inputs = ap (λ (o : Option (NodeLog A)). length (inputs_in o)) at.its in
      let count = ap count_at at.of_it in
      let left = at.left in
      record {
        placed = counts_of placing.replays.items;
        reached = h.reached;
        stuck = settled.stuck;
        node = n;
        its = ap number_in at.its ∙ at.me;
        left = omega (arith, inputs, count, left);
        least = λ m more. let other = left_at m more in least.1 m (real.number m) (slice_get_within logs m other.log other.its) other;
      }

module _ {A : Type 0} (logs : List (NodeLog A)) (transcripts : List (Transcript A)) where
  abbrev the_case : RealCase A
  the_case = case_of logs transcripts

  -- a log that has an input is one of them
  next_within : (n k : ℕ) (x : Input A) → next the_case n k ≡ Some x → n < length logs
  next_within n k x e =
      ⊎_elim
      (λ (past : length logs ≤ n). absurd (none_there (sym (ap (λ (o : Option (NodeLog A)). slice_get (inputs_in o) k) (slice_get_past logs n past)) ∙ e)))
      (λ found. slice_get_within logs n found.0 found.1)
      (none_or_some logs n)
    where
      none_there : None ≡ Some x → ⊥
      none_there e = cc

  -- a log that has a Submit is one of them
  submit_within : (n : ℕ) (key : CommandId) (x : Input A) (j : ℕ) → has_submit the_case n key x j ≡ true → n < length logs
  submit_within n key x zero h = absurd (true≢false (sym h))
  submit_within n key x (suc j) h =
      ⊎_elim (λ here. go (next the_case n j) refl here) (λ before. submit_within n key x j before) (or_cases (is_submit the_case (state_at the_case n j) key x (next the_case n j)) (has_submit the_case n key x j) h)
    where
      go : (o : Option (Input A)) → next the_case n j ≡ o → is_submit the_case (state_at the_case n j) key x o ≡ true → n < length logs
      go None e t = absurd (true≢false (sym t))
      go (Some y) e t = next_within n j y e

  module _ (some : 0 < length logs) where
    first_within : (ls : List (NodeLog A)) → 0 < length ls → first_node the_case (places_from 0 ls) < length ls
    first_within [] h = absurd (omega (arith, h))
    first_within (l ∷ ls) h = omega arith

    -- a session none of whose entries is wrong is at a node with a log
    good_within : (n : ℕ) (seen : List CommandId) (turns : Turns A) → are_good the_case n seen turns ≡ true → node_of the_case turns < length logs
    good_within n seen [] h = first_within logs some
    good_within n seen (Plain line ∷ turns) h = good_within n seen turns h
    good_within n seen (Asks line x key o ∷ turns) h =
        submit_within (the_case.home key) key x (length (the_case.logs (the_case.home key))) (and_parts _ _ (and_parts _ _ h).0).0

    good_at : (scripts : List (Option (Turns A))) (j : ℕ) (seen : List CommandId) → first_wrong the_case j seen scripts ≡ None → (i : ℕ) (turns : Turns A) → slice_get scripts i ≡ Some (Some turns) → node_of the_case turns < length logs
    good_at [] j seen right i turns e = absurd (cc)
    good_at (s ∷ ss) j seen right i turns e =
        go (not (the_case.loose j) && are_good the_case (node_of the_case (turns_of the_case s)) seen (turns_of the_case s)) refl right i e (good_at ss (suc j) (seen_after the_case seen (turns_of the_case s)))
      where
        go : (t : Bool) → (not (the_case.loose j) && are_good the_case (node_of the_case (turns_of the_case s)) seen (turns_of the_case s)) ≡ t → cond t (first_wrong the_case (suc j) (seen_after the_case seen (turns_of the_case s)) ss) (Some j) ≡ None
            → (i : ℕ) → slice_get (s ∷ ss) i ≡ Some (Some turns) → (first_wrong the_case (suc j) (seen_after the_case seen (turns_of the_case s)) ss ≡ None → (k : ℕ) (turns : Turns A) → slice_get ss k ≡ Some (Some turns) → node_of the_case turns < length logs) → node_of the_case turns < length logs
        go false e r i at later = absurd (cc)
        go true e r zero at later =
            let same : s ≡ Some turns = cc in
            subst (λ (u : Option (Turns A)). node_of the_case (turns_of the_case u) < length logs) same (good_within (node_of the_case (turns_of the_case s)) seen (turns_of the_case s) (and_parts _ _ e).1)
        go true e r (suc i) at later = later r i turns at

    pub are_seated : first_wrong the_case 0 [] the_case.scripts ≡ None → AreSeated logs transcripts
    are_seated right = record { each = λ i turns at. subst (λ (u : Option (Option (Turns A))). node_of the_case (turns_at the_case u) < length logs) (sym at) (good_at the_case.scripts 0 [] right i turns at) }

pub whatever : {T E : Type 0} (r : Result T E) (P : Type 0) → P → IfOk r (λ x. P)
whatever (Ok x) P p = p
whatever (Err e) P p = tt
