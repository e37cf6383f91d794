-- A session's entries are checked at the log of its node.
use Rattle.std.proofs.Common.{◌≡◌, ◌⊎◌, ℕ, zero, suc, ◌≤◌, length, List, [], ◌∷◌, Bool, true, false, Option, Some, None, refl, sym, ap, ◌∙◌, subst, inl, inr, ⊎_elim, cond, set, arith}
use Rattle.std.specs.Prelude.{slice_get, ◌&&◌, ◌||◌, ◌==◌, not, is_some}
use Rattle.std.proofs.lemmas.Bool.{true≢false, eq-eqb, eqb-true}
use Rattle.std.proofs.lemmas.Option.{slice_get_past}
use Rattle.std.proofs.lemmas.List.{length-set}
use Rattle.maildrop.specs.CommandId.{CommandId}
use Rattle.maildrop.specs.Ticket.{Ticket}
use Rattle.maildrop.specs.declared.outcome.Outcome.{Outcome}
use Rattle.node.specs.Nodes.{NodeValue}
use Rattle.node.specs.declared.input.Input.{Input}
use Rattle.node.specs.declared.log.NodeLog.{NodeLog}
use Rattle.session.specs.declared.transcript.Asked.{Asked}
use Rattle.session.specs.declared.transcript.Transcript.{Transcript}
use Rattle.audit.specs.Case.{next, after_next, state_at, turns_of}
use Rattle.audit.specs.Checks.{was_named, IsLeft, AreLeft, submit_of, is_answer, is_right, are_right, named_after, node_by, first_node as node_asked, end_state}
use Rattle.audit.specs.Names.{key_by, entry_key, with_key}
use Rattle.audit.specs.Numbers.{front, is_id, submits_it, submitted_by}
use Rattle.audit.specs.Records.{is_fit, place_of, inputs_in, begun_at, RealCase, case_of}
use Rattle.audit.specs.Replays.{after, key_of, answer, same_submit}
use Rattle.audit.specs.Turns.{script_of}
use Rattle.audit.specs.Wrong.{is_key, is_submit, has_submit, is_outcome, is_seen, is_good, are_good, seen_after, node_of}
use Rattle.audit.proofs.Numbering.{take_got, take_none}
use Rattle.audit.proofs.RunNodes.{placed_number}
use Rattle.audit.proofs.Sessions.{less_named, entry_good, entries_good, node_in, good_script, seen_script, node_script}

and_no : (x s y : Bool) → (x && (s && (false && y))) ≡ false
and_no true true y = refl
and_no true false y = refl
and_no false s y = refl

and_none : (x : Bool) → (x && false) ≡ false
and_none true = refl
and_none false = refl

is_some_cond : {X : Type 0} (t : Bool) (x : X) → is_some (cond t (Some x) None) ≡ t
is_some_cond true x = refl
is_some_cond false x = refl

-- what stands in a list of which one item was set
pub set_got : {X : Type 0} (xs : List X) (i j : ℕ) (y x : X) → slice_get (set xs i y) j ≡ Some x → ((i ≡ j) × (y ≡ x)) ⊎ ((i ≡ j → ⊥) × (slice_get xs j ≡ Some x))
set_got [] i j y x e = absurd (cc)
set_got (z ∷ zs) zero zero y x e = inl (refl, cc)
set_got (z ∷ zs) zero (suc j) y x e = inr (λ h. absurd (omega (arith, h)), e)
set_got (z ∷ zs) (suc i) zero y x e = inr (λ h. absurd (omega (arith, h)), e)
set_got (z ∷ zs) (suc i) (suc j) y x e = ⊎_elim (λ both. inl (ap suc both.0, both.1)) (λ other. inr (λ h. other.0 (omega (arith, h)), other.1)) (set_got zs i j y x e)

module _ {A : Type 0} (logs : List (NodeLog A)) (transcripts : List (Transcript A)) where
  abbrev real : RealCase A
  real = case_of logs transcripts

  same_outcomes : (told found : Option (Outcome A)) → is_outcome real told found ≡ is_answer told found
  same_outcomes None found = refl
  same_outcomes (Some o) None = refl
  same_outcomes (Some o) (Some v) = refl

  module _ (n : ℕ) (log : NodeLog A) (at : slice_get logs n ≡ Some log) where
    -- whether the log has a node
    abbrev has_node : Bool
    has_node = is_fit log.opening && place_of log.opening.me logs == n

    next_is : (j : ℕ) → next real n j ≡ slice_get log.inputs j
    next_is j = ap (λ o. slice_get (inputs_in o) j) at

    -- the state is that of the first inputs
    state_front : (j : ℕ) → state_at real n j ≡ cond has_node (Some (front log j)) None
    state_front zero = ap (begun_at logs n) at
    state_front (suc j) =
        ap (after_next real (state_at real n j)) (next_is j)
        ∙ ap (λ s. after_next real s (slice_get log.inputs j)) (state_front j)
        ∙ go (slice_get log.inputs j) refl has_node
      where
        go : (o : Option (Input A)) → slice_get log.inputs j ≡ o → (t : Bool) → after_next real (cond t (Some (front log j)) None) o ≡ cond t (Some (front log (suc j))) None
        go None e true = ap (λ is. Some (record { opening = log.opening; inputs = is })) (sym (take_none log.inputs j e))
        go (Some x) e true = ap (λ is. Some (record { opening = log.opening; inputs = is })) (sym (take_got log.inputs j x e))
        go None e false = refl
        go (Some x) e false = refl

    one_submit : (id : CommandId) (x : Input A) (before : NodeLog A) (o : Option (Input A)) → is_submit real (Some before) id x o ≡ submits_it before id x o
    one_submit id x before None = refl
    one_submit id x before (Some y) =
        go (key_of (Some before) y)
      where
        go : (key : Option CommandId) → (is_key real id key && same_submit y x) ≡ (is_id id key && same_submit y x)
        go None = refl
        go (Some key) = refl

    no_submit : (id : CommandId) (x : Input A) (o : Option (Input A)) → is_submit real None id x o ≡ false
    no_submit id x None = refl
    no_submit id x (Some y) = refl

    submit_is : (id : CommandId) (x : Input A) (j : ℕ) → has_submit real n id x j ≡ (has_node && submitted_by log id x j)
    submit_is id x zero = sym (and_none has_node)
    submit_is id x (suc j) =
        ap (λ s. is_submit real s id x (next real n j) || has_submit real n id x j) (state_front j)
        ∙ ap (λ o. is_submit real (cond has_node (Some (front log j)) None) id x o || has_submit real n id x j) (next_is j)
        ∙ ap (λ t. is_submit real (cond has_node (Some (front log j)) None) id x (slice_get log.inputs j) || t) (submit_is id x j)
        ∙ go has_node
      where
        go : (t : Bool) → (is_submit real (cond t (Some (front log j)) None) id x (slice_get log.inputs j) || (t && submitted_by log id x j)) ≡ (t && (submits_it (front log j) id x (slice_get log.inputs j) || submitted_by log id x j))
        go true = ap (λ t. t || submitted_by log id x j) (one_submit id x (front log j) (slice_get log.inputs j))
        go false = ap (λ t. t || false) (no_submit id x (slice_get log.inputs j))

    end_is : end_state logs transcripts n ≡ cond has_node (Some (front log (length ((case_of logs transcripts).logs n)))) None
    end_is = state_front (length ((case_of logs transcripts).logs n))

    all_submits : (id : CommandId) (x : Input A) → has_submit real n id x (length (real.logs n)) ≡ (is_some (end_state logs transcripts n) && submitted_by log id x (length log.inputs))
    all_submits id x =
        submit_is id x (length (real.logs n))
        ∙ ap (λ t. t && submitted_by log id x (length (real.logs n))) (sym (ap is_some end_is ∙ is_some_cond has_node (front log (length ((case_of logs transcripts).logs n)))))
        ∙ ap (λ o. is_some (end_state logs transcripts n) && submitted_by log id x (length (inputs_in o))) at

    abbrev good_at : List CommandId → Asked A → CommandId → ℕ → Bool
    good_at seen entry id home = has_submit real home id (submit_of entry) (length (real.logs home)) && (not (is_seen real seen id) && (home == n && is_outcome real entry.outcome (answer (state_at real home (length (real.logs home))) id)))

    module _ (own : place_of log.opening.me logs ≡ n) where
      right_is : (seen : List CommandId) (entry : Asked A) (id : CommandId) → is_good real n seen (submit_of entry) id entry.outcome ≡ is_right log (end_state logs transcripts n) seen entry (Some id)
      right_is seen entry id =
          go (place_of id.ticket.node logs == n) refl
        where
          go : (t : Bool) → (place_of id.ticket.node logs == n) ≡ t → good_at seen entry id (place_of id.ticket.node logs) ≡ is_right log (end_state logs transcripts n) seen entry (Some id)
          go true e =
              let same = eqb-true (place_of id.ticket.node logs) n e in
              let mine : log.opening.me ≡ id.ticket.node = placed_number logs id.ticket.node log (ap (slice_get logs) same ∙ at) in
              ap (good_at seen entry id) same
              ∙ ap (λ t. has_submit real n id (submit_of entry) (length (real.logs n)) && (not (was_named seen id) && (t && is_outcome real entry.outcome (answer (end_state logs transcripts n) id)))) (eq-eqb n n refl ∙ sym (eq-eqb id.ticket.node log.opening.me (sym mine)))
              ∙ ap (λ t. t && (not (was_named seen id) && ((id.ticket.node == log.opening.me) && is_outcome real entry.outcome (answer (end_state logs transcripts n) id)))) (all_submits id (submit_of entry))
              ∙ ap (λ t. (is_some (end_state logs transcripts n) && submitted_by log id (submit_of entry) (length log.inputs)) && (not (was_named seen id) && ((id.ticket.node == log.opening.me) && t))) (same_outcomes entry.outcome (answer (end_state logs transcripts n) id))
          go false e =
              ap (λ t. has_submit real (place_of id.ticket.node logs) id (submit_of entry) (length (real.logs (place_of id.ticket.node logs))) && (not (was_named seen id) && (t && is_outcome real entry.outcome (answer (end_state logs transcripts (place_of id.ticket.node logs)) id)))) e
              ∙ and_no (has_submit real (place_of id.ticket.node logs) id (submit_of entry) (length (real.logs (place_of id.ticket.node logs)))) (not (was_named seen id)) (is_outcome real entry.outcome (answer (end_state logs transcripts (place_of id.ticket.node logs)) id))
              ∙ sym (ap (λ t. (is_some (end_state logs transcripts n) && submitted_by log id (submit_of entry) (length log.inputs)) && (not (was_named seen id) && (t && is_answer entry.outcome (answer (end_state logs transcripts n) id)))) (other (id.ticket.node == log.opening.me) refl)
              ∙ and_no (is_some (end_state logs transcripts n) && submitted_by log id (submit_of entry) (length log.inputs)) (not (was_named seen id)) (is_answer entry.outcome (answer (end_state logs transcripts n) id)))
            where
              other : (t : Bool) → (id.ticket.node == log.opening.me) ≡ t → t ≡ false
              other false h = refl
              other true h = absurd (true≢false (sym (eq-eqb (place_of id.ticket.node logs) n (ap (λ k. place_of k logs) (eqb-true id.ticket.node log.opening.me h) ∙ own)) ∙ e))

      pub entries_right : (seen : List CommandId) (entries : List (Asked A)) → entries_good logs transcripts n seen entries ≡ are_right log (end_state logs transcripts n) seen entries
      entries_right seen [] = refl
      entries_right seen (entry ∷ entries) =
          ap (λ t. entry_good logs transcripts n seen entry entry.ticket && t) (entries_right (with_key (entry_key entry) seen) entries)
          ∙ ap (λ t. t && are_right log (end_state logs transcripts n) (with_key (entry_key entry) seen) entries) (go entry.ticket)
        where
          go : (ticket : Option Ticket) → entry_good logs transcripts n seen entry ticket ≡ is_right log (end_state logs transcripts n) seen entry (key_by entry.name ticket)
          go None = refl
          go (Some ticket) = right_is seen entry (record { user = entry.name; ticket = ticket })

  -- without a ticket nothing is asked
  pub none_asked : (n : ℕ) (seen : List CommandId) (entries : List (Asked A)) → node_asked entries ≡ None → (entries_good logs transcripts n seen entries ≡ true) × (named_after seen entries ≡ seen)
  none_asked n seen [] e = (refl, refl)
  none_asked n seen (entry ∷ entries) e =
      go entry.ticket e (none_asked n seen entries)
    where
      go : (ticket : Option Ticket) → node_by ticket (node_asked entries) ≡ None → (node_asked entries ≡ None → (entries_good logs transcripts n seen entries ≡ true) × (named_after seen entries ≡ seen))
          → ((entry_good logs transcripts n seen entry ticket && entries_good logs transcripts n (with_key (key_by entry.name ticket) seen) entries) ≡ true) × (named_after (with_key (key_by entry.name ticket) seen) entries ≡ seen)
      go None e ih = ih e
      go (Some ticket) e ih = absurd (cc)

  -- what a node without a log was asked is wrong
  pub stranger : (n : ℕ) (seen : List CommandId) (entries : List (Asked A)) (node : ℕ) → node_asked entries ≡ Some node → slice_get logs (place_of node logs) ≡ None → entries_good logs transcripts n seen entries ≡ false
  stranger n seen [] node e missing = absurd (cc)
  stranger n seen (entry ∷ entries) node e missing =
      go entry.ticket e (λ seen e. stranger n seen entries node e missing)
    where
      go : (ticket : Option Ticket) → node_by ticket (node_asked entries) ≡ Some node → ((seen : List CommandId) → node_asked entries ≡ Some node → entries_good logs transcripts n seen entries ≡ false) → (entry_good logs transcripts n seen entry ticket && entries_good logs transcripts n (with_key (key_by entry.name ticket) seen) entries) ≡ false
      go None e ih = ih seen e
      go (Some ticket) e ih =
          let same : ticket.node ≡ node = cc in
          let none : slice_get logs (place_of ticket.node logs) ≡ None = ap (λ k. slice_get logs (place_of k logs)) same ∙ missing in
          ap (λ t. (t && (not (was_named seen (record { user = entry.name; ticket = ticket })) && ((place_of ticket.node logs == n) && is_outcome real entry.outcome (answer (end_state logs transcripts (place_of ticket.node logs)) (record { user = entry.name; ticket = ticket }))))) && entries_good logs transcripts n (record { user = entry.name; ticket = ticket } ∷ seen) entries)
          (ap (λ o. has_submit real (place_of ticket.node logs) (record { user = entry.name; ticket = ticket }) (submit_of entry) (length (inputs_in o))) none)

  -- what is said of a session, whose commands come after those that were named
  abbrev Verdict : List CommandId → Transcript A → Bool → List (Option (NodeValue A)) → Type 0
  Verdict named t result outcomes =
      (result ≡ are_good real (node_of real (turns_of real (script_of t))) named (turns_of real (script_of t)))
      × (result ≡ true → AreLeft logs transcripts (seen_after real named (turns_of real (script_of t))) outcomes)

  pub nothing_asked : (t : Transcript A) (named : List CommandId) (entries : List (Asked A)) (outcomes : List (Option (NodeValue A))) → entries ≡ t.asked → node_asked entries ≡ None → AreLeft logs transcripts named outcomes → Verdict named t true outcomes
  nothing_asked t named entries outcomes is none left =
      let n = node_of real (turns_of real (script_of t)) in
      let its = none_asked n named t.asked (ap node_asked (sym is) ∙ none) in
      (sym (good_script logs transcripts n named t ∙ its.0), λ e. subst (λ seen. AreLeft logs transcripts seen outcomes) (sym (seen_script logs transcripts named t ∙ its.1)) left)

  pub asked_nowhere : (t : Transcript A) (named : List CommandId) (entries : List (Asked A)) (outcomes : List (Option (NodeValue A))) (node home : ℕ) → entries ≡ t.asked → node_asked entries ≡ Some node → home ≡ place_of node logs → length logs ≤ home → Verdict named t false outcomes
  asked_nowhere t named entries outcomes node home is its at past =
      let n = node_of real (turns_of real (script_of t)) in
      (sym (good_script logs transcripts n named t ∙ stranger n named t.asked node (ap node_asked (sym is) ∙ its) (ap (slice_get logs) (sym at) ∙ slice_get_past logs home past)), λ e. absurd (cc))

  pub asked_here : (t : Transcript A) (named : List CommandId) (entries : List (Asked A)) (old new : List (Option (NodeValue A))) (node home : ℕ) (log : NodeLog A) (after : Option (NodeValue A)) (result : Bool) → entries ≡ t.asked → node_asked entries ≡ Some node → home ≡ place_of node logs → slice_get logs home ≡ Some log
      → AreLeft logs transcripts named old → new ≡ set old home after
      → (result ≡ are_right log (end_state logs transcripts home) named entries) × (result ≡ true → IsLeft (end_state logs transcripts home) (named_after named entries) after) → Verdict named t result new
  asked_here t named entries old new node home log after result is its at there left set_is found =
      (good, λ e. subst (λ seen. AreLeft logs transcripts seen new) (sym (seen_script logs transcripts named t ∙ ap (named_after named) (sym is))) (subst (AreLeft logs transcripts (named_after named entries)) (sym set_is) (all_left (found.1 e))))
    where
      mine : log.opening.me ≡ node
      mine = placed_number logs node log (ap (slice_get logs) (sym at) ∙ there)

      seat_is : node_of real (turns_of real (script_of t)) ≡ home
      seat_is = node_script logs transcripts t ∙ ap (node_in logs transcripts) (ap node_asked (sym is) ∙ its) ∙ sym at

      good : result ≡ are_good real (node_of real (turns_of real (script_of t))) named (turns_of real (script_of t))
      good =
          found.0
          ∙ sym (entries_right home log there (ap (λ k. place_of k logs) mine ∙ sym at) named entries)
          ∙ ap (entries_good logs transcripts home named) is
          ∙ sym (good_script logs transcripts home named t)
          ∙ ap (λ n. are_good real n named (turns_of real (script_of t))) (sym seat_is)

      still : (n : ℕ) (its : Option (NodeValue A)) → IsLeft (end_state logs transcripts n) named its → IsLeft (end_state logs transcripts n) (named_after named entries) its
      still n its h = record { begun = h.begun; left = λ id none. h.left id (less_named id named entries none) }

      all_left : IsLeft (end_state logs transcripts home) (named_after named entries) after → AreLeft logs transcripts (named_after named entries) (set old home after)
      all_left here =
          record {
            count = length-set old home after ∙ left.count;
            each = λ n its e.
                ⊎_elim
                (λ both. subst (λ k. IsLeft (end_state logs transcripts k) (named_after named entries) its) both.0 (subst (IsLeft (end_state logs transcripts home) (named_after named entries)) both.1 here))
                (λ other. still n its (left.each n its other.1))
                (set_got old home n after its e);
          }
