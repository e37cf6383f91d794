-- Epochs, one after another.
use Rattle.std.proofs.Common.{◌≡◌, ℕ, List, [], ◌∷◌, ◌++◌, Some, None, refl, sym, ap, ◌∙◌, append_assoc}
use Rattle.maildrop.specs.Kept.{KeptMaildrop}
use Rattle.maildrop.specs.Maildrop.{Maildrop, closed, ids_given_by}
use Rattle.maildrop.specs.Office.{outcome_at, outcomes_at, ids_given}
use Rattle.maildrop.specs.Reopening.{Step, Performs, after_step, after_steps, ids_given_in}
use Rattle.maildrop.specs.declared.command.Command.{Command}
use Rattle.maildrop.specs.declared.outcome.Outcome.{Outcome}
use Rattle.ledger.specs.Changes.{Epoch, performing, opening_of, kept_after, opening_after, file_of, read_file, joined, outcomes_by_epochs, outcomes_in_steps, ids_by_epochs, ids_in_file}
use Rattle.ledger.proofs.Enough.{enough, written_ids}

module _ {A : Type 0} where
  pub read_back : (kept : KeptMaildrop A) (epochs : List (Epoch A)) → read_file kept (file_of kept epochs) ≡ opening_after kept epochs
  read_back kept [] = refl
  read_back kept (e ∷ es) =
      ap (λ (k : KeptMaildrop A). read_file k (file_of (kept_after kept e) es)) (enough (opening_of kept e) e.commands)
      ∙ read_back (kept_after kept e) es

  after-append : (m : Maildrop A) (steps others : List (Step A)) → after_steps m (steps ++ others) ≡ after_steps (after_steps m steps) others
  after-append m [] others = refl
  after-append m (step ∷ steps) others = after-append (after_step m step) steps others

  pub one_maildrop : (m : Maildrop A) (epochs : List (Epoch A)) → opening_after (closed m) epochs ≡ closed (after_steps m (joined epochs))
  one_maildrop m [] = refl
  one_maildrop m (e ∷ es) =
      let opening = opening_of (closed m) e in
      one_maildrop (after_steps opening (performing e.commands)) es
      ∙ ap (λ (x : Maildrop A). closed x) (sym (after-append opening (performing e.commands) (joined es)))

  outcomes_then : (m : Maildrop A) (commands : List (Command A)) (steps : List (Step A)) →
      outcomes_at (Some m) commands ++ outcomes_in_steps (after_steps m (performing commands)) steps ≡ outcomes_in_steps m (performing commands ++ steps)
  outcomes_then m [] steps = refl
  outcomes_then m (c ∷ cs) steps = ap (λ (os : List (Outcome A)). outcome_at (Some m) c ∷ os) (outcomes_then (after_step m (Performs c)) cs steps)

  pub same_outcomes : (m : Maildrop A) (epochs : List (Epoch A)) → outcomes_by_epochs (closed m) epochs ≡ outcomes_in_steps m (joined epochs)
  same_outcomes m [] = refl
  same_outcomes m (e ∷ es) =
      let opening = opening_of (closed m) e in
      ap (λ (os : List (Outcome A)). outcomes_at (Some opening) e.commands ++ os) (same_outcomes (after_steps opening (performing e.commands)) es)
      ∙ outcomes_then opening e.commands (joined es)

  ids_then : (m : Maildrop A) (commands : List (Command A)) (steps : List (Step A)) →
      ids_given m commands ++ ids_given_in (after_steps m (performing commands)) steps ≡ ids_given_in m (performing commands ++ steps)
  ids_then m [] steps = refl
  ids_then m (c ∷ cs) steps =
      let next = after_step m (Performs c) in
      append_assoc (ids_given_by m c.op) (ids_given next cs) (ids_given_in (after_steps next (performing cs)) steps)
      ∙ ap (λ (ids : List ℕ). ids_given_by m c.op ++ ids) (ids_then next cs steps)

  pub same_ids : (m : Maildrop A) (epochs : List (Epoch A)) → ids_by_epochs (closed m) epochs ≡ ids_given_in m (joined epochs)
  same_ids m [] = refl
  same_ids m (e ∷ es) =
      let opening = opening_of (closed m) e in
      ap (λ (ids : List ℕ). ids_given opening e.commands ++ ids) (same_ids (after_steps opening (performing e.commands)) es)
      ∙ ids_then opening e.commands (joined es)

  pub same_ids_in_file : (kept : KeptMaildrop A) (epochs : List (Epoch A)) → ids_in_file (file_of kept epochs) ≡ ids_by_epochs kept epochs
  same_ids_in_file kept [] = refl
  same_ids_in_file kept (e ∷ es) =
      ap (λ (ids : List ℕ). ids ++ ids_in_file (file_of (kept_after kept e) es)) (written_ids (opening_of kept e) e.commands)
      ∙ ap (λ (ids : List ℕ). ids_given (opening_of kept e) e.commands ++ ids) (same_ids_in_file (kept_after kept e) es)

  -- A maildrop of which this is kept. Its limits don't matter here.
  abbrev pub some_maildrop : KeptMaildrop A → Maildrop A
  some_maildrop kept = record { messages = kept.messages; next_uid = kept.next_uid; holder = None; limits = record { messages = 0; octets = 0; ids = 0 }; keys = kept.keys }
