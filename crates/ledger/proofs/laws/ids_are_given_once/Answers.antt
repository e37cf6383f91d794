use Rattle.std.proofs.Common.{◌≤◌, ℕ, List, sym, subst}
use Rattle.std.specs.List.{All}
use Rattle.std.specs.List.Sorted.{IsStrictlyIncreasing}
use Rattle.ledger.specs.Changes.{joined}
use Rattle.ledger.proofs.Epochs.{same_ids, same_ids_in_file, some_maildrop}
use Rattle.ledger.proofs.laws.ids_are_given_once.Goals as goal

pub returns-clause-rising : goal.returns-clause-rising
returns-clause-rising g c = λ kept epochs. subst (λ (ids : List ℕ). IsStrictlyIncreasing ids) (sym (same_ids (some_maildrop kept) epochs)) (c.reopening_keeps_ids.ensures.rising (some_maildrop kept) (joined epochs))

pub returns-clause-above : goal.returns-clause-above
returns-clause-above g c = λ kept epochs. subst (λ (ids : List ℕ). All (λ uid. kept.next_uid ≤ uid) ids) (sym (same_ids (some_maildrop kept) epochs)) (c.reopening_keeps_ids.ensures.above (some_maildrop kept) (joined epochs))

pub returns-clause-written : goal.returns-clause-written
returns-clause-written g c = same_ids_in_file
