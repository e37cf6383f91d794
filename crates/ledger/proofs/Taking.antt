-- What is added of each user's commands is what is written of them.
use Rattle.std.proofs.Common.{◌≡◌, ℕ, Bool, true, false, cond, List, [], ◌∷◌, ◌++◌, map, Option, Some, None, refl, ap, subst, ◌∙◌}
use Rattle.std.specs.Prelude.{filter, option_map}
use Rattle.std.specs.Option.{option_to_list}
use Rattle.std.specs.Str.{bytes_eq}
use Rattle.std.proofs.lemmas.List.{map-append}
use Rattle.std.proofs.lemmas.List.Elements.{filter-append}
use Rattle.std.proofs.lemmas.Slice.Eq.{bytes_eq-Decides}
use Rattle.maildrop.specs.Changes.{change_at, change_in}
use Rattle.maildrop.specs.Kept.{nothing_kept}
use Rattle.maildrop.specs.Limits.{AreLimits}
use Rattle.maildrop.specs.Maildrop.{Maildrop, closed}
use Rattle.maildrop.specs.Reopening.{after_steps}
use Rattle.maildrop.specs.Office.{User, maildrop_of, maildrop_after, users_after, commands_of}
use Rattle.maildrop.specs.declared.change.Change.{Change}
use Rattle.maildrop.specs.declared.command.Command.{Command}
use Rattle.maildrop.proofs.Isolation.{maildrop_of-own, maildrop_of-other}
use Rattle.ledger.specs.declared.entry.Entry.{Entry}
use Rattle.ledger.specs.Changes.{performing, written_of, snapshot_of}
use Rattle.ledger.specs.Coming.{IsSound, taken_by}
use Rattle.ledger.specs.Payloads.{entry}
use Rattle.ledger.specs.Taking.{Decided, entry_in_slot, entries_of, commands_in, changes_for, written_at}
use Rattle.ledger.proofs.Coming.{segment_taken}

module _ {A : Type 0} where
  changes_for-append : (name : List ℕ) (xs ys : List (Entry A)) → changes_for name (xs ++ ys) ≡ changes_for name xs ++ changes_for name ys
  changes_for-append name xs ys =
      let is_own : Entry A → Bool = λ e. bytes_eq e.name name in
      ap (λ (es : List (Entry A)). map (λ e. e.change) es) (filter-append is_own xs ys) ∙ map-append (λ (e : Entry A). e.change) (filter is_own xs) (filter is_own ys)

  -- of one command
  one_for : (name : List ℕ) (slot : ℕ) (user : List ℕ) (change : Option (Change A)) (own : Bool) → bytes_eq user name ≡ own
      → changes_for name (option_to_list (option_map (λ change. entry slot user change) change)) ≡ cond own (option_to_list change) []
  one_for name slot user None true is = refl
  one_for name slot user None false is = refl
  one_for name slot user (Some change) true is = rw is refl
  one_for name slot user (Some change) false is = rw is refl

  written-none : (maildrop : Option (Maildrop A)) → [] ≡ written_at maildrop []
  written-none None = refl
  written-none (Some m) = refl

  written-first : (maildrop : Option (Maildrop A)) (c : Command A) (cs : List (Command A)) → option_to_list (change_at maildrop c) ++ written_at (maildrop_after maildrop c) cs ≡ written_at maildrop (c ∷ cs)
  written-first None c cs = refl
  written-first (Some m) c cs = refl

  next : (name : List ℕ) (users : List (User A)) (d : Decided A) (ds : List (Decided A)) (own : Bool) → bytes_eq d.command.user name ≡ own
      → cond own (option_to_list (change_in users d.command)) [] ++ written_at (maildrop_of name (users_after users d.command)) (commands_of name (commands_in ds))
      ≡ written_at (maildrop_of name users) (cond own (d.command ∷ commands_of name (commands_in ds)) (commands_of name (commands_in ds)))
  next name users d ds true is =
      let same : d.command.user ≡ name = (bytes_eq-Decides d.command.user name).0 is in
      let own = maildrop_of-own users d.command in
      subst (λ (n : List ℕ). option_to_list (change_in users d.command) ++ written_at (maildrop_of n (users_after users d.command)) (commands_of name (commands_in ds)) ≡ written_at (maildrop_of n users) (d.command ∷ commands_of name (commands_in ds))) same
      (rw own (written-first (maildrop_of d.command.user users) d.command (commands_of name (commands_in ds))))
  next name users d ds false is = ap (λ (m : Option (Maildrop A)). written_at m (commands_of name (commands_in ds))) (maildrop_of-other name users d.command is)

  pub added : (name : List ℕ) (users : List (User A)) (ds : List (Decided A)) → changes_for name (entries_of users ds) ≡ written_at (maildrop_of name users) (commands_of name (commands_in ds))
  added name users [] = written-none (maildrop_of name users)
  added name users (d ∷ ds) =
      let first = option_to_list (entry_in_slot users d.slot d.command) in
      let later = entries_of (users_after users d.command) ds in
      changes_for-append name first later
      ∙ ap (λ (changes : List (Change A)). changes ++ changes_for name later) (one_for name d.slot d.command.user (change_in users d.command) (bytes_eq d.command.user name) refl)
      ∙ ap (λ (changes : List (Change A)). cond (bytes_eq d.command.user name) (option_to_list (change_in users d.command)) [] ++ changes) (added name (users_after users d.command) ds)
      ∙ next name users d ds (bytes_eq d.command.user name) refl

  -- what a reader has of one user

  pub segment_read : (name : List ℕ) (users : List (User A)) (ds : List (Decided A)) (m : Maildrop A) → maildrop_of name users ≡ Some m → AreLimits m.limits → IsSound (closed m)
      → taken_by nothing_kept (snapshot_of (closed m) ++ changes_for name (entries_of users ds)) ≡ closed (after_steps m (performing (commands_of name (commands_in ds))))
  segment_read name users ds m is limits sound =
      let own = commands_of name (commands_in ds) in
      let written : changes_for name (entries_of users ds) ≡ written_of m own = added name users ds ∙ ap (λ (maildrop : Option (Maildrop A)). written_at maildrop own) is in
      ap (λ (changes : List (Change A)). taken_by nothing_kept (snapshot_of (closed m) ++ changes)) written ∙ segment_taken m own limits sound
