-- What a service opens with if it opens with what a node of another one left.
use Rattle.std.proofs.Common.{◌≡◌, ℕ, Bool, true, false, List, [], ◌∷◌, ◌++◌, Some, None, refl, sym, ap, ◌∙◌, subst, cond, map}
use Rattle.std.specs.Prelude.{is_some, option_map, unwrap_or}
use Rattle.std.specs.Str.{bytes_eq}
use Rattle.std.specs.List.{concat}
use Rattle.std.specs.Map.{lookup}
use Rattle.std.specs.Cmp.Lexicographic.{nat_list_eq_equiv}
use Rattle.std.proofs.lemmas.List.{append-nil}
use Rattle.std.proofs.lemmas.Slice.Eq.{bytes_eq-Decides}
use Rattle.maildrop.specs.Kept.{KeptTable, kept_for, nothing_kept}
use Rattle.maildrop.specs.Limits.{Limits}
use Rattle.maildrop.specs.Maildrop.{Maildrop, opened, closed}
use Rattle.maildrop.specs.Office.{User, opened_user, kept_of, maildrop_of, maildrop_after_all}
use Rattle.maildrop.specs.Reopening.{Step, Performs, Reopens, after_step, after_steps}
use Rattle.maildrop.specs.declared.command.Command.{Command}
use Rattle.maildrop.proofs.Steps.{steps_of_commands}
use Rattle.maildrop.proofs.Users.{own_stay, others_come}
use Rattle.apop.specs.Accounts.{Account, name_of}
use Rattle.apop.specs.Login.{account_named}
use Rattle.node.specs.Outcomes.{first_maildrop, own_of}
use Rattle.node.specs.Replay.{replayed}
use Rattle.node.specs.declared.log.Opening.{Opening}
use Rattle.node.proofs.OwnOutcomes.{left_maildrop}
use Rattle.session.specs.Alone.{replies_alone}
use Rattle.session.specs.Prefix.{IsPrefix}
use Rattle.runs.specs.Clients.{Client, client_of}
use Rattle.runs.specs.Lives.{Epoch, own_performed, IsNext, steps_in, first_of, IsLife, steps_of, lived}
use Rattle.runs.specs.Messages.{log_of, network_of}
use Rattle.runs.specs.Projection.{own_commands, IsUserOf}
use Rattle.runs.specs.Runs.{order_of}
use Rattle.runs.specs.Services.{Happening, opening_of, run_of}
use Rattle.runs.specs.declared.config.Config.{Config}
use Rattle.runs.proofs.NodeRuns.{every_run}
use Rattle.runs.proofs.OwnOutcomes.{own_append}
use Rattle.runs.proofs.Projected.{every_projected}
use Rattle.runs.proofs.ServiceRuns.{AreOfRun}
use Rattle.runs.proofs.Serving.{every_service}
use Rattle.runs.proofs.Theorems.{performed_prefix}

module _ {A : Type 0} where
  -- what is kept under a name is what the user of that name left
  kept_found : (name : List ℕ) (users : List (User A)) → lookup (bytes_eq name) (kept_of users) ≡ option_map closed (maildrop_of name users)
  kept_found name [] = refl
  kept_found name (u ∷ us) =
      go (bytes_eq name u.name) (bytes_eq u.name name) (nat_list_eq_equiv.symm name u.name) (kept_found name us)
    where
      go : (s t : Bool) → s ≡ t → lookup (bytes_eq name) (kept_of us) ≡ option_map closed (maildrop_of name us) →
          cond s (Some (closed u.maildrop)) (lookup (bytes_eq name) (kept_of us)) ≡ option_map closed (cond t (Some u.maildrop) (maildrop_of name us))
      go true true e h = refl
      go false false e h = h
      go true false e h = absurd (cc)
      go false true e h = absurd (cc)

  -- a user opens with what is kept under the name, if there is an account
  opened_maildrop : (limits : Limits) (keys : ℕ) (kept : KeptTable A) (accounts : List Account) (name : List ℕ) → is_some (account_named accounts name) ≡ true →
      maildrop_of name (map (opened_user limits keys kept) (map name_of accounts)) ≡ Some (opened limits keys (kept_for name kept))
  opened_maildrop limits keys kept [] name known = absurd (cc)
  opened_maildrop limits keys kept (a ∷ accounts) name known =
      go (bytes_eq a.name name) refl known (opened_maildrop limits keys kept accounts name)
    where
      go : (t : Bool) → bytes_eq a.name name ≡ t → is_some (cond t (Some a) (account_named accounts name)) ≡ true →
          (is_some (account_named accounts name) ≡ true → maildrop_of name (map (opened_user limits keys kept) (map name_of accounts)) ≡ Some (opened limits keys (kept_for name kept))) →
          cond t (Some (opened limits keys (kept_for a.name kept))) (maildrop_of name (map (opened_user limits keys kept) (map name_of accounts))) ≡ Some (opened limits keys (kept_for name kept))
      go true e k h = ap (λ n. Some (opened limits keys (kept_for n kept))) ((bytes_eq-Decides a.name name).0 e)
      go false e k h = h k

  no_maildrop : (limits : Limits) (keys : ℕ) (kept : KeptTable A) (accounts : List Account) (name : List ℕ) → is_some (account_named accounts name) ≡ false →
      maildrop_of name (map (opened_user limits keys kept) (map name_of accounts)) ≡ None
  no_maildrop limits keys kept [] name none = refl
  no_maildrop limits keys kept (a ∷ accounts) name none =
      go (bytes_eq a.name name) none (no_maildrop limits keys kept accounts name)
    where
      go : (t : Bool) → is_some (cond t (Some a) (account_named accounts name)) ≡ false →
          (is_some (account_named accounts name) ≡ false → maildrop_of name (map (opened_user limits keys kept) (map name_of accounts)) ≡ None) →
          cond t (Some (opened limits keys (kept_for a.name kept))) (maildrop_of name (map (opened_user limits keys kept) (map name_of accounts))) ≡ None
      go true k h = absurd (cc)
      go false k h = h k

  -- who has no maildrop gets none
  none_after : (commands : List (Command A)) → maildrop_after_all None commands ≡ None
  none_after [] = refl
  none_after (c ∷ cs) = none_after cs

  steps_then : (maildrop : Maildrop A) (steps more : List (Step A)) → after_steps maildrop (steps ++ more) ≡ after_steps (after_steps maildrop steps) more
  steps_then maildrop [] more = refl
  steps_then maildrop (step ∷ steps) more = steps_then (after_step maildrop step) steps more

  module _ (epoch : Epoch A) (next : Config A) (user : List ℕ) where
    run : AreOfRun epoch.config (run_of epoch.config epoch.happenings)
    run = (every_service epoch.config epoch.happenings).nodes

    -- what the node has of the user is what the user's own commands made of the maildrop as the service opened it
    left : IsNext epoch next → lookup (bytes_eq user) (kept_of (replayed epoch.log).replica.machine)
        ≡ option_map closed (maildrop_after_all (first_maildrop (opening_of epoch.config) user) (own_performed epoch.log user))
    left is =
        let at : log_of epoch.node (network_of (opening_of epoch.config) run.0).logs ≡ Some epoch.log = ap (λ n. log_of epoch.node n.logs) (sym run.1) ∙ is.its_log in
        let began = (every_run (opening_of epoch.config) run.0).begins epoch.node epoch.log at in
        kept_found user (replayed epoch.log).replica.machine
        ∙ ap (option_map closed) (left_maildrop epoch.log user)
        ∙ ap (λ (o : Opening A). option_map closed (maildrop_after_all (first_maildrop o user) (own_performed epoch.log user))) began

    -- what is handed on of a user who has a maildrop is what the user's own commands make of it
    pub goes_on : (maildrop : Maildrop A) → IsNext epoch next → first_maildrop (opening_of epoch.config) user ≡ Some maildrop
        → kept_for user next.kept ≡ closed (after_steps maildrop (map (λ c. Performs c) (own_performed epoch.log user)))
    goes_on maildrop is begins =
        let found : lookup (bytes_eq user) (kept_of (replayed epoch.log).replica.machine) ≡ Some (closed (after_steps maildrop (map (λ c. Performs c) (own_performed epoch.log user)))) =
        left is
        ∙ ap (λ m. option_map closed (maildrop_after_all m (own_performed epoch.log user))) begins
        ∙ ap (option_map closed) (steps_of_commands maildrop (own_performed epoch.log user)) in
        ap (kept_for user) is.opens
        ∙ own_stay (kept_of (replayed epoch.log).replica.machine) epoch.config.kept user (ap is_some found)
        ∙ ap (λ o. unwrap_or o nothing_kept) found

    -- what was kept of a user without an account stays
    pub stays_kept : IsNext epoch next → is_some (account_named epoch.config.accounts user) ≡ false → kept_for user next.kept ≡ kept_for user epoch.config.kept
    stays_kept is none =
        let found : lookup (bytes_eq user) (kept_of (replayed epoch.log).replica.machine) ≡ None =
        left is
        ∙ ap (λ m. option_map closed (maildrop_after_all m (own_performed epoch.log user))) (no_maildrop epoch.config.limits epoch.config.keys epoch.config.kept epoch.config.accounts user none)
        ∙ ap (option_map closed) (none_after (own_performed epoch.log user)) in
        ap (kept_for user) is.opens
        ∙ others_come (kept_of (replayed epoch.log).replica.machine) epoch.config.kept user (ap is_some found)

    -- so what is handed on of a user is what the steps of the service make of what was kept
    handed : (maildrop : Maildrop A) → IsNext epoch next → closed maildrop ≡ kept_for user epoch.config.kept
        → kept_for user next.kept ≡ closed (after_steps maildrop (steps_in epoch.config epoch.log user))
    handed maildrop is before = go (is_some (account_named epoch.config.accounts user)) refl
      where
        go : (t : Bool) → is_some (account_named epoch.config.accounts user) ≡ t → kept_for user next.kept
            ≡ closed (after_steps maildrop (cond t (Reopens epoch.config.limits epoch.config.keys ∷ map (λ c. Performs c) (own_performed epoch.log user)) []))
        go true known =
            goes_on (opened epoch.config.limits epoch.config.keys (closed maildrop)) is
            (opened_maildrop epoch.config.limits epoch.config.keys epoch.config.kept epoch.config.accounts user known
            ∙ ap (λ kept. Some (opened epoch.config.limits epoch.config.keys kept)) (sym before))
        go false none = stays_kept is none ∙ sym before

    pub own_front : IsNext epoch next → IsPrefix (own_performed epoch.log user) (own_commands epoch.config (run_of epoch.config epoch.happenings) user)
    own_front is =
        let at : log_of epoch.node (network_of (opening_of epoch.config) run.0).logs ≡ Some epoch.log = ap (λ n. log_of epoch.node n.logs) (sym run.1) ∙ is.its_log in
        let front : IsPrefix (replayed epoch.log).replica.performed (order_of (opening_of epoch.config) run.0) = performed_prefix (opening_of epoch.config) run.0 epoch.node epoch.log at in
        subst (λ n. IsPrefix (own_performed epoch.log user) (own_commands epoch.config (record { network = n; clients = [] }) user)) (sym run.1)
        (own_of user front.0, sym (own_append user (replayed epoch.log).replica.performed front.0) ∙ ap (own_of user) front.1)

  -- what is kept of a user at the end of a life
  pub kept_at_last : (epochs : List (Epoch A)) (last : Config A) (user : List ℕ) (maildrop : Maildrop A) → IsLife epochs last
      → closed maildrop ≡ kept_for user (first_of epochs last).kept → kept_for user last.kept ≡ closed (after_steps maildrop (steps_of epochs user))
  kept_at_last [] last user maildrop life before = sym before
  kept_at_last (epoch ∷ epochs) last user maildrop life before =
      let then : closed (after_steps maildrop (steps_in epoch.config epoch.log user)) ≡ kept_for user (first_of epochs last).kept =
      sym (handed epoch (first_of epochs last) user maildrop life.0 before) in
      kept_at_last epochs last user (after_steps maildrop (steps_in epoch.config epoch.log user)) life.1 then
      ∙ ap closed (sym (steps_then maildrop (steps_in epoch.config epoch.log user) (steps_of epochs user)))

  pub opens_at_last : (epochs : List (Epoch A)) (last : Config A) (user : List ℕ) (maildrop : Maildrop A) → IsLife epochs last
      → closed maildrop ≡ kept_for user (first_of epochs last).kept → is_some (account_named last.accounts user) ≡ true
      → first_maildrop (opening_of last) user ≡ Some (lived maildrop epochs user last)
  opens_at_last epochs last user maildrop life before known =
      opened_maildrop last.limits last.keys last.kept last.accounts user known
      ∙ ap (λ kept. Some (opened last.limits last.keys kept)) (kept_at_last epochs last user maildrop life before)
      ∙ ap Some (sym (steps_then maildrop (steps_of epochs user) (Reopens last.limits last.keys ∷ [])))

  pub opens_next : (epoch : Epoch A) (next : Config A) (user : List ℕ) (maildrop : Maildrop A) → IsNext epoch next
      → first_maildrop (opening_of epoch.config) user ≡ Some maildrop → is_some (account_named next.accounts user) ≡ true
      → first_maildrop (opening_of next) user ≡ Some (after_steps maildrop (map (λ c. Performs c) (own_performed epoch.log user) ++ Reopens next.limits next.keys ∷ []))
  opens_next epoch next user maildrop is begins known =
      opened_maildrop next.limits next.keys next.kept next.accounts user known
      ∙ ap (λ kept. Some (opened next.limits next.keys kept)) (goes_on epoch next user maildrop is begins)
      ∙ ap Some (sym (steps_then maildrop (map (λ c. Performs c) (own_performed epoch.log user)) (Reopens next.limits next.keys ∷ [])))

  -- what a session of the last service is told
  pub told_at_last : (epochs : List (Epoch A)) (last : Config A) (user : List ℕ) (maildrop : Maildrop A) → IsLife epochs last
      → closed maildrop ≡ kept_for user (first_of epochs last).kept → is_some (account_named last.accounts user) ≡ true
      → (happenings : List (Happening A)) (session : ℕ) (c : Client A) → client_of session (run_of last happenings).clients ≡ Some c → IsUserOf last c user
      → IsPrefix c.replies (concat (replies_alone last.accounts c.stamp (Some (lived maildrop epochs user last)) c.lines c.tickets (own_commands last (run_of last happenings) user)))
  told_at_last epochs last user maildrop life before known happenings session c at its =
      subst (λ m. IsPrefix c.replies (concat (replies_alone last.accounts c.stamp m c.lines c.tickets (own_commands last (run_of last happenings) user))))
      (opens_at_last epochs last user maildrop life before known)
      (every_projected last happenings session c at user c.lines c.tickets (own_commands last (run_of last happenings) user) its
      ([], append-nil c.lines) ([], append-nil c.tickets) ([], append-nil (own_commands last (run_of last happenings) user)))
