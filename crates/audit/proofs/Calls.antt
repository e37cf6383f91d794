-- The replica of a node, as calls lead to it.
use Rattle.std.proofs.Common.{◌≡◌, ℕ, List, [], ◌∷◌, ◌++◌, Bool, true, false, Option, Some, None, refl, sym, ap, ◌∙◌, subst, cond, append_assoc, ⊎_elim, inl, inr, ◌⊎◌}
use Rattle.std.specs.Prelude.{◌==◌, ◌||◌}
use Rattle.std.specs.List.{list_any}
use Rattle.std.specs.Ordering.{is_eq}
use Rattle.std.proofs.lemmas.List.{append-nil}
use Rattle.std.proofs.lemmas.List.Folds.{list_any-append}
use Rattle.std.proofs.lemmas.Bool.{true≢false, or_cases}
use Rattle.ballot.specs.declared.message.Message.{Message}
use Rattle.ballot.specs.declared.message.Message.TheVariants.{Propose, P1a, P1b, P2a, P2b, Decision, Ask}
use Rattle.maildrop.specs.CommandId.{CommandId, compare_ids, same_id}
use Rattle.maildrop.specs.Equality.{id_decides}
use Rattle.maildrop.specs.Office.{User}
use Rattle.maildrop.specs.Same.{identity_of}
use Rattle.maildrop.specs.declared.command.Command.{Command}
use Rattle.maildrop.specs.declared.outcome.Outcome.{Outcome}
use Rattle.maildrop.proofs.IdOrder.{ids_eq}
use Rattle.replica.proofs.Parts.{held}
use Rattle.replica.specs.Calls.{Call, Requests, Decides, called, all_called, is_request_of, is_requested, awaited_for, answered_with, AreAnswers}
use Rattle.replica.proofs.History.{always_answers, requests_add_none}
use Rattle.replica.proofs.Left.{itself_left, decided_answered}
use Rattle.replica.proofs.Requested.{held_for}
use Rattle.node.specs.Nodes.{answer_of, answered, logged}
use Rattle.node.specs.Replay.{NodeState, MailReplica, mail_rules, first_users, new_node, hears, command_for, acts, is_crash, takes, takes_all, replayed}
use Rattle.ballot.specs.Sends.{stays}
use Rattle.node.specs.declared.input.Input.{Input}
use Rattle.node.specs.declared.input.Input.TheVariants.{Submit, Arrive, Tick, Campaign, Crash}
use Rattle.node.specs.declared.log.NodeLog.{NodeLog}
use Rattle.node.proofs.Orders.{ids_total}
use Rattle.audit.specs.Replays.{key_of}
use Rattle.node.proofs.Replaying.{replayed-push}

abbrev pub Calls : Type 0 → Type 0
Calls B = List (Call (Command B) CommandId)

module _ {A : Type 0} where
  abbrev calls_of_message : Message (Command A) A → Calls A
  calls_of_message (Decision s c) = Decides s c ∷ []
  calls_of_message _ = []

  abbrev calls_acting : ℕ → List (Input A) → Input A → Calls A
  calls_acting me before (Submit name op) = Requests (command_for me name op before) ∷ []
  calls_acting me before (Arrive e) = cond (e.to == me) (calls_of_message e.message) []
  calls_acting me before _ = []

  abbrev pub calls_by : ℕ → List (Input A) → Input A → Calls A
  calls_by me before i = cond (list_any is_crash before) [] (calls_acting me before i)

  abbrev pub calls_all : ℕ → List (Input A) → List (Input A) → Calls A
  calls_all me before [] = []
  calls_all me before (i ∷ is) = calls_by me before i ++ calls_all me (before ++ i ∷ []) is

  abbrev pub calls_of : NodeLog A → Calls A
  calls_of log = calls_all log.opening.me [] log.inputs

  abbrev called_all : Calls A → MailReplica A → MailReplica A
  called_all calls r = all_called A mail_rules calls r

  all_called-append : (xs ys : Calls A) (r : MailReplica A) → called_all (xs ++ ys) r ≡ called_all ys (called_all xs r)
  all_called-append [] ys r = refl
  all_called-append (x ∷ xs) ys r = all_called-append xs ys (called {A = A} mail_rules x r).after

  heard : (n : NodeState A) (from : ℕ) (m : Message (Command A) A) → (hears n from m).after.replica ≡ called_all (calls_of_message m) n.replica
  heard n from (Propose s c) = refl
  heard n from (P1a b) = refl
  heard n from (P1b p) = refl
  heard n from (P2a p) = refl
  heard n from (P2b v) = refl
  heard n from (Decision s c) = refl
  heard n from (Ask s) = refl

  acted : (me : ℕ) (before : List (Input A)) (n : NodeState A) (i : Input A) → (acts me before n i).after.replica ≡ called_all (calls_acting me before i) n.replica
  acted me before n (Submit name op) = refl
  acted me before n (Arrive e) =
      go (e.to == me)
    where
      go : (t : Bool) → (cond t (hears n e.from e.message) (stays n)).after.replica ≡ called_all (cond t (calls_of_message e.message) []) n.replica
      go true = heard n e.from e.message
      go false = refl
  acted me before n Tick = refl
  acted me before n Campaign = refl
  acted me before n Crash = refl

  taken_by : (me : ℕ) (before : List (Input A)) (n : NodeState A) (i : Input A) → (takes me before n i).after.replica ≡ called_all (calls_by me before i) n.replica
  taken_by me before n i =
      go (list_any is_crash before)
    where
      go : (t : Bool) → (cond t (stays n) (acts me before n i)).after.replica ≡ called_all (cond t [] (calls_acting me before i)) n.replica
      go true = refl
      go false = acted me before n i

  all_taken : (me : ℕ) (before : List (Input A)) (n : NodeState A) (is : List (Input A)) → (takes_all me before n is).replica ≡ called_all (calls_all me before is) n.replica
  all_taken me before n [] = refl
  all_taken me before n (i ∷ is) =
      all_taken me (before ++ i ∷ []) (takes me before n i).after is
      ∙ (ap (called_all (calls_all me (before ++ i ∷ []) is)) (taken_by me before n i)
      ∙ sym (all_called-append (calls_by me before i) (calls_all me (before ++ i ∷ []) is) n.replica))

  abbrev first : NodeLog A → List (User A)
  first log = first_users log.opening

  -- the replica of a log
  replica_is : (log : NodeLog A) → (replayed log).replica ≡ called_all (calls_of log) (new_node log.opening).replica
  replica_is log = all_taken log.opening.me [] (new_node log.opening) log.inputs

  are_answers : (log : NodeLog A) → AreAnswers mail_rules (first log) (replayed log).replica
  are_answers log =
      subst (λ (r : MailReplica A). AreAnswers mail_rules (first log) r) (sym (replica_is log))
      (always_answers A mail_rules ids_total log.opening.me log.opening.cluster log.opening.window (first log) (calls_of log))

  -- what is answered was requested
  pub was_requested : (log : NodeLog A) (id : CommandId) (o : Outcome A) → answered log id ≡ Some o → is_requested mail_rules id (calls_of log) ≡ true
  was_requested log id o h =
      held_for A mail_rules ids_total log.opening.me log.opening.cluster log.opening.window (first log) (calls_of log) id o
      (subst (λ (r : MailReplica A). answer_of id r.awaited ≡ Some o) (replica_is log) h)

  calls_push : (me : ℕ) (before is : List (Input A)) (i : Input A) → calls_all me before (is ++ i ∷ []) ≡ calls_all me before is ++ calls_by me (before ++ is) i
  calls_push me before [] i = append-nil (calls_by me before i) ∙ ap (λ (xs : List (Input A)). calls_by me xs i) (sym (append-nil before))
  calls_push me before (j ∷ is) i =
      ap (λ (xs : Calls A). calls_by me before j ++ xs) (calls_push me (before ++ j ∷ []) is i)
      ∙ (sym (append_assoc (calls_by me before j) (calls_all me (before ++ j ∷ []) is) (calls_by me ((before ++ j ∷ []) ++ is) i))
      ∙ ap (λ (xs : List (Input A)). (calls_by me before j ++ calls_all me (before ++ j ∷ []) is) ++ calls_by me xs i) (append_assoc before (j ∷ []) is))

  -- what an input requests is what it submits
  pub request_key : (log : NodeLog A) (i : Input A) (id : CommandId) → is_requested mail_rules id (calls_by log.opening.me log.inputs i) ≡ true → key_of (Some log) i ≡ Some id
  request_key log i id =
      go (list_any is_crash log.inputs)
    where
      found : (t : Bool) (key : CommandId) → t ≡ same_id key id → (t || false) ≡ true → Some key ≡ Some id
      found true key same h = ap Some ((id_decides key id).0 (sym same))
      found false key same h = absurd (true≢false (sym h))

      none : (m : Message (Command A) A) → is_requested mail_rules id (calls_of_message m) ≡ false
      none (Propose s c) = refl
      none (P1a b) = refl
      none (P1b p) = refl
      none (P2a p) = refl
      none (P2b v) = refl
      none (Decision s c) = refl
      none (Ask s) = refl

      arrived : (t : Bool) (m : Message (Command A) A) → is_requested mail_rules id (cond t (calls_of_message m) []) ≡ true → None ≡ Some id
      arrived true m h = absurd (true≢false (sym h ∙ none m))
      arrived false m h = absurd (true≢false (sym h))

      by : (i : Input A) → is_requested mail_rules id (calls_acting log.opening.me log.inputs i) ≡ true → key_of (Some log) i ≡ Some id
      by (Submit name op) h = found (is_eq (compare_ids (identity_of (command_for log.opening.me name op log.inputs)) id)) (identity_of (command_for log.opening.me name op log.inputs)) (ids_eq (identity_of (command_for log.opening.me name op log.inputs)) id) h
      by (Arrive e) h = arrived (e.to == log.opening.me) e.message h
      by Tick h = absurd (true≢false (sym h))
      by Campaign h = absurd (true≢false (sym h))
      by Crash h = absurd (true≢false (sym h))

      go : (t : Bool) → is_requested mail_rules id (cond t [] (calls_acting log.opening.me log.inputs i)) ≡ true → key_of (Some log) i ≡ Some id
      go true h = absurd (true≢false (sym h))
      go false h = by i h

  -- an answer that is there stays
  held_stays : (o : Option (Outcome A)) (here : Option (Option (Outcome A))) (v : Outcome A) → held here ≡ Some v → held (answered_with o here) ≡ Some v
  held_stays o None v h = absurd (let no : None ≡ Some v = h in cc)
  held_stays o (Some None) v h = absurd (let no : None ≡ Some v = h in cc)
  held_stays o (Some (Some w)) v h = h

  decides_stay : (log : NodeLog A) (s : ℕ) (c : Command A) (id : CommandId) (v : Outcome A) → answered log id ≡ Some v → answer_of id (called {A = A} mail_rules (Decides s c) (replayed log).replica).after.awaited ≡ Some v
  decides_stay log s c id v h =
      let both = decided_answered A mail_rules ids_total (first log) s c (replayed log).replica (replayed log).replica (itself_left mail_rules (first log) (replayed log).replica (are_answers log)) id in
      ap held both.1.0 ∙ held_stays both.0 (awaited_for mail_rules id (replayed log).replica) v h

  messages_stay : (log : NodeLog A) (m : Message (Command A) A) (id : CommandId) (v : Outcome A) → answered log id ≡ Some v → answer_of id (called_all (calls_of_message m) (replayed log).replica).awaited ≡ Some v
  messages_stay log (Propose s c) id v h = h
  messages_stay log (P1a b) id v h = h
  messages_stay log (P1b p) id v h = h
  messages_stay log (P2a p) id v h = h
  messages_stay log (P2b w) id v h = h
  messages_stay log (Decision s c) id v h = decides_stay log s c id v h
  messages_stay log (Ask s) id v h = h

  acts_stay : (log : NodeLog A) (i : Input A) (id : CommandId) (v : Outcome A) → answered log id ≡ Some v → answer_of id (called_all (calls_acting log.opening.me log.inputs i) (replayed log).replica).awaited ≡ Some v
  acts_stay log (Submit name op) id v h = requests_add_none A mail_rules ids_total (first log) (command_for log.opening.me name op log.inputs) (replayed log).replica (are_answers log) id ∙ h
  acts_stay log (Arrive e) id v h =
      go (e.to == log.opening.me)
    where
      go : (t : Bool) → answer_of id (called_all (cond t (calls_of_message e.message) []) (replayed log).replica).awaited ≡ Some v
      go true = messages_stay log e.message id v h
      go false = h
  acts_stay log Tick id v h = h
  acts_stay log Campaign id v h = h
  acts_stay log Crash id v h = h

  -- the answers of a log with one input more
  answered-push : (log : NodeLog A) (i : Input A) (id : CommandId) → answered (logged log i) id ≡ answer_of id (called_all (calls_by log.opening.me log.inputs i) (replayed log).replica).awaited
  answered-push log i id =
      ap (λ (n : NodeState A). answer_of id n.replica.awaited) (replayed-push log i)
      ∙ ap (λ (r : MailReplica A). answer_of id r.awaited) (taken_by log.opening.me log.inputs (replayed log) i)

  pub answers_stay : (log : NodeLog A) (i : Input A) (id : CommandId) (v : Outcome A) → answered log id ≡ Some v → answered (logged log i) id ≡ Some v
  answers_stay log i id v h =
      answered-push log i id ∙ go (list_any is_crash log.inputs)
    where
      go : (t : Bool) → answer_of id (called_all (cond t [] (calls_acting log.opening.me log.inputs i)) (replayed log).replica).awaited ≡ Some v
      go true = h
      go false = acts_stay log i id v h

  -- a crash, and what stands after one, answers nothing
  pub nothing_last : (log : NodeLog A) (i : Input A) (id : CommandId) → list_any is_crash (log.inputs ++ i ∷ []) ≡ true → answered (logged log i) id ≡ answered log id
  nothing_last log i id h =
      answered-push log i id ∙ go (list_any is_crash log.inputs) (sym (list_any-append is_crash log.inputs (i ∷ [])) ∙ h)
    where
      by : (i : Input A) → (is_crash i || false) ≡ true → answer_of id (called_all (calls_acting log.opening.me log.inputs i) (replayed log).replica).awaited ≡ answered log id
      by (Submit name op) e = absurd (true≢false (sym e))
      by (Arrive e') e = absurd (true≢false (sym e))
      by Tick e = absurd (true≢false (sym e))
      by Campaign e = absurd (true≢false (sym e))
      by Crash e = refl

      go : (t : Bool) → (t || (is_crash i || false)) ≡ true → answer_of id (called_all (cond t [] (calls_acting log.opening.me log.inputs i)) (replayed log).replica).awaited ≡ answered log id
      go true e = refl
      go false e = by i e

  -- a log with one input more requests what that input submits besides
  pub requested_push : (log : NodeLog A) (i : Input A) (id : CommandId) → is_requested mail_rules id (calls_of (logged log i)) ≡ true → (is_requested mail_rules id (calls_of log) ≡ true) ⊎ (key_of (Some log) i ≡ Some id)
  requested_push log i id h =
      let pushed = ap (is_requested mail_rules id) (calls_push log.opening.me [] log.inputs i) in
      let both = list_any-append (is_request_of mail_rules id) (calls_of log) (calls_by log.opening.me log.inputs i) in
      ⊎_elim (λ old. inl old) (λ new. inr (request_key log i id new)) (or_cases (is_requested mail_rules id (calls_of log)) (is_requested mail_rules id (calls_by log.opening.me log.inputs i)) (sym (pushed ∙ both) ∙ h))
