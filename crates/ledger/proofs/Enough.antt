-- What is written of commands is enough.
use Rattle.std.proofs.Common.{◌≡◌, ℕ, Bool, true, false, cond, List, [], ◌∷◌, ◌++◌, Option, Some, None, refl, sym, ap, ◌∙◌, append_assoc}
use Rattle.std.specs.Prelude.{◌&&◌, is_none, map}
use Rattle.std.specs.Option.{option_to_list}
use Rattle.std.proofs.lemmas.List.{append-nil}
use Rattle.maildrop.specs.Changes.{changed}
use Rattle.maildrop.specs.Key.{uid_of}
use Rattle.maildrop.specs.Kept.{KeptMaildrop, nothing_kept}
use Rattle.maildrop.specs.Ticket.{Ticket}
use Rattle.maildrop.specs.Maildrop.{Maildrop, Effect, closed, effect_of, effect_of_take, delivered, refusal_of, is_held_by, without, no_effect, ids_given_by}
use Rattle.maildrop.specs.Office.{ids_given}
use Rattle.maildrop.specs.Reopening.{Performs, after_step, after_steps}
use Rattle.maildrop.specs.declared.command.Command.{Command}
use Rattle.maildrop.specs.declared.message.Message.{Message}
use Rattle.maildrop.specs.declared.outcome.Outcome.{Outcome}
use Rattle.maildrop.specs.declared.outcome.Outcome.TheVariants.{Done, NotHolder}
use Rattle.maildrop.specs.declared.op.Op.{Op}
use Rattle.maildrop.specs.declared.op.Op.TheVariants.{Mail, Take, Commit, Free, Break}
use Rattle.maildrop.specs.declared.change.Change.{Change}
use Rattle.maildrop.specs.declared.change.Change.TheVariants.{Stored, Removed, Next}
use Rattle.ledger.specs.Changes.{changes_of, changed_by, performing, written_of, stored_by, stored_in, message_change, key_change, snapshot_of}

-- the unique ids that are written if a message is stored, and if messages are removed

stored_if : (A : Type 0) (uid : ℕ) (text : List (List ℕ)) (key : Option (List ℕ)) (stores : Bool) → stored_in {A = A} (option_to_list (cond stores (Some (Stored uid text key)) None)) ≡ cond stores (uid ∷ []) []
stored_if A uid text key true = refl
stored_if A uid text key false = refl

none_if : (A : Type 0) (uids : List ℕ) (held : Bool) → stored_in {A = A} (option_to_list (cond held (Some (Removed uids)) None)) ≡ []
none_if A uids true = refl
none_if A uids false = refl

module _ {A : Type 0} where
  pub changed-append : (kept : KeptMaildrop A) (cs ds : List (Change A)) → changed_by kept (cs ++ ds) ≡ changed_by (changed_by kept cs) ds
  changed-append kept [] ds = refl
  changed-append kept (c ∷ cs) ds = changed-append (changed kept c) cs ds

  -- one operation

  by_mail : (m : Maildrop A) (text : List (List ℕ)) (key : Option (List ℕ)) (known : Option ℕ) (refusal : Option (Outcome A)) →
      changed_by (closed m) (option_to_list (cond (is_none known && is_none refusal) (Some (Stored m.next_uid text key)) None)) ≡ closed ((delivered m text key known refusal).after)
  by_mail m text key (Some uid) refusal = refl
  by_mail m text key None (Some refusal) = refl
  by_mail m text key None None = refl

  by_take : (m : Maildrop A) (ticket : Ticket) (holder : Option Ticket) → closed m ≡ closed ((effect_of_take m ticket holder).after)
  by_take m ticket None = refl
  by_take m ticket (Some holder) = refl

  by_commit : (m : Maildrop A) (uids : List ℕ) (held : Bool) →
      changed_by (closed m) (option_to_list (cond held (Some (Removed uids)) None))
      ≡ closed (Effect.after (cond held (record { outcome = Done; after = record m { messages = without uids m.messages; holder = None } }) (no_effect m NotHolder)))
  by_commit m uids true = refl
  by_commit m uids false = refl

  by_free : (m : Maildrop A) (held : Bool) → closed m ≡ closed (Effect.after (cond held (record { outcome = Done; after = record m { holder = None } }) (no_effect m NotHolder)))
  by_free m true = refl
  by_free m false = refl

  pub by_operation : (m : Maildrop A) (ticket : Ticket) (op : Op A) → changed_by (closed m) (changes_of m op) ≡ closed ((effect_of m ticket op).after)
  by_operation m ticket (Mail text key) = by_mail m text key (uid_of key m.keys) (refusal_of m text)
  by_operation m ticket Take = by_take m ticket m.holder
  by_operation m ticket (Commit lock uids) = by_commit m uids (is_held_by m.holder lock)
  by_operation m ticket (Free lock) = by_free m (is_held_by m.holder lock)
  by_operation m ticket Break = refl

  pub enough : (m : Maildrop A) (commands : List (Command A)) → changed_by (closed m) (written_of m commands) ≡ closed (after_steps m (performing commands))
  enough m [] = refl
  enough m (c ∷ cs) =
      let next = after_step m (Performs c) in
      changed-append (closed m) (changes_of m c.op) (written_of next cs)
      ∙ ap (λ (kept : KeptMaildrop A). changed_by kept (written_of next cs)) (by_operation m c.ticket c.op)
      ∙ enough next cs

  -- the unique ids that are written

  pub stored-append : (cs ds : List (Change A)) → stored_in (cs ++ ds) ≡ stored_in cs ++ stored_in ds
  stored-append [] ds = refl
  stored-append (c ∷ cs) ds = ap (λ (ids : List ℕ). stored_by c ++ ids) (stored-append cs ds) ∙ sym (append_assoc (stored_by c) (stored_in cs) (stored_in ds))

  given_by : (m : Maildrop A) (op : Op A) → stored_in (changes_of m op) ≡ ids_given_by m op
  given_by m (Mail text key) = stored_if A m.next_uid text key (is_none (uid_of key m.keys) && is_none (refusal_of m text))
  given_by m Take = refl
  given_by m (Commit lock uids) = none_if A uids (is_held_by m.holder lock)
  given_by m (Free lock) = refl
  given_by m Break = refl

  pub written_ids : (m : Maildrop A) (commands : List (Command A)) → stored_in (written_of m commands) ≡ ids_given m commands
  written_ids m [] = refl
  written_ids m (c ∷ cs) =
      let next = after_step m (Performs c) in
      stored-append (changes_of m c.op) (written_of next cs)
      ∙ ap (λ (ids : List ℕ). ids ++ stored_in (written_of next cs)) (given_by m c.op)
      ∙ ap (λ (ids : List ℕ). ids_given_by m c.op ++ ids) (written_ids next cs)

  -- messages that are stored after those that are there, and the next unique id
  with_messages : (m : KeptMaildrop A) (ms : List (Message A)) (n : ℕ) (rest : List (Change A)) →
      changed_by m (map message_change ms ++ Next n ∷ rest) ≡ changed_by (record m { messages = m.messages ++ ms; next_uid = n }) rest
  with_messages m [] n rest = ap (λ (x : List (Message A)). changed_by (record m { messages = x; next_uid = n }) rest) (sym (append-nil m.messages))
  with_messages m (g ∷ ms) n rest =
      with_messages (changed m (message_change g)) ms n rest
      ∙ ap (λ (x : List (Message A)). changed_by (record m { messages = x; next_uid = n }) rest) (append_assoc m.messages (g ∷ []) ms)

  -- keys after those that are there
  with_keys : (m : KeptMaildrop A) (keys : List (List ℕ × ℕ)) → changed_by m (map key_change keys) ≡ record m { keys = m.keys ++ keys }
  with_keys m [] = ap (λ (x : List (List ℕ × ℕ)). record m { keys = x }) (sym (append-nil m.keys))
  with_keys m (k ∷ ks) = with_keys (changed m (key_change k)) ks ∙ ap (λ (x : List (List ℕ × ℕ)). record m { keys = x }) (append_assoc m.keys (k ∷ []) ks)

  pub snapshot_whole : (kept : KeptMaildrop A) → changed_by nothing_kept (snapshot_of kept) ≡ kept
  snapshot_whole kept =
      let filled : KeptMaildrop A = record { messages = kept.messages; next_uid = kept.next_uid; keys = [] } in
      with_messages nothing_kept kept.messages kept.next_uid (map key_change kept.keys) ∙ with_keys filled kept.keys

  pub snapshot_more : (m : Maildrop A) (commands : List (Command A)) → changed_by nothing_kept (snapshot_of (closed m) ++ written_of m commands) ≡ closed (after_steps m (performing commands))
  snapshot_more m commands =
      changed-append nothing_kept (snapshot_of (closed m)) (written_of m commands)
      ∙ ap (λ (kept : KeptMaildrop A). changed_by kept (written_of m commands)) (snapshot_whole (closed m))
      ∙ enough m commands
