-- What is kept is consistent after each change that is read.
use Rattle.std.proofs.Common.{◌≡◌, ℕ, suc, ◌+◌, ◌<◌, ◌≤◌, Bool, true, false, cond, List, [], ◌∷◌, ◌++◌, length, get_or, map, Option, Some, None, refl, sym, ap, subst, ◌∙◌, append_assoc, arith, add-one}
use Rattle.std.specs.Prelude.{◌&&◌, is_none}
use Rattle.std.specs.List.{All}
use Rattle.std.specs.Option.{option_to_list}
use Rattle.std.specs.List.Sorted.{IsStrictlyIncreasing}
use Rattle.std.proofs.lemmas.List.{append-nil, map-append, length-append, get_or_append_left}
use Rattle.std.proofs.lemmas.List.Elements.{All-nil, All-cons}
use Rattle.std.proofs.lemmas.List.Sums.{sum_by-append}
use Rattle.std.proofs.Math.Seq.{get_or-append_seam}
use Rattle.maildrop.specs.Changes.{changed}
use Rattle.maildrop.specs.Key.{uid_of}
use Rattle.maildrop.specs.Ticket.{Ticket}
use Rattle.maildrop.specs.Text.{octets_of}
use Rattle.maildrop.specs.Taken.{message_octets, unique_ids}
use Rattle.maildrop.specs.Limits.{AreLimits, Limits}
use Rattle.maildrop.specs.Kept.{KeptMaildrop, IsConsistent, nothing_kept}
use Rattle.maildrop.specs.Maildrop.{Maildrop, Effect, closed, effect_of, effect_of_take, delivered, refusal_of, is_held_by}
use Rattle.maildrop.specs.Reopening.{Performs, after_step}
use Rattle.maildrop.specs.declared.command.Command.{Command}
use Rattle.maildrop.specs.declared.message.Message.{Message}
use Rattle.maildrop.specs.declared.op.Op.{Op}
use Rattle.maildrop.specs.declared.op.Op.TheVariants.{Mail, Take, Commit, Free, Break}
use Rattle.maildrop.specs.declared.outcome.Outcome.{Outcome}
use Rattle.maildrop.proofs.Consistent.{room-from_no_refusal, consistent_with_message, consistent_without}
use Rattle.maildrop.specs.declared.change.Change.{Change}
use Rattle.maildrop.specs.declared.change.Change.TheVariants.{Stored, Removed, Next}
use Rattle.ledger.specs.Changes.{StaysConsistent, changes_of, changed_by, written_of, message_change, key_change, snapshot_of}
use Rattle.ledger.proofs.Enough.{by_operation}

-- numbers that ascend

rising-front : (xs ys : List ℕ) → IsStrictlyIncreasing (xs ++ ys) → IsStrictlyIncreasing xs
rising-front xs ys rising k inside =
    let here : get_or (xs ++ ys) k 0 ≡ get_or xs k 0 = get_or_append_left xs ys 0 k (omega (arith, inside)) in
    let next : get_or (xs ++ ys) (k + 1) 0 ≡ get_or xs (k + 1) 0 = get_or_append_left xs ys 0 (k + 1) inside in
    rw (here, next) at (rising k (omega (arith, inside, length-append xs ys)))

pub rising-tail : (x : ℕ) (xs : List ℕ) → IsStrictlyIncreasing (x ∷ xs) → IsStrictlyIncreasing xs
rising-tail x xs rising k inside = rw add-one (rw add-one at (rising (suc k) (omega (arith, inside))))

module _ {A : Type 0} where
  begins_consistent : (kept : KeptMaildrop A) (changes : List (Change A)) → StaysConsistent kept changes → IsConsistent kept
  begins_consistent kept [] stays = stays
  begins_consistent kept (c ∷ cs) stays = stays.0

  stays-append : (kept : KeptMaildrop A) (cs ds : List (Change A)) → StaysConsistent kept cs → StaysConsistent (changed_by kept cs) ds → StaysConsistent kept (cs ++ ds)
  stays-append kept [] ds first second = second
  stays-append kept (c ∷ cs) ds first second = (first.0, stays-append (changed kept c) cs ds first.1 second)

  -- one operation

  mail_stays : (m : Maildrop A) (text : List (List ℕ)) (key : Option (List ℕ)) (known : Option ℕ) (refusal : Option (Outcome A)) → refusal_of m text ≡ refusal → AreLimits m.limits → IsConsistent (closed m)
      → StaysConsistent (closed m) (option_to_list (cond (is_none known && is_none refusal) (Some (Stored m.next_uid text key)) None))
  mail_stays m text key (Some uid) refusal is limits old = old
  mail_stays m text key None (Some refusal) is limits old = old
  mail_stays m text key None None is limits old = (old, consistent_with_message m text key limits old (room-from_no_refusal m text is))

  commit_stays : (kept : KeptMaildrop A) (uids : List ℕ) (held : Bool) → IsConsistent kept → StaysConsistent kept (option_to_list (cond held (Some (Removed uids)) None))
  commit_stays kept uids true old = (old, consistent_without kept uids old)
  commit_stays kept uids false old = old

  operation_stays : (m : Maildrop A) (op : Op A) → AreLimits m.limits → IsConsistent (closed m) → StaysConsistent (closed m) (changes_of m op)
  operation_stays m (Mail text key) limits old = mail_stays m text key (uid_of key m.keys) (refusal_of m text) refl limits old
  operation_stays m Take limits old = old
  operation_stays m (Commit lock uids) limits old = commit_stays (closed m) uids (is_held_by m.holder lock) old
  operation_stays m (Free lock) limits old = old
  operation_stays m Break limits old = old

  -- no operation changes limits

  mail_limits : (m : Maildrop A) (text : List (List ℕ)) (key : Option (List ℕ)) (known : Option ℕ) (refusal : Option (Outcome A)) → (delivered m text key known refusal).after.limits ≡ m.limits
  mail_limits m text key (Some uid) refusal = refl
  mail_limits m text key None (Some refusal) = refl
  mail_limits m text key None None = refl

  take_limits : (m : Maildrop A) (ticket : Ticket) (holder : Option Ticket) → (effect_of_take m ticket holder).after.limits ≡ m.limits
  take_limits m ticket None = refl
  take_limits m ticket (Some holder) = refl

  either_limits : (limits : Limits) (b : Bool) (x y : Effect A) → x.after.limits ≡ limits → y.after.limits ≡ limits → Maildrop.limits (Effect.after (cond b x y)) ≡ limits
  either_limits limits true x y is other = is
  either_limits limits false x y is other = other

  pub same_limits : (m : Maildrop A) (ticket : Ticket) (op : Op A) → (effect_of m ticket op).after.limits ≡ m.limits
  same_limits m ticket (Mail text key) = mail_limits m text key (uid_of key m.keys) (refusal_of m text)
  same_limits m ticket Take = take_limits m ticket m.holder
  same_limits m ticket (Commit lock uids) = either_limits m.limits (is_held_by m.holder lock) _ _ refl refl
  same_limits m ticket (Free lock) = either_limits m.limits (is_held_by m.holder lock) _ _ refl refl
  same_limits m ticket Break = refl

  ends_consistent : (kept : KeptMaildrop A) (changes : List (Change A)) → StaysConsistent kept changes → IsConsistent (changed_by kept changes)
  ends_consistent kept [] stays = stays
  ends_consistent kept (c ∷ cs) stays = ends_consistent (changed kept c) cs stays.1

  pub written_stays : (m : Maildrop A) (commands : List (Command A)) → AreLimits m.limits → IsConsistent (closed m) → StaysConsistent (closed m) (written_of m commands)
  written_stays m [] limits old = old
  written_stays m (c ∷ cs) limits old =
      let next = after_step m (Performs c) in
      let one = operation_stays m c.op limits old in
      let after : changed_by (closed m) (changes_of m c.op) ≡ closed next = by_operation m c.ticket c.op in
      let later : IsConsistent (closed next) = subst (λ (k : KeptMaildrop A). IsConsistent k) after (ends_consistent (closed m) (changes_of m c.op) one) in
      let rest = written_stays next cs (subst AreLimits (sym (same_limits m c.ticket c.op)) limits) later in
      stays-append (closed m) (changes_of m c.op) (written_of next cs) one (subst (λ (k : KeptMaildrop A). StaysConsistent k (written_of next cs)) (sym after) rest)

  -- a snapshot

  -- the last of messages whose unique ids ascend has the highest one
  to_the_last : (ms : List (Message A)) (g : Message A) → IsStrictlyIncreasing (unique_ids (ms ++ g ∷ [])) → All (λ m. m.uid < g.uid + 1) (ms ++ g ∷ [])
  to_the_last [] g rising = All-cons (λ m. m.uid < g.uid + 1) g [] (omega arith) (All-nil (λ m. m.uid < g.uid + 1))
  to_the_last (m ∷ []) g rising =
      let first : m.uid < g.uid = rising 0 (omega arith) in
      All-cons (λ m. m.uid < g.uid + 1) m (g ∷ []) (omega (arith, first)) (to_the_last [] g (rising-tail m.uid (g.uid ∷ []) rising))
  to_the_last (m ∷ n ∷ ms) g rising =
      let rest = to_the_last (n ∷ ms) g (rising-tail m.uid (unique_ids (n ∷ ms ++ g ∷ [])) rising) in
      let first : m.uid < n.uid = rising 0 (omega arith) in
      let second : n.uid < g.uid + 1 = rest 0 g (omega arith) in
      All-cons (λ m. m.uid < g.uid + 1) m (n ∷ ms ++ g ∷ []) (omega (arith, first, second)) rest

  -- the first messages, up to one of them
  front_consistent : (front : List (Message A)) (g : Message A) (rest : List (Message A)) (whole : KeptMaildrop A) → front ++ g ∷ rest ≡ whole.messages → IsConsistent whole
      → IsConsistent (record { messages = front ++ g ∷ []; next_uid = g.uid + 1; keys = [] })
  front_consistent front g rest whole is old =
      let ms = front ++ g ∷ [] in
      let parts : whole.messages ≡ ms ++ rest = sym is ∙ sym (append_assoc front (g ∷ []) rest) in
      let ids : unique_ids whole.messages ≡ unique_ids ms ++ unique_ids rest = ap unique_ids parts ∙ map-append (λ (m : Message A). m.uid) ms rest in
      let rising : IsStrictlyIncreasing (unique_ids ms) = rising-front (unique_ids ms) (unique_ids rest) (subst IsStrictlyIncreasing ids old.ascending) in
      let here : get_or (front ++ g ∷ rest) (length front) g ≡ g = get_or-append_seam front g rest g in
      let given : All (λ m. m.uid < whole.next_uid) (front ++ g ∷ rest) = subst (λ (ms : List (Message A)). All (λ m. m.uid < whole.next_uid) ms) (sym is) old.given in
      let below : g.uid < whole.next_uid = subst (λ (m : Message A). m.uid < whole.next_uid) here (given (length front) g (omega (arith, length-append front (g ∷ rest)))) in
      record {
        few = omega (arith, old.few, ap length parts, length-append ms rest);
        small = omega (arith, old.small, ap message_octets parts, sum_by-append (λ (m : Message A). octets_of m.text) ms rest);
        ascending = rising;
        given = to_the_last front g rising;
        keyed = omega arith;
        issued = omega (arith, below, old.issued);
      }

  -- with the first keys alone
  pub few_keys : (keys : List (List ℕ × ℕ)) (whole : KeptMaildrop A) → length keys ≤ length whole.keys → IsConsistent whole → IsConsistent (record whole { keys = keys })
  few_keys keys whole fewer old = record {
    few = old.few;
    small = old.small;
    ascending = old.ascending;
    given = old.given;
    keyed = omega (arith, fewer, old.keyed);
    issued = old.issued;
  }

  keys_stay : (front keys : List (List ℕ × ℕ)) (whole : KeptMaildrop A) → front ++ keys ≡ whole.keys → IsConsistent whole → StaysConsistent (record whole { keys = front }) (map key_change keys)
  keys_stay front [] whole is old = few_keys front whole (omega (arith, ap length is, length-append front [])) old
  keys_stay front (e ∷ es) whole is old =
      (few_keys front whole (omega (arith, ap length is, length-append front (e ∷ es))) old, keys_stay (front ++ e ∷ []) es whole (append_assoc front (e ∷ []) es ∙ is) old)

  messages_stay : (front ms : List (Message A)) (next : ℕ) (whole : KeptMaildrop A) → front ++ ms ≡ whole.messages → IsConsistent whole → IsConsistent (record { messages = front; next_uid = next; keys = [] })
      → StaysConsistent (record { messages = front; next_uid = next; keys = [] }) (map message_change ms ++ Next whole.next_uid ∷ map key_change whole.keys)
  messages_stay front [] next whole is old now =
      (now, subst (λ (ms : List (Message A)). StaysConsistent (record { messages = ms; next_uid = whole.next_uid; keys = [] }) (map key_change whole.keys)) (sym is ∙ append-nil front) (keys_stay [] whole.keys whole refl old))
  messages_stay front (g ∷ ms) next whole is old now =
      (now, messages_stay (front ++ g ∷ []) ms (g.uid + 1) whole (append_assoc front (g ∷ []) ms ∙ is) old (front_consistent front g ms whole is old))

  pub nothing_consistent : IsConsistent {A = A} nothing_kept
  nothing_consistent = record {
    few = omega arith;
    small = omega arith;
    ascending = λ k inside. absurd (omega (arith, inside));
    given = All-nil (λ m. m.uid < 1);
    keyed = omega arith;
    issued = omega arith;
  }

  pub snapshot_stays : (kept : KeptMaildrop A) → IsConsistent kept → StaysConsistent nothing_kept (snapshot_of kept)
  snapshot_stays kept old = messages_stay [] kept.messages 1 kept refl old nothing_consistent
