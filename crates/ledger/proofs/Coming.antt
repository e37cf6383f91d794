-- Each change that is written can come where it comes.
use Rattle.std.proofs.Common.{◌≡◌, ℕ, suc, ◌+◌, ◌-◌, ◌<◌, ◌≤◌, not, Bool, true, false, cond, ltb, List, [], ◌∷◌, ◌++◌, length, map, Option, Some, None, refl, sym, ap, subst, ◌∙◌, append_assoc, arith}
use Rattle.std.specs.Prelude.{◌&&◌, ◌==◌, is_none, is_some}
use Rattle.std.specs.Option.{option_to_list}
use Rattle.std.specs.List.{All, AllByRecursion, IsDistinct, list_any}
use Rattle.std.specs.List.Sorted.{IsStrictlyIncreasing}
use Rattle.std.specs.Map.{keys_of, lookup}
use Rattle.std.specs.Str.{bytes_eq}
use Rattle.std.specs.Cmp.Lexicographic.{nat_list_eq_equiv}
use Rattle.std.proofs.lemmas.Bool.Decides.{nat_tests}
use Rattle.std.proofs.lemmas.List.{length-append, length-drop}
use Rattle.std.proofs.lemmas.List.Elements.{All-nil, All-cons, All-weaker, All-filter, All-append}
use Rattle.std.proofs.lemmas.List.Sums.{sum_by-cons}
use Rattle.std.proofs.lemmas.Map.Keys.{IsDistinct-push}
use Rattle.std.proofs.lemmas.Map.Made.{is_some-lookup}
use Rattle.maildrop.specs.Changes.{can_change, changed, changed_if_fit}
use Rattle.maildrop.specs.Key.{uid_of, with_key, last_keys}
use Rattle.maildrop.specs.Text.{octets_of}
use Rattle.maildrop.specs.Taken.{message_octets, unique_ids}
use Rattle.maildrop.specs.Limits.{AreLimits, Limits, most_messages, most_octets, highest_id}
use Rattle.maildrop.specs.Kept.{KeptMaildrop, nothing_kept}
use Rattle.maildrop.specs.Maildrop.{Maildrop, opened, closed, refusal_of, is_held_by}
use Rattle.maildrop.specs.Reopening.{Performs, after_step, after_steps}
use Rattle.maildrop.specs.declared.command.Command.{Command}
use Rattle.maildrop.specs.declared.message.Message.{Message}
use Rattle.maildrop.specs.declared.op.Op.{Op}
use Rattle.maildrop.specs.declared.op.Op.TheVariants.{Mail, Take, Commit, Free, Break}
use Rattle.maildrop.specs.declared.outcome.Outcome.{Outcome}
use Rattle.maildrop.specs.declared.change.Change.{Change}
use Rattle.maildrop.specs.declared.change.Change.TheVariants.{Stored, Removed, Keyed, Next}
use Rattle.maildrop.proofs.Consistent.{room-from_no_refusal, consistent_without, message_octets-push}
use Rattle.maildrop.proofs.LastKeys.{last_keys-drop}
use Rattle.maildrop.proofs.Changing.{HasPlace, place_from_test, consistent_with_change}
use Rattle.ledger.specs.Changes.{changes_of, changed_by, performing, written_of, message_change, key_change, snapshot_of}
use Rattle.ledger.specs.Coming.{can_come, taken_by, IsSound}
use Rattle.ledger.proofs.Enough.{by_operation, enough, snapshot_whole, snapshot_more}
use Rattle.ledger.proofs.Fronts.{rising-tail, same_limits, few_keys, nothing_consistent}

both : (a b : Bool) → a ≡ true → b ≡ true → (a && b) ≡ true
both a b h k = rw (h, k) refl

parts : (a b : Bool) → (a && b) ≡ true → (a ≡ true) × (b ≡ true)
parts true b e = (refl, e)
parts false b e = absurd cc

rest_of : {X : Type 0} (P : X → Type 0) (x : X) (xs : List X) → All P (x ∷ xs) → All P xs
rest_of P x xs all k d inside = all (suc k) d (omega (arith, inside))

none_from_test : {X : Type 0} (o : Option X) → is_none o ≡ true → o ≡ None
none_from_test None h = refl
none_from_test (Some x) h = absurd cc

module _ {A : Type 0} where
  pub can_come-append : (kept : KeptMaildrop A) (cs ds : List (Change A)) → can_come kept cs ≡ true → can_come (changed_by kept cs) ds ≡ true → can_come kept (cs ++ ds) ≡ true
  can_come-append kept [] ds first second = second
  can_come-append kept (c ∷ cs) ds first second =
      let p = parts (can_change kept c) (can_come (changed kept c) cs) first in
      both (can_change kept c) (can_come (changed kept c) (cs ++ ds)) p.0 (can_come-append (changed kept c) cs ds p.1 second)

  -- a reader takes all changes that can come
  pub taken_all : (kept : KeptMaildrop A) (cs : List (Change A)) → can_come kept cs ≡ true → taken_by kept cs ≡ changed_by kept cs
  taken_all kept [] can = refl
  taken_all kept (c ∷ cs) can =
      let p = parts (can_change kept c) (can_come (changed kept c) cs) can in
      let one : changed_if_fit kept c ≡ changed kept c = rw p.0 refl in
      ap (λ (k : KeptMaildrop A). taken_by k cs) one ∙ taken_all (changed kept c) cs p.1

  -- operations

  test_from_place : (kept : KeptMaildrop A) (uid : ℕ) (text : List (List ℕ)) (key : Option (List ℕ)) → HasPlace kept uid text key → can_change kept (Stored uid text key) ≡ true
  test_from_place kept uid text key place = grind (arith, nat_tests, place.few, place.small, place.above, place.high, place.new)

  mail_can : (m : Maildrop A) (text : List (List ℕ)) (key : Option (List ℕ)) (known : Option ℕ) (refusal : Option (Outcome A)) → uid_of key m.keys ≡ known → refusal_of m text ≡ refusal → AreLimits m.limits
      → can_come (closed m) (option_to_list (cond (is_none known && is_none refusal) (Some (Stored m.next_uid text key)) None)) ≡ true
  mail_can m text key (Some uid) refusal new is limits = refl
  mail_can m text key None (Some refusal) new is limits = refl
  mail_can m text key None None new is limits =
      let room = room-from_no_refusal m text is in
      let place : HasPlace (closed m) m.next_uid text key = record {
        few = omega (arith, room.place, limits.0);
        small = omega (arith, room.octets, limits.1);
        above = omega arith;
        high = omega (arith, room.id, limits.2);
        new = new;
      } in
      both (can_change (closed m) (Stored m.next_uid text key)) true (test_from_place (closed m) m.next_uid text key place) refl

  commit_can : (kept : KeptMaildrop A) (uids : List ℕ) (held : Bool) → can_come kept (option_to_list (cond held (Some (Removed uids)) None)) ≡ true
  commit_can kept uids true = refl
  commit_can kept uids false = refl

  operation_can : (m : Maildrop A) (op : Op A) → AreLimits m.limits → can_come (closed m) (changes_of m op) ≡ true
  operation_can m (Mail text key) limits = mail_can m text key (uid_of key m.keys) (refusal_of m text) refl refl limits
  operation_can m Take limits = refl
  operation_can m (Commit lock uids) limits = commit_can (closed m) uids (is_held_by m.holder lock)
  operation_can m (Free lock) limits = refl
  operation_can m Break limits = refl

  pub written_can : (m : Maildrop A) (commands : List (Command A)) → AreLimits m.limits → can_come (closed m) (written_of m commands) ≡ true
  written_can m [] limits = refl
  written_can m (c ∷ cs) limits =
      let next = after_step m (Performs c) in
      let after : changed_by (closed m) (changes_of m c.op) ≡ closed next = by_operation m c.ticket c.op in
      let rest = written_can next cs (subst AreLimits (sym (same_limits m c.ticket c.op)) limits) in
      can_come-append (closed m) (changes_of m c.op) (written_of next cs) (operation_can m c.op limits) (subst (λ (k : KeptMaildrop A). can_come k (written_of next cs) ≡ true) (sym after) rest)

-- keys

found : (key : List ℕ) (uid : ℕ) (P : List ℕ → Type 0) (front rest : List (List ℕ × ℕ)) → AllByRecursion P (keys_of (front ++ (key, uid) ∷ rest)) → P key
found key uid P [] rest all = all.0
found key uid P (e ∷ es) rest all = found key uid P es rest all.1

new_key : (key : List ℕ) (uid : ℕ) (front rest : List (List ℕ × ℕ)) → IsDistinct bytes_eq (keys_of (front ++ (key, uid) ∷ rest)) → lookup (bytes_eq key) front ≡ None
unfolding IsDistinct
new_key key uid [] rest apart = refl
new_key key uid (e ∷ es) rest apart =
    let one : bytes_eq key e.0 ≡ false = nat_list_eq_equiv.symm key e.0 ∙ found key uid (λ y. bytes_eq e.0 y ≡ false) es rest apart.0 in
    rw one (new_key key uid es rest apart.1)

keys-append : (keys others : List (List ℕ × ℕ)) → keys_of (keys ++ others) ≡ keys_of keys ++ keys_of others
keys-append [] others = refl
keys-append (e ∷ es) others = ap (λ (ks : List (List ℕ)). e.0 ∷ ks) (keys-append es others)

with_key-apart : (key : Option (List ℕ)) (uid : ℕ) (keys : List (List ℕ × ℕ)) → IsDistinct bytes_eq (keys_of keys) → uid_of key keys ≡ None → IsDistinct bytes_eq (keys_of (with_key key uid keys))
with_key-apart None uid keys apart new = apart
with_key-apart (Some key) uid keys apart new =
    let absent : list_any (bytes_eq key) (keys_of keys) ≡ false = sym (is_some-lookup (bytes_eq key) keys) ∙ ap is_some new in
    subst (λ (ks : List (List ℕ)). IsDistinct bytes_eq ks) (sym (keys-append keys ((key, uid) ∷ []))) (IsDistinct-push nat_list_eq_equiv (keys_of keys) key apart absent)

either_apart : (b : Bool) (keys others : List (List ℕ × ℕ)) → IsDistinct bytes_eq (keys_of keys) → IsDistinct bytes_eq (keys_of others) → IsDistinct bytes_eq (keys_of (cond b keys others))
either_apart true keys others apart other = apart
either_apart false keys others apart other = other

last-apart : (n : ℕ) (keys : List (List ℕ × ℕ)) → IsDistinct bytes_eq (keys_of keys) → IsDistinct bytes_eq (keys_of (last_keys n keys))
unfolding IsDistinct
last-apart n [] apart = apart
last-apart n (e ∷ es) apart = either_apart (ltb n (suc (length es))) (last_keys n es) (e ∷ es) (last-apart n es apart.1) apart

module _ {A : Type 0} where
  keys_can : (front keys : List (List ℕ × ℕ)) (kept : KeptMaildrop A) → length front + length keys < kept.next_uid → IsDistinct bytes_eq (keys_of (front ++ keys))
      → can_come (record kept { keys = front }) (map key_change keys) ≡ true
  keys_can front [] kept few apart = refl
  keys_can front (e ∷ es) kept few apart =
      let now : KeptMaildrop A = record kept { keys = front } in
      let new = new_key e.0 e.1 front es apart in
      let can : can_change now (key_change e) ≡ true = grind (arith, nat_tests, few, new) in
      let rest = keys_can (front ++ e ∷ []) es kept (omega (arith, few, length-append front (e ∷ []))) (subst (λ (keys : List (List ℕ × ℕ)). IsDistinct bytes_eq (keys_of keys)) (sym (append_assoc front (e ∷ []) es)) apart) in
      both (can_change now (key_change e)) (can_come (changed now (key_change e)) (map key_change es)) can rest

  -- messages

  above_first : (g : Message A) (ms : List (Message A)) → IsStrictlyIncreasing (unique_ids (g ∷ ms)) → All (λ m. g.uid + 1 ≤ m.uid) ms
  above_first g [] rising = All-nil (λ m. g.uid + 1 ≤ m.uid)
  above_first g (n ∷ ms) rising =
      let first : g.uid < n.uid = rising 0 (omega arith) in
      let rest = above_first n ms (rising-tail g.uid (unique_ids (n ∷ ms)) rising) in
      All-cons (λ m. g.uid + 1 ≤ m.uid) n ms (omega (arith, first)) (All-weaker (λ m. n.uid + 1 ≤ m.uid) (λ m. g.uid + 1 ≤ m.uid) (λ m above. omega (arith, first, above)) ms rest)

  -- messages that are still to be stored after those in front, if this is the next unique id
  record Fit (front ms : List (Message A)) (next last : ℕ) : Type 0 where
    few : length front + length ms ≤ most_messages
    small : message_octets front + message_octets ms ≤ most_octets
    ascending : IsStrictlyIncreasing (unique_ids ms)
    above : All (λ m. next ≤ m.uid) ms
    given : All (λ m. m.uid < last) ms
    low : next ≤ last

  messages_can : (front ms : List (Message A)) (next : ℕ) (whole : KeptMaildrop A) → IsSound whole → Fit front ms next whole.next_uid
      → can_come (record { messages = front; next_uid = next; keys = [] }) (map message_change ms ++ Next whole.next_uid ∷ map key_change whole.keys) ≡ true
  messages_can front [] next whole sound fit =
      let now : KeptMaildrop A = record { messages = front; next_uid = next; keys = [] } in
      let issued = sound.consistent.issued in
      let low = fit.low in
      let can : can_change now (Next whole.next_uid) ≡ true = grind (arith, nat_tests, issued, low) in
      let last : KeptMaildrop A = record { messages = front; next_uid = whole.next_uid; keys = [] } in
      both (can_change now (Next whole.next_uid)) (can_come last (map key_change whole.keys)) can (keys_can [] whole.keys last (omega (arith, sound.consistent.keyed)) sound.different)
  messages_can front (g ∷ ms) next whole sound fit =
      let now : KeptMaildrop A = record { messages = front; next_uid = next; keys = [] } in
      let below : g.uid < whole.next_uid = fit.given 0 g (omega arith) in
      let octets : message_octets (g ∷ ms) ≡ octets_of g.text + message_octets ms = sum_by-cons (λ (m : Message A). octets_of m.text) g ms in
      let place : HasPlace now g.uid g.text None = record {
        few = omega (arith, fit.few);
        small = omega (arith, fit.small, octets);
        above = fit.above 0 g (omega arith);
        high = omega (arith, below, sound.consistent.issued);
        new = refl;
      } in
      let more : Fit (front ++ g ∷ []) ms (g.uid + 1) whole.next_uid = record {
        few = omega (arith, fit.few, length-append front (g ∷ []));
        small = omega (arith, fit.small, octets, message_octets-push front g);
        ascending = rising-tail g.uid (unique_ids ms) fit.ascending;
        above = above_first g ms fit.ascending;
        given = rest_of (λ m. m.uid < whole.next_uid) g ms fit.given;
        low = omega (arith, below);
      } in
      both (can_change now (message_change g)) (can_come (changed now (message_change g)) (map message_change ms ++ Next whole.next_uid ∷ map key_change whole.keys))
      (test_from_place now g.uid g.text None place) (messages_can (front ++ g ∷ []) ms (g.uid + 1) whole sound more)

  pub snapshot_can : (kept : KeptMaildrop A) → IsSound kept → can_come nothing_kept (snapshot_of kept) ≡ true
  snapshot_can kept sound =
      let old = sound.consistent in
      messages_can [] kept.messages 1 kept sound (record {
        few = omega (arith, old.few);
        small = omega (arith, old.small);
        ascending = old.ascending;
        above = sound.numbered;
        given = old.given;
        low = omega (arith, old.keyed);
      })

  -- what a reader has

  pub written_taken : (m : Maildrop A) (commands : List (Command A)) → AreLimits m.limits → taken_by (closed m) (written_of m commands) ≡ closed (after_steps m (performing commands))
  written_taken m commands limits = taken_all (closed m) (written_of m commands) (written_can m commands limits) ∙ enough m commands

  pub snapshot_taken : (kept : KeptMaildrop A) → IsSound kept → taken_by nothing_kept (snapshot_of kept) ≡ kept
  snapshot_taken kept sound = taken_all nothing_kept (snapshot_of kept) (snapshot_can kept sound) ∙ snapshot_whole kept

  pub segment_taken : (m : Maildrop A) (commands : List (Command A)) → AreLimits m.limits → IsSound (closed m) → taken_by nothing_kept (snapshot_of (closed m) ++ written_of m commands) ≡ closed (after_steps m (performing commands))
  segment_taken m commands limits sound =
      let written = subst (λ (k : KeptMaildrop A). can_come k (written_of m commands) ≡ true) (sym (snapshot_whole (closed m))) (written_can m commands limits) in
      let all = can_come-append nothing_kept (snapshot_of (closed m)) (written_of m commands) (snapshot_can (closed m) sound) written in
      taken_all nothing_kept (snapshot_of (closed m) ++ written_of m commands) all ∙ snapshot_more m commands

  -- what stays sound

  pub nothing_sound : IsSound {A = A} nothing_kept
  unfolding IsDistinct
  nothing_sound = record { consistent = nothing_consistent; numbered = All-nil (λ m. 1 ≤ m.uid); different = tt }

  stored_sound : (kept : KeptMaildrop A) (uid : ℕ) (text : List (List ℕ)) (key : Option (List ℕ)) → IsSound kept → HasPlace kept uid text key → IsSound (changed kept (Stored uid text key))
  stored_sound kept uid text key sound place =
      let m : Message A = record { uid = uid; text = text } in
      let first : 1 ≤ uid = omega (arith, sound.consistent.keyed, place.above) in
      record {
        consistent = consistent_with_change kept uid text key sound.consistent place;
        numbered = All-append (λ m. 1 ≤ m.uid) kept.messages (m ∷ []) sound.numbered (All-cons (λ m. 1 ≤ m.uid) m [] first (All-nil (λ m. 1 ≤ m.uid)));
        different = with_key-apart key uid kept.keys sound.different place.new;
      }

  keyed_sound : (kept : KeptMaildrop A) (key : List ℕ) (uid : ℕ) → IsSound kept → length kept.keys + 1 < kept.next_uid → lookup (bytes_eq key) kept.keys ≡ None → IsSound (changed kept (Keyed key uid))
  keyed_sound kept key uid sound few new =
      let old = sound.consistent in
      record {
        consistent = record {
          few = old.few;
          small = old.small;
          ascending = old.ascending;
          given = old.given;
          keyed = omega (arith, few, length-append kept.keys ((key, uid) ∷ []));
          issued = old.issued;
        };
        numbered = sound.numbered;
        different = with_key-apart (Some key) uid kept.keys sound.different new;
      }

  next_sound : (kept : KeptMaildrop A) (uid : ℕ) → IsSound kept → kept.next_uid ≤ uid → uid ≤ highest_id + 1 → IsSound (changed kept (Next uid))
  next_sound kept uid sound low high =
      let old = sound.consistent in
      record {
        consistent = record {
          few = old.few;
          small = old.small;
          ascending = old.ascending;
          given = All-weaker (λ m. m.uid < kept.next_uid) (λ m. m.uid < uid) (λ m less. omega (arith, less, low)) kept.messages old.given;
          keyed = omega (arith, old.keyed, low);
          issued = high;
        };
        numbered = sound.numbered;
        different = sound.different;
      }

  changed_sound : (kept : KeptMaildrop A) (change : Change A) → IsSound kept → can_change kept change ≡ true → IsSound (changed kept change)
  changed_sound kept (Stored uid text key) sound can = stored_sound kept uid text key sound (place_from_test kept uid text key can)
  changed_sound kept (Removed uids) sound can = record {
    consistent = consistent_without kept uids sound.consistent;
    numbered = All-filter (λ (m : Message A). not (list_any (λ uid. uid == m.uid) uids)) (λ m. 1 ≤ m.uid) kept.messages sound.numbered;
    different = sound.different;
  }
  changed_sound kept (Keyed key uid) sound can = keyed_sound kept key uid sound (grind (arith, nat_tests, can)) (none_from_test (lookup (bytes_eq key) kept.keys) (grind (arith, nat_tests, can)))
  changed_sound kept (Next uid) sound can = next_sound kept uid sound (grind (arith, nat_tests, can)) (grind (arith, nat_tests, can))

  by_test : (kept : KeptMaildrop A) (change : Change A) (can : Bool) → can_change kept change ≡ can → IsSound kept → IsSound (cond can (changed kept change) kept)
  by_test kept change true is sound = changed_sound kept change sound is
  by_test kept change false is sound = sound

  pub taken_sound : (kept : KeptMaildrop A) (change : Change A) → IsSound kept → IsSound (changed_if_fit kept change)
  taken_sound kept change sound = by_test kept change (can_change kept change) refl sound

  pub opened_sound : (limits : Limits) (keys : ℕ) (kept : KeptMaildrop A) → IsSound kept → IsSound (closed (opened limits keys kept))
  opened_sound limits keys kept sound =
      let fewer : length (last_keys keys kept.keys) ≤ length kept.keys = omega (arith, ap length (last_keys-drop keys kept.keys), length-drop (length kept.keys - keys) kept.keys) in
      record {
        consistent = few_keys (last_keys keys kept.keys) kept fewer sound.consistent;
        numbered = sound.numbered;
        different = last-apart keys kept.keys sound.different;
      }

  changed_by-sound : (kept : KeptMaildrop A) (cs : List (Change A)) → IsSound kept → can_come kept cs ≡ true → IsSound (changed_by kept cs)
  changed_by-sound kept [] sound can = sound
  changed_by-sound kept (c ∷ cs) sound can =
      let p = parts (can_change kept c) (can_come (changed kept c) cs) can in
      changed_by-sound (changed kept c) cs (changed_sound kept c sound p.0) p.1

  pub performed_sound : (m : Maildrop A) (commands : List (Command A)) → AreLimits m.limits → IsSound (closed m) → IsSound (closed (after_steps m (performing commands)))
  performed_sound m commands limits sound =
      subst (λ (k : KeptMaildrop A). IsSound k) (enough m commands) (changed_by-sound (closed m) (written_of m commands) sound (written_can m commands limits))
