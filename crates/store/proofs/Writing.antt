-- Segments that are written in batches.
use Rattle.std.proofs.Common.{◌≡◌, ℕ, zero, suc, ◌+◌, ◌-◌, List, [], ◌∷◌, ◌++◌, Some, map, length, drop, refl, sym, ◌∙◌, ap, subst, arith, append_assoc}
use Rattle.std.proofs.lemmas.List.{append-nil, map-append}
use Rattle.std.specs.Prelude.{slice_get}
use Rattle.std.specs.List.{flat_map}
use Rattle.maildrop.specs.Kept.{KeptMaildrop}
use Rattle.maildrop.specs.Key.{last_keys}
use Rattle.maildrop.specs.declared.change.Change.{Change}
use Rattle.maildrop.specs.declared.change.Change.TheVariants.{Next}
use Rattle.maildrop.proofs.LastKeys.{last_keys-drop}
use Rattle.ledger.specs.Changes.{snapshot_of, message_change, key_change}
use Rattle.ledger.specs.Payloads.{payload}
use Rattle.records.specs.Spelling.{IsPayload, spell}
use Rattle.batches.specs.Batches.{IsFileOf, IsGrowth, batch_head, content_of}
use Rattle.batches.specs.Contents.{IsContent, IsContentOf}
use Rattle.batches.proofs.Contents.{length-content}
use Rattle.batches.proofs.Fronts.{file_grown}
use Rattle.store.specs.Segments.{HasWritten, Written, with_last_keys}

module _ {X : Type 0} where
  some : (x y : X) → Some y ≡ Some x → y ≡ x
  some x y e = cc

  drop_next : (xs : List X) (i : ℕ) (x : X) → slice_get xs i ≡ Some x → drop i xs ≡ x ∷ drop (suc i) xs
  drop_next [] i x h = absurd (cc)
  drop_next (y ∷ ys) zero x h = ap (λ z. z ∷ ys) (some x y h)
  drop_next (y ∷ ys) (suc i) x h = drop_next ys i x h

  pub drop_get : (xs : List X) (i : ℕ) (x : X) → slice_get xs i ≡ Some x → drop i xs ≡ x ∷ drop (i + 1) xs
  drop_get xs i x h = let next : suc i ≡ i + 1 = omega arith in drop_next xs i x h ∙ ap (λ n. x ∷ drop n xs) next

  pub map_twice : {Y Z : Type 0} (f : Y → Z) (h : X → Y) (xs : List X) → map f (map h xs) ≡ map (λ x. f (h x)) xs
  map_twice f h [] = refl
  map_twice f h (x ∷ xs) = ap (λ l. f (h x) ∷ l) (map_twice f h xs)

no_others : (others : List (List ℕ)) → content_of others ≡ [] → others ≡ []
no_others [] e = refl
no_others (p ∷ others) e = absurd (omega (arith, ap length e, length-content p others))

module _ {D : Type 0} (salt : ℕ) where
  -- only the head was written
  pub begun : (w : Written D) → w.salt ≡ salt → w.file ≡ batch_head salt → w.content ≡ [] → HasWritten salt [] w
  begun w same head none = record {
    salt_is = same;
    front = [];
    others = [];
    parts = refl;
    file_is = record { batches = []; batches_fit = tt; payloads_are = refl; bytes_are = head ∙ sym (append-nil (batch_head salt)) };
    content_is = none;
  }

  -- a payload was added to the batch
  pub puts : (payloads : List (List ℕ)) (old new : Written D) (payload : List ℕ) → new.salt ≡ old.salt → new.file ≡ old.file
      → ((ps : List (List ℕ)) → IsContentOf ps old.content → IsContentOf (ps ++ payload ∷ []) new.content) → HasWritten salt payloads old → HasWritten salt (payloads ++ payload ∷ []) new
  puts payloads old new payload same file added h = record {
    salt_is = same ∙ h.salt_is;
    front = h.front;
    others = h.others ++ payload ∷ [];
    parts = ap (λ (x : List (List ℕ)). x ++ payload ∷ []) h.parts ∙ append_assoc h.front h.others (payload ∷ []);
    file_is = subst (λ (b : List ℕ). IsFileOf salt h.front b) (sym file) h.file_is;
    content_is = added h.others h.content_is;
  }

  -- the batch was written
  pub flushes : (payloads : List (List ℕ)) (old new : Written D) → IsContent old.content → new.salt ≡ old.salt → new.file ≡ old.file ++ spell old.salt (length old.file) old.content → new.content ≡ []
      → HasWritten salt payloads old → HasWritten salt payloads new
  flushes payloads old new is same file none h =
      let growth : IsGrowth salt (length old.file) h.others (spell old.salt (length old.file) old.content) = record {
        batches = h.others ∷ [];
        batches_fit = (subst IsPayload h.content_is is.fits, tt);
        payloads_are = append-nil h.others;
        bytes_are = ap (λ (s : ℕ). spell s (length old.file) old.content) h.salt_is
            ∙ ap (spell salt (length old.file)) h.content_is
            ∙ sym (append-nil (spell salt (length old.file) (content_of h.others)));
      } in
      let grown = file_grown salt h.front h.others old.file (spell old.salt (length old.file) old.content) h.file_is growth in
      record {
        salt_is = same ∙ h.salt_is;
        front = payloads;
        others = [];
        parts = sym (append-nil payloads);
        file_is = subst (λ (b : List ℕ). IsFileOf salt payloads b) (sym file) (subst (λ (ps : List (List ℕ)). IsFileOf salt ps (old.file ++ spell old.salt (length old.file) old.content)) (sym h.parts) grown);
        content_is = none;
      }

  -- all payloads are in the file
  pub all_written : (payloads : List (List ℕ)) (w : Written D) → w.content ≡ [] → HasWritten salt payloads w → IsFileOf salt payloads w.file
  all_written payloads w none h =
      let all : payloads ≡ h.front = h.parts ∙ ap (λ (x : List (List ℕ)). h.front ++ x) (no_others h.others (sym h.content_is ∙ none)) ∙ append-nil h.front in
      subst (λ (ps : List (List ℕ)). IsFileOf salt ps w.file) (sym all) h.file_is

  -- of these payloads all but the rest were added, after others
  pub record IsAmong (payloads all rest : List (List ℕ)) (w : Written D) : Type 0 where
    pub added : List (List ℕ)
    pub parts : all ≡ added ++ rest
    pub written : HasWritten salt (payloads ++ added) w

  pub none_added : (payloads all : List (List ℕ)) (w : Written D) → HasWritten salt payloads w → IsAmong payloads all all w
  none_added payloads all w h = record { added = []; parts = refl; written = subst (λ (ps : List (List ℕ)). HasWritten salt ps w) (sym (append-nil payloads)) h }

  -- the next of them were added
  pub adds : (payloads all rest next more : List (List ℕ)) (old new : Written D) → rest ≡ next ++ more → ((ps : List (List ℕ)) → HasWritten salt ps old → HasWritten salt (ps ++ next) new)
      → IsAmong payloads all rest old → IsAmong payloads all more new
  adds payloads all rest next more old new is step a = record {
    added = a.added ++ next;
    parts = a.parts ∙ ap (λ (x : List (List ℕ)). a.added ++ x) is ∙ sym (append_assoc a.added next more);
    written = subst (λ (ps : List (List ℕ)). HasWritten salt ps new) (append_assoc payloads a.added next) (step (payloads ++ a.added) a.written);
  }

  pub all_added : (payloads all rest : List (List ℕ)) (w : Written D) → rest ≡ [] → IsAmong payloads all rest w → HasWritten salt (payloads ++ all) w
  all_added payloads all rest w none a =
      let is : all ≡ a.added = a.parts ∙ ap (λ (x : List (List ℕ)). a.added ++ x) none ∙ append-nil a.added in
      subst (λ (ps : List (List ℕ)). HasWritten salt (payloads ++ ps) w) (sym is) a.written

-- all that is written of a user
pub user_is : {A : Type 0} (n first : ℕ) (name : List ℕ) (kept : KeptMaildrop A) (payloads : List (List ℕ)) → first ≡ length kept.keys - n
    → ((payloads ++ map (λ m. payload 0 name (message_change m)) kept.messages) ++ payload {A = A} 0 name (Next kept.next_uid) ∷ []) ++ map (λ k. payload {A = A} 0 name (key_change k)) (drop first kept.keys)
    ≡ payloads ++ map (payload 0 name) (snapshot_of (with_last_keys n kept))
user_is {A} n first name kept payloads at =
    let P : Change A → List ℕ = payload 0 name in
    let ms = map (λ m. P (message_change m)) kept.messages in
    let next = P (Next kept.next_uid) in
    let kept_keys = last_keys n kept.keys in
    let ks = map (λ k. P (key_change k)) kept_keys in
    let keys_are : drop first kept.keys ≡ kept_keys = ap (λ i. drop i kept.keys) at ∙ sym (last_keys-drop n kept.keys) in
    let all : map P (snapshot_of (with_last_keys n kept)) ≡ ms ++ (next ∷ ks) =
    map-append P (map message_change kept.messages) (Next kept.next_uid ∷ map key_change kept_keys)
    ∙ ap (λ (l : List (List ℕ)). l ++ (next ∷ map P (map key_change kept_keys))) (map_twice P message_change kept.messages)
    ∙ ap (λ (l : List (List ℕ)). ms ++ (next ∷ l)) (map_twice P key_change kept_keys) in
    ap (λ l. ((payloads ++ ms) ++ next ∷ []) ++ map (λ k. P (key_change k)) l) keys_are
    ∙ append_assoc (payloads ++ ms) (next ∷ []) ks
    ∙ append_assoc payloads ms (next ∷ ks)
    ∙ ap (λ (l : List (List ℕ)). payloads ++ l) (sym all)
