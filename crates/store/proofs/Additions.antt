-- Segments that grow by entries.
use Rattle.std.proofs.Common.{◌≡◌, ℕ, ◌+◌, ◌-◌, List, [], ◌∷◌, ◌++◌, Option, None, Some, true, map, length, refl, sym, ◌∙◌, ap, subst, ◌≤◌, arith, append_assoc, append-nil, length-append}
use Rattle.std.proofs.lemmas.List.{map-append}
use Rattle.std.specs.Prelude.{is_some, option_map}
use Rattle.std.specs.List.{AllByRecursion, flat_map}
use Rattle.std.specs.declared.alloc.Global.{Global}
use Rattle.maildrop.specs.Kept.{KeptTable, kept_for}
use Rattle.std.specs.Int.{w32, to_be_bytes}
use Rattle.records.specs.declared.place.TheConstants.{LARGEST_PAYLOAD}
use Rattle.records.specs.Spelling.{IsPayload, spell}
use Rattle.batches.specs.Batches.{IsFileOf, IsGrowth, content_of}
use Rattle.batches.specs.Contents.{IsContentOf}
use Rattle.batches.proofs.Fronts.{file_grown}
use Rattle.ledger.specs.Changes.{snapshot_of}
use Rattle.ledger.specs.Payloads.{entry, begin_payload, opened_payload}
use Rattle.ledger.specs.Taking.{entry_bytes}
use Rattle.ledger.specs.declared.entry.Entry.{Entry}
use Rattle.store.specs.Whole.{entry_payload, IsEnded, IsNumbered, IsRunning, running_payloads}
use Rattle.store.specs.Restarts.{user_entries, snapshot_entries}
use Rattle.store.specs.Running.{ArePending, IsAddition, IsEntry, contents_in, with_payloads}
use Rattle.store.specs.declared.pending.Closed.{Closed}
use Rattle.store.specs.Segments.{names_in, snapshot_payloads, user_payloads, with_last_keys}
use Rattle.store.proofs.Writing.{map_twice}

-- nothing is to be added
pub no_addition : IsAddition []
no_addition = record { entries = []; is = refl; fits = omega arith }

content-both : (ps qs : List (List ℕ)) → content_of (ps ++ qs) ≡ content_of ps ++ content_of qs
content-both [] qs = refl
content-both (p ∷ ps) qs =
    ap (λ (x : List ℕ). to_be_bytes w32 (length p) ++ (p ++ x)) (content-both ps qs)
    ∙ ap (λ (x : List ℕ). to_be_bytes w32 (length p) ++ x) (sym (append_assoc p (content_of ps) (content_of qs)))
    ∙ sym (append_assoc (to_be_bytes w32 (length p)) (p ++ content_of ps) (content_of qs))

pub contents_join : (ps qs : List (List ℕ)) → content_of (ps ++ qs) ≡ content_of ps ++ content_of qs
contents_join = content-both

-- one entry more
module _ (old new payload : List ℕ) (is : IsAddition old) (added : (payloads : List (List ℕ)) → IsContentOf payloads old → IsContentOf (payloads ++ payload ∷ []) new) where
  pub content_grows : new ≡ with_payloads old (payload ∷ [])
  content_grows = added (map entry_payload is.entries) is.is ∙ content-both (map entry_payload is.entries) (payload ∷ []) ∙ ap (λ (x : List ℕ). x ++ content_of (payload ∷ [])) (sym is.is)

  pub addition_grows : IsEntry payload → length new ≤ LARGEST_PAYLOAD → IsAddition new
  addition_grows e short = record {
    entries = is.entries ++ e.entry ∷ [];
    is = added (map entry_payload is.entries) is.is
        ∙ ap (λ (p : List ℕ). content_of (map entry_payload is.entries ++ p ∷ [])) e.is
        ∙ ap content_of (sym (map-append entry_payload is.entries (e.entry ∷ [])));
    fits = short;
  }

-- a segment to which a batch of entries was added
running_grows : (salt size next : ℕ) (content old new : List ℕ) → IsRunning salt size old → IsAddition content → new ≡ old ++ spell salt size content → next ≡ size + length (spell salt size content) → IsRunning salt next new
running_grows salt size next content old new r added is step =
    let ps = running_payloads r.number r.snapshot r.epoch in
    let qs = map entry_payload added.entries in
    let front = begin_payload r.number ∷ map entry_payload r.snapshot in
    let all : ps ++ qs ≡ running_payloads r.number r.snapshot (r.epoch ++ added.entries) =
    append_assoc front (opened_payload ∷ map entry_payload r.epoch) qs
    ∙ ap (λ (l : List (List ℕ)). front ++ (opened_payload ∷ l)) (sym (map-append entry_payload r.epoch added.entries)) in
    let growth : IsGrowth salt (length old) qs (spell salt size content) = record {
      batches = qs ∷ [];
      batches_fit = (subst IsPayload added.is added.fits, tt);
      payloads_are = append-nil qs;
      bytes_are = ap (λ (n : ℕ). spell salt n content) r.size_is ∙ ap (spell salt (length old)) added.is ∙ sym (append-nil (spell salt (length old) (content_of qs)));
    } in
    let grown = file_grown salt ps qs old (spell salt size content) r.bytes_are growth in
    record {
      number = r.number;
      snapshot = r.snapshot;
      epoch = r.epoch ++ added.entries;
      bytes_are = subst (λ (b : List ℕ). IsFileOf salt (running_payloads r.number r.snapshot (r.epoch ++ added.entries)) b) (sym is) (subst (λ (l : List (List ℕ)). IsFileOf salt l (old ++ spell salt size content)) all grown);
      size_is = omega (arith, step, r.size_is, ap length is, length-append old (spell salt size content));
    }

pub numbered_grows : (number salt size next : ℕ) (content old new : List ℕ) → IsNumbered number salt size old → IsAddition content → new ≡ old ++ spell salt size content → next ≡ size + length (spell salt size content) → IsNumbered number salt next new
unfolding running_grows
numbered_grows number salt size next content old new r added is step = record { running = running_grows salt size next content old new r.running added is step; number_is = r.number_is }

pub some_mapped : {X Y : Type 0} (f : X → Y) (o : Option X) → is_some (option_map f o) ≡ is_some o
some_mapped f None = refl
some_mapped f (Some x) = refl

-- what a ledger adds of a command that changes something
pub entry_added : (o : Option (Entry Global)) (bytes : List ℕ) → bytes ≡ [] ++ entry_bytes o → is_some o ≡ true → IsEntry bytes
entry_added None bytes is some = absurd (cc)
entry_added (Some e) bytes is some = record { entry = e; is = is }

pub snapshot_said : (keys : ℕ) (table : KeptTable Global) (names : List (List ℕ)) → flat_map (user_payloads keys table) names ≡ map entry_payload (flat_map (user_entries keys table) names)
snapshot_said keys table [] = refl
snapshot_said keys table (name ∷ names) =
    let changes = snapshot_of (with_last_keys keys (kept_for name table)) in
    let rest = flat_map (user_entries keys table) names in
    ap (λ (l : List (List ℕ)). user_payloads keys table name ++ l) (snapshot_said keys table names)
    ∙ ap (λ (l : List (List ℕ)). l ++ map entry_payload rest) (sym (map_twice entry_payload (entry 0 name) changes))
    ∙ sym (map-append entry_payload (user_entries keys table name) rest)

-- a segment whose epoch begins
opened_is_running : (salt size number keys : ℕ) (table : KeptTable Global) (bytes : List ℕ) → IsFileOf salt (snapshot_payloads number keys table) bytes → size ≡ length bytes → IsRunning salt size bytes
opened_is_running salt size number keys table bytes is size_is = record {
  number = number;
  snapshot = snapshot_entries keys table;
  epoch = [];
  bytes_are = subst (λ (l : List (List ℕ)). IsFileOf salt l bytes) (ap (λ (l : List (List ℕ)). begin_payload number ∷ l ++ opened_payload ∷ []) (snapshot_said keys table (names_in table))) is;
  size_is = size_is;
}

pub opened_is_numbered : (salt size number keys : ℕ) (table : KeptTable Global) (bytes : List ℕ) → IsFileOf salt (snapshot_payloads number keys table) bytes → size ≡ length bytes → IsNumbered number salt size bytes
unfolding opened_is_running
opened_is_numbered salt size number keys table bytes is size_is = record { running = opened_is_running salt size number keys table bytes is size_is; number_is = refl }

-- a segment to which an empty batch was added
pub ended : (salt size : ℕ) (before bytes : List ℕ) → IsRunning salt size before → bytes ≡ before ++ spell salt (length before) [] → IsEnded bytes
ended salt size before bytes r is =
    let ps = running_payloads r.number r.snapshot r.epoch in
    let growth : IsGrowth salt (length before) [] (spell salt (length before) []) = record {
      batches = [] ∷ [];
      batches_fit = (omega arith, tt);
      payloads_are = refl;
      bytes_are = sym (append-nil (spell salt (length before) []));
    } in
    record {
      salt = salt;
      number = r.number;
      snapshot = r.snapshot;
      epoch = r.epoch;
      before = before;
      before_is = r.bytes_are;
      bytes_are = is;
      whole = subst (λ (b : List ℕ). IsFileOf salt ps b) (sym is) (subst (λ (l : List (List ℕ)). IsFileOf salt l (before ++ spell salt (length before) [])) (append-nil ps) (file_grown salt ps [] before (spell salt (length before) []) r.bytes_are growth));
    }

-- ---- batches that are pending

-- the oldest was closed before
pub contents-more : (closed : List Closed) (one : Closed) → contents_in (closed ++ one ∷ []) ≡ contents_in closed ++ one.batch
contents-more [] one = append-nil one.batch
contents-more (c ∷ closed) one = ap (λ (x : List ℕ). c.batch ++ x) (contents-more closed one) ∙ sym (append_assoc c.batch (contents_in closed) one.batch)

are_more : (closed : List Closed) (one : Closed) → AllByRecursion (λ (c : Closed). IsAddition c.batch) closed → IsAddition one.batch → AllByRecursion (λ (c : Closed). IsAddition c.batch) (closed ++ one ∷ [])
are_more [] one all is = (is, tt)
are_more (c ∷ closed) one all is = (all.0, are_more closed one all.1 is)

-- the batch that takes entries was closed
pub same_contents : (closed : List Closed) (one : Closed) → contents_in (closed ++ one ∷ []) ++ [] ≡ contents_in closed ++ one.batch
same_contents closed one = append-nil (contents_in (closed ++ one ∷ [])) ∙ contents-more closed one

pub closes : (closed : List Closed) (one : Closed) (size : ℕ) → ArePending closed one.batch size → ArePending (closed ++ one ∷ []) [] size
closes closed one size p = record {
  closed_are = are_more closed one p.closed_are p.last_is;
  last_is = no_addition;
  size_is = p.size_is ∙ ap length (sym (same_contents closed one));
}

module _ (closed new : List Closed) (one : Closed) (old last : List ℕ) (size : ℕ) (is : new ≡ closed ++ one ∷ []) (batch : one.batch ≡ old) (none : last ≡ []) where
  pub closes_to : ArePending closed old size → ArePending new last size
  closes_to p =
      subst (λ (cs : List Closed). ArePending cs last size) (sym is)
      (subst (λ (l : List ℕ). ArePending (closed ++ one ∷ []) l size) (sym none) (closes closed one size (subst (λ (l : List ℕ). ArePending closed l size) (sym batch) p)))

  pub closed_contents : contents_in new ++ last ≡ contents_in closed ++ old
  closed_contents =
      ap (λ (cs : List Closed). contents_in cs ++ last) is
      ∙ ap (λ (l : List ℕ). contents_in (closed ++ one ∷ []) ++ l) none
      ∙ same_contents closed one
      ∙ ap (λ (l : List ℕ). contents_in closed ++ l) batch

-- an entry was added
module _ (closed : List Closed) (last new payload : List ℕ) (size : ℕ) (p : ArePending closed last size) (added : (payloads : List (List ℕ)) → IsContentOf payloads last → IsContentOf (payloads ++ payload ∷ []) new) where
  pub pending_grows : IsEntry payload → length new ≤ LARGEST_PAYLOAD → (after : ℕ) → after ≡ size + (4 + length payload) → length new ≡ length last + (4 + length payload) → ArePending closed new after
  pending_grows e short after step long = record {
    closed_are = p.closed_are;
    last_is = addition_grows last new payload p.last_is added e short;
    size_is = omega (arith, step, long, p.size_is, length-append (contents_in closed) last, length-append (contents_in closed) new);
  }

  pub pending_content : contents_in closed ++ new ≡ with_payloads (contents_in closed ++ last) (payload ∷ [])
  pending_content = ap (λ (x : List ℕ). contents_in closed ++ x) (content_grows last new payload p.last_is added) ∙ sym (append_assoc (contents_in closed) last (content_of (payload ∷ [])))

-- the oldest was taken out
module _ (closed others : List Closed) (one : Closed) (last : List ℕ) (size : ℕ) (p : ArePending closed last size) (is : closed ≡ one ∷ others) where
  all_are : AllByRecursion (λ (c : Closed). IsAddition c.batch) (one ∷ others)
  all_are = subst (AllByRecursion (λ (c : Closed). IsAddition c.batch)) is p.closed_are

  pub oldest_is : IsAddition one.batch
  oldest_is = all_are.0

  pub oldest_parts : contents_in closed ++ last ≡ one.batch ++ (contents_in others ++ last)
  oldest_parts = ap (λ (cs : List Closed). contents_in cs ++ last) is ∙ append_assoc one.batch (contents_in others) last

  pub oldest_fits : length one.batch ≤ size
  oldest_fits = omega (arith, p.size_is, ap length oldest_parts, length-append one.batch (contents_in others ++ last))

  pub others_are : (after : ℕ) → after ≡ size - length one.batch → ArePending others last after
  others_are after step = record {
    closed_are = all_are.1;
    last_is = p.last_is;
    size_is = omega (arith, step, p.size_is, ap length oldest_parts, length-append one.batch (contents_in others ++ last));
  }

-- there was only the one that takes entries
module _ (closed : List Closed) (last : List ℕ) (size : ℕ) (p : ArePending closed last size) (none : closed ≡ []) where
  pub only_parts : contents_in closed ++ last ≡ last
  only_parts = ap (λ (cs : List Closed). contents_in cs ++ last) none

  pub only_fits : length last ≤ size
  only_fits = omega (arith, p.size_is, ap length only_parts)

  pub none_pending : (after : ℕ) → after ≡ size - length last → ArePending [] [] after
  none_pending after step = record {
    closed_are = tt;
    last_is = no_addition;
    size_is = omega (arith, step, p.size_is, ap length only_parts);
  }
