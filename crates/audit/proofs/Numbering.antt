-- The tickets of a log's inputs, one after another.
use Rattle.std.proofs.Common.{◌≡◌, ℕ, zero, suc, ◌+◌, ◌≤◌, ◌<◌, length, List, [], ◌∷◌, ◌++◌, Bool, true, false, Option, Some, None, refl, sym, ap, ◌∙◌, subst, ⊎_elim, cond, take, arith}
use Rattle.std.specs.Prelude.{slice_get, ◌&&◌, ◌||◌}
use Rattle.std.specs.Map.{lookup}
use Rattle.std.proofs.lemmas.Bool.{true≢false, and_parts, or_cases, cases_lt}
use Rattle.maildrop.specs.CommandId.{CommandId, same_id}
use Rattle.maildrop.specs.Equality.{id_decides}
use Rattle.maildrop.specs.Ticket.{Ticket}
use Rattle.maildrop.specs.declared.op.Op.{Op}
use Rattle.node.proofs.Replaying.{submits_of-push}
use Rattle.node.specs.Nodes.{AreGiven}
use Rattle.node.specs.Replay.{counts, submits_of, next_ticket, ticket_of}
use Rattle.node.specs.Tickets.{tickets_of}
use Rattle.node.specs.declared.input.Input.{Input}
use Rattle.node.specs.declared.input.Input.TheVariants.{Submit, Arrive, Tick, Campaign, Crash}
use Rattle.node.specs.declared.log.NodeLog.{NodeLog}
use Rattle.audit.specs.Numbers.{front, is_id, submits_it, submitted_by, same_at, found_at, AreNumbered}
use Rattle.audit.specs.Replays.{key_of, same_submit}
use Rattle.audit.proofs.RealLaws.{count_of}

pub take_got : {X : Type 0} (xs : List X) (j : ℕ) (x : X) → slice_get xs j ≡ Some x → take (suc j) xs ≡ take j xs ++ x ∷ []
take_got [] j x e = absurd (cc)
take_got (y ∷ ys) zero x e =
    let same : y ≡ x = cc in
    ap (λ z. z ∷ []) same
take_got (y ∷ ys) (suc j) x e = ap (λ zs. y ∷ zs) (take_got ys j x e)

pub take_none : {X : Type 0} (xs : List X) (j : ℕ) → slice_get xs j ≡ None → take (suc j) xs ≡ take j xs
take_none [] zero e = refl
take_none [] (suc j) e = refl
take_none (y ∷ ys) zero e = absurd (cc)
take_none (y ∷ ys) (suc j) e = ap (λ zs. y ∷ zs) (take_none ys j e)

pub got_before : {X : Type 0} (xs : List X) (y : X) (j : ℕ) → j < length xs → slice_get (xs ++ y ∷ []) j ≡ slice_get xs j
got_before [] y j h = absurd (omega (arith, h))
got_before (x ∷ xs) y zero h = refl
got_before (x ∷ xs) y (suc j) h =
    let less : j < length xs = omega (arith, h) in
    got_before xs y j less

pub got_last : {X : Type 0} (xs : List X) (y : X) (j : ℕ) → length xs ≡ j → slice_get (xs ++ y ∷ []) j ≡ Some y
got_last [] y zero h = refl
got_last [] y (suc j) h = absurd (omega (arith, h))
got_last (x ∷ xs) y zero h = absurd (omega (arith, h))
got_last (x ∷ xs) y (suc j) h =
    let less : length xs ≡ j = omega (arith, h) in
    got_last xs y j less

pub length_more : {X : Type 0} (xs : List X) (y : X) → length (xs ++ y ∷ []) ≡ suc (length xs)
length_more [] y = refl
length_more (x ∷ xs) y = ap suc (length_more xs y)

pub other_way : (a b : CommandId) (t : Bool) → same_id a b ≡ t → same_id b a ≡ t
other_way a b true e = (id_decides b a).1 (sym ((id_decides a b).0 e))
other_way a b false e =
    go (same_id b a) refl
  where
    go : (t : Bool) → same_id b a ≡ t → t ≡ false
    go true h = absurd (true≢false (sym ((id_decides a b).1 (sym ((id_decides b a).0 h))) ∙ e))
    go false h = refl

same_some : {X : Type 0} (x y : X) → Some x ≡ Some y → x ≡ y
same_some x y e = cc

count_next : (tickets after : List (Option Ticket)) (ticket : Option Ticket) (k : ℕ) → length tickets ≡ k → after ≡ tickets ++ ticket ∷ [] → length after ≡ suc k
count_next tickets after ticket k count is = ap length is ∙ length_more tickets ticket ∙ ap suc count

module _ {A : Type 0} where
  pub given_next : (log : NodeLog A) (k : ℕ) (input : Input A) (given after : List (List ℕ × ℕ)) → slice_get log.inputs k ≡ Some input → AreGiven (take k log.inputs) given
      → ((name : List ℕ) → tickets_of name after ≡ counts name input + tickets_of name given) → AreGiven (take (suc k) log.inputs) after
  given_next log k input given after at h next =
      λ name. next name ∙ ap (λ n. counts name input + n) (h name) ∙ sym (submits_of-push name (take k log.inputs) input) ∙ ap (submits_of name) (sym (take_got log.inputs k input at))

  pub nothing_counts : (input : Input A) → ((user : List ℕ) (op : Op A) → input ≡ Submit user op → ⊥) → (name : List ℕ) → counts name input ≡ 0
  nothing_counts (Submit user op) h name = absurd (h user op refl)
  nothing_counts (Arrive e) h name = refl
  nothing_counts Tick h name = refl
  nothing_counts Campaign h name = refl
  nothing_counts Crash h name = refl

  -- later there are no fewer
  grows : (log : NodeLog A) (name : List ℕ) (k : ℕ) → submits_of name (take k log.inputs) ≤ submits_of name (take (suc k) log.inputs)
  grows log name k =
      go (slice_get log.inputs k) refl
    where
      go : (o : Option (Input A)) → slice_get log.inputs k ≡ o → submits_of name (take k log.inputs) ≤ submits_of name (take (suc k) log.inputs)
      go None e =
          let same = ap (submits_of name) (take_none log.inputs k e) in
          omega (arith, same)
      go (Some x) e =
          let same = ap (submits_of name) (take_got log.inputs k x e) in
          let pushed = submits_of-push name (take k log.inputs) x in
          omega (arith, same, pushed)

  -- a number that was given counts a Submit
  seq_counts : (log : NodeLog A) (id : CommandId) (x : Input A) (k : ℕ) → submitted_by log id x k ≡ true → id.ticket.seq ≤ submits_of id.user (take k log.inputs)
  seq_counts log id x zero h = absurd (true≢false (sym h))
  seq_counts log id x (suc k) h =
      ⊎_elim
      (λ here. go (slice_get log.inputs k) refl here)
      (λ before.
      let old = seq_counts log id x k before in
      let more = grows log id.user k in
      omega (arith, old, more))
      (or_cases (submits_it (front log k) id x (slice_get log.inputs k)) (submitted_by log id x k) h)
    where
      its : (o : Option CommandId) → is_id id o ≡ true → o ≡ Some id
      its None e = absurd (true≢false (sym e))
      its (Some given) e = ap Some (sym ((id_decides id given).0 e))

      go : (o : Option (Input A)) → slice_get log.inputs k ≡ o → submits_it (front log k) id x o ≡ true → id.ticket.seq ≤ submits_of id.user (take (suc k) log.inputs)
      go None e t = absurd (true≢false (sym t))
      go (Some y) e t =
          let p = and_parts (is_id id (key_of (Some (front log k)) y)) (same_submit y x) t in
          let counted = count_of (Some (front log k)) y id (its (key_of (Some (front log k)) y) p.0) in
          let seq = counted.0 in
          let after = counted.1 in
          let same = ap (submits_of id.user) (take_got log.inputs k y e) in
          omega (arith, seq, after, same)

  -- so the next one is new
  is_new : (log : NodeLog A) (user : List ℕ) (x : Input A) (k : ℕ) → submitted_by log (record { user = user; ticket = next_ticket log.opening.me user (take k log.inputs) }) x k ≡ false
  is_new log user x k =
      go (submitted_by log (record { user = user; ticket = next_ticket log.opening.me user (take k log.inputs) }) x k) refl
    where
      go : (t : Bool) → submitted_by log (record { user = user; ticket = next_ticket log.opening.me user (take k log.inputs) }) x k ≡ t → t ≡ false
      go false e = refl
      go true e =
          let low = seq_counts log (record { user = user; ticket = next_ticket log.opening.me user (take k log.inputs) }) x k e in
          absurd (omega (arith, low))

  -- one ticket more
  each_next : (log : NodeLog A) (k : ℕ) (input : Input A) (tickets after : List (Option Ticket)) (ticket : Option Ticket) → slice_get log.inputs k ≡ Some input → length tickets ≡ k
      → ((j : ℕ) (x : Input A) → j < k → slice_get log.inputs j ≡ Some x → slice_get tickets j ≡ Some (ticket_of (front log j) x))
      → after ≡ tickets ++ ticket ∷ [] → ticket ≡ ticket_of (front log k) input
      → (j : ℕ) (x : Input A) → j < suc k → slice_get log.inputs j ≡ Some x → slice_get after j ≡ Some (ticket_of (front log j) x)
  each_next log k input tickets after ticket at count each is its j x less there =
      ⊎_elim
      (λ (before : j < k).
      let within : j < length tickets = omega (arith, before, count) in
      ap (λ ts. slice_get ts j) is ∙ got_before tickets ticket j within ∙ each j x before there)
      (λ (not_before : k ≤ j).
      let same : k ≡ j = omega (arith, not_before, less) in
      let input_is : input ≡ x = same_some input x (sym at ∙ ap (slice_get log.inputs) same ∙ there) in
      ap (λ ts. slice_get ts j) is ∙ got_last tickets ticket j (count ∙ same) ∙ ap Some (its ∙ ap (λ n. ticket_of (front log n) input) same ∙ ap (ticket_of (front log j)) input_is))
      (cases_lt j k)

  no_ticket : (log : NodeLog A) (input : Input A) → ((user : List ℕ) (op : Op A) → input ≡ Submit user op → ⊥) → (ticket_of log input ≡ None) × (key_of (Some log) input ≡ None)
  no_ticket log (Submit user op) h = absurd (h user op refl)
  no_ticket log (Arrive e) h = (refl, refl)
  no_ticket log Tick h = (refl, refl)
  no_ticket log Campaign h = (refl, refl)
  no_ticket log Crash h = (refl, refl)

  pub other_next : (log : NodeLog A) (k : ℕ) (input : Input A) (tickets after : List (Option Ticket)) (places : List (CommandId × ℕ)) → slice_get log.inputs k ≡ Some input → AreNumbered log k tickets places
      → ((user : List ℕ) (op : Op A) → input ≡ Submit user op → ⊥) → after ≡ tickets ++ None ∷ [] → AreNumbered log (suc k) after places
  other_next log k input tickets after places at h other is =
      let none = no_ticket (front log k) input other in
      record {
        count = count_next tickets after None k h.count is;
        each = each_next log k input tickets after None at h.count h.each is (sym none.0);
        found = λ id x. h.found id x ∙ sym (ap (λ o. submits_it (front log k) id x o || submitted_by log id x k) at ∙ ap (λ o. (is_id id o && same_submit input x) || submitted_by log id x k) none.1);
      }

  pub submit_next : (log : NodeLog A) (k : ℕ) (input : Input A) (user : List ℕ) (op : Op A) (ticket : Ticket) (key : CommandId) (tickets after : List (Option Ticket)) (places now : List (CommandId × ℕ)) (given : List (List ℕ × ℕ))
      → slice_get log.inputs k ≡ Some input → AreGiven (take k log.inputs) given → AreNumbered log k tickets places → input ≡ Submit user op
      → ticket ≡ record { node = log.opening.me; seq = 1 + tickets_of user given } → key ≡ record { user = user; ticket = ticket }
      → ((id : CommandId) → lookup (same_id id) now ≡ cond (same_id key id) (Some k) (lookup (same_id id) places))
      → after ≡ tickets ++ Some ticket ∷ [] → AreNumbered log (suc k) after now
  submit_next log k input user op ticket key tickets after places now given at counted h its ticket_is key_is entered is =
      record {
        count = count_next tickets after (Some ticket) k h.count is;
        each = each_next log k input tickets after (Some ticket) at h.count h.each is (ap Some the_ticket ∙ sym (ap (ticket_of (front log k)) its));
        found = found;
      }
    where
      the_ticket : ticket ≡ next_ticket log.opening.me user (take k log.inputs)
      the_ticket = ticket_is ∙ ap (λ (n : ℕ). record { node = log.opening.me; seq = 1 + n }) (counted user)

      the_key : key ≡ record { user = user; ticket = next_ticket log.opening.me user (take k log.inputs) }
      the_key = key_is ∙ ap (λ (t : Ticket). record { user = user; ticket = t }) the_ticket

      new : (x : Input A) → submitted_by log key x k ≡ false
      new x = ap (λ (i : CommandId). submitted_by log i x k) the_key ∙ is_new log user x k

      here : (id : CommandId) (x : Input A) → submits_it (front log k) id x (slice_get log.inputs k) ≡ (same_id id key && same_submit input x)
      here id x =
          ap (submits_it (front log k) id x) at
          ∙ ap (λ o. is_id id o && same_submit input x) (ap (key_of (Some (front log k))) its ∙ ap (λ (i : CommandId). Some i) (sym the_key))

      by : (id : CommandId) (x : Input A) (t : Bool) → same_id key id ≡ t → found_at log x (cond t (Some k) (lookup (same_id id) places)) ≡ (submits_it (front log k) id x (slice_get log.inputs k) || submitted_by log id x k)
      by id x true e =
          ap (same_at x) at
          ∙ sym (ap (λ t. t || submitted_by log id x k) (here id x ∙ ap (λ t. t && same_submit input x) (other_way key id true e))
          ∙ ap (λ t. same_submit input x || t) (ap (λ (i : CommandId). submitted_by log i x k) (sym ((id_decides key id).0 e)) ∙ new x)
          ∙ or_none (same_submit input x))
        where
          or_none : (t : Bool) → (t || false) ≡ t
          or_none true = refl
          or_none false = refl
      by id x false e =
          h.found id x ∙ sym (ap (λ t. t || submitted_by log id x k) (here id x ∙ ap (λ t. t && same_submit input x) (other_way key id false e)))

      found : (id : CommandId) (x : Input A) → found_at log x (lookup (same_id id) now) ≡ submitted_by log id x (suc k)
      found id x = ap (found_at log x) (entered id) ∙ by id x (same_id key id) refl

  pub none_numbered : (log : NodeLog A) (tickets : List (Option Ticket)) (places : List (CommandId × ℕ)) → tickets ≡ [] → places ≡ [] → AreNumbered log 0 tickets places
  none_numbered log tickets places t p =
      record {
        count = ap length t;
        each = λ j x less. absurd (omega (arith, less));
        found = λ id x. ap (λ es. found_at log x (lookup (same_id id) es)) p;
      }

  pub all_numbered : (log : NodeLog A) (k : ℕ) (items : List (Input A)) (tickets : List (Option Ticket)) (places : List (CommandId × ℕ)) → items ≡ log.inputs → k ≤ length items → length items ≤ k → AreNumbered log k tickets places → AreNumbered log (length log.inputs) tickets places
  all_numbered log k items tickets places is low high h =
      let size = ap length is in
      let same : k ≡ length log.inputs = omega (arith, low, high, size) in
      subst (λ n. AreNumbered log n tickets places) same h
