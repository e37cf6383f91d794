-- Entries are checked one after another.
use Rattle.std.proofs.Common.{◌≡◌, ◌⊎◌, ℕ, suc, ◌≤◌, ◌<◌, length, List, [], ◌∷◌, Bool, true, false, Option, Some, None, refl, sym, ap, ◌∙◌, subst, inl, inr, ⊎_elim, cond, drop, arith}
use Rattle.std.specs.Prelude.{slice_get, ◌&&◌, ◌==◌, not, is_some}
use Rattle.std.proofs.lemmas.Bool.{true≢false, eq-eqb, eqb-true, or_parts, or_cases}
use Rattle.maildrop.specs.CommandId.{CommandId, same_id}
use Rattle.maildrop.specs.Equality.{id_decides}
use Rattle.maildrop.specs.declared.outcome.Outcome.{Outcome}
use Rattle.node.specs.declared.log.NodeLog.{NodeLog}
use Rattle.session.specs.declared.transcript.Asked.{Asked}
use Rattle.audit.specs.Checks.{is_place, was_named, IsEarlier, AreFound, submit_of, is_answer, IsLeft, is_right, are_right, named_after}
use Rattle.node.specs.Nodes.{NodeValue}
use Rattle.audit.specs.Nodes.{answers_left}
use Rattle.audit.specs.Names.{entry_key, with_key, names_it, named_in}
use Rattle.node.specs.declared.input.Input.{Input}
use Rattle.audit.specs.Numbers.{submitted_by, same_at, found_at}
use Rattle.audit.specs.Replays.{Replay, answer}
use Rattle.std.proofs.Math.ListN.{drop_of_length-le}
use Rattle.audit.proofs.Naming.{drop_got}
use Rattle.audit.proofs.Numbering.{other_way}

-- an entry that names a command is the first if no earlier one did
pub first_is : (i j : ℕ) (named : List CommandId) (rest found : CommandId → Option (ℕ × ℕ)) → AreFound i j named rest found → (id : CommandId) → rest id ≡ Some (i, j) → is_place i j (found id) ≡ not (was_named named id)
first_is i j named rest found h id is =
    go (was_named named id) refl
  where
    go : (t : Bool) → was_named named id ≡ t → is_place i j (found id) ≡ not t
    go false e = ap (is_place i j) (h.new id e ∙ is) ∙ ap (λ t. t && j == j) (eq-eqb i i refl) ∙ eq-eqb j j refl
    go true e =
        let old = h.old id e in
        ap (is_place i j) old.place ∙ apart old
      where
        apart : (old : IsEarlier (found id) i j) → (old.session == i && old.number == j) ≡ false
        apart old =
            by (old.session == i) (old.number == j) refl refl
          where
            by : (t u : Bool) → (old.session == i) ≡ t → (old.number == j) ≡ u → (t && u) ≡ false
            by false u s n = refl
            by true false s n = refl
            by true true s n =
                let same = eqb-true old.session i s in
                let equal = eqb-true old.number j n in
                ⊎_elim (λ (less : old.session < i). absurd (omega (arith, less, same))) (λ both. let less = both.1 in absurd (omega (arith, less, equal))) old.before

later : (i j : ℕ) (found : Option (ℕ × ℕ)) → IsEarlier found i j → IsEarlier found i (suc j)
later i j found h =
    record { session = h.session; number = h.number; place = h.place; before = ⊎_elim (λ less. inl less) (λ both. let less = both.1 in inr (both.0, omega (arith, less))) h.before }

all_five : (b s f o r : Bool) → (f && (((b && s) && o) && r)) ≡ ((b && s) && (f && (o && r)))
all_five false s false o r = refl
all_five false s true o r = refl
all_five true false false o r = refl
all_five true false true o r = refl
all_five true true false o r = refl
all_five true true true o r = refl

none_of : (x o r : Bool) → (x && (false && (o && r))) ≡ false
none_of true o r = refl
none_of false o r = refl

module _ {A : Type 0} where
  named_here : (id : CommandId) (i j : ℕ) (entry : Asked A) (entries : List (Asked A)) (otherwise : Option (ℕ × ℕ)) → entry_key entry ≡ Some id → named_in id i j (entry ∷ entries) otherwise ≡ Some (i, j)
  named_here id i j entry entries otherwise e =
      ap (λ k. cond (names_it id k) (Some (i, j)) (named_in id i (suc j) entries otherwise)) e ∙ ap (λ t. cond t (Some (i, j)) (named_in id i (suc j) entries otherwise)) ((id_decides id id).1 refl)

  pub first_of : (i j : ℕ) (named : List CommandId) (rest found : CommandId → Option (ℕ × ℕ)) (entry : Asked A) (entries : List (Asked A)) → AreFound i j named (λ id. named_in id i j (entry ∷ entries) (rest id)) found
      → (id : CommandId) → entry_key entry ≡ Some id → is_place i j (found id) ≡ not (was_named named id)
  first_of i j named rest found entry entries h id e =
      first_is i j named (λ id. named_in id i j (entry ∷ entries) (rest id)) found h id (named_here id i j entry entries (rest id) e)

  -- one entry on
  pub found_next : (i j : ℕ) (named : List CommandId) (rest found : CommandId → Option (ℕ × ℕ)) (entry : Asked A) (entries : List (Asked A)) → AreFound i j named (λ id. named_in id i j (entry ∷ entries) (rest id)) found
      → AreFound i (suc j) (with_key (entry_key entry) named) (λ id. named_in id i (suc j) entries (rest id)) found
  found_next i j named rest found entry entries h =
      go (entry_key entry) h
    where
      go : (key : Option CommandId) → AreFound i j named (λ id. cond (names_it id key) (Some (i, j)) (named_in id i (suc j) entries (rest id))) found
          → AreFound i (suc j) (with_key key named) (λ id. named_in id i (suc j) entries (rest id)) found
      go None h = record { old = λ id e. later i j (found id) (h.old id e); new = h.new }
      go (Some key) h =
          record { old = old; new = new }
        where
          here : (id : CommandId) → same_id key id ≡ true → was_named named id ≡ false → IsEarlier (found id) i (suc j)
          here id same e = record { session = i; number = j; place = h.new id e ∙ ap (λ t. cond t (Some (i, j)) (named_in id i (suc j) entries (rest id))) same; before = inr (refl, omega arith) }

          old_or : (id : CommandId) (t : Bool) → was_named named id ≡ t → (same_id id key ≡ true) ⊎ (was_named named id ≡ true) → IsEarlier (found id) i (suc j)
          old_or id true e either = later i j (found id) (h.old id e)
          old_or id false e either = ⊎_elim (λ (same : same_id id key ≡ true). here id (other_way id key true same) e) (λ (was : was_named named id ≡ true). absurd (true≢false (sym was ∙ e))) either

          old : (id : CommandId) → was_named (key ∷ named) id ≡ true → IsEarlier (found id) i (suc j)
          old id e = old_or id (was_named named id) refl (or_cases (same_id id key) (was_named named id) e)

          new : (id : CommandId) → was_named (key ∷ named) id ≡ false → found id ≡ named_in id i (suc j) entries (rest id)
          new id e =
              let p = or_parts (same_id id key) (was_named named id) e in
              h.new id p.1 ∙ ap (λ t. cond t (Some (i, j)) (named_in id i (suc j) entries (rest id))) (other_way id key false p.0)

  -- one session on
  pub found_on : (i j : ℕ) (named : List CommandId) (rest found : CommandId → Option (ℕ × ℕ)) (entries : List (Asked A)) → AreFound i j named (λ id. named_in id i j entries (rest id)) found → AreFound (suc i) 0 (named_after named entries) rest found
  found_on i j named rest found [] h =
      record { old = λ id e. next (found id) (h.old id e); new = h.new }
    where
      next : (found : Option (ℕ × ℕ)) → IsEarlier found i j → IsEarlier found (suc i) 0
      next found e = record { session = e.session; number = e.number; place = e.place; before = inl (⊎_elim (λ (less : e.session < i). omega (arith, less)) (λ both. let same = both.0 in omega (arith, same)) e.before) }
  found_on i j named rest found (entry ∷ entries) h =
      found_on i (suc j) (with_key (entry_key entry) named) rest found entries (found_next i j named rest found entry entries h)

  -- a Submit of a log, by the place where its identity was given
  pub told_at : (log : NodeLog A) (id : CommandId) (x : Input A) (answer : Bool) (found : Option ℕ) (place : ℕ) (input : Option (Input A)) → found_at log x found ≡ submitted_by log id x (length log.inputs) → Some place ≡ found → slice_get log.inputs place ≡ input → answer ≡ same_at x input → answer ≡ submitted_by log id x (length log.inputs)
  told_at log id x answer found place input h here at is = is ∙ ap (same_at x) (sym at) ∙ ap (found_at log x) here ∙ h

  -- an entry without a ticket, and one with it
  pub unchecked : (log : NodeLog A) (state : Replay A) (named : List CommandId) (entry : Asked A) (outcomes : Option (NodeValue A)) → entry_key entry ≡ None → IsLeft state named outcomes
      → (true ≡ is_right log state named entry (entry_key entry)) × IsLeft state (with_key (entry_key entry) named) outcomes
  unchecked log state named entry outcomes e h =
      (ap (is_right log state named entry) (sym e), subst (λ k. IsLeft state (with_key k named) outcomes) (sym e) h)

  pub checked : (log : NodeLog A) (state : Replay A) (named : List CommandId) (entry : Asked A) (id : CommandId) (old new : Option (NodeValue A)) (first begun right : Bool) (found : Option (Outcome A)) → entry_key entry ≡ Some id → IsLeft state named old
      → found ≡ answers_left old id → is_some new ≡ is_some old → ((other : CommandId) → same_id id other ≡ false → answers_left new other ≡ answers_left old other)
      → first ≡ not (was_named named id) → begun ≡ is_some new → right ≡ (((begun && submitted_by log id (submit_of entry) (length log.inputs)) && (id.ticket.node == log.opening.me)) && is_answer entry.outcome found)
      → ((first && right) ≡ is_right log state named entry (entry_key entry)) × IsLeft state (with_key (entry_key entry) named) new
  checked log state named entry id old new first begun right found e h taken same others f b r =
      (result ∙ ap (is_right log state named entry) (sym e), subst (λ k. IsLeft state (with_key k named) new) (sym e) left)
    where
      left : IsLeft state (id ∷ named) new
      left = record {
        begun = same ∙ h.begun;
        left = λ other none.
            let p = or_parts (same_id other id) (was_named named other) none in
            others other (other_way other id false p.0) ∙ h.left other p.1;
      }

      go : (x y : Bool) (t : Bool) → was_named named id ≡ t → (x && (not t && (y && is_answer entry.outcome found))) ≡ (x && (not t && (y && is_answer entry.outcome (answer state id))))
      go x y true e = none_of x y (is_answer entry.outcome found) ∙ sym (none_of x y (is_answer entry.outcome (answer state id)))
      go x y false e = ap (λ t. x && (y && is_answer entry.outcome t)) (taken ∙ h.left id e)

      result : (first && right) ≡ is_right log state named entry (Some id)
      result =
          ap (λ t. first && t) r
          ∙ all_five begun (submitted_by log id (submit_of entry) (length log.inputs)) first (id.ticket.node == log.opening.me) (is_answer entry.outcome found)
          ∙ ap (λ t. (t && submitted_by log id (submit_of entry) (length log.inputs)) && (first && ((id.ticket.node == log.opening.me) && is_answer entry.outcome found))) (b ∙ same ∙ h.begun)
          ∙ ap (λ t. (is_some state && submitted_by log id (submit_of entry) (length log.inputs)) && (t && ((id.ticket.node == log.opening.me) && is_answer entry.outcome found))) f
          ∙ go (is_some state && submitted_by log id (submit_of entry) (length log.inputs)) (id.ticket.node == log.opening.me) (was_named named id) refl

  pub refused : (log : NodeLog A) (state : Replay A) (named : List CommandId) (entry : Asked A) (id : CommandId) (old new : Option (NodeValue A)) (first : Bool) (found : Option (Outcome A)) → entry_key entry ≡ Some id → IsLeft state named old
      → found ≡ answers_left old id → is_some new ≡ is_some old → ((other : CommandId) → same_id id other ≡ false → answers_left new other ≡ answers_left old other)
      → first ≡ not (was_named named id) → first ≡ false → (false ≡ is_right log state named entry (entry_key entry)) × IsLeft state (with_key (entry_key entry) named) new
  refused log state named entry id old new first found e h taken same others f other_first =
      let right = ((is_some new && submitted_by log id (submit_of entry) (length log.inputs)) && (id.ticket.node == log.opening.me)) && is_answer entry.outcome found in
      let its = checked log state named entry id old new first (is_some new) right found e h taken same others f refl refl in
      (ap (λ t. t && right) (sym other_first) ∙ its.0, its.1)

  -- the entries before a number are checked, and the others are not
  pub record Midway (log : NodeLog A) (state : Replay A) (found rest : CommandId → Option (ℕ × ℕ)) (session : ℕ) (start : List CommandId) (entries : List (Asked A)) (number : ℕ) (node : Option (NodeValue A)) : Type 0 where
    pub named : List CommandId
    pub left : IsLeft state named node
    pub others : AreFound session number named (λ id. named_in id session number (drop number entries) (rest id)) found
    pub right : are_right log state start entries ≡ are_right log state named (drop number entries)
    pub then : named_after start entries ≡ named_after named (drop number entries)

  module _ (log : NodeLog A) (state : Replay A) (found rest : CommandId → Option (ℕ × ℕ)) (session : ℕ) (start : List CommandId) (entries : List (Asked A)) where
    pub begins : (node : Option (NodeValue A)) → IsLeft state start node → AreFound session 0 start (λ id. named_in id session 0 entries (rest id)) found → Midway log state found rest session start entries 0 node
    begins its left others = record { named = start; left = left; others = others; right = refl; then = refl }

    -- what an entry is, if the ones before it are checked
    abbrev Here : ℕ → Option (NodeValue A) → Asked A → Bool → Option (NodeValue A) → Type 0
    Here number node entry result after = (named : List CommandId) → IsLeft state named node → ((id : CommandId) → entry_key entry ≡ Some id → is_place session number (found id) ≡ not (was_named named id)) → (result ≡ is_right log state named entry (entry_key entry)) × IsLeft state (with_key (entry_key entry) named) after

    its_turn : (number : ℕ) (node : Option (NodeValue A)) (entry : Asked A) → slice_get entries number ≡ Some entry → (m : Midway log state found rest session start entries number node)
        → AreFound session number m.named (λ id. named_in id session number (entry ∷ drop (suc number) entries) (rest id)) found
    its_turn number kept entry at m = subst (λ es. AreFound session number m.named (λ id. named_in id session number es (rest id)) found) (drop_got entries number entry at) m.others

    pub wrong_one : (number : ℕ) (node after : Option (NodeValue A)) (entry : Asked A) (result : Bool) → slice_get entries number ≡ Some entry → Midway log state found rest session start entries number node → Here number node entry result after → result ≡ false → false ≡ are_right log state start entries
    wrong_one number node after entry result at m here wrong =
        let its = here m.named m.left (first_of session number m.named rest found entry (drop (suc number) entries) (its_turn number node entry at m)) in
        sym (m.right ∙ ap (are_right log state m.named) (drop_got entries number entry at) ∙ ap (λ t. t && are_right log state (with_key (entry_key entry) m.named) (drop (suc number) entries)) (sym its.0 ∙ wrong))

    pub right_one : (number next : ℕ) (node after : Option (NodeValue A)) (entry : Asked A) (result : Bool) → next ≡ suc number → slice_get entries number ≡ Some entry → Midway log state found rest session start entries number node → Here number node entry result after → result ≡ true → Midway log state found rest session start entries next after
    right_one number next node after entry result is at m here right =
        let turn = its_turn number node entry at m in
        let its = here m.named m.left (first_of session number m.named rest found entry (drop (suc number) entries) turn) in
        subst (λ n. Midway log state found rest session start entries n after) (sym is)
        (record {
          named = with_key (entry_key entry) m.named;
          left = its.1;
          others = found_next session number m.named rest found entry (drop (suc number) entries) turn;
          right = m.right ∙ ap (are_right log state m.named) (drop_got entries number entry at) ∙ ap (λ t. t && are_right log state (with_key (entry_key entry) m.named) (drop (suc number) entries)) (sym its.0 ∙ right);
          then = m.then ∙ ap (named_after m.named) (drop_got entries number entry at);
        })

    pub all_right : (number : ℕ) (node : Option (NodeValue A)) → length entries ≤ number → Midway log state found rest session start entries number node → (true ≡ are_right log state start entries) × IsLeft state (named_after start entries) node
    all_right number node past m =
        let none = drop_of_length-le entries past in
        (sym (m.right ∙ ap (are_right log state m.named) none), subst (λ named. IsLeft state named node) (sym (m.then ∙ ap (named_after m.named) none)) m.left)
