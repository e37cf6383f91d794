-- Which sessions may await an answer, as connections change.
use Rattle.std.proofs.Common.{◌≡◌, ℕ, zero, suc, ◌+◌, ◌<◌, ◌≤◌, List, [], ◌∷◌, Bool, true, false, Option, Some, None, refl, sym, ap, ◌∙◌, subst, inl, inr, ⊎_elim, arith, cond, eqb, length}
use Rattle.std.specs.Prelude.{◌⊎◌, Result, Ok, Err, OnOk, OnErr, IfNone, slice_get, is_some, nat_lt, ◌==◌}
use Rattle.std.specs.List.{position, position_or_len}
use Rattle.std.specs.Map.{keys_of, set_value}
use Rattle.std.proofs.lemmas.Option.{slice_get_past}
use Rattle.std.proofs.lemmas.Bool.{eqb-true, eq-eqb, ltb-true, ltb-false}
use Rattle.indexmap.specs.IndexMap.{insert_entry}
use Rattle.maildrop.specs.CommandId.{CommandId}
use Rattle.node.specs.Nodes.{answered}
use Rattle.node.specs.declared.log.NodeLog.{NodeLog}
use Rattle.runs.specs.Clients.{standing_as, disconnected}
use Rattle.world.specs.Connections.{service_of, client_in, awaited_by}
use Rattle.world.specs.Hosts.{Hosts, network_of}
use Rattle.runs.specs.Messages.{log_of, is_up}
use Rattle.world.specs.Scheduling.{has_its_answer, NoneAnswered}
use Rattle.runs.proofs.Logs.{some_same}
use Rattle.world.specs.Waiting.{Waiting, MayHave, IsWatched, WatchesBut, NoneMay, IsBehind, IsUnheard, IsUpToDate, nowhere, only_at, place_of, KeepsOthers}
use Rattle.runs.specs.Worlds.{answer_at, is_answered}
use Rattle.world.specs.declared.connection.Connection.{Connection}
use Rattle.world.specs.declared.connection.Standing.{Standing}
use Rattle.world.specs.declared.connection.Standing.TheVariants.{Hears, Waits, Failed, Disconnected, Over}

pub if_none : {X P : Type 0} (o : Option X) → P → IfNone o P
if_none None p = p
if_none (Some x) p = tt

pub one_place : (k place : ℕ) → (k ≡ place) ⊎ (k ≡ place → ⊥)
one_place k place =
    go (eqb k place) refl
  where
    go : (t : Bool) → eqb k place ≡ t → (k ≡ place) ⊎ (k ≡ place → ⊥)
    go true q = inl (eqb-true k place q)
    go false q = inr (λ e. absurd (let no : true ≡ false = sym (eq-eqb k place e) ∙ q in cc))

not_some : (o : Option CommandId) → (is_some o ≡ true → ⊥) → o ≡ None
not_some None none = refl
not_some (Some id) none = absurd (none refl)

below_or : (k from : ℕ) → (k < from) ⊎ (from ≤ k)
below_or k from =
    go (nat_lt k from) refl
  where
    go : (t : Bool) → nat_lt k from ≡ t → (k < from) ⊎ (from ≤ k)
    go true q = inl (ltb-true k from q)
    go false q = inr (ltb-false k from q)

-- if a list has what passes
at_position : {X : Type 0} (test : X → Bool) (xs : List X) (k : ℕ) → position test xs ≡ Some k → position_or_len test xs ≡ k
at_position test xs k e =
    go (nat_lt (position_or_len test xs) (length xs)) e
  where
    go : (t : Bool) → cond t (Some (position_or_len test xs)) None ≡ Some k → position_or_len test xs ≡ k
    go true q = some_same (position_or_len test xs) k q
    go false q = absurd (cc q)

no_position : {X : Type 0} (test : X → Bool) (xs : List X) → position test xs ≡ None → length xs ≤ position_or_len test xs
no_position test xs e =
    go (nat_lt (position_or_len test xs) (length xs)) refl e
  where
    go : (t : Bool) → nat_lt (position_or_len test xs) (length xs) ≡ t → cond t (Some (position_or_len test xs)) None ≡ None → length xs ≤ position_or_len test xs
    go true q e = absurd (cc e)
    go false q e = ltb-false (position_or_len test xs) (length xs) q

module _ {A : Type 0} where
  -- What changes of one session leaves of the others

  set_kept : (session : ℕ) (c : Connection A) (es : List (ℕ × Connection A)) (k : ℕ) (e : ℕ × Connection A) → slice_get (set_value (λ s. eqb session s) es c) k ≡ Some e
      → (place_of session (set_value (λ s. eqb session s) es c) ≡ k → ⊥) → slice_get es k ≡ Some e
  set_kept session c [] k e at apart = at
  set_kept session c (x ∷ es) k e at apart =
      go (eqb session x.0) refl (λ j. set_kept session c es j e) k at apart
    where
      go : (t : Bool) → eqb session x.0 ≡ t
          → ((j : ℕ) → slice_get (set_value (λ s. eqb session s) es c) j ≡ Some e → (place_of session (set_value (λ s. eqb session s) es c) ≡ j → ⊥) → slice_get es j ≡ Some e)
          → (k : ℕ) → slice_get (cond t ((x.0, c) ∷ es) (x ∷ set_value (λ s. eqb session s) es c)) k ≡ Some e
          → (place_of session (cond t ((x.0, c) ∷ es) (x ∷ set_value (λ s. eqb session s) es c)) ≡ k → ⊥) → slice_get (x ∷ es) k ≡ Some e
      go true q ih zero at apart = absurd (apart (rw (q) refl))
      go true q ih (suc k) at apart = at
      go false q ih zero at apart = at
      go false q ih (suc k) at apart = ih k at (λ r. apart (rw (q) (let next : 1 + place_of session (set_value (λ s. eqb session s) es c) ≡ suc k = omega (arith, r) in next)))

  pub set_others : (session : ℕ) (es : List (ℕ × Connection A)) (c : Connection A) → KeepsOthers session es (set_value (λ s. eqb session s) es c)
  set_others session es c = record { each = λ k e at apart. set_kept session c es k e at apart }

  insert_kept : (session : ℕ) (c : Connection A) (es : List (ℕ × Connection A)) (k : ℕ) (e : ℕ × Connection A) → slice_get (insert_entry (λ s t. eqb s t) es session c) k ≡ Some e
      → (place_of session (insert_entry (λ s t. eqb s t) es session c) ≡ k → ⊥) → slice_get es k ≡ Some e
  insert_kept session c [] zero e at apart = absurd (apart (rw (eq-eqb session session refl) refl))
  insert_kept session c [] (suc k) e at apart = at
  insert_kept session c (x ∷ es) k e at apart =
      go (eqb session x.0) refl (λ j. insert_kept session c es j e) k at apart
    where
      go : (t : Bool) → eqb session x.0 ≡ t
          → ((j : ℕ) → slice_get (insert_entry (λ s t. eqb s t) es session c) j ≡ Some e → (place_of session (insert_entry (λ s t. eqb s t) es session c) ≡ j → ⊥) → slice_get es j ≡ Some e)
          → (k : ℕ) → slice_get (cond t ((x.0, c) ∷ es) (x ∷ insert_entry (λ s t. eqb s t) es session c)) k ≡ Some e
          → (place_of session (cond t ((x.0, c) ∷ es) (x ∷ insert_entry (λ s t. eqb s t) es session c)) ≡ k → ⊥) → slice_get (x ∷ es) k ≡ Some e
      go true q ih zero at apart = absurd (apart (rw (q) refl))
      go true q ih (suc k) at apart = at
      go false q ih zero at apart = at
      go false q ih (suc k) at apart = ih k at (λ r. apart (rw (q) (let next : 1 + place_of session (insert_entry (λ s t. eqb s t) es session c) ≡ suc k = omega (arith, r) in next)))

  pub insert_others : (session : ℕ) (es : List (ℕ × Connection A)) (c : Connection A) → KeepsOthers session es (insert_entry (λ s t. eqb s t) es session c)
  insert_others session es c = record { each = λ k e at apart. insert_kept session c es k e at apart }

  pub same_others : (session : ℕ) (es later : List (ℕ × Connection A)) → later ≡ es → KeepsOthers session es later
  same_others session es later same = record { each = λ k e at apart. subst (λ (xs : List (ℕ × Connection A)). slice_get xs k ≡ Some e) same at }

  -- a client that has connected, or found no memory
  pub greeted_others : (P Q : Connection A → Type 0) {E : Type 0} (r : Result (Unit {0}) E) (session : ℕ) (es later : List (ℕ × Connection A))
      → OnOk r ((c : Connection A) × P c × Q c × (later ≡ insert_entry (λ s t. eqb s t) es session c)) → OnErr r (later ≡ es) → KeepsOthers session es later
  greeted_others P Q (Ok u) session es later done failed = subst (λ xs. KeepsOthers session es xs) (sym done.3) (insert_others session es done.0)
  greeted_others P Q (Err error) session es later done failed = same_others session es later failed

  -- What comes next

  idle_unanswered : (hosts : Hosts A) (es : List (ℕ × Connection A)) (c : Connection A) → awaited_by c.standing ≡ None → has_its_answer hosts es c ≡ false
  idle_unanswered hosts es c idle =
      go c.standing idle (is_up (log_of c.node (network_of hosts).logs))
    where
      its : Standing → Bool → Bool
      its standing up =
          let client = client_in (record c { standing = standing }) in
          let seen = cond up client (standing_as client (disconnected client.standing)) in
          is_answered (service_of hosts es) seen seen.standing

      go : (standing : Standing) → awaited_by standing ≡ None → (up : Bool) → its standing up ≡ false
      go Hears e true = refl
      go Hears e false = refl
      go (Waits id) e up = absurd (cc)
      go (Failed lock) e true = refl
      go (Failed lock) e false = refl
      go Disconnected e true = refl
      go Disconnected e false = refl
      go Over e true = refl
      go Over e false = refl

  -- a session that awaits an answer which isn't there, if its node is up
  waits_unanswered : (hosts : Hosts A) (es : List (ℕ × Connection A)) (c : Connection A) (id : CommandId) → awaited_by c.standing ≡ Some id
      → ((log : NodeLog A) → log_of c.node (network_of hosts).logs ≡ Some log → is_up (Some log) ≡ true → is_some (answered log id) ≡ true → ⊥) → has_its_answer hosts es c ≡ false
  waits_unanswered hosts es c id waits none =
      go c.standing waits (log_of c.node (network_of hosts).logs) refl
    where
      its : Standing → Bool → Bool
      its standing up =
          let client = client_in (record c { standing = standing }) in
          let seen = cond up client (standing_as client (disconnected client.standing)) in
          is_answered (service_of hosts es) seen seen.standing

      absent : (log : NodeLog A) → log_of c.node (network_of hosts).logs ≡ Some log → is_up (Some log) ≡ true → (t : Bool) → is_some (answered log id) ≡ t → t ≡ false
      absent log at up true q = absurd (none log at up q)
      absent log at up false q = refl

      here : (o : Option (NodeLog A)) → log_of c.node (network_of hosts).logs ≡ o → (t : Bool) → is_up o ≡ t → its (Waits id) t ≡ false
      here None at true up = absurd (cc up)
      here (Some log) at true up = ap (λ x. is_some (answer_at x id)) at ∙ ap (λ t. is_some (cond t (answered log id) None)) up ∙ absent log at up (is_some (answered log id)) refl
      here o at false up = refl

      go : (standing : Standing) → awaited_by standing ≡ Some id → (o : Option (NodeLog A)) → log_of c.node (network_of hosts).logs ≡ o → its standing (is_up (log_of c.node (network_of hosts).logs)) ≡ false
      go Hears e o at = absurd (cc e)
      go (Waits other) e o at =
          let same : other ≡ id = cc e in
          ap (λ i. its (Waits i) (is_up (log_of c.node (network_of hosts).logs))) same ∙ here (log_of c.node (network_of hosts).logs) refl (is_up (log_of c.node (network_of hosts).logs)) refl
      go (Failed lock) e o at = absurd (cc e)
      go Disconnected e o at = absurd (cc e)
      go Over e o at = absurd (cc e)

  module _ (hosts : Hosts A) (es : List (ℕ × Connection A)) where
    -- whose answer may not be there
    absent_unanswered : (w : Waiting) (place : ℕ) (e : ℕ × Connection A) → IsUpToDate hosts es w → slice_get es place ≡ Some e → (MayHave w place → ⊥) → has_its_answer hosts es e.1 ≡ false
    absent_unanswered w place e current at absent =
        go (awaited_by e.1.standing) refl
      where
        go : (o : Option CommandId) → awaited_by e.1.standing ≡ o → has_its_answer hosts es e.1 ≡ false
        go None q = idle_unanswered hosts es e.1 q
        go (Some id) q = waits_unanswered hosts es e.1 id q (λ log there up some. absent (current.there place e id log at q there up some))

    pub unanswered_on : (w : Waiting) (from to : ℕ) → IsUpToDate hosts es w → NoneAnswered hosts es from → NoneMay w from to → NoneAnswered hosts es to
    unanswered_on w from to current before none =
        record {
          each = λ k e lt at.
              ⊎_elim
              (λ (low : k < from). before.each k e low at)
              (λ (high : from ≤ k). absent_unanswered w k e current at (none.each k high lt))
              (below_or k from);
        }

    pub unanswered_past : (place : ℕ) → NoneAnswered hosts es place → ((e : ℕ × Connection A) → slice_get es place ≡ Some e → has_its_answer hosts es e.1 ≡ false) → NoneAnswered hosts es (place + 1)
    unanswered_past place before here =
        record {
          each = λ k e lt at.
              ⊎_elim
              (λ (same : k ≡ place). here e (ap (slice_get es) (sym same) ∙ at))
              (λ (apart : k ≡ place → ⊥). before.each k e (omega (arith, lt, apart)) at)
              (one_place k place);
        }

  -- What is noted of a session

  pub still_unheard : (hosts : Hosts A) (w later : Waiting) (id : CommandId) → later.heard ≡ w.heard → IsUnheard hosts w id → IsUnheard hosts later id
  still_unheard hosts w later id same u =
      record { node = u.node; its = u.its; log = u.log; at = u.at; up = u.up; count = u.count; heard = ap (λ hs. slice_get hs u.node) same ∙ u.heard; among = u.among }

  -- an answer isn't there that isn't found
  pub not_there : {P : Type 0} (logs : List (NodeLog A)) (node : ℕ) (id other : CommandId) (log : NodeLog A) → id ≡ other → false ≡ is_some (answer_at (log_of node logs) id)
      → log_of node logs ≡ Some log → is_up (Some log) ≡ true → is_some (answered log other) ≡ true → P
  not_there logs node id other log same none at up some =
      absurd (let no : false ≡ true = none ∙ ap (λ o. is_some (answer_at o id)) at ∙ ap (λ t. is_some (cond t (answered log id) None)) up ∙ ap (λ i. is_some (answered log i)) same ∙ some in cc)

  length_keys : (es : List (ℕ × Connection A)) → length (keys_of es) ≡ length es
  length_keys [] = refl
  length_keys (e ∷ es) = let rest = length_keys es in omega (arith, rest)

  module _ (hosts : Hosts A) (es : List (ℕ × Connection A)) (session : ℕ) (w : Waiting) (behind : IsBehind (λ place. place_of session es ≡ place) hosts es w) where
    -- a session that isn't there
    pub nobody_noted : position (λ s. session == s) (keys_of es) ≡ None → IsBehind nowhere hosts es w
    nobody_noted none =
        record {
          nodes = behind.nodes;
          watched = λ place e id at no. behind.watched place e id at (apart place e at);
          there = λ place e id log at no. behind.there place e id log at (apart place e at);
        }
      where
        apart : (place : ℕ) (e : ℕ × Connection A) → slice_get es place ≡ Some e → place_of session es ≡ place → ⊥
        apart place e at same =
            let past = no_position (λ s. session == s) (keys_of es) none in
            let count = length_keys es in
            let beyond : length es ≤ place = omega (arith, past, count, same) in
            absurd (cc (sym (slice_get_past es place beyond) ∙ at))

    pub its_noted : (place : ℕ) (c : Connection A) (later : Waiting) → position (λ s. session == s) (keys_of es) ≡ Some place → (s : ℕ) → slice_get es place ≡ Some (s, c) → WatchesBut (only_at place) w later
        → ((id : CommandId) → awaited_by c.standing ≡ Some id → IsWatched later place id)
        → ((id : CommandId) (log : NodeLog A) → awaited_by c.standing ≡ Some id → log_of c.node (network_of hosts).logs ≡ Some log → is_up (Some log) ≡ true → is_some (answered log id) ≡ true → MayHave later place)
        → IsBehind nowhere hosts es later
    its_noted place c later found s here others own there =
        record {
          nodes = ap length others.heard ∙ behind.nodes;
          watched = λ k e id at no waits.
              ⊎_elim
              (λ (same : k ≡ place). subst (λ j. IsWatched later j id) (sym same) (own id (ap (λ (x : ℕ × Connection A). awaited_by x.1.standing) (sym (its k e at same)) ∙ waits)))
              (λ (apart : k ≡ place → ⊥). others.watched k id apart (behind.watched k e id at (other k apart) waits))
              (one_place k place);
          there = λ k e id log at no waits log_at up some.
              ⊎_elim
              (λ (same : k ≡ place).
              let one : e ≡ (s, c) = its k e at same in
              inl (subst (λ j. MayHave later j) (sym same)
              (there id log (ap (λ (x : ℕ × Connection A). awaited_by x.1.standing) (sym one) ∙ waits) (ap (λ (x : ℕ × Connection A). log_of x.1.node (network_of hosts).logs) (sym one) ∙ log_at) up some)))
              (λ (apart : k ≡ place → ⊥).
              ⊎_elim (λ (may : MayHave w k). inl (others.may k apart may)) (λ (unheard : IsUnheard hosts w id). inr (still_unheard hosts w later id others.heard unheard))
              (behind.there k e id log at (other k apart) waits log_at up some))
              (one_place k place);
        }
      where
        its : (k : ℕ) (e : ℕ × Connection A) → slice_get es k ≡ Some e → k ≡ place → e ≡ (s, c)
        its k e at same = some_same e (s, c) (sym at ∙ ap (slice_get es) same ∙ here)

        other : (k : ℕ) → (k ≡ place → ⊥) → place_of session es ≡ k → ⊥
        other k apart same = apart (sym same ∙ at_position (λ x. session == x) (keys_of es) place found)
