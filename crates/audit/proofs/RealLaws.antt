-- The case of real logs keeps the laws.
use Rattle.std.proofs.Common.{◌≡◌, ℕ, zero, suc, ◌+◌, ◌<◌, ◌≤◌, List, [], ◌∷◌, ◌++◌, Bool, true, false, Option, Some, None, refl, sym, ap, ◌∙◌, subst, inl, inr, ⊎_elim, cond, arith}
use Rattle.std.specs.Prelude.{slice_get, ◌==◌, ◌&&◌, not}
use Rattle.std.specs.List.{list_any}
use Rattle.std.proofs.lemmas.Bool.{true≢false, eqb-true, cases_lt}
use Rattle.std.proofs.lemmas.Slice.Eq.{bytes_eq-Decides}
use Rattle.ballot.specs.Lists.{IsIn}
use Rattle.ballot.specs.declared.message.Envelope.{Envelope}
use Rattle.maildrop.specs.CommandId.{CommandId}
use Rattle.maildrop.specs.Equality.{id_decides, outcome_decides}
use Rattle.maildrop.specs.declared.command.Command.{Command}
use Rattle.maildrop.specs.declared.outcome.Outcome.{Outcome}
use Rattle.replica.specs.Calls.{is_requested}
use Rattle.node.specs.Replay.{mail_rules, counts, submits_of, is_crash}
use Rattle.node.specs.declared.input.Input.{Input}
use Rattle.node.specs.declared.input.Input.TheVariants.{Submit, Arrive, Tick, Campaign, Crash}
use Rattle.node.specs.declared.log.NodeLog.{NodeLog}
use Rattle.node.proofs.Replaying.{submits_of-push}
use Rattle.session.specs.declared.transcript.Transcript.{Transcript}
use Rattle.audit.specs.Case.{next, state_at, after_next}
use Rattle.audit.specs.Laws.{Laws}
use Rattle.audit.specs.Records.{is_fit, place_of, inputs_in, begun_at, places_from, RealCase, case_of}
use Rattle.audit.specs.Replays.{Replay, after, runs, key_of, answer, brought}
use Rattle.audit.proofs.Basics.{climbs}
use Rattle.audit.proofs.Calls.{calls_of, was_requested, answers_stay, nothing_last, requested_push}
use Rattle.audit.proofs.Equal.{envelope_decides, submit_same}

same_some : {X : Type 0} (x y : X) → Some x ≡ Some y → x ≡ y
same_some x y e = cc

some_none : {X : Type 0} {T : Type 0} (x : X) → Some x ≡ None → T
some_none x e = absurd (cc)

none_some : {X : Type 0} {T : Type 0} (x : X) → None ≡ Some x → T
none_some x e = absurd (cc)

-- each place of a list is among its places
pub place_in : {X : Type 0} (xs : List X) (from n : ℕ) (x : X) → slice_get xs n ≡ Some x → IsIn (from + n) (places_from from xs)
place_in [] from n x e = none_some x e
place_in (y ∷ ys) from zero x e = inl (omega arith)
place_in (y ∷ ys) from (suc n) x e =
    let same : suc from + n ≡ from + suc n = omega arith in
    inr (subst (λ k. IsIn k (places_from (suc from) ys)) same (place_in ys (suc from) n x e))

module _ {A : Type 0} where
  -- how many operations for the user came so far
  abbrev pub submitted : List ℕ → Replay A → ℕ
  submitted name None = 0
  submitted name (Some log) = submits_of name log.inputs

  -- the ticket that an input gets counts them
  pub count_of : (s : Replay A) (x : Input A) (key : CommandId) → key_of s x ≡ Some key → (key.ticket.seq ≡ suc (submitted key.user s)) × (submitted key.user (after s x) ≡ suc (submitted key.user s))
  count_of None x key h = none_some key h
  count_of (Some log) (Submit name op) key h =
      let same = same_some _ key h in
      let user : name ≡ key.user = ap (λ (k : CommandId). k.user) same in
      let counted : 1 + submits_of name log.inputs ≡ key.ticket.seq = ap (λ (k : CommandId). k.ticket.seq) same in
      let seq : suc (submits_of name log.inputs) ≡ key.ticket.seq = omega (arith, counted) in
      let one : counts {A = A} key.user (Submit name op) ≡ 1 = ap (λ (t : Bool). cond t 1 0) ((bytes_eq-Decides name key.user).1 user) in
      let pushed = submits_of-push key.user log.inputs (Submit name op) in
      let more : submits_of key.user (log.inputs ++ Submit name op ∷ []) ≡ suc (submits_of key.user log.inputs) = omega (arith, one, pushed) in
      (sym seq ∙ ap (λ n. suc (submits_of n log.inputs)) user, more)
  count_of (Some log) (Arrive e) key h = none_some key h
  count_of (Some log) Tick key h = none_some key h
  count_of (Some log) Campaign key h = none_some key h
  count_of (Some log) Crash key h = none_some key h

module _ {A : Type 0} (logs : List (NodeLog A)) (transcripts : List (Transcript A)) where
  abbrev real : RealCase A
  real = case_of logs transcripts

  count_grows : (name : List ℕ) (s : Replay A) (o : Option (Input A)) → submitted name s ≤ submitted name (after_next real s o)
  count_grows name s None = omega arith
  count_grows name None (Some x) = omega arith
  count_grows name (Some log) (Some x) =
      let pushed = submits_of-push name log.inputs x in
      omega (arith, pushed)

  count_at : (name : List ℕ) (n j k : ℕ) → j ≤ k → submitted name (state_at real n j) ≤ submitted name (state_at real n k)
  count_at name n j k le =
      climbs (λ i. submitted name (state_at real n j) ≤ submitted name (state_at real n i)) (λ i h. let more = count_grows name (state_at real n i) (next real n i) in omega (arith, h, more)) j k le (omega arith)

  -- a later Submit has a later ticket
  not_before : (n j k : ℕ) (x y : Input A) (key : CommandId) → next real n j ≡ Some x → key_of (state_at real n j) x ≡ Some key → key_of (state_at real n k) y ≡ Some key → j < k → ⊥
  not_before n j k x y key at first second less =
      let one = count_of (state_at real n j) x key first in
      let two = count_of (state_at real n k) y key second in
      let after_it : submitted key.user (state_at real n (suc j)) ≡ suc (submitted key.user (state_at real n j)) = ap (λ (o : Option (Input A)). submitted key.user (after_next real (state_at real n j) o)) at ∙ one.1 in
      let grown = count_at key.user n (suc j) k less in
      let low = one.0 in
      let high = two.0 in
      absurd (omega (arith, after_it, grown, low, high))

  given_once : (n j k : ℕ) (x y : Input A) (key : CommandId) → next real n j ≡ Some x → next real n k ≡ Some y → key_of (state_at real n j) x ≡ Some key → key_of (state_at real n k) y ≡ Some key → j ≡ k
  given_once n j k x y key at at' first second =
      ⊎_elim
      (λ (less : j < k). absurd (not_before n j k x y key at first second less))
      (λ (more : k ≤ j). ⊎_elim (λ (less : k < j). absurd (not_before n k j y x key at' second first less)) (λ (le : j ≤ k). omega (arith, more, le)) (cases_lt k j))
      (cases_lt j k)

  -- a node keeps its number, and its place is that of its log
  abbrev IsOf : ℕ → Replay A → Type 0
  IsOf n None = Unit {0}
  IsOf n (Some log) = place_of log.opening.me logs ≡ n

  of_begun : (n : ℕ) (o : Option (NodeLog A)) → IsOf n (begun_at logs n o)
  of_begun n None = tt
  of_begun n (Some log) =
      go (is_fit log.opening) (place_of log.opening.me logs == n) refl
    where
      go : (t u : Bool) → (place_of log.opening.me logs == n) ≡ u → IsOf n (cond (t && u) (Some (record { opening = log.opening; inputs = [] })) None)
      go true true e = eqb-true (place_of log.opening.me logs) n e
      go true false e = tt
      go false true e = tt
      go false false e = tt

  of_after : (n : ℕ) (s : Replay A) (o : Option (Input A)) → IsOf n s → IsOf n (after_next real s o)
  of_after n s None h = h
  of_after n None (Some x) h = tt
  of_after n (Some log) (Some x) h = h

  of_state : (n k : ℕ) → IsOf n (state_at real n k)
  of_state n zero = of_begun n (slice_get logs n)
  of_state n (suc k) = of_after n (state_at real n k) (next real n k) (of_state n k)

  at_home : (n k : ℕ) (x : Input A) (key : CommandId) → next real n k ≡ Some x → key_of (state_at real n k) x ≡ Some key → place_of key.ticket.node logs ≡ n
  at_home n k x key at =
      go (state_at real n k) x (of_state n k)
    where
      go : (s : Replay A) (x : Input A) → IsOf n s → key_of s x ≡ Some key → place_of key.ticket.node logs ≡ n
      go None x of h = none_some key h
      go (Some log) (Submit name op) of h = ap (λ (k : CommandId). place_of k.ticket.node logs) (sym (same_some _ key h)) ∙ of
      go (Some log) (Arrive e) of h = none_some key h
      go (Some log) Tick of h = none_some key h
      go (Some log) Campaign of h = none_some key h
      go (Some log) Crash of h = none_some key h

  has_log : (n k : ℕ) (x : Input A) → next real n k ≡ Some x → IsIn n (places_from 0 logs)
  has_log n k x =
      go (slice_get logs n) refl
    where
      go : (o : Option (NodeLog A)) → slice_get logs n ≡ o → slice_get (inputs_in o) k ≡ Some x → IsIn n (places_from 0 logs)
      go None e h = none_some x h
      go (Some log) e h =
          let same : 0 + n ≡ n = omega arith in
          subst (λ k. IsIn k (places_from 0 logs)) same (place_in logs 0 n log e)

  brings_none : (s : Replay A) (x : Input A) (e : Envelope (Command A) A) → brought x ≡ Some e → key_of s x ≡ None
  brings_none None x e h = refl
  brings_none (Some log) (Submit name op) e h = none_some e h
  brings_none (Some log) (Arrive e') e h = refl
  brings_none (Some log) Tick e h = refl
  brings_none (Some log) Campaign e h = refl
  brings_none (Some log) Crash e h = refl

  stays : (s : Replay A) (x : Input A) (k : CommandId) (o : Outcome A) → answer s k ≡ Some o → answer (after s x) k ≡ Some o
  stays None x k o h = h
  stays (Some log) x k o h = answers_stay log x k o h

  last : (s : Replay A) (x : Input A) (k : CommandId) → runs (after s x) ≡ false → answer (after s x) k ≡ answer s k
  last None x k h = refl
  last (Some log) x k h = nothing_last log x k (not_not (list_any is_crash (log.inputs ++ x ∷ [])) h)
    where
      not_not : (t : Bool) → not t ≡ false → t ≡ true
      not_not true e = refl
      not_not false e = absurd (true≢false e)

  -- what is answered was submitted
  abbrev requested_in : CommandId → Replay A → Bool
  requested_in id None = false
  requested_in id (Some log) = is_requested mail_rules id (calls_of log)

  abbrev Submitted : CommandId → ℕ → ℕ → Type 0
  Submitted key n k = (j : ℕ) × (x : Input A) × (j < k) × (next real n j ≡ Some x) × (key_of (state_at real n j) x ≡ Some key)

  was_submitted : (key : CommandId) (n k : ℕ) → requested_in key (state_at real n k) ≡ true → Submitted key n k
  was_submitted key n zero =
      go (slice_get logs n)
    where
      go : (o : Option (NodeLog A)) → requested_in key (begun_at logs n o) ≡ true → Submitted key n 0
      go None h = absurd (true≢false (sym h))
      go (Some log) h = begun (is_fit log.opening && place_of log.opening.me logs == n) h
        where
          begun : (t : Bool) → requested_in key (cond t (Some (record { opening = log.opening; inputs = [] })) None) ≡ true → Submitted key n 0
          begun true h = absurd (true≢false (sym h))
          begun false h = absurd (true≢false (sym h))
  was_submitted key n (suc k) =
      go (next real n k) refl (state_at real n k) refl (was_submitted key n k)
    where
      later : Submitted key n k → Submitted key n (suc k)
      later s = let less = s.2 in (s.0, s.1, omega (arith, less), s.3, s.4)

      go : (o : Option (Input A)) → next real n k ≡ o → (s : Replay A) → state_at real n k ≡ s → (requested_in key s ≡ true → Submitted key n k) → requested_in key (after_next real s o) ≡ true → Submitted key n (suc k)
      go None e s is ih h = later (ih h)
      go (Some x) e None is ih h = absurd (true≢false (sym h))
      go (Some x) e (Some log) is ih h =
          ⊎_elim
          (λ old. later (ih old))
          (λ new. (k, x, omega arith, e, ap (λ (s : Replay A). key_of s x) is ∙ new))
          (requested_push log x key h)

  was_answered : (k : ℕ) (key : CommandId) (o : Outcome A) → answer (state_at real (place_of key.ticket.node logs) k) key ≡ Some o → Submitted key (place_of key.ticket.node logs) k
  was_answered k key o h =
      was_submitted key (place_of key.ticket.node logs) k (go (state_at real (place_of key.ticket.node logs) k) h)
    where
      go : (s : Replay A) → answer s key ≡ Some o → requested_in key s ≡ true
      go None h = none_some o h
      go (Some log) h = was_requested log key o h

  pub real_laws : Laws real
  real_laws = record {
    stays = stays;
    message_same = λ e. (envelope_decides e e).1 refl;
    same_message = λ e f. (envelope_decides e f).0;
    key_same = λ k. (id_decides k k).1 refl;
    same_key = λ k l h. sym ((id_decides l k).0 h);
    home = at_home;
    there = has_log;
    apart = brings_none;
    answered = was_answered;
    once = given_once;
    last = last;
    same_input = submit_same;
    same_outcome = λ o v. (outcome_decides o v).0;
  }
