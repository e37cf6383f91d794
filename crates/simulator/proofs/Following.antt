-- How the Mails and Breaks of a script are followed.
use Rattle.std.proofs.Common.{◌≡◌, ◌≢◌, ℕ, zero, suc, ◌+◌, ◌<◌, ◌≤◌, List, [], ◌∷◌, ◌++◌, Bool, true, false, Option, Some, None, refl, sym, ap, ◌∙◌, subst, inl, inr, ⊎_elim, arith, cond, length, length-append, ◌-◌, drop, set, get_or, replicate}
use Rattle.std.specs.Prelude.{◌⊎◌, ◌||◌, is_some, slice_get}
use Rattle.std.specs.BTreeMap.{is_at}
use Rattle.std.specs.Map.{keys_of, lookup}
use Rattle.std.specs.Ordering.{is_eq}
use Rattle.std.proofs.lemmas.Bool.{false≢true, true≢false}
use Rattle.std.specs.Option.{option_map_or}
use Rattle.std.proofs.lemmas.Bool.{eq-eqb}
use Rattle.std.proofs.lemmas.List.{append-nil, drop_all, length-set}
use Rattle.std.proofs.lemmas.List.Folds.{list_any-append}
use Rattle.std.proofs.lemmas.Map.{keys-set_value}
use Rattle.std.proofs.lemmas.Option.{slice_get_within, slice_get-get_or}
use Rattle.maildrop.specs.CommandId.{CommandId, compare_ids, same_id}
use Rattle.maildrop.specs.Same.{identity_of}
use Rattle.maildrop.specs.Ticket.{Ticket}
use Rattle.maildrop.specs.declared.command.Command.{Command}
use Rattle.maildrop.specs.declared.op.Op.{Op}
use Rattle.maildrop.specs.declared.outcome.Outcome.{Outcome}
use Rattle.node.specs.Nodes.{answered}
use Rattle.node.specs.Replay.{counts, mail_rules, replayed, submits_of}
use Rattle.node.specs.declared.input.Input.{Input}
use Rattle.node.specs.declared.input.Input.TheVariants.{Submit}
use Rattle.node.proofs.Submitting.{counts_own}
use Rattle.node.specs.declared.log.NodeLog.{NodeLog}
use Rattle.node.proofs.Answering.{answered_submitted}
use Rattle.node.proofs.News.{longer_brings}
use Rattle.node.specs.Submits.{IsSubmitted}
use Rattle.replica.specs.Replicas.{has_identity}
use Rattle.runs.specs.Messages.{Network, Submits, is_up, log_of}
use Rattle.runs.specs.declared.config.Config.{Config}
use Rattle.runs.specs.Services.{Service, Happening, at_nodes, happens, next_id}
use Rattle.runs.specs.Worlds.{World, IsReached, answer_at, outcome_at, outcome_left, performed_by, performed_in, unless_taken, with_taken, without_outcome, without_outcome_at}
use Rattle.runs.proofs.Logs.{some_same}
use Rattle.runs.proofs.ServiceRuns.{Follows, happens_follows}
use Rattle.world.specs.Kept.{IsGiven}
use Rattle.world.specs.Values.{is_known}
use Rattle.world.specs.Waiting.{Waiting, MayHave, IsWatched, WatchesBut, NoneMay, only_at}
use Rattle.world.proofs.Awaiting.{AreNumbered, given_later, not_given, now_given}
use Rattle.world.proofs.CatchingUp.{WasLog, at_its_place, was_log, was_up}
use Rattle.world.proofs.HostList.{node_at}
use Rattle.world.proofs.Keeping.{found_last, one_or_other, reached_numbered, set_other, set_own}
use Rattle.world.proofs.Reached.{next_reached}
use Rattle.world.proofs.WholeRuns.{happen_count}
use Rattle.simulator.specs.Following.{IsCurrent, IsFollowed, IsHeard, IsUnheard, is_there}
use Rattle.simulator.specs.Outcomes.{outcome_by, outcome_told, outcomes_told}
use Rattle.simulator.specs.Told.{IsWritten, Told, followed, silent}
use Rattle.simulator.proofs.Telling.{further, text_before}

-- Lists

-- the last of a list, and those before it
at_end : {X : Type 0} (xs : List X) (x y : X) (k : ℕ) → slice_get (xs ++ x ∷ []) k ≡ Some y → (slice_get xs k ≡ Some y) ⊎ ((k ≡ length xs) × (x ≡ y))
at_end [] x y zero e = inr (refl, some_same x y e)
at_end [] x y (suc k) e = absurd (cc e)
at_end (z ∷ xs) x y zero e = inl e
at_end (z ∷ xs) x y (suc k) e = ⊎_elim (λ f. inl f) (λ f. inr (ap suc f.0, f.1)) (at_end xs x y k e)

drop_push : {X : Type 0} (n : ℕ) (xs ys : List X) → n ≤ length xs → drop n (xs ++ ys) ≡ drop n xs ++ ys
drop_push zero xs ys low = refl
drop_push (suc n) [] ys low = absurd (omega (arith, low))
drop_push (suc n) (x ∷ xs) ys low = drop_push n xs ys (omega (arith, low))

drop_at : {X : Type 0} (xs : List X) (k : ℕ) (x : X) → slice_get xs k ≡ Some x → drop k xs ≡ x ∷ drop (suc k) xs
drop_at [] k x e = absurd (cc e)
drop_at (y ∷ xs) zero x e = ap (λ z. z ∷ xs) (some_same y x e)
drop_at (y ∷ xs) (suc k) x e = drop_at xs k x e

drop_past : {X : Type 0} (xs : List X) (k : ℕ) → slice_get xs k ≡ None → (drop k xs ≡ []) × (drop (suc k) xs ≡ [])
drop_past [] zero e = (refl, refl)
drop_past [] (suc k) e = (refl, refl)
drop_past (x ∷ xs) zero e = absurd (cc e)
drop_past (x ∷ xs) (suc k) e = drop_past xs k e

set_there : (xs : List ℕ) (k j x y : ℕ) → (j ≡ k → ⊥) → slice_get (set xs k x) j ≡ Some y → slice_get xs j ≡ Some y
set_there [] k j x y apart e = e
set_there (z ∷ xs) zero zero x y apart e = absurd (apart refl)
set_there (z ∷ xs) zero (suc j) x y apart e = e
set_there (z ∷ xs) (suc k) zero x y apart e = e
set_there (z ∷ xs) (suc k) (suc j) x y apart e = set_there xs k j x y (λ same. apart (ap suc same)) e

set_stays : (xs : List ℕ) (k j x y : ℕ) → (j ≡ k → ⊥) → slice_get xs j ≡ Some y → slice_get (set xs k x) j ≡ Some y
set_stays [] k j x y apart e = e
set_stays (z ∷ xs) zero zero x y apart e = absurd (apart refl)
set_stays (z ∷ xs) zero (suc j) x y apart e = e
set_stays (z ∷ xs) (suc k) zero x y apart e = e
set_stays (z ∷ xs) (suc k) (suc j) x y apart e = set_stays xs k j x y (λ same. apart (ap suc same)) e

set_here : (xs : List ℕ) (k x y : ℕ) → slice_get (set xs k x) k ≡ Some y → x ≡ y
set_here [] k x y e = absurd (cc e)
set_here (z ∷ xs) zero x y e = some_same x y e
set_here (z ∷ xs) (suc k) x y e = set_here xs k x y e

one_place : (k place : ℕ) → (k ≡ place) ⊎ (k ≡ place → ⊥)
one_place zero zero = inl refl
one_place zero (suc place) = inr (λ e. absurd (omega (arith, e)))
one_place (suc k) zero = inr (λ e. absurd (omega (arith, e)))
one_place (suc k) (suc place) = ⊎_elim (λ e. inl (ap suc e)) (λ no. inr (λ e. no (omega (arith, e)))) (one_place k place)

either_true : (s t : Bool) → t ≡ true → (s || t) ≡ true
either_true true t e = refl
either_true false t e = e

pub zeros_at : (n k x : ℕ) → slice_get (replicate n 0) k ≡ Some x → x ≡ 0
zeros_at zero k x e = absurd (cc e)
zeros_at (suc n) zero x e = sym (some_same 0 x e)
zeros_at (suc n) (suc k) x e = zeros_at n k x e

pub zeros_count : (n : ℕ) → length {A = ℕ} (replicate n 0) ≡ n
zeros_count zero = refl
zeros_count (suc n) = let rest = zeros_count n in omega (arith, rest)

not_false : (t : Bool) → (t ≡ true → ⊥) → t ≡ false
not_false true never = absurd (never refl)
not_false false never = refl

-- nothing is taken of what isn't there
none_set : (id : CommandId) (os : List (CommandId × Bool)) → lookup (same_id id) os ≡ None → lookup (same_id id) (with_taken id os) ≡ Some false → ⊥
none_set id [] e f = absurd (cc f)
none_set id (o ∷ os) e f =
    go (same_id id o.0) refl e f (none_set id os)
  where
    go : (t : Bool) → same_id id o.0 ≡ t → cond t (Some o.1) (lookup (same_id id) os) ≡ None → lookup (same_id id) (cond t ((o.0, true) ∷ os) (o ∷ with_taken id os)) ≡ Some false
        → (lookup (same_id id) os ≡ None → lookup (same_id id) (with_taken id os) ≡ Some false → ⊥) → ⊥
    go true q e f ih = absurd (cc e)
    go false q e f ih = ih e (sym (ap (λ t. cond t (Some o.1) (lookup (same_id id) (with_taken id os))) q) ∙ f)

pub same_id_of : (id : CommandId) (user : List ℕ) (ticket : Ticket) → user ≡ id.user → ticket ≡ id.ticket → record { user = user; ticket = ticket } ≡ id
same_id_of id user ticket same same_ticket = ap (λ u. record { user = u; ticket = ticket }) same ∙ ap (λ t. record { user = id.user; ticket = t }) same_ticket

module _ {A : Type 0} where
  submits_both : (user : List ℕ) (is more : List (Input A)) → submits_of user (is ++ more) ≡ submits_of user is + submits_of user more
  submits_both user [] more = omega arith
  submits_both user (i ∷ is) more = let rest = submits_both user is more in omega (arith, rest)

  -- the ticket of what was submitted is one that was given
  submitted_within : (log : NodeLog A) (id : CommandId) (op : Op A) → IsSubmitted log id op → id.ticket.seq ≤ submits_of id.user log.inputs
  submitted_within log id op h =
      let number : id.ticket.seq ≡ 1 + submits_of id.user h.before = ap (λ (t : Ticket). t.seq) h.ticket in
      let all : submits_of id.user log.inputs ≡ submits_of id.user h.before + (counts id.user (Submit id.user op) + submits_of id.user h.after) =
      ap (submits_of id.user) h.inputs ∙ submits_both id.user h.before (Submit id.user op ∷ h.after) in
      let own = counts_own id.user op in
      omega (arith, number, all, own)

  -- an outcome that is there: it wasn't taken, and the command's node is up and has answered
  pub record IsLeft (w : World A) (id : CommandId) : Type 0 where
    pub log : NodeLog A
    pub at : log_of id.ticket.node w.service.network.logs ≡ Some log
    pub up : is_up (Some log) ≡ true
    pub untaken : lookup (same_id id) w.operations ≡ Some false
    pub some : is_some (answered log id) ≡ true

  pub left : (w : World A) (id : CommandId) → is_there w id ≡ true → IsLeft w id
  left w id there =
      by (lookup (same_id id) w.operations) (log_of id.ticket.node w.service.network.logs) refl refl there
    where
      by_up : (log : NodeLog A) → lookup (same_id id) w.operations ≡ Some false → log_of id.ticket.node w.service.network.logs ≡ Some log → (up : Bool) → is_up (Some log) ≡ up → is_some (cond up (answered log id) None) ≡ true → IsLeft w id
      by_up log untaken at true up some = record { log = log; at = at; up = up; untaken = untaken; some = some }
      by_up log untaken at false up some = absurd (cc some)

      by : (taken : Option Bool) (log : Option (NodeLog A)) → lookup (same_id id) w.operations ≡ taken → log_of id.ticket.node w.service.network.logs ≡ log → is_some (unless_taken taken (answer_at log id)) ≡ true → IsLeft w id
      by None log e f some = absurd (cc some)
      by (Some true) log e f some = absurd (cc some)
      by (Some false) None e f some = absurd (cc some)
      by (Some false) (Some log) e f some = by_up log e f (is_up (Some log)) refl some

  there_of : (w : World A) (id : CommandId) → IsLeft w id → is_there w id ≡ true
  there_of w id l =
      ap (λ t. is_some (unless_taken t (answer_at (log_of id.ticket.node w.service.network.logs) id))) l.untaken
      ∙ ap (λ o. is_some (answer_at o id)) l.at ∙ ap (λ t. is_some (cond t (answered l.log id) None)) l.up ∙ l.some

  -- Where something has happened to the service

  module _ (w later : World A) (ids : List CommandId) (waiting : Waiting) (h : Happening A) (moved : later.service ≡ happens w.config w.service h) (so : IsFollowed w ids waiting) where
    old_log : (node : ℕ) (log : NodeLog A) → slice_get later.service.network.logs node ≡ Some log → WasLog w.service.network node log
    old_log node log at =
        was_log w.service later.service (subst (Follows w.service) (sym moved) (happens_follows w.service w.config h)) node log at

    -- what a node has performed since
    pub record IsNews (node : ℕ) (log : NodeLog A) : Type 0 where
      pub old : NodeLog A
      pub at : slice_get w.service.network.logs node ≡ Some old
      pub up : is_up (Some log) ≡ true → is_up (Some old) ≡ true
      pub more : List (ℕ × Command A)
      pub performed : (replayed log).replica.performed ≡ (replayed old).replica.performed ++ more
      pub answers : (id : CommandId) → is_some (answered log id) ≡ true → (is_some (answered old id) ≡ true) ⊎ (has_identity mail_rules id more ≡ true)

    pub news : (node : ℕ) (log : NodeLog A) → slice_get later.service.network.logs node ≡ Some log → IsNews node log
    news node log at =
        let was = old_log node log at in
        let brought = longer_brings was.old was.more in
        record {
          old = was.old;
          at = was.at;
          up = λ up. was_up was.old was.more (ap (λ (l : NodeLog A). is_up (Some l)) (sym was.longer) ∙ up);
          more = brought.more;
          performed = ap (λ (l : NodeLog A). (replayed l).replica.performed) was.longer ∙ brought.performed;
          answers = λ id some. brought.answers id (ap (λ (l : NodeLog A). is_some (answered l id)) (sym was.longer) ∙ some);
        }

    -- an answer that is new is of a command that is unheard
    pub new_unheard : (id : CommandId) (l : IsLeft later id) → ((node : ℕ) (old : NodeLog A) → id.ticket.node ≡ suc node → slice_get w.service.network.logs node ≡ Some old → is_some (answered old id) ≡ true → ⊥)
        → IsUnheard later.service waiting id
    new_unheard id l never =
        let here = at_its_place id.ticket.node later.service.network.logs l.log l.at in
        let n = news here.0 l.log here.2 in
        let low = slice_get_within w.service.network.logs here.0 n.old n.at in
        let count : ℕ = get_or waiting.heard here.0 0 in
        let nodes = so.nodes in
        let heard : slice_get waiting.heard here.0 ≡ Some count = slice_get-get_or waiting.heard here.0 0 (omega (arith, low, nodes)) in
        let within = so.within here.0 count n.old heard n.at in
        record {
          node = here.0;
          its = here.1;
          log = l.log;
          at = here.2;
          count = count;
          heard = heard;
          among = ap (λ ps. has_identity mail_rules id (drop count ps)) n.performed
              ∙ ap (has_identity mail_rules id) (drop_push count (replayed n.old).replica.performed n.more within)
              ∙ list_any-append (λ (p : ℕ × Command A). is_eq (compare_ids (identity_of p.1) id)) (drop count (replayed n.old).replica.performed) n.more
              ∙ either_true (has_identity mail_rules id (drop count (replayed n.old).replica.performed)) (has_identity mail_rules id n.more)
              (⊎_elim (λ before. absurd (never here.0 n.old here.1 n.at before)) (λ new. new) (n.answers id l.some));
        }

    pub happened_followed : later.config ≡ w.config → later.operations ≡ w.operations → IsFollowed later ids waiting
    happened_followed config same =
        record {
          reached = subst (λ (c : Config A). IsReached c later.service) (sym config) (subst (IsReached w.config) (sym moved) (next_reached w.config w.service h so.reached));
          all = so.all ∙ ap keys_of (sym same);
          given = λ k id at. subst (λ (s : Service A). IsGiven s id) (sym moved) (given_later w.config w.service h id (so.given k id at));
          distinct = so.distinct;
          nodes = so.nodes ∙ sym count;
          few = so.few;
          within = λ node count log heard at.
              let n = news node log at in
              let low = so.within node count n.old heard n.at in
              let more : length (replayed log).replica.performed ≡ length (replayed n.old).replica.performed + length n.more = ap length n.performed ∙ length-append (replayed n.old).replica.performed n.more in
              omega (arith, low, more);
          watched = λ k id at untaken. so.watched k id at (ap (lookup (same_id id)) (sym same) ∙ untaken);
          there = λ k id at there. by k id at (left later id there);
        }
      where
        count : length later.service.network.logs ≡ length w.service.network.logs
        count =
            let f = subst (Follows w.service) (sym moved) (happens_follows w.service w.config h) in
            ap (λ (n : Network A). length n.logs) f.1 ∙ happen_count w.service.network f.0

        old_at : (id : CommandId) (node : ℕ) (old : NodeLog A) → id.ticket.node ≡ suc node → slice_get w.service.network.logs node ≡ Some old → log_of id.ticket.node w.service.network.logs ≡ Some old
        old_at id node old its at = ap (λ n. log_of n w.service.network.logs) its ∙ at

        -- one that is unheard stays so
        still : (node : ℕ) (log : NodeLog A) → slice_get later.service.network.logs node ≡ Some log → (id : CommandId) (u : IsUnheard w.service waiting id) → u.node ≡ node → IsUnheard later.service waiting id
        still node log at id u here =
            let n = news node log at in
            let same_log : u.log ≡ n.old = some_same u.log n.old (sym u.at ∙ ap (slice_get w.service.network.logs) here ∙ n.at) in
            let within = so.within u.node u.count u.log u.heard u.at in
            let performed : (replayed log).replica.performed ≡ (replayed u.log).replica.performed ++ n.more =
            n.performed ∙ ap (λ (l : NodeLog A). (replayed l).replica.performed ++ n.more) (sym same_log) in
            record {
              node = u.node;
              its = u.its;
              log = log;
              at = ap (slice_get later.service.network.logs) here ∙ at;
              count = u.count;
              heard = u.heard;
              among = ap (λ ps. has_identity mail_rules id (drop u.count ps)) performed
                  ∙ ap (has_identity mail_rules id) (drop_push u.count (replayed u.log).replica.performed n.more within)
                  ∙ list_any-append (λ (p : ℕ × Command A). is_eq (compare_ids (identity_of p.1) id)) (drop u.count (replayed u.log).replica.performed) n.more
                  ∙ ap (λ t. t || has_identity mail_rules id n.more) u.among;
            }

        by : (k : ℕ) (id : CommandId) → slice_get ids k ≡ Some id → IsLeft later id → MayHave waiting k ⊎ IsUnheard later.service waiting id
        by k id at l =
            let here = at_its_place id.ticket.node later.service.network.logs l.log l.at in
            let n = news here.0 l.log here.2 in
            go here.0 here.1 here.2 n (is_some (answered n.old id)) refl
          where
            go : (node : ℕ) → id.ticket.node ≡ suc node → slice_get later.service.network.logs node ≡ Some l.log → (n : IsNews node l.log) → (t : Bool) → is_some (answered n.old id) ≡ t
                → MayHave waiting k ⊎ IsUnheard later.service waiting id
            go node its there n true e =
                ⊎_elim
                (λ (may : MayHave waiting k). inl may)
                (λ (u : IsUnheard w.service waiting id). inr (still node l.log there id u (let at_node = u.its in omega (arith, at_node, its))))
                (so.there k id at (there_of w id (record {
                  log = n.old;
                  at = old_at id node n.old its n.at;
                  up = n.up l.up;
                  untaken = ap (lookup (same_id id)) (sym same) ∙ l.untaken;
                  some = e;
                })))
            go node its there n false e =
                inr (new_unheard id l (λ other old its_too at_too some.
                let place : other ≡ node = omega (arith, its, its_too) in
                let one : old ≡ n.old = some_same old n.old (sym at_too ∙ ap (slice_get w.service.network.logs) place ∙ n.at) in
                false≢true (sym e ∙ ap (λ (x : NodeLog A). is_some (answered x id)) (sym one) ∙ some)))

  -- Where a Mail or a Break was given

  -- one that is new goes last, to its place
  pub added_followed : (w later : World A) (ids : List CommandId) (waiting waiting2 : Waiting) (id : CommandId) → IsFollowed w ids waiting
      → later.config ≡ w.config → later.service ≡ w.service → later.operations ≡ w.operations ++ (id, false) ∷ []
      → ((k : ℕ) → slice_get ids k ≡ Some id → ⊥) → IsGiven w.service id → (IsLeft later id → IsUnheard w.service waiting id)
      → IsWatched waiting2 (length ids) id → WatchesBut (only_at (length ids)) waiting waiting2
      → IsFollowed later (ids ++ id ∷ []) waiting2
  added_followed w later ids waiting waiting2 id so config service same fresh its unheard own others =
      record {
        reached = subst (λ (c : Config A). IsReached c later.service) (sym config) (subst (IsReached w.config) (sym service) so.reached);
        all = ap (λ xs. xs ++ id ∷ []) so.all ∙ sym (ap keys_of same ∙ keys_push w.operations);
        given = λ k x at. subst (λ (s : Service A). IsGiven s x) (sym service) (⊎_elim (λ before. so.given k x before) (λ (last : (k ≡ length ids) × (id ≡ x)). subst (IsGiven w.service) last.1 its) (at_end ids id x k at));
        distinct = λ j k x at at_too. apart j k x (at_end ids id x j at) (at_end ids id x k at_too);
        nodes = ap length others.heard ∙ so.nodes ∙ ap (λ (s : Service A). length s.network.logs) (sym service);
        few = let same_count = ap length others.heard in let few = so.few in omega (arith, same_count, few);
        within = λ node count log heard at.
            so.within node count log (ap (λ hs. slice_get hs node) (sym others.heard) ∙ heard) (ap (λ (s : Service A). slice_get s.network.logs node) (sym service) ∙ at);
        watched = λ k x at untaken.
            ⊎_elim
            (λ before. others.watched k x (before_last k x before) (so.watched k x before (was_untaken k x before untaken)))
            (λ (last : (k ≡ length ids) × (id ≡ x)). subst (λ y. IsWatched waiting2 k y) last.1 (subst (λ n. IsWatched waiting2 n id) (sym last.0) own))
            (at_end ids id x k at);
        there = λ k x at there.
            ⊎_elim
            (λ before. old_there k x before (left later x there))
            (λ (last : (k ≡ length ids) × (id ≡ x)). inr (heard_so x (subst (IsUnheard w.service waiting) last.1 (unheard (left later id (ap (is_there later) last.1 ∙ there))))))
            (at_end ids id x k at);
      }
    where
      keys_push : (os : List (CommandId × Bool)) → keys_of (os ++ (id, false) ∷ []) ≡ keys_of os ++ id ∷ []
      keys_push [] = refl
      keys_push (o ∷ os) = ap (λ xs. o.0 ∷ xs) (keys_push os)

      before_last : (k : ℕ) (x : CommandId) → slice_get ids k ≡ Some x → k ≡ length ids → ⊥
      before_last k x at last = absurd (let low = slice_get_within ids k x at in omega (arith, low, last))

      apart : (j k : ℕ) (x : CommandId) → (slice_get ids j ≡ Some x) ⊎ ((j ≡ length ids) × (id ≡ x)) → (slice_get ids k ≡ Some x) ⊎ ((k ≡ length ids) × (id ≡ x)) → j ≡ k
      apart j k x (inl one) (inl other) = so.distinct j k x one other
      apart j k x (inl one) (inr last) = absurd (fresh j (one ∙ ap Some (sym last.1)))
      apart j k x (inr last) (inl other) = absurd (fresh k (other ∙ ap Some (sym last.1)))
      apart j k x (inr last) (inr last2) = last.0 ∙ sym last2.0

      was_untaken : (k : ℕ) (x : CommandId) → slice_get ids k ≡ Some x → lookup (same_id x) later.operations ≡ Some false → lookup (same_id x) w.operations ≡ Some false
      was_untaken k x at untaken =
          ⊎_elim
          (λ before. before)
          (λ (new : (x ≡ id) × (false ≡ false)). absurd (fresh k (at ∙ ap Some new.0)))
          (found_last id x false w.operations false (ap (lookup (same_id x)) (sym same) ∙ untaken))

      heard_so : (x : CommandId) → IsUnheard w.service waiting x → IsUnheard later.service waiting2 x
      heard_so x u = record {
        node = u.node;
        its = u.its;
        log = u.log;
        at = ap (λ (s : Service A). slice_get s.network.logs u.node) service ∙ u.at;
        count = u.count;
        heard = ap (λ hs. slice_get hs u.node) others.heard ∙ u.heard;
        among = u.among;
      }

      old_there : (k : ℕ) (x : CommandId) → slice_get ids k ≡ Some x → IsLeft later x → MayHave waiting2 k ⊎ IsUnheard later.service waiting2 x
      old_there k x at l =
          ⊎_elim
          (λ (may : MayHave waiting k). inl (others.may k (before_last k x at) may))
          (λ (u : IsUnheard w.service waiting x). inr (heard_so x u))
          (so.there k x at (there_of w x (record {
            log = l.log;
            at = ap (λ (s : Service A). log_of x.ticket.node s.network.logs) (sym service) ∙ l.at;
            up = l.up;
            untaken = was_untaken k x at l.untaken;
            some = l.some;
          })))

  -- a Mail or a Break happens
  pub given_followed : (w later : World A) (ids : List CommandId) (waiting waiting2 : Waiting) (h : Happening A) (node : ℕ) (user : List ℕ) (op : Op A) (log : NodeLog A) (id : CommandId) → IsFollowed w ids waiting
      → later.config ≡ w.config → later.service ≡ happens w.config w.service h → later.service ≡ at_nodes w.service (Submits node user op) → log_of node w.service.network.logs ≡ Some log → is_up (Some log) ≡ true
      → later.operations ≡ w.operations ++ (next_id log user, false) ∷ [] → id ≡ next_id log user
      → IsWatched waiting2 (length ids) id → WatchesBut (only_at (length ids)) waiting waiting2
      → IsFollowed later (ids ++ id ∷ []) waiting2
  given_followed w later ids waiting waiting2 h node user op log id so config moved submitted at up same is own others =
      let mid : World A = record w { service = later.service } in
      added_followed mid later ids waiting waiting2 id (happened_followed w mid ids waiting h moved so refl refl) config refl (same ∙ ap (λ x. w.operations ++ (x, false) ∷ []) (sym is))
      (λ k there. new (subst (IsGiven w.service) is (so.given k id there)))
      (subst (λ (s : Service A). IsGiven s id) (sym submitted) (subst (IsGiven (at_nodes w.service (Submits node user op))) (sym is) (now_given w.service numbered node log user op at up)))
      (λ l. new_unheard w later ids waiting h moved so id l (λ place old its old_at some.
      let answer = the_answer (answered old id) some in
      let submit = answered_submitted old id answer.0 answer.1 in
      new (subst (IsGiven w.service) is (record {
        log = old;
        at = ap (λ n. log_of n w.service.network.logs) its ∙ old_at;
        within = submitted_within old id submit.0 submit.1;
      }))))
      own others
    where
      numbered : AreNumbered w.service
      numbered = reached_numbered w.config w.service so.reached

      new : IsGiven w.service (next_id log user) → ⊥
      new = not_given w.service numbered node log user at

      the_answer : (o : Option (Outcome A)) → is_some o ≡ true → (answer : Outcome A) × (o ≡ Some answer)
      the_answer None some = absurd (cc some)
      the_answer (Some answer) some = (answer, refl)

  -- Where an outcome is taken

  pub taken_followed : (w later : World A) (ids : List CommandId) (waiting waiting2 : Waiting) (place : ℕ) (id : CommandId) → IsFollowed w ids waiting → slice_get ids place ≡ Some id
      → later.config ≡ w.config → later.service ≡ w.service → later.operations ≡ with_taken id w.operations
      → ((other : ℕ) → (other ≡ place → ⊥) → MayHave waiting other → MayHave waiting2 other) → waiting2.commands ≡ waiting.commands → waiting2.heard ≡ waiting.heard
      → IsFollowed later ids waiting2 × (IsCurrent w ids waiting → IsCurrent later ids waiting2)
  taken_followed w later ids waiting waiting2 place id so here config service same may commands heard = (
    record {
      reached = subst (λ (c : Config A). IsReached c later.service) (sym config) (subst (IsReached w.config) (sym service) so.reached);
      all = so.all ∙ sym (ap keys_of same ∙ keys-set_value (same_id id) w.operations true);
      given = λ k x at. subst (λ (s : Service A). IsGiven s x) (sym service) (so.given k x at);
      distinct = so.distinct;
      nodes = ap length heard ∙ so.nodes ∙ ap (λ (s : Service A). length s.network.logs) (sym service);
      few = let same_count = ap length heard in let few = so.few in omega (arith, same_count, few);
      within = λ node count log had at. so.within node count log (ap (λ hs. slice_get hs node) (sym heard) ∙ had) (ap (λ (s : Service A). slice_get s.network.logs node) (sym service) ∙ at);
      watched = λ k x at untaken.
          let was = was_untaken x untaken in
          ⊎_elim
          (λ (has : MayHave waiting k). inl (may k (elsewhere k x at was.0) has))
          (λ (found : lookup (is_at (compare_ids x)) waiting.commands ≡ Some k). inr (ap (lookup (is_at (compare_ids x))) commands ∙ found))
          (so.watched k x at was.1);
      there = λ k x at there.
          let was = was_there x (left later x there) in
          ⊎_elim
          (λ (has : MayHave waiting k). inl (may k (elsewhere k x at was.0) has))
          (λ (u : IsUnheard w.service waiting x). inr (heard_so x u))
          (so.there k x at was.1);
    },
    λ current k x at there. let was = was_there x (left later x there) in may k (elsewhere k x at was.0) (current k x at was.1),
  )
    where
      was_untaken : (x : CommandId) → lookup (same_id x) later.operations ≡ Some false → (x ≡ id → ⊥) × (lookup (same_id x) w.operations ≡ Some false)
      was_untaken x untaken =
          go (lookup (same_id id) w.operations) refl (one_or_other x id)
        where
          now : lookup (same_id x) (with_taken id w.operations) ≡ Some false
          now = ap (lookup (same_id x)) (sym same) ∙ untaken

          go : (o : Option Bool) → lookup (same_id id) w.operations ≡ o → (x ≡ id) ⊎ (x ≡ id → ⊥) → (x ≡ id → ⊥) × (lookup (same_id x) w.operations ≡ Some false)
          go o e (inr apart) = (apart, sym (set_other id x w.operations apart) ∙ now)
          go None e (inl one) = absurd (none_set id w.operations e (ap (λ (y : CommandId). lookup (same_id y) (with_taken id w.operations)) (sym one) ∙ now))
          go (Some taken) e (inl one) =
              absurd (true≢false (some_same true false (sym (set_own id w.operations taken e) ∙ ap (λ (y : CommandId). lookup (same_id y) (with_taken id w.operations)) (sym one) ∙ now)))

      was_there : (x : CommandId) → IsLeft later x → (x ≡ id → ⊥) × (is_there w x ≡ true)
      was_there x l =
          let was = was_untaken x l.untaken in (
            was.0,
            there_of w x (record { log = l.log; at = ap (λ (s : Service A). log_of x.ticket.node s.network.logs) (sym service) ∙ l.at; up = l.up; untaken = was.1; some = l.some }),
          )

      elsewhere : (k : ℕ) (x : CommandId) → slice_get ids k ≡ Some x → (x ≡ id → ⊥) → k ≡ place → ⊥
      elsewhere k x at apart e = apart (some_same x id (sym at ∙ ap (slice_get ids) e ∙ here))

      heard_so : (x : CommandId) → IsUnheard w.service waiting x → IsUnheard later.service waiting2 x
      heard_so x u = record {
        node = u.node;
        its = u.its;
        log = u.log;
        at = ap (λ (s : Service A). slice_get s.network.logs u.node) service ∙ u.at;
        count = u.count;
        heard = ap (λ hs. slice_get hs u.node) heard ∙ u.heard;
        among = u.among;
      }

  -- Where it is looked at what a node has performed

  module _ (w : World A) (ids : List CommandId) (waiting later : Waiting) (place : ℕ) (performed : List (ℕ × Command A)) (so : IsFollowed w ids waiting)
      (here : performed_in (slice_get w.service.network.logs place) ≡ Some performed)
      (heard : later.heard ≡ set waiting.heard place (length performed))
      (own : (id : CommandId) (count : ℕ) → id.ticket.node ≡ place + 1 → slice_get waiting.heard place ≡ Some count → has_identity mail_rules id (drop count performed) ≡ true → (k : ℕ) → IsWatched waiting k id → MayHave later k)
      (watched : (k : ℕ) (id : CommandId) → IsWatched waiting k id → IsWatched later k id)
      (may : (k : ℕ) → MayHave waiting k → MayHave later k) where
    its_performed : (log : NodeLog A) → slice_get w.service.network.logs place ≡ Some log → (replayed log).replica.performed ≡ performed
    its_performed log at = some_same (replayed log).replica.performed performed (sym (ap performed_in at) ∙ here)

    now_may : (k : ℕ) (id : CommandId) → slice_get ids k ≡ Some id → lookup (same_id id) w.operations ≡ Some false → (u : IsUnheard w.service waiting id) → u.node ≡ place → MayHave later k
    now_may k id at untaken u same =
        let its : id.ticket.node ≡ place + 1 = let at_node = u.its in omega (arith, at_node, same) in
        own id u.count its (ap (slice_get waiting.heard) (sym same) ∙ u.heard)
        (ap (λ ps. has_identity mail_rules id (drop u.count ps)) (sym (its_performed u.log (ap (slice_get w.service.network.logs) (sym same) ∙ u.at))) ∙ u.among)
        k (so.watched k id at untaken)

    pub heard_followed : IsFollowed w ids later
    heard_followed =
        record {
          reached = so.reached;
          all = so.all;
          given = so.given;
          distinct = so.distinct;
          nodes = count ∙ so.nodes;
          few = let few = so.few in omega (arith, count, few);
          within = λ node n log had at. low node n log (ap (λ hs. slice_get hs node) (sym heard) ∙ had) at (one_place node place);
          watched = λ k id at untaken. watched k id (so.watched k id at untaken);
          there = λ k id at there.
              ⊎_elim
              (λ (has : MayHave waiting k). inl (may k has))
              (λ (u : IsUnheard w.service waiting id). unheard k id at (left w id there).untaken u (one_place u.node place))
              (so.there k id at there);
        }
      where
        count : length later.heard ≡ length waiting.heard
        count = ap length heard ∙ length-set waiting.heard place (length performed)

        low : (node n : ℕ) (log : NodeLog A) → slice_get (set waiting.heard place (length performed)) node ≡ Some n → slice_get w.service.network.logs node ≡ Some log → (node ≡ place) ⊎ (node ≡ place → ⊥)
            → n ≤ length (replayed log).replica.performed
        low node n log had at (inl same) =
            let its : length performed ≡ n = set_here waiting.heard place (length performed) n (ap (slice_get (set waiting.heard place (length performed))) (sym same) ∙ had) in
            let all : length (replayed log).replica.performed ≡ length performed = ap length (its_performed log (ap (slice_get w.service.network.logs) (sym same) ∙ at)) in
            omega (arith, its, all)
        low node n log had at (inr apart) = so.within node n log (set_there waiting.heard place node (length performed) n apart had) at

        unheard : (k : ℕ) (id : CommandId) → slice_get ids k ≡ Some id → lookup (same_id id) w.operations ≡ Some false → (u : IsUnheard w.service waiting id) → (u.node ≡ place) ⊎ (u.node ≡ place → ⊥)
            → MayHave later k ⊎ IsUnheard w.service later id
        unheard k id at untaken u (inl same) = inl (now_may k id at untaken u same)
        unheard k id at untaken u (inr apart) =
            inr (record {
              node = u.node;
              its = u.its;
              log = u.log;
              at = u.at;
              count = u.count;
              heard = ap (λ hs. slice_get hs u.node) heard ∙ set_stays waiting.heard place u.node (length performed) u.count apart u.heard;
              among = u.among;
            })

    pub heard_here : (node : ℕ) → node ≡ place + 1 → IsHeard w ids later node
    heard_here node is k id at its there =
        ⊎_elim
        (λ (has : MayHave waiting k). may k has)
        (λ (u : IsUnheard w.service waiting id). now_may k id at (left w id there).untaken u (let at_node = u.its in omega (arith, at_node, its, is)))
        (so.there k id at there)

  -- a node that is down has no outcome
  pub down_heard : (w : World A) (ids : List CommandId) (waiting : Waiting) (node : ℕ) → is_up (log_of node w.service.network.logs) ≡ false → IsHeard w ids waiting node
  down_heard w ids waiting node down k id at its there =
      let l = left w id there in
      absurd (false≢true (sym down ∙ ap (λ n. is_up (log_of n w.service.network.logs)) (sym its) ∙ ap is_up l.at ∙ l.up))

  -- once all nodes were heard
  pub all_heard : (w : World A) (ids : List CommandId) (waiting : Waiting) → IsFollowed w ids waiting → ((node : ℕ) → 1 ≤ node → node ≤ 9 → IsHeard w ids waiting node) → IsCurrent w ids waiting
  all_heard w ids waiting so heard k id at there =
      let l = left w id there in
      let here = at_its_place id.ticket.node w.service.network.logs l.log l.at in
      let low = slice_get_within w.service.network.logs here.0 l.log here.2 in
      let its = here.1 in
      let nodes = so.nodes in
      let few = so.few in
      heard id.ticket.node (omega (arith, its)) (omega (arith, its, low, nodes, few)) k id at refl there

  -- heard once is heard for good, while nothing happens
  pub still_heard : (w : World A) (ids : List CommandId) (waiting later : Waiting) (node : ℕ) → ((k : ℕ) → MayHave waiting k → MayHave later k) → IsHeard w ids waiting node → IsHeard w ids later node
  still_heard w ids waiting later node may heard k id at its there = may k (heard k id at its there)

  -- What is written

  untold : (id : CommandId) (w : World A) → is_there w id ≡ false → outcome_told id w ≡ silent w
  untold id w none =
      go (outcome_left w id) none
    where
      go : (o : Option (Outcome A)) → is_some o ≡ false → outcome_by o id w ≡ silent w
      go None e = refl
      go (Some outcome) e = absurd (true≢false e)

  skip_one : (ids : List CommandId) (w : World A) (k : ℕ) → ((id : CommandId) → slice_get ids k ≡ Some id → is_there w id ≡ false) → outcomes_told (drop k ids) w ≡ outcomes_told (drop (suc k) ids) w
  skip_one ids w k none =
      go (slice_get ids k) refl
    where
      go : (o : Option CommandId) → slice_get ids k ≡ o → outcomes_told (drop k ids) w ≡ outcomes_told (drop (suc k) ids) w
      go None e = let both = drop_past ids k e in ap (λ xs. outcomes_told xs w) both.0 ∙ sym (ap (λ xs. outcomes_told xs w) both.1)
      go (Some id) e = ap (λ xs. outcomes_told xs w) (drop_at ids k id e) ∙ ap (λ (t : Told (World A)). followed t (outcomes_told (drop (suc k) ids))) (untold id w (none id e))

  -- none of the outcomes from a place up to another is there
  pub skipped : (ids : List CommandId) (w : World A) (waiting : Waiting) (from n : ℕ) → IsCurrent w ids waiting → NoneMay waiting from (from + n) → outcomes_told (drop from ids) w ≡ outcomes_told (drop (from + n) ids) w
  skipped ids w waiting from zero current none = let same : from ≡ from + 0 = omega arith in ap (λ k. outcomes_told (drop k ids) w) same
  skipped ids w waiting from (suc n) current none =
      let next : suc from + n ≡ from + suc n = omega arith in
      skip_one ids w from (λ id at. not_false (is_there w id) (λ there. none.each from (omega arith) (omega arith) (current from id at there)))
      ∙ skipped ids w waiting (suc from) n current (record { each = λ k low high. none.each k (omega (arith, low)) (omega (arith, high)) })
      ∙ ap (λ k. outcomes_told (drop k ids) w) next

  -- one outcome more is told
  pub next_told : (ids : List CommandId) (w w2 : World A) (waiting : Waiting) (place at : ℕ) (id : CommandId) (before after : List ℕ) → IsCurrent w ids waiting → place ≤ at → NoneMay waiting place at → slice_get ids at ≡ Some id
      → IsWritten (outcome_told id w) w2 before after → text_before after (outcomes_told (drop (at + 1) ids) w2) ≡ text_before before (outcomes_told (drop place ids) w)
  next_told ids w w2 waiting place at id before after current low none here written =
      let next : at + 1 ≡ suc at = omega arith in
      let there : place + (at - place) ≡ at = omega (arith, low) in
      ap (λ k. text_before after (outcomes_told (drop k ids) w2)) next
      ∙ further (outcome_told id w) (outcomes_told (drop (suc at) ids)) w2 before after written
      ∙ ap (λ xs. text_before before (outcomes_told xs w)) (sym (drop_at ids at id here))
      ∙ ap (λ k. text_before before (outcomes_told (drop k ids) w)) (sym there)
      ∙ ap (text_before before) (sym (skipped ids w waiting place (at - place) current (subst (NoneMay waiting place) (sym there) none)))

  -- no more outcome is there
  pub all_told : (ids : List CommandId) (start w : World A) (waiting : Waiting) (place : ℕ) (before after : List ℕ) → IsCurrent w ids waiting → place ≤ length ids → NoneMay waiting place (length ids)
      → text_before after (outcomes_told (drop place ids) w) ≡ text_before before (outcomes_told ids start) → IsWritten (outcomes_told ids start) w before after
  all_told ids start w waiting place before after current low none told =
      let there : place + (length ids - place) ≡ length ids = omega (arith, low) in
      let rest : outcomes_told (drop place ids) w ≡ silent w =
      skipped ids w waiting place (length ids - place) current (subst (NoneMay waiting place) (sym there) none)
      ∙ ap (λ k. outcomes_told (drop k ids) w) there ∙ ap (λ xs. outcomes_told xs w) (drop_all (length ids) ids (omega arith)) in
      let all : text_before after (silent w) ≡ text_before before (outcomes_told ids start) = ap (text_before after) (sym rest) ∙ told in
      (ap (λ (t : Told (World A)). t.state) all, sym (append-nil after) ∙ ap (λ (t : Told (World A)). t.text) all)

  -- What is known of a node, and of an outcome that is asked for

  pub performed_there : (w : Service A) (place number node : ℕ) (performed : List (ℕ × Command A)) → place + 1 ≡ number → node ≡ number → performed_by w node ≡ Some performed
      → performed_in (slice_get w.network.logs place) ≡ Some performed
  performed_there w place number node performed is same there = ap performed_in (sym (node_at w.network.logs place node (is ∙ sym same))) ∙ there

  pub unknown_down : (log : Option (NodeLog A)) (crashed : Option Bool) → false ≡ is_known log crashed → is_up log ≡ false
  unknown_down log crashed unknown =
      go (is_up log) refl
    where
      go : (t : Bool) → is_up log ≡ t → t ≡ false
      go true e = sym (unknown ∙ ap (λ u. u || option_map_or (λ c. c) crashed false) e)
      go false e = refl

  -- an outcome is asked for at its command's node
  pub took : (w later : World A) (node : ℕ) (id asked : CommandId) (o : Option (Outcome A)) → asked ≡ id → node ≡ id.ticket.node → o ≡ outcome_at w node asked → later ≡ without_outcome_at w node asked
      → (o ≡ outcome_left w id) × (later ≡ without_outcome w id)
  took w later node id asked o same at is then = (
    is ∙ ap (outcome_at w node) same ∙ ap (λ t. cond t (outcome_left w id) None) (eq-eqb node id.ticket.node at),
    then ∙ ap (without_outcome_at w node) same ∙ ap (λ t. cond t (without_outcome w id) w) (eq-eqb node id.ticket.node at),
  )

  pub took_some : (w later : World A) (id : CommandId) (outcome : Outcome A) → Some outcome ≡ outcome_left w id → later ≡ without_outcome w id → later ≡ record w { operations = with_taken id w.operations }
  took_some w later id outcome is then = then ∙ ap (λ o. cond (is_some o) (record w { operations = with_taken id w.operations }) w) (sym is)

  pub took_none : (w later : World A) (id : CommandId) → None ≡ outcome_left w id → later ≡ without_outcome w id → later ≡ w
  took_none w later id is then = then ∙ ap (λ o. cond (is_some o) (record w { operations = with_taken id w.operations }) w) (sym is)

  -- one node more was heard
  pub next_heard : (w : World A) (ids : List CommandId) (waiting later : Waiting) (number : ℕ) → ((node : ℕ) → 1 ≤ node → node < number → IsHeard w ids waiting node) → IsHeard w ids later number
      → ((k : ℕ) → MayHave waiting k → MayHave later k) → (node : ℕ) → 1 ≤ node → node < number + 1 → IsHeard w ids later node
  next_heard w ids waiting later number so_far own may node low high =
      ⊎_elim
      (λ (same : node ≡ number). subst (IsHeard w ids later) (sym same) own)
      (λ (apart : node ≡ number → ⊥). still_heard w ids waiting later node may (so_far node low (let other : node ≢ number = λ e. apart e in omega (arith, high, other))))
      (one_place node number)
