-- The nodes of a world, as a list.
use Rattle.std.proofs.Common.{◌≡◌, ◌≢◌, ℕ, zero, suc, ◌+◌, ◌-◌, ◌≤◌, ◌<◌, List, [], ◌∷◌, ◌++◌, Bool, true, false, Option, Some, None, refl, sym, ap, ◌∙◌, subst, inl, inr, arith, cond, set, length, get_or}
use Rattle.std.specs.Prelude.{slice_get, ◌⊎◌, option_map, Result, Ok, Err, OnOk, OnErr, IfSome}
use Rattle.std.proofs.lemmas.Option.{slice_get_read, slice_get_past}
use Rattle.maildrop.specs.CommandId.{CommandId}
use Rattle.node.specs.Nodes.{logged}
use Rattle.node.specs.Replay.{replayed, sends_of}
use Rattle.maildrop.specs.declared.command.Command.{Command}
use Rattle.std.proofs.lemmas.List.{append-nil}
use Rattle.world.proofs.Arrivals.{arrival_more}
use Rattle.node.specs.declared.input.Input.{Input}
use Rattle.node.specs.declared.input.Input.TheVariants.{Crash}
use Rattle.node.specs.declared.log.NodeLog.{NodeLog}
use Rattle.world.specs.Hosts.{Host, Hosts, HasAnswer, HasAnswerAt, host_at, logs_of, log_after, network_of, sent_after, can_count, counted}
use Rattle.runs.specs.Messages.{Network, log_of, is_up, newly_sent, taken_by, given_input, with_arrival}
use Rattle.runs.specs.Worlds.{performed_in}
use Rattle.runs.specs.declared.sent.Sent.{Sent}
use Rattle.world.proofs.Hosting.{crash_sent}

-- what a look-up finds
pub got : {X : Type 0} (xs ys : List X) (k : ℕ) (x : X) → xs ≡ ys → k < length xs → x ≡ get_or xs k x → slice_get ys k ≡ Some x
got xs ys k x same within is = ap (λ zs. slice_get zs k) (sym same) ∙ slice_get_read xs (length xs) k x refl within is

pub got_none : {X : Type 0} (xs ys : List X) (k : ℕ) → xs ≡ ys → length xs ≤ k → slice_get ys k ≡ None
got_none xs ys k same past = ap (λ zs. slice_get zs k) (sym same) ∙ slice_get_past xs k past

-- of two facts about an answer
pub on_ok_both : {X E : Type 0} (r : Result X E) {P Q R : Type 0} → (P → Q → R) → OnOk r P → OnOk r Q → OnOk r R
on_ok_both (Ok x) f p q = f p q
on_ok_both (Err e) f p q = tt

pub on_err_both : {X E : Type 0} (r : Result X E) {P Q R : Type 0} → (P → Q → R) → OnErr r P → OnErr r Q → OnErr r R
on_err_both (Ok x) f p q = tt
on_err_both (Err e) f p q = f p q

module _ {A : Type 0} where
  -- node n stands at the place before
  pub host_at_place : (hosts : List (Host A)) (place n : ℕ) → place + 1 ≡ n → host_at n hosts ≡ slice_get hosts place
  host_at_place hosts place zero e = let no : place + 1 ≢ 0 = omega arith in absurd (no e)
  host_at_place hosts place (suc n) e = let same : n ≡ place = omega arith in ap (slice_get hosts) same

  got_log : (hosts : List (Host A)) (k : ℕ) → slice_get (logs_of hosts) k ≡ option_map (λ (h : Host A). h.log) (slice_get hosts k)
  got_log [] k = refl
  got_log (h ∷ hosts) zero = refl
  got_log (h ∷ hosts) (suc k) = got_log hosts k

  pub log_at : (n : ℕ) (hosts : List (Host A)) → log_of n (logs_of hosts) ≡ option_map (λ (h : Host A). h.log) (host_at n hosts)
  log_at zero hosts = refl
  log_at (suc n) hosts = got_log hosts n

  pub log_at_place : (hosts : List (Host A)) (place n : ℕ) → place + 1 ≡ n → log_of n (logs_of hosts) ≡ option_map (λ (h : Host A). h.log) (slice_get hosts place)
  log_at_place hosts place n e = log_at n hosts ∙ ap (option_map (λ (h : Host A). h.log)) (host_at_place hosts place n e)

  pub found_log : (hosts : List (Host A)) (place n : ℕ) (h : Host A) → place + 1 ≡ n → slice_get hosts place ≡ Some h → log_of n (logs_of hosts) ≡ Some h.log
  found_log hosts place n h e found = log_at_place hosts place n e ∙ ap (option_map (λ (h : Host A). h.log)) found

  pub no_log : (hosts : List (Host A)) (place n : ℕ) → place + 1 ≡ n → slice_get hosts place ≡ None → log_of n (logs_of hosts) ≡ None
  no_log hosts place n e none = log_at_place hosts place n e ∙ ap (option_map (λ (h : Host A). h.log)) none

  pub none_at : (hosts : List (Host A)) (place : ℕ) → slice_get hosts place ≡ None → slice_get (logs_of hosts) place ≡ None
  none_at hosts place none = got_log hosts place ∙ ap (option_map (λ (h : Host A). h.log)) none

  pub node_at : (logs : List (NodeLog A)) (place n : ℕ) → place + 1 ≡ n → log_of n logs ≡ slice_get logs place
  node_at logs place zero e = let no : place + 1 ≢ 0 = omega arith in absurd (no e)
  node_at logs place (suc n) e = let same : n ≡ place = omega arith in ap (slice_get logs) same

  logs_set : (hosts : List (Host A)) (place : ℕ) (h : Host A) → logs_of (set hosts place h) ≡ set (logs_of hosts) place h.log
  logs_set [] place h = refl
  logs_set (x ∷ hosts) zero h = refl
  logs_set (x ∷ hosts) (suc k) h = ap (λ ls. x.log ∷ ls) (logs_set hosts k h)

  set_same : (logs : List (NodeLog A)) (place : ℕ) (log : NodeLog A) → slice_get logs place ≡ Some log → set logs place log ≡ logs
  set_same [] place log e = refl
  set_same (x ∷ logs) zero log e = let same : x ≡ log = cc in ap (λ l. l ∷ logs) (sym same)
  set_same (x ∷ logs) (suc k) log e = ap (λ ls. x ∷ ls) (set_same logs k log e)

  pub logged_at : (hosts : List (Host A)) (place : ℕ) (h : Host A) → slice_get hosts place ≡ Some h → slice_get (logs_of hosts) place ≡ Some h.log
  logged_at hosts place h found = got_log hosts place ∙ ap (option_map (λ (h : Host A). h.log)) found

  abbrev pub the_network : List (NodeLog A) → List (Sent A) → Network A
  the_network logs sent = record { logs = logs; sent = sent }

  -- what a node takes
  pub host_takes : (w : Hosts A) (n place : ℕ) (h later : Host A) (sent : List (Sent A)) (i : Input A) → place + 1 ≡ n → slice_get w.hosts place ≡ Some h
      → later.log ≡ log_after h.log i → sent ≡ sent_after h.log i w.sent
      → network_of (record { hosts = set w.hosts place later; sent = sent }) ≡ given_input (network_of w) n i
  host_takes w n place h later sent i e found log its =
      together (logs_set w.hosts place later ∙ ap (set (logs_of w.hosts) place) log) its
      ∙ go (is_up (Some h.log)) refl
      ∙ ap (taken_by (network_of w) n i) (sym (found_log w.hosts place n h e found))
    where
      together : {logs logs2 : List (NodeLog A)} {sent sent2 : List (Sent A)} → logs ≡ logs2 → sent ≡ sent2 → the_network logs sent ≡ the_network logs2 sent2
      together p q j = record { logs = p j; sent = q j }

      before : n - 1 ≡ place
      before = omega arith

      go : (t : Bool) → is_up (Some h.log) ≡ t →
          the_network (set (logs_of w.hosts) place (cond t (logged h.log i) h.log)) (cond t (w.sent ++ newly_sent (sends_of h.log i)) w.sent)
          ≡ cond t (the_network (set (logs_of w.hosts) (n - 1) (logged h.log i)) (w.sent ++ newly_sent (sends_of h.log i))) (network_of w)
      go true up = ap (λ k. the_network (set (logs_of w.hosts) k (logged h.log i)) (w.sent ++ newly_sent (sends_of h.log i))) (sym before)
      go false up = ap (λ ls. the_network ls w.sent) (set_same (logs_of w.hosts) place h.log (logged_at w.hosts place h found))

  pub host_crashes : (w : Hosts A) (n place : ℕ) (h later : Host A) (sent : List (Sent A)) → place + 1 ≡ n → slice_get w.hosts place ≡ Some h
      → later.log ≡ log_after h.log Crash → sent ≡ w.sent
      → network_of (record { hosts = set w.hosts place later; sent = sent }) ≡ given_input (network_of w) n Crash
  host_crashes w n place h later sent e found log its = host_takes w n place h later sent Crash e found log (its ∙ sym (crash_sent h.log w.sent))

  -- a node that isn't there takes nothing
  pub no_host_takes : (w : Hosts A) (n place : ℕ) (i : Input A) → place + 1 ≡ n → slice_get w.hosts place ≡ None → network_of w ≡ given_input (network_of w) n i
  no_host_takes w n place i e none = ap (taken_by (network_of w) n i) (sym (no_log w.hosts place n e none))

  -- the answers at the other nodes
  set_got : (hosts : List (Host A)) (place k : ℕ) (later x : Host A) → slice_get (set hosts place later) k ≡ Some x → (later ≡ x) × (k ≡ place) ⊎ (slice_get hosts k ≡ Some x)
  set_got [] place k later x e = absurd (cc)
  set_got (h ∷ hosts) zero zero later x e = inl (cc, refl)
  set_got (h ∷ hosts) zero (suc k) later x e = inr e
  set_got (h ∷ hosts) (suc place) zero later x e = inr e
  set_got (h ∷ hosts) (suc place) (suc k) later x e = elim (set_got hosts place k later x e) [ inl p ↦ inl (p.0, ap suc p.1) | inr q ↦ inr q ]

  pub answers_set : (w : Hosts A) (place : ℕ) (h later : Host A) (sent : List (Sent A)) → slice_get w.hosts place ≡ Some h → (id : CommandId) → (HasAnswer id h → HasAnswer id later)
      → (n : ℕ) → HasAnswerAt n id w → HasAnswerAt n id (record { hosts = set w.hosts place later; sent = sent })
  answers_set w place h later sent found id keeps zero has x e = absurd (cc)
  answers_set w place h later sent found id keeps (suc n) has x e =
      elim (set_got w.hosts place n later x e) [
        | inl p ↦ subst (HasAnswer id) p.0 (keeps (has h (ap (slice_get w.hosts) p.1 ∙ found)))
        | inr q ↦ has x q
      ]

  -- if node n answers as the log says
  pub answer_found : (w : Hosts A) (n place : ℕ) (h : Host A) → place + 1 ≡ n → slice_get w.hosts place ≡ Some h → (id : CommandId) → HasAnswerAt n id w → HasAnswer id h
  answer_found w n place h e found id has = has h (host_at_place w.hosts place n e ∙ found)

  -- the logs, if a node is another whose log is the same
  pub same_logs : (w : Hosts A) (place : ℕ) (h later : Host A) → slice_get w.hosts place ≡ Some h → later.log ≡ h.log
      → network_of (record { hosts = set w.hosts place later; sent = w.sent }) ≡ network_of w
  same_logs w place h later found same =
      ap (λ ls. the_network ls w.sent) (logs_set w.hosts place later ∙ ap (set (logs_of w.hosts) place) same ∙ set_same (logs_of w.hosts) place h.log (logged_at w.hosts place h found))

  takes_sent : (w : Network A) (n : ℕ) (i : Input A) → (more : List (Sent A)) × ((given_input w n i).sent ≡ w.sent ++ more)
  takes_sent w n i =
      go (log_of n w.logs)
    where
      up : (log : NodeLog A) (t : Bool) → (more : List (Sent A)) × ((cond t (the_network (set w.logs (n - 1) (logged log i)) (w.sent ++ newly_sent (sends_of log i))) w).sent ≡ w.sent ++ more)
      up log true = (newly_sent (sends_of log i), refl)
      up log false = ([], sym (append-nil w.sent))

      go : (o : Option (NodeLog A)) → (more : List (Sent A)) × ((taken_by w n i o).sent ≡ w.sent ++ more)
      go None = ([], sym (append-nil w.sent))
      go (Some log) = up log (is_up (Some log))

  got_front : (ss ts : List (Sent A)) (k : ℕ) (s : Sent A) → slice_get ss k ≡ Some s → slice_get (ss ++ ts) k ≡ Some s
  got_front [] ts k s e = absurd (cc)
  got_front (x ∷ ss) ts zero s e = e
  got_front (x ∷ ss) ts (suc k) s e = got_front ss ts k s e

  -- a message that was sent is still there, and counts as far
  pub still_counts : (w : Network A) (n : ℕ) (i : Input A) (which : ℕ) (later : List (Sent A)) → ((s : Sent A) × (slice_get w.sent which ≡ Some s) × (can_count s ≡ true)) → later ≡ (given_input w n i).sent
      → (s : Sent A) → slice_get later which ≡ Some s → can_count s ≡ true
  still_counts w n i which later found is s at =
      let more = takes_sent w n i in
      let same : found.0 ≡ s = some_same found.0 s (sym (got_front w.sent more.0 which found.0 found.1) ∙ ap (λ ss. slice_get ss which) (sym more.1 ∙ sym is) ∙ at) in
      subst (λ (x : Sent A). can_count x ≡ true) same found.2
    where
      some_same : (a b : Sent A) → Some a ≡ Some b → a ≡ b
      some_same a b e = cc

  pub takes_counted : (w : Network A) (n : ℕ) (i : Input A) (which : ℕ) → ((s : Sent A) × (slice_get w.sent which ≡ Some s) × (can_count s ≡ true)) → counted which (given_input w n i) ≡ given_input (counted which w) n i
  takes_counted w n i which found =
      go (log_of n w.logs)
    where
      up : (log : NodeLog A) (t : Bool) → counted which (cond t (the_network (set w.logs (n - 1) (logged log i)) (w.sent ++ newly_sent (sends_of log i))) w)
          ≡ cond t (the_network (set w.logs (n - 1) (logged log i)) (with_arrival which w.sent ++ newly_sent (sends_of log i))) (counted which w)
      up log true = ap (the_network (set w.logs (n - 1) (logged log i))) (arrival_more which w.sent (newly_sent (sends_of log i)) found.0 found.1)
      up log false = refl

      go : (o : Option (NodeLog A)) → counted which (taken_by w n i o) ≡ taken_by (counted which w) n i o
      go None = refl
      go (Some log) = up log (is_up (Some log))

  -- what a node has performed, by its log
  pub performed_at : {X : Type 0} (o : Option X) (now : X → List (ℕ × Command A)) (at : Option (NodeLog A)) (log : NodeLog A) → at ≡ Some log → IfSome o (λ x. now x ≡ (replayed log).replica.performed)
      → IfSome o (λ x. performed_in at ≡ Some (now x))
  performed_at None now at log e p = tt
  performed_at (Some x) now at log e p = ap performed_in e ∙ ap Some (sym p)
