-- What holds in every run.
use Rattle.std.proofs.Common.{◌≡◌, ℕ, ◌-◌, List, [], ◌∷◌, ◌++◌, Bool, true, false, Option, Some, None, refl, sym, ap, ◌∙◌, subst, ⊎_elim, cond, eqb, set}
use Rattle.std.specs.Prelude.{slice_get}
use Rattle.std.proofs.lemmas.Bool.{cases_eq}
use Rattle.ballot.specs.Lists.{IsIn}
use Rattle.leader.proofs.Orderly.{new_orderly}
use Rattle.replica.proofs.Settled.{settled_new}
use Rattle.maildrop.specs.declared.command.Command.{Command}
use Rattle.node.specs.Replay.{NodeState, NodeMove, mail_rules, first_users, new_node, replayed, next_ticket, sends_of}
use Rattle.node.specs.Replay as node
use Rattle.node.specs.Nodes.{logged}
use Rattle.node.specs.declared.input.Input.{Input}
use Rattle.node.specs.declared.input.Input.TheVariants.{Submit, Arrive, Tick, Campaign, Crash}
use Rattle.node.specs.declared.log.Opening.{Opening}
use Rattle.node.specs.declared.log.NodeLog.{NodeLog}
use Rattle.node.proofs.Replaying.{replayed-push}
use Rattle.runs.specs.Messages.{Network, NodeEvent, Submits, Arrives, Ticks, Campaigns, Crashes, log_of, is_up, newly_sent, taken_by, given_input, with_arrival, message_arrives, after_node_event, after_node_events, new_network, network_of, envelopes, WasSubmitted}
use Rattle.runs.specs.declared.sent.Sent.{Sent}
use Rattle.runs.proofs.Chosen.{sent_by}
use Rattle.runs.proofs.Invariant.{put, Sound}
use Rattle.runs.proofs.NodeSteps.{AreKept, IsGiven, kept_step, kept_also, given_steps, roles_of}
use Rattle.runs.proofs.Logs.{some_same, log_set, log_same, log_other, new_log_of, submitted_more, in_sent, arrival_alike, envelopes_more}

module _ {A : Type 0} where
  -- node n, as its log leads to it
  abbrev pub node_of : Opening A → ℕ → Option (NodeLog A) → NodeState A
  node_of first n None = new_node (record first { me = n })
  node_of first n (Some log) = replayed log

  abbrev pub nodes_of : Opening A → List (NodeLog A) → ℕ → NodeState A
  nodes_of first logs n = node_of first n (log_of n logs)

  -- what holds of the logs and messages of a run
  pub record IsRun (first : Opening A) (w : Network A) : Type 0 where
    pub begins : (n : ℕ) (log : NodeLog A) → log_of n w.logs ≡ Some log → log.opening ≡ record first { me = n }
    pub kept : AreKept first.cluster (WasSubmitted w.logs) (nodes_of first w.logs) (envelopes w)

  -- what a node is given in a run
  abbrev IsFrom : Network A → Input A → Type 0
  IsFrom w (Arrive e) = IsIn e (envelopes w)
  IsFrom w _ = Unit {0}

  -- a node that is up takes an input
  module _ (first : Opening A) (w : Network A) (r : IsRun first w) (n : ℕ) (log : NodeLog A) (at : log_of n w.logs ≡ Some log) (i : Input A) (from : IsFrom w i) where
    more : NodeLog A
    more = logged log i

    abbrev Logs : List (NodeLog A)
    Logs = set w.logs (n - 1) (logged log i)

    abbrev After : Network A
    After = record { logs = Logs; sent = w.sent ++ newly_sent (sends_of log i) }

    abbrev Taken : NodeMove A
    Taken = node.takes n log.inputs (nodes_of first w.logs n) i

    its_number : log.opening.me ≡ n
    its_number = ap (λ (o : Opening A). o.me) (r.begins n log at)

    its_node : replayed log ≡ nodes_of first w.logs n
    its_node = ap (node_of first n) (sym at)

    as_taken : node.takes log.opening.me log.inputs (replayed log) i ≡ Taken
    as_taken = λ k. node.takes (its_number k) log.inputs (its_node k) i

    given : IsGiven (WasSubmitted Logs) (envelopes w) n log.inputs i
    given =
        go i refl from
      where
        go : (j : Input A) → i ≡ j → IsFrom w j → IsGiven (WasSubmitted Logs) (envelopes w) n log.inputs j
        go (Submit name op) e f = (
          logged log i,
          log_same w.logs n log (logged log i) at,
          record { before = log.inputs; after = []; inputs = ap (λ j. log.inputs ++ j ∷ []) e; ticket = sym (ap (λ m. next_ticket m name log.inputs) its_number) },
        )
        go (Arrive e) q f = f
        go Tick e f = tt
        go Campaign e f = tt
        go Crash e f = tt

    nodes_then : (m : ℕ) → put (nodes_of first w.logs) n Taken.after m ≡ nodes_of first Logs m
    nodes_then m =
        go (eqb m n) ∙ ap (node_of first m) (sym (log_set w.logs n log (logged log i) at m))
      where
        new : Taken.after ≡ replayed (logged log i)
        new = ap (λ (x : NodeMove A). x.after) (sym as_taken) ∙ sym (replayed-push log i)

        go : (t : Bool) → cond t Taken.after (nodes_of first w.logs m) ≡ node_of first m (cond t (Some (logged log i)) (log_of m w.logs))
        go true = new
        go false = refl

    sent_then : envelopes w ++ sent_by n Taken.sends ≡ envelopes After
    sent_then =
        sym (envelopes_more w.sent (sends_of log i) ∙ ap (λ es. envelopes w ++ es) (λ k. sent_by (its_number k) (as_taken k).sends))

    taken_begins : (m : ℕ) (l : NodeLog A) → log_of m Logs ≡ Some l → l.opening ≡ record first { me = m }
    taken_begins m l e =
        ⊎_elim
        (λ (q : m ≡ n).
        let here : log_of n Logs ≡ Some l = subst (λ k. log_of k Logs ≡ Some l) q e in
        let is : logged log i ≡ l = some_same (logged log i) l (sym (log_same w.logs n log (logged log i) at) ∙ here) in
        subst (λ k. l.opening ≡ record first { me = k }) (sym q) (subst (λ (x : NodeLog A). x.opening ≡ record first { me = n }) is (r.begins n log at)))
        (λ (ne : m ≡ n → ⊥). r.begins m l (sym (log_other w.logs n log (logged log i) at m ne) ∙ e))
        (cases_eq m n)

    pub taken_run : IsRun first After
    taken_run =
        record {
          begins = taken_begins;
          kept =
              subst (λ es. AreKept first.cluster (WasSubmitted Logs) (nodes_of first Logs) es) sent_then
              (subst (λ (f : ℕ → NodeState A). AreKept first.cluster (WasSubmitted Logs) f (envelopes w ++ sent_by n Taken.sends)) (λ k m. nodes_then m k)
              (kept_step first.cluster (WasSubmitted Logs) (nodes_of first w.logs) (envelopes w) also n Taken
              (given_steps first.cluster (WasSubmitted Logs) (nodes_of first w.logs) (envelopes w) also n log.inputs i given)));
        }
      where
        also : AreKept first.cluster (WasSubmitted Logs) (nodes_of first w.logs) (envelopes w)
        also = kept_also first.cluster (WasSubmitted w.logs) (WasSubmitted Logs) (submitted_more w.logs n log i at) (nodes_of first w.logs) (envelopes w) r.kept

  takes_run : (first : Opening A) (w : Network A) → IsRun first w → (n : ℕ) (i : Input A) → IsFrom w i → IsRun first (given_input w n i)
  takes_run first w r n i from =
      go (log_of n w.logs) refl
    where
      go : (o : Option (NodeLog A)) → log_of n w.logs ≡ o → IsRun first (taken_by w n i o)
      go None e = r
      go (Some log) e =
          one (is_up (Some log))
        where
          one : (t : Bool) → IsRun first (cond t (record { logs = set w.logs (n - 1) (logged log i); sent = w.sent ++ newly_sent (sends_of log i) }) w)
          one true = taken_run first w r n log e i from
          one false = r

  -- arrivals are not looked at
  arrival_run : (first : Opening A) (w : Network A) (k : ℕ) → IsRun first w → IsRun first (record { logs = w.logs; sent = with_arrival k w.sent })
  arrival_run first w k r =
      record { begins = r.begins; kept = subst (AreKept first.cluster (WasSubmitted w.logs) (nodes_of first w.logs)) (sym (arrival_alike k w.sent)) r.kept }

  arrives_run : (first : Opening A) (w : Network A) → IsRun first w → (k : ℕ) (o : Option (Sent A)) → slice_get w.sent k ≡ o → IsRun first (message_arrives w k o)
  arrives_run first w r k None e = r
  arrives_run first w r k (Some s) e =
      go (is_up (log_of s.envelope.to w.logs))
    where
      after : Network A
      after = record { logs = w.logs; sent = with_arrival k w.sent }

      go : (t : Bool) → IsRun first (cond t (given_input (record { logs = w.logs; sent = with_arrival k w.sent }) s.envelope.to (Arrive s.envelope)) w)
      go true =
          takes_run first (record { logs = w.logs; sent = with_arrival k w.sent }) (arrival_run first w k r) s.envelope.to (Arrive s.envelope)
          (subst (IsIn s.envelope) (sym (arrival_alike k w.sent)) (in_sent w.sent k s e))
      go false = r

  happens_run : (first : Opening A) (w : Network A) → IsRun first w → (e : NodeEvent A) → IsRun first (after_node_event w e)
  happens_run first w r (Submits n name op) = takes_run first w r n (Submit name op) tt
  happens_run first w r (Arrives k) = arrives_run first w r k (slice_get w.sent k) refl
  happens_run first w r (Ticks n) = takes_run first w r n Tick tt
  happens_run first w r (Campaigns n) = takes_run first w r n Campaign tt
  happens_run first w r (Crashes n) = takes_run first w r n Crash tt

  happen_run : (first : Opening A) (w : Network A) → IsRun first w → (es : List (NodeEvent A)) → IsRun first (after_node_events w es)
  happen_run first w r [] = r
  happen_run first w r (e ∷ es) = happen_run first (after_node_event w e) (happens_run first w r e) es

  -- where it begins
  new_sound : (first : Opening A) → Sound (roles_of first.cluster (λ n. new_node (record first { me = n })) [])
  new_sound first =
      record {
        kept_asked = λ n p h. absurd h;
        kept_reached = λ n p h. absurd h;
        promised = λ n to p h. absurd h;
        voted = λ n b s h. absurd h.1;
        asked_past = λ p h. absurd h;
        asked_once = λ p q h k. absurd h;
        asked_backed = λ p h. absurd h;
        orderly = λ n. new_orderly A n first.cluster;
        backed = λ n. tt;
      }

  new_kept : (first : Opening A) (S : Command A → Type 0) → AreKept first.cluster S (λ n. new_node (record first { me = n })) []
  new_kept first S =
      record {
        sound = new_sound first;
        learned = record { commanders = λ n. tt; told = λ from to s c h. absurd h; known = λ n s c e. absurd (cc) };
        settled = λ n. settled_new mail_rules n first.cluster first.window (first_users first);
        offers = λ e h. absurd h;
        proposals = λ n s c e. absurd (cc);
        holds = λ n. record { requests = λ c h. absurd h; proposals = λ p h. absurd h };
      }

  new_run : (first : Opening A) → IsRun first (new_network first)
  new_run first =
      record {
        begins = λ n log e. ap (λ (l : NodeLog A). l.opening) (sym (new_log_of first first.cluster n log e));
        kept = subst (λ (f : ℕ → NodeState A). AreKept first.cluster (WasSubmitted (new_network first).logs) f []) (λ k n. new n k) (new_kept first (WasSubmitted (new_network first).logs));
      }
    where
      new : (n : ℕ) → new_node (record first { me = n }) ≡ nodes_of first (new_network first).logs n
      new n =
          go (log_of n (new_network first).logs) refl
        where
          go : (o : Option (NodeLog A)) → log_of n (new_network first).logs ≡ o → new_node (record first { me = n }) ≡ node_of first n o
          go None e = refl
          go (Some log) e = ap replayed (new_log_of first first.cluster n log e)

  pub every_run : (first : Opening A) (events : List (NodeEvent A)) → IsRun first (network_of first events)
  every_run first events = happen_run first (new_network first) (new_run first) events
