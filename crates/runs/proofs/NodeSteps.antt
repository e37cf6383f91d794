-- Each step of a node keeps what holds of all nodes and messages.
use Rattle.std.proofs.Common.{◌≡◌, ◌≢◌, ℕ, List, [], ◌∷◌, ◌++◌, Bool, true, false, Option, Some, None, refl, sym, ap, ◌∙◌, subst, ⊎_elim, cond, eqb}
use Rattle.std.proofs.lemmas.Bool.{cases_eq, eqb-true}
use Rattle.ballot.specs.Lists.{IsIn}
use Rattle.ballot.specs.declared.pvalue.PValue.{PValue}
use Rattle.ballot.specs.declared.message.Message.{Message}
use Rattle.ballot.specs.declared.message.Message.TheVariants.{Propose, P1a, P1b, P2a, P2b, Decision, Ask}
use Rattle.ballot.specs.declared.outgoing.Outgoing.{Outgoing}
use Rattle.ballot.specs.declared.message.Envelope.{Envelope}
use Rattle.ballot.proofs.Member.{IsEquality, in_either}
use Rattle.acceptor.specs.Acceptors.{AcceptorState, after_p1a, after_p2a, promise_for, vote_for}
use Rattle.leader.specs.Leaders.{LeaderState, leader_ticks}
use Rattle.leader.specs.Calls.{Call, Proposes, HearsPromise, HearsVote, Campaigns, Ticks, called, Asks, IsAsked}
use Rattle.leader.proofs.Asked.{called_kept}
use Rattle.leader.proofs.Slots.{at_slot-with_slot, at_slot-with_other}
use Rattle.replica.specs.Replicas.{is_decided, requested, learns, replica_ticks, IsSettled}
use Rattle.ballot.specs.Slots.{at_slot, with_slot}
use Rattle.replica.specs.Parts.{with_decided}
use Rattle.replica.proofs.Settled.{decided_settled, requested_settled}
use Rattle.maildrop.specs.Same.{same_command}
use Rattle.maildrop.specs.Equality.{command_decides}
use Rattle.maildrop.specs.declared.command.Command.{Command}
use Rattle.std.specs.List.{list_any}
use Rattle.node.specs.Replay.{NodeState, NodeMove, MailReplica, mail_rules, by_leader, by_replica, hears, command_for, takes, acts, is_crash}
use Rattle.node.specs.Roles.{by_acceptor}
use Rattle.node.specs.Roles.{decision_to, ticks}
use Rattle.ballot.specs.Sends.{Move, stays}
use Rattle.node.specs.declared.input.Input.{Input}
use Rattle.node.specs.declared.input.Input.TheVariants.{Submit, Arrive, Tick, Campaign, Crash}
use Rattle.runs.specs.Chosen.{asked, IsChosen}
use Rattle.runs.proofs.Chosen.{sent_by, in_sent_by, asked_sent, sent_asked}
use Rattle.runs.proofs.Invariant.{Roles, put, moved, Sound}
use Rattle.runs.proofs.Grow.{put_each}
use Rattle.runs.proofs.Step.{Steps, step}
use Rattle.runs.proofs.AcceptorSteps.{promise_steps, vote_steps}
use Rattle.runs.proofs.LeaderSends.{IsOfLeader, leader_sends}
use Rattle.runs.proofs.LeaderSteps.{IsHeard, leader_steps}
use Rattle.runs.proofs.Learn.{Learned, Learns, learned_step, leader_learns}
use Rattle.runs.proofs.Valid.{AllOf, IsFit, call_all}
use Rattle.runs.proofs.ReplicaSends.{IsOfReplica, AreOfReplica, Holds, goes_requested, goes_decided, tick_sends}
use Rattle.runs.proofs.Plain.{IsPlain, ArePlain, AreChosen, rests, steps_more, learns_more, learns_still}

module _ {A : Type 0} where
  its_equality : IsEquality (same_command {A = A})
  its_equality c d = command_decides c d

  -- the acceptors and leaders of these nodes
  abbrev pub roles_of : ℕ → (ℕ → NodeState A) → List (Envelope (Command A) A) → Roles (Command A) A
  roles_of size nodes sent = record { size = size; acceptors = λ n. (nodes n).acceptor; leaders = λ n. (nodes n).leader; sent = sent }

  abbrev pub decisions_of : (ℕ → NodeState A) → ℕ → List (ℕ × Command A)
  decisions_of nodes n = (nodes n).replica.decisions

  -- what a message proposes or asks for has the property
  abbrev pub Offers : (Command A → Type 0) → Message (Command A) A → Type 0
  Offers S (Propose s c) = S c
  Offers S (P2a p) = S p.command
  Offers S _ = Unit {0}

  -- what holds of all nodes and messages, each command that isn't decided having the property
  pub record AreKept (size : ℕ) (S : Command A → Type 0) (nodes : ℕ → NodeState A) (sent : List (Envelope (Command A) A)) : Type 0 where
    pub sound : Sound (roles_of size nodes sent)
    pub learned : Learned (roles_of size nodes sent) (decisions_of nodes)
    pub settled : (n : ℕ) → IsSettled mail_rules (nodes n).replica
    pub offers : (e : Envelope (Command A) A) → IsIn e sent → Offers S e.message
    pub proposals : (n : ℕ) → AllOf S (nodes n).leader.proposals
    pub holds : (n : ℕ) → Holds S (nodes n).replica

  -- what a step of node n has to show
  pub record NodeSteps (size : ℕ) (S : Command A → Type 0) (nodes : ℕ → NodeState A) (sent : List (Envelope (Command A) A)) (n : ℕ) (move : NodeMove A) : Type 0 where
    pub steps : Steps (roles_of size nodes sent) n move.after.acceptor move.after.leader move.sends
    pub learns : Learns (roles_of size nodes sent) n move.after.leader move.sends move.after.replica.decisions
    pub settled : IsSettled mail_rules move.after.replica
    pub offers : (o : Outgoing (Command A) A) → IsIn o move.sends → Offers S o.message
    pub proposals : AllOf S move.after.leader.proposals
    pub holds : Holds S move.after.replica

  -- a part of the nodes, if one of them is another
  along_put : {Y : Type 0} (g : NodeState A → Y) (f : ℕ → NodeState A) (n : ℕ) (x : NodeState A) → ◌≡◌ {A = ℕ → Y} (λ m. g (put f n x m)) (put (λ m. g (f m)) n (g x))
  along_put g f n x = λ i m. go m (eqb m n) i
    where
      go : (m : ℕ) (t : Bool) → g (cond t x (f m)) ≡ cond t (g x) (g (f m))
      go m true = refl
      go m false = refl

  offers_more : (S : Command A → Type 0) (sent : List (Envelope (Command A) A)) (n : ℕ) (sends : List (Outgoing (Command A) A)) → ((e : Envelope (Command A) A) → IsIn e sent → Offers S e.message) →
      ((o : Outgoing (Command A) A) → IsIn o sends → Offers S o.message) → (e : Envelope (Command A) A) → IsIn e (sent ++ sent_by n sends) → Offers S e.message
  offers_more S sent n sends old new e h = ⊎_elim (λ x. old e x) (λ y. new (record { to = e.to; message = e.message }) (in_sent_by n sends e y).1) (in_either e sent (sent_by n sends) h)

  pub kept_step : (size : ℕ) (S : Command A → Type 0) (nodes : ℕ → NodeState A) (sent : List (Envelope (Command A) A)) → AreKept size S nodes sent → (n : ℕ) (move : NodeMove A) →
      NodeSteps size S nodes sent n move → AreKept size S (put nodes n move.after) (sent ++ sent_by n move.sends)
  kept_step size S nodes sent i n move h =
      record {
        sound = subst Sound (sym as_moved) (step w i.sound n move.after.acceptor move.after.leader move.sends h.steps);
        learned =
            subst (λ (x : Roles (Command A) A). Learned x (decisions_of (put nodes n move.after))) (sym as_moved)
            (subst (Learned (moved w n move.after.acceptor move.after.leader move.sends)) (sym (along_put (λ y. y.replica.decisions) nodes n move.after))
            (learned_step w (decisions_of nodes) i.learned n move.after.acceptor move.after.leader move.sends move.after.replica.decisions h.learns));
        settled = put_each (λ k (y : NodeState A). IsSettled mail_rules y.replica) nodes n move.after h.settled (λ m ne. i.settled m);
        offers = offers_more S sent n move.sends i.offers h.offers;
        proposals = put_each (λ k (y : NodeState A). AllOf S y.leader.proposals) nodes n move.after h.proposals (λ m ne. i.proposals m);
        holds = put_each (λ k (y : NodeState A). Holds S y.replica) nodes n move.after h.holds (λ m ne. i.holds m);
      }
    where
      w : Roles (Command A) A
      w = roles_of size nodes sent

      as_moved : roles_of size (put nodes n move.after) (sent ++ sent_by n move.sends) ≡ moved w n move.after.acceptor move.after.leader move.sends
      as_moved = λ k. record {
        size = size;
        acceptors = along_put (λ y. y.acceptor) nodes n move.after k;
        leaders = along_put (λ y. y.leader) nodes n move.after k;
        sent = sent ++ sent_by n move.sends;
      }

  plain_of : (S : Command A → Type 0) (m : Message (Command A) A) → IsOfReplica S m → IsPlain m
  plain_of S (Propose s c) h = tt
  plain_of S (Ask s) h = tt
  plain_of S (P1a b) h = absurd h
  plain_of S (P1b p) h = absurd h
  plain_of S (P2a p) h = absurd h
  plain_of S (P2b v) h = absurd h
  plain_of S (Decision s c) h = absurd h

  offers_of : (S : Command A → Type 0) (m : Message (Command A) A) → IsOfReplica S m → Offers S m
  offers_of S (Propose s c) h = h
  offers_of S (Ask s) h = tt
  offers_of S (P1a b) h = absurd h
  offers_of S (P1b p) h = absurd h
  offers_of S (P2a p) h = absurd h
  offers_of S (P2b v) h = absurd h
  offers_of S (Decision s c) h = absurd h

  all_plain : (S : Command A → Type 0) (sends : List (Outgoing (Command A) A)) → AreOfReplica S sends → ArePlain sends
  all_plain S sends h o j = plain_of S o.message (h o j)

  -- what has one property has the other
  pub kept_also : (size : ℕ) (S T : Command A → Type 0) → ((c : Command A) → S c → T c) → (nodes : ℕ → NodeState A) (sent : List (Envelope (Command A) A)) → AreKept size S nodes sent → AreKept size T nodes sent
  kept_also size S T also nodes sent i =
      record {
        sound = i.sound;
        learned = i.learned;
        settled = i.settled;
        offers = λ e j. go e.message (i.offers e j);
        proposals = λ n s c e. also c (i.proposals n s c e);
        holds = λ n. record { requests = λ c j. also c ((i.holds n).requests c j); proposals = λ p j. also p.1 ((i.holds n).proposals p j) };
      }
    where
      go : (m : Message (Command A) A) → Offers S m → Offers T m
      go (Propose s c) h = also c h
      go (P2a p) h = also p.command h
      go (P1a b) h = tt
      go (P1b p) h = tt
      go (P2b v) h = tt
      go (Decision s c) h = tt
      go (Ask s) h = tt

  -- what node n is given comes from a message that was sent, or is a command that has the property
  abbrev pub IsGiven : (Command A → Type 0) → List (Envelope (Command A) A) → ℕ → List (Input A) → Input A → Type 0
  IsGiven S sent n before (Submit name op) = S (command_for n name op before)
  IsGiven S sent n before (Arrive e) = IsIn e sent
  IsGiven S sent n before _ = Unit {0}

module _ {A : Type 0} (size : ℕ) (S : Command A → Type 0) (nodes : ℕ → NodeState A) (sent : List (Envelope (Command A) A)) (i : AreKept size S nodes sent) (n : ℕ) where
  abbrev Shows : NodeMove A → Type 0
  Shows move = NodeSteps size S nodes sent n move

  abbrev W : Roles (Command A) A
  W = roles_of size nodes sent

  -- what was asked for has the property
  asked_fit : (p : PValue (Command A)) → IsIn p (asked sent) → S p.command
  asked_fit p h = let x = asked_sent sent p h in i.offers (record { from = x.0; to = x.1; message = P2a p }) x.2

  -- an acceptor's answer
  answered : (a : AcceptorState (Command A)) (to : ℕ) (m : Message (Command A) A) → Steps W n a (nodes n).leader (record { to = to; message = m } ∷ []) → Offers S m → ((s : ℕ) (c : Command A) → m ≡ Decision s c → ⊥) →
      Shows (by_acceptor (nodes n) to a m)
  answered a to m steps offers other =
      record {
        steps = steps;
        learns = learns_still W (decisions_of nodes) i.learned n (mine ∷ []) (nodes n).replica.decisions
            (λ t s c h. ⊎_elim (λ (e : mine ≡ record { to = t; message = Decision s c }). absurd (other s c (ap (λ (y : Outgoing (Command A) A). y.message) e))) (λ none. absurd none) h)
            (i.learned.known n);
        settled = i.settled n;
        offers = λ o h. ⊎_elim (λ (e : mine ≡ o). subst (λ (y : Outgoing (Command A) A). Offers S y.message) e offers) (λ none. absurd none) h;
        proposals = i.proposals n;
        holds = i.holds n;
      }
    where
      mine : Outgoing (Command A) A
      mine = record { to = to; message = m }

  -- a leader's call
  led : (call : Call (Command A) A) → IsHeard sent n call → IsFit S call → Shows (by_leader (nodes n) (called same_command (nodes n).leader call))
  led call heard fit =
      record {
        steps = leader_steps same_command its_equality W i.sound n call heard;
        learns = leader_learns same_command W i.sound (decisions_of nodes) i.learned n call heard;
        settled = i.settled n;
        offers = λ o h. go o h o.message refl (leader_sends same_command l call o h);
        proposals = all;
        holds = i.holds n;
      }
    where
      l : LeaderState (Command A)
      l = (nodes n).leader

      all : AllOf S (called same_command l call).after.proposals
      all = call_all same_command its_equality S W i.sound n asked_fit (i.proposals n) call heard fit

      go : (o : Outgoing (Command A) A) → IsIn o (called same_command l call).sends → (m : Message (Command A) A) → o.message ≡ m → IsOfLeader m → Offers S m
      go o h (P2a p) e of_leader =
          let asks : Asks (called same_command l call).sends p = (o.to, subst (λ (y : Outgoing (Command A) A). IsIn y (called same_command l call).sends) (λ k. record { to = o.to; message = e k }) h) in
          let is : IsAsked (called same_command l call).after p = (called_kept A same_command l call).asks (i.sound.orderly n).rising p asks in
          all p.slot p.command is.2
      go o h (P1a b) e of_leader = tt
      go o h (Decision s c) e of_leader = tt
      go o h (Propose s c) e of_leader = absurd of_leader
      go o h (P1b p) e of_leader = tt
      go o h (P2b v) e of_leader = tt
      go o h (Ask s) e of_leader = tt

  untold : (sends : List (Outgoing (Command A) A)) → AreOfReplica S sends → AreChosen W sends
  untold sends h to s c j = absurd (h _ j)

  -- a replica's call
  replied : (move : Move (MailReplica A) (Command A) A) → AreOfReplica S move.sends → IsSettled mail_rules move.after → Holds S move.after →
      ((s : ℕ) (c : Command A) → at_slot s move.after.decisions ≡ Some c → IsChosen size sent s c) → Shows (by_replica (nodes n) move)
  replied move sends settled holds known =
      record {
        steps = steps_more W n (nodes n).acceptor (nodes n).leader [] move.sends (all_plain S move.sends sends) (rests W i.sound n);
        learns = learns_still W (decisions_of nodes) i.learned n move.sends move.after.decisions (untold move.sends sends) known;
        settled = settled;
        offers = λ o h. offers_of S o.message (sends o h);
        proposals = i.proposals n;
        holds = holds;
      }

  some_same : (c d : Command A) → Some c ≡ Some d → c ≡ d
  some_same c d e = cc

  -- a decision that was sent is of a chosen command, and so is each that is kept then
  kept_known : (s : ℕ) (c : Command A) → IsChosen size sent s c → (t : ℕ) (d : Command A) → at_slot t (with_decided s c (nodes n).replica.decisions) ≡ Some d → IsChosen size sent t d
  kept_known s c chosen t d =
      go (is_decided s (nodes n).replica.decisions)
    where
      ds : List (ℕ × Command A)
      ds = (nodes n).replica.decisions

      go : (u : Bool) → at_slot t (cond u ds (with_slot s c ds)) ≡ Some d → IsChosen size sent t d
      go true e = i.learned.known n t d e
      go false e =
          ⊎_elim
          (λ (q : t ≡ s).
          let here : at_slot s (with_slot s c ds) ≡ Some d = subst (λ k. at_slot k (with_slot s c ds) ≡ Some d) q e in
          subst (λ k. IsChosen size sent k d) (sym q) (subst (IsChosen size sent s) (some_same c d (sym (at_slot-with_slot s c ds) ∙ here)) chosen))
          (λ (ne : t ≢ s). i.learned.known n t d (sym (at_slot-with_other s t c ds ne) ∙ e))
          (cases_eq t s)

  -- nothing
  quiet : Shows (stays (nodes n))
  quiet =
      record {
        steps = rests W i.sound n;
        learns = learns_still W (decisions_of nodes) i.learned n [] (nodes n).replica.decisions (λ t u c h. absurd h) (i.learned.known n);
        settled = i.settled n;
        offers = λ o h. absurd h;
        proposals = i.proposals n;
        holds = i.holds n;
      }

  -- an Ask
  tells : (from s : ℕ) (o : Option (Command A)) → at_slot s (nodes n).replica.decisions ≡ o → Shows (record { after = nodes n; sends = decision_to from s o })
  tells from s None e = quiet
  tells from s (Some c) e =
      record {
        steps = steps_more W n (nodes n).acceptor (nodes n).leader [] (mine ∷ []) plain (rests W i.sound n);
        learns = learns_still W (decisions_of nodes) i.learned n (mine ∷ []) (nodes n).replica.decisions chosen (i.learned.known n);
        settled = i.settled n;
        offers = λ o h. ⊎_elim (λ (q : mine ≡ o). subst (λ (y : Outgoing (Command A) A). Offers S y.message) q tt) (λ none. absurd none) h;
        proposals = i.proposals n;
        holds = i.holds n;
      }
    where
      mine : Outgoing (Command A) A
      mine = record { to = from; message = Decision s c }

      plain : ArePlain (mine ∷ [])
      plain o h = ⊎_elim (λ (q : mine ≡ o). subst (λ (y : Outgoing (Command A) A). IsPlain y.message) q tt) (λ none. absurd none) h

      same : (t : ℕ) (d : Command A) → ◌≡◌ {A = Message (Command A) A} (Decision s c) (Decision t d) → IsChosen size sent t d
      same t d q =
          let slots : s ≡ t = cc in
          let commands : c ≡ d = cc in
          subst (λ k. IsChosen size sent k d) slots (subst (IsChosen size sent s) commands (i.learned.known n s c e))

      chosen : AreChosen W (mine ∷ [])
      chosen to t d h = ⊎_elim (λ (q : mine ≡ record { to = to; message = Decision t d }). same t d (ap (λ (y : Outgoing (Command A) A). y.message) q)) (λ none. absurd none) h

  -- a message that was sent to the node
  heard_steps : (from : ℕ) (m : Message (Command A) A) → IsIn (record { from = from; to = n; message = m }) sent → Shows (hears (nodes n) from m)
  heard_steps from (Propose s c) h = led (Proposes s c) tt (i.offers (record { from = from; to = n; message = Propose s c }) h)
  heard_steps from (P1a b) h = answered (after_p1a (nodes n).acceptor b) from (P1b (promise_for (nodes n).acceptor b)) (promise_steps W i.sound n from b) tt (λ s c e. cc)
  heard_steps from (P1b p) h = led (HearsPromise from p) h tt
  heard_steps from (P2a p) h = answered (after_p2a (nodes n).acceptor p) from (P2b (vote_for (nodes n).acceptor p)) (vote_steps W i.sound n from p (sent_asked sent p from n h)) tt (λ s c e. cc)
  heard_steps from (P2b v) h = led (HearsVote from v) h tt
  heard_steps from (Decision s c) h =
      let on = goes_decided mail_rules S A s c (nodes n).replica (i.holds n) in
      replied (learns mail_rules s c (nodes n).replica) on.sends (decided_settled mail_rules A s c (nodes n).replica (i.settled n)) on.holds
      (subst (λ ds. (t : ℕ) (d : Command A) → at_slot t ds ≡ Some d → IsChosen size sent t d) (sym on.decisions) (kept_known s c (i.learned.told from n s c h)))
  heard_steps from (Ask s) h = tells from s (at_slot s (nodes n).replica.decisions) refl

  -- Tick
  ticked_steps : Shows (ticks (nodes n))
  ticked_steps =
      let x = led Ticks tt tt in
      let sends = tick_sends S A (nodes n).replica (i.holds n) in
      let more : List (Outgoing (Command A) A) = (replica_ticks (nodes n).replica).sends in
      record {
        steps = steps_more W n (nodes n).acceptor (nodes n).leader (leader_ticks (nodes n).leader).sends more (all_plain S more sends) x.steps;
        learns = learns_more W n (nodes n).leader (leader_ticks (nodes n).leader).sends more (nodes n).replica.decisions (untold more sends) x.learns;
        settled = i.settled n;
        offers = λ o h. ⊎_elim (λ a. x.offers o a) (λ b. offers_of S o.message (sends o b)) (in_either o (leader_ticks (nodes n).leader).sends more h);
        proposals = i.proposals n;
        holds = i.holds n;
      }

  acts_steps : (before : List (Input A)) (input : Input A) → IsGiven S sent n before input → Shows (acts n before (nodes n) input)
  acts_steps before (Submit name op) h =
      let c : Command A = command_for n name op before in
      let on = goes_requested mail_rules S A c (nodes n).replica h (i.holds n) in
      replied (requested mail_rules c (nodes n).replica) on.sends (requested_settled mail_rules A c (nodes n).replica (i.settled n)) on.holds
      (subst (λ ds. (t : ℕ) (d : Command A) → at_slot t ds ≡ Some d → IsChosen size sent t d) (sym on.decisions) (i.learned.known n))
  acts_steps before (Arrive e) h =
      go (eqb e.to n) refl
    where
      go : (t : Bool) → eqb e.to n ≡ t → Shows (cond t (hears (nodes n) e.from e.message) (stays (nodes n)))
      go true q =
          let mine : e ≡ record { from = e.from; to = n; message = e.message } = λ k. record { from = e.from; to = eqb-true e.to n q k; message = e.message } in
          heard_steps e.from e.message (subst (λ (y : Envelope (Command A) A). IsIn y sent) mine h)
      go false q = quiet
  acts_steps before Tick h = ticked_steps
  acts_steps before Campaign h = led Campaigns tt tt
  acts_steps before Crash h = quiet

  -- what it is given, also after a crash
  pub given_steps : (before : List (Input A)) (input : Input A) → IsGiven S sent n before input → Shows (takes n before (nodes n) input)
  given_steps before input h =
      go (list_any is_crash before)
    where
      go : (t : Bool) → Shows (cond t (stays (nodes n)) (acts n before (nodes n) input))
      go true = quiet
      go false = acts_steps before input h
