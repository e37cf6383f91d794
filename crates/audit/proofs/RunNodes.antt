-- The nodes of a run, beside the logs that an order uses up.
use Rattle.std.proofs.Common.{◌≡◌, ℕ, zero, suc, ◌+◌, ◌-◌, ◌<◌, ◌≤◌, length, List, [], ◌∷◌, ◌++◌, Bool, true, false, Option, Some, None, refl, sym, ap, ◌∙◌, subst, cond, arith, set}
use Rattle.std.specs.Prelude.{slice_get, option_map, not, nat_lt, nat_le, ◌&&◌, ◌||◌, ◌==◌}
use Rattle.std.specs.List.{list_any}
use Rattle.std.proofs.lemmas.Bool.{eqb-true, eq-eqb, and_parts, or_right, true≢false, leb-true}
use Rattle.std.proofs.lemmas.List.Folds.{list_any-append}
use Rattle.std.proofs.lemmas.Option.{slice_get-map, slice_get_within}
use Rattle.ballot.specs.Nodes.{in_cluster}
use Rattle.ballot.specs.declared.message.Envelope.{Envelope}
use Rattle.maildrop.specs.Name.{are_different}
use Rattle.maildrop.specs.declared.command.Command.{Command}
use Rattle.node.specs.Nodes.{can_begin, logged}
use Rattle.node.specs.Replay.{sends_of, is_crash}
use Rattle.node.specs.declared.input.Input.{Input}
use Rattle.node.specs.declared.input.Input.TheVariants.{Submit, Arrive, Tick, Campaign, Crash}
use Rattle.node.specs.declared.log.NodeLog.{NodeLog}
use Rattle.node.specs.declared.log.Opening.{Opening}
use Rattle.session.specs.declared.transcript.Transcript.{Transcript}
use Rattle.runs.specs.Messages.{Network, log_of, is_up, newly_sent, taken_by, given_input, with_arrival, message_arrives, new_logs, new_network, envelopes}
use Rattle.runs.specs.Refusals.{node_refusal, arrival_refusal}
use Rattle.runs.specs.Services.{Service, opening_of}
use Rattle.runs.specs.declared.config.Config.{Config}
use Rattle.runs.specs.declared.sent.Sent.{Sent}
use Rattle.runs.proofs.Logs.{log_same, log_other, arrival_alike, envelopes_more}
use Rattle.audit.specs.Case.{next, after_next, state_at}
use Rattle.audit.specs.Placing.{put}
use Rattle.audit.specs.Records.{is_fit, place_of, number_in, begun_at, RealCase, case_of, AreFit}
use Rattle.audit.specs.Replays.{Replay, after, sends, runs, brought}
use Rattle.audit.specs.Runs.{opening_at}
use Rattle.audit.proofs.Walk.{put_apart}

not_either : (t u : Bool) → not (t || u) ≡ true → not t ≡ true
not_either false u h = refl
not_either true u h = h

module _ {A : Type 0} where
  -- the log of a new node
  new_there : (first : Opening A) (n m j : ℕ) → j < m → slice_get (new_logs first n m) j ≡ Some (record { opening = record first { me = n + j }; inputs = [] })
  new_there first n zero j below = absurd (omega (arith, below))
  new_there first n (suc m) zero below =
      let same : n + 0 ≡ n = omega arith in
      ap (λ k. Some (record { opening = record first { me = k }; inputs = [] })) (sym same)
  new_there first n (suc m) (suc j) below =
      let same : suc n + j ≡ n + suc j = omega arith in
      new_there first (suc n) m j (omega (arith, below)) ∙ ap (λ k. Some (record { opening = record first { me = k }; inputs = [] })) same

  new_log_at : (first : Opening A) (m number : ℕ) → 0 < number → number ≤ m → log_of number (new_logs first 1 m) ≡ Some (record { opening = record first { me = number }; inputs = [] })
  new_log_at first m zero some most = absurd (omega (arith, some))
  new_log_at first m (suc n) some most =
      let same : 1 + n ≡ suc n = omega arith in
      new_there first 1 m n most ∙ ap (λ k. Some (record { opening = record first { me = k }; inputs = [] })) same

  is_up_runs : (s : Replay A) → is_up s ≡ runs s
  is_up_runs None = refl
  is_up_runs (Some log) = refl

  -- a message that is brought
  brought_is : (x : Input A) (e : Envelope (Command A) A) → brought x ≡ Some e → x ≡ Arrive e
  brought_is (Arrive f) e h = let same : f ≡ e = cc in ap (λ g. Arrive g) same
  brought_is (Submit name op) e h = absurd (cc)
  brought_is Tick e h = absurd (cc)
  brought_is Campaign e h = absurd (cc)
  brought_is Crash e h = absurd (cc)

  pub placed_number : (logs : List (NodeLog A)) (number : ℕ) (log : NodeLog A) → slice_get logs (place_of number logs) ≡ Some log → log.opening.me ≡ number
  placed_number [] number log h = absurd (cc)
  placed_number (l ∷ logs) number log h =
      go (placed_number logs number log) (l.opening.me == number) refl h
    where
      go : (slice_get logs (place_of number logs) ≡ Some log → log.opening.me ≡ number) → (t : Bool) → (l.opening.me == number) ≡ t → slice_get (l ∷ logs) (cond t 0 (suc (place_of number logs))) ≡ Some log → log.opening.me ≡ number
      go later true e h = let same : l ≡ log = cc in ap (λ (x : NodeLog A). x.opening.me) (sym same) ∙ eqb-true l.opening.me number e
      go later false e h = later h

  -- what runs after an input ran before it
  ran_before : (s : Replay A) (x : Input A) → runs (after s x) ≡ true → runs s ≡ true
  ran_before None x h = h
  ran_before (Some log) x h = not_either (list_any is_crash log.inputs) (list_any is_crash (x ∷ [])) (ap not (sym (list_any-append is_crash log.inputs (x ∷ []))) ∙ h)

  pub crashed : (s : Replay A) → runs (after s Crash) ≡ false
  crashed None = refl
  crashed (Some log) = ap not (list_any-append is_crash log.inputs (Crash ∷ []) ∙ or_right (list_any is_crash log.inputs) true refl)

module _ {A : Type 0} (cfg : Config A) (logs : List (NodeLog A)) (transcripts : List (Transcript A)) (fit : AreFit logs transcripts)
    (openings : (n : ℕ) (log : NodeLog A) → slice_get logs n ≡ Some log → log.opening ≡ opening_at cfg log.opening.me) where
  abbrev pub real : RealCase A
  real = case_of logs transcripts

  abbrev pub number_of : ℕ → ℕ
  number_of n = number_in (slice_get logs n)

  -- the node of a place is up
  abbrev pub Up : (ℕ → ℕ) → ℕ → Type 0
  Up placed n = runs (state_at real n (placed n)) ≡ true

  abbrev pub one_more : (ℕ → ℕ) → ℕ → ℕ → ℕ
  one_more placed n = put placed n (suc (placed n))

  -- the nodes of a network are where these inputs lead, and sent what they sent
  pub record AreAt (placed : ℕ → ℕ) (sent : List (Envelope (Command A) A)) (net : Network A) : Type 0 where
    pub nodes : (n : ℕ) → log_of (number_of n) net.logs ≡ state_at real n (placed n)
    pub others : (number : ℕ) → place_of number logs ≡ length logs → log_of number net.logs ≡ log_of number (new_logs (opening_of cfg) 1 cfg.cluster)
    pub messages : envelopes net ≡ sent

  pub at_first : AreAt (λ n. 0) [] (new_network (opening_of cfg))
  at_first =
      record { nodes = λ n. node n (slice_get logs n) refl; others = λ number none. refl; messages = refl }
    where
      within : (log : NodeLog A) → is_fit log.opening ≡ true → (0 < log.opening.me) × (log.opening.me ≤ log.opening.cluster)
      within log f =
          let o = log.opening in
          let can = (and_parts (are_different o.names) (can_begin o.me o.cluster o.window) f).1 in
          let member = (and_parts (in_cluster o.cluster o.me) (nat_le 1 o.window) (and_parts (in_cluster o.cluster o.me && nat_le 1 o.window) _ can).0).0 in
          let both = and_parts (nat_lt 0 o.me) (nat_le o.me o.cluster) member in
          (leb-true 1 o.me both.0, leb-true o.me o.cluster both.1)

      node : (n : ℕ) (found : Option (NodeLog A)) → slice_get logs n ≡ found → log_of (number_in found) (new_logs (opening_of cfg) 1 cfg.cluster) ≡ begun_at logs n found
      node n None e = refl
      node n (Some log) e =
          let its = fit.openings n log e in
          let range = within log its.0 in
          let cluster : log.opening.cluster ≡ cfg.cluster = ap (λ (o : Opening A). o.cluster) (openings n log e) in
          new_log_at (opening_of cfg) cfg.cluster log.opening.me range.0 (subst (λ k. log.opening.me ≤ k) cluster range.1)
          ∙ ap (λ o. Some (record { opening = o; inputs = [] })) (sym (openings n log e))
          ∙ rw (its.0, eq-eqb (place_of log.opening.me logs) n its.1) refl

  module _ (placed : ℕ → ℕ) (sent : List (Envelope (Command A) A)) (net : Network A) (at : AreAt placed sent net) where
    -- a node that is up has a log
    pub has_log : (n : ℕ) → Up placed n → (log : NodeLog A) × (slice_get logs n ≡ Some log)
    has_log n up =
        go (slice_get logs n) refl
      where
        go : (found : Option (NodeLog A)) → slice_get logs n ≡ found → (log : NodeLog A) × (slice_get logs n ≡ Some log)
        go None e =
            let none : state_at real n (placed n) ≡ None = sym (at.nodes n) ∙ ap (λ f. log_of (number_in f) net.logs) e in
            absurd (true≢false (sym up ∙ ap runs none))
        go (Some log) e = (log, e)

    pub is_there : (n : ℕ) → Up placed n → is_up (log_of (number_of n) net.logs) ≡ true
    is_there n up = ap is_up (at.nodes n) ∙ is_up_runs (state_at real n (placed n)) ∙ up

    pub its_place : (n : ℕ) (log : NodeLog A) → slice_get logs n ≡ Some log → place_of (number_of n) logs ≡ n
    its_place n log e = ap (λ f. place_of (number_in f) logs) e ∙ (fit.openings n log e).1

    -- places of one number are one
    pub same_place : (m n : ℕ) → Up placed n → number_of m ≡ number_of n → m ≡ n
    same_place m n up q =
        go (slice_get logs m) refl
      where
        its : (log : NodeLog A) × (slice_get logs n ≡ Some log)
        its = has_log n up

        go : (found : Option (NodeLog A)) → slice_get logs m ≡ found → m ≡ n
        go None e =
            let none : log_of (number_of n) net.logs ≡ None = ap (λ k. log_of k net.logs) (sym q) ∙ ap (λ f. log_of (number_in f) net.logs) e in
            absurd (true≢false (sym (is_there n up) ∙ ap is_up none))
        go (Some log) e = sym (its_place m log e) ∙ ap (λ k. place_of k logs) q ∙ its_place n its.0 its.1

    -- a node takes its next input
    pub takes_at : (n : ℕ) (x : Input A) → next real n (placed n) ≡ Some x → Up placed n → AreAt (one_more placed n) (sent ++ sends (state_at real n (placed n)) x) (given_input net (number_of n) x)
    takes_at n x comes up =
        go (state_at real n (placed n)) refl up
      where
        go : (s : Replay A) → state_at real n (placed n) ≡ s → runs s ≡ true → AreAt (one_more placed n) (sent ++ sends s x) (given_input net (number_of n) x)
        go None e u = absurd (true≢false (sym u))
        go (Some log) e u =
            let moved : given_input net (number_of n) x ≡ record { logs = set net.logs (number_of n - 1) (logged log x); sent = net.sent ++ newly_sent (sends_of log x) } = ap (taken_by net (number_of n) x) its ∙ rw u refl in
            subst (AreAt (one_more placed n) (sent ++ sends_of log x)) (sym moved) (record {
              nodes = put_apart (λ m k. log_of (number_of m) (set net.logs (number_of n - 1) (logged log x)) ≡ state_at real m k) placed n (suc (placed n))
                  (log_same net.logs (number_of n) log (logged log x) its ∙ sym (ap (λ s. after_next real s (next real n (placed n))) e ∙ ap (after_next real (Some log)) comes))
                  (λ m ne. log_other net.logs (number_of n) log (logged log x) its (number_of m) (λ q. ne (same_place m n up q)) ∙ at.nodes m);
              others = λ number none. log_other net.logs (number_of n) log (logged log x) its number (λ q. apart number none q) ∙ at.others number none;
              messages = envelopes_more net.sent (sends_of log x) ∙ ap (λ es. es ++ sends_of log x) at.messages;
            })
          where
            its : log_of (number_of n) net.logs ≡ Some log
            its = at.nodes n ∙ e

            apart : (number : ℕ) → place_of number logs ≡ length logs → number ≡ number_of n → ⊥
            apart number none q =
                let there = has_log n up in
                let below : n < length logs = slice_get_within logs n there.0 there.1 in
                let here : n ≡ length logs = sym (its_place n there.0 there.1) ∙ ap (λ k. place_of k logs) (sym q) ∙ none in
                omega (arith, below, here)

    -- what is up after an input was up before it
    pub up_before : (n : ℕ) (x : Input A) → next real n (placed n) ≡ Some x → (m : ℕ) → Up (one_more placed n) m → Up placed m
    up_before n x comes =
        put_apart (λ m k. runs (state_at real m k) ≡ true → Up placed m) placed n (suc (placed n))
        (λ h. ran_before (state_at real n (placed n)) x (ap (λ o. runs (after_next real (state_at real n (placed n)) o)) (sym comes) ∙ h))
        (λ m ne h. h)

    -- a node that crashes is up no more
    pub down_after : (n : ℕ) → next real n (placed n) ≡ Some Crash → Up (one_more placed n) n → ⊥
    down_after n comes up =
        true≢false (sym up ∙ ap (λ k. runs (state_at real n k)) here ∙ ap (λ o. runs (after_next real (state_at real n (placed n)) o)) comes ∙ crashed (state_at real n (placed n)))
      where
        here : one_more placed n n ≡ suc (placed n)
        here = rw (eq-eqb n n refl) refl

  -- a message that was sent arrives
  pub arrives_at : (placed : ℕ → ℕ) (sent : List (Envelope (Command A) A)) (net : Network A) → AreAt placed sent net → (which : ℕ) (e : Envelope (Command A) A) (x : Input A) → slice_get sent which ≡ Some e → brought x ≡ Some e
      → next real (place_of e.to logs) (placed (place_of e.to logs)) ≡ Some x → Up placed (place_of e.to logs)
      → AreAt (one_more placed (place_of e.to logs)) (sent ++ sends (state_at real (place_of e.to logs) (placed (place_of e.to logs))) x) (message_arrives net which (slice_get net.sent which))
  arrives_at placed sent net at which e x was brings comes up =
      go (slice_get net.sent which) refl
    where
      number : number_of (place_of e.to logs) ≡ e.to
      number =
          let its = has_log placed sent net at (place_of e.to logs) up in
          ap number_in its.1 ∙ placed_number logs e.to its.0 its.1

      again_at : AreAt placed sent (record { logs = net.logs; sent = with_arrival which net.sent })
      again_at = record { nodes = at.nodes; others = at.others; messages = arrival_alike which net.sent ∙ at.messages }

      go : (found : Option (Sent A)) → slice_get net.sent which ≡ found
          → AreAt (one_more placed (place_of e.to logs)) (sent ++ sends (state_at real (place_of e.to logs) (placed (place_of e.to logs))) x) (message_arrives net which found)
      go None f =
          let none : None ≡ Some e = sym (ap (option_map (λ (s : Sent A). s.envelope)) f) ∙ sym (slice_get-map (λ (s : Sent A). s.envelope) net.sent which) ∙ ap (λ es. slice_get es which) at.messages ∙ was in
          absurd (cc)
      go (Some s) f =
          let some : Some s.envelope ≡ Some e = sym (ap (option_map (λ (s : Sent A). s.envelope)) f) ∙ sym (slice_get-map (λ (s : Sent A). s.envelope) net.sent which) ∙ ap (λ es. slice_get es which) at.messages ∙ was in
          let same : s.envelope ≡ e = cc in
          let there : is_up (log_of s.envelope.to net.logs) ≡ true = ap (λ (g : Envelope (Command A) A). is_up (log_of g.to net.logs)) same ∙ ap (λ k. is_up (log_of k net.logs)) (sym number) ∙ is_there placed sent net at (place_of e.to logs) up in
          let moved : message_arrives net which (Some s) ≡ given_input (record { logs = net.logs; sent = with_arrival which net.sent }) (number_of (place_of e.to logs)) x =
          rw there (ap (λ (g : Envelope (Command A) A). given_input (record { logs = net.logs; sent = with_arrival which net.sent }) g.to (Arrive g)) same
          ∙ ap (λ k. given_input (record { logs = net.logs; sent = with_arrival which net.sent }) k (Arrive e)) (sym number)
          ∙ ap (given_input (record { logs = net.logs; sent = with_arrival which net.sent }) (number_of (place_of e.to logs))) (sym (brought_is x e brings))) in
          subst (AreAt (one_more placed (place_of e.to logs)) (sent ++ sends (state_at real (place_of e.to logs) (placed (place_of e.to logs))) x)) (sym moved)
          (takes_at placed sent (record { logs = net.logs; sent = with_arrival which net.sent }) again_at (place_of e.to logs) x comes up)

  -- it can arrive
  pub arrival_can : (placed : ℕ → ℕ) (sent : List (Envelope (Command A) A)) (v : Service A) → AreAt placed sent v.network → (which : ℕ) (e : Envelope (Command A) A) → slice_get sent which ≡ Some e → Up placed (place_of e.to logs)
      → arrival_refusal v (slice_get v.network.sent which) ≡ None
  arrival_can placed sent v at which e was up =
      go (slice_get v.network.sent which) refl
    where
      its : (log : NodeLog A) × (slice_get logs (place_of e.to logs) ≡ Some log)
      its = has_log placed sent v.network at (place_of e.to logs) up

      there : is_up (log_of e.to v.network.logs) ≡ true
      there = ap (λ k. is_up (log_of k v.network.logs)) (sym (ap number_in its.1 ∙ placed_number logs e.to its.0 its.1)) ∙ is_there placed sent v.network at (place_of e.to logs) up

      found_is : (found : Option (Sent A)) → slice_get v.network.sent which ≡ found → option_map (λ (s : Sent A). s.envelope) found ≡ Some e
      found_is found f = sym (ap (option_map (λ (s : Sent A). s.envelope)) f) ∙ sym (slice_get-map (λ (s : Sent A). s.envelope) v.network.sent which) ∙ ap (λ es. slice_get es which) at.messages ∙ was

      go : (found : Option (Sent A)) → slice_get v.network.sent which ≡ found → arrival_refusal v found ≡ None
      go None f = let none : None ≡ Some e = found_is None f in absurd (cc)
      go (Some s) f =
          let some : Some s.envelope ≡ Some e = found_is (Some s) f in
          let same : s.envelope ≡ e = cc in
          ap (λ (g : Envelope (Command A) A). node_refusal v g.to) same ∙ rw there refl
