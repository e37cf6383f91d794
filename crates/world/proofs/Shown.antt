-- The clients that contracts see of a world's connections.
use Rattle.std.proofs.Common.{◌≡◌, ℕ, ◌-◌, List, [], ◌∷◌, ◌++◌, Bool, true, false, Option, Some, None, refl, sym, ap, ◌∙◌, cond, eqb, set}
use Rattle.std.specs.Prelude.{option_map, not, if◌then◌else◌}
use Rattle.std.specs.List.{list_any}
use Rattle.std.specs.Map.{set_value}
use Rattle.std.proofs.lemmas.Bool.{eqb-true}
use Rattle.node.specs.Nodes.{logged}
use Rattle.node.specs.Replay.{is_crash, sends_of}
use Rattle.node.specs.declared.input.Input.{Input}
use Rattle.node.specs.declared.input.Input.TheVariants.{Crash}
use Rattle.node.specs.declared.log.NodeLog.{NodeLog}
use Rattle.node.proofs.Kept.{crash-push}
use Rattle.runs.specs.Clients.{Standing, Hears, Waits, Failed, Disconnected, Over, Client, standing_as, disconnected, client_of, with_client, without_node, all_without_node}
use Rattle.world.specs.Connections.{client_in, shown, clients_in, connection_of}
use Rattle.runs.specs.Messages.{Network, log_of, is_up, newly_sent, taken_by, given_input}
use Rattle.world.specs.declared.connection.Connection.{Connection}
use Rattle.world.proofs.Hosting.{crashed_down}
use Rattle.world.proofs.HostList.{the_network}
use Rattle.runs.proofs.Logs.{log_set}

module _ {A : Type 0} where
  both : {a b : Client A} {cs ds : List (ℕ × Client A)} (k : ℕ) → a ≡ b → cs ≡ ds → ((k, a) ∷ cs) ≡ ((k, b) ∷ ds)
  both k p q j = (k, p j) ∷ q j

  abbrev shown_by : Bool → Client A → Client A
  shown_by up c = if up then c else standing_as c (disconnected c.standing)

  pub shown_up : (logs : List (NodeLog A)) (c : Client A) → is_up (log_of c.node logs) ≡ true → shown logs c ≡ c
  shown_up logs c up = rw (up) refl

  -- Look-ups and writes

  pub client_shown : (logs : List (NodeLog A)) (session : ℕ) (es : List (ℕ × Connection A)) → client_of session (clients_in logs es) ≡ option_map (λ c. shown logs (client_in c)) (connection_of session es)
  client_shown logs session [] = refl
  client_shown logs session (e ∷ es) =
      go (eqb session e.0) (client_shown logs session es)
    where
      go : (t : Bool) → client_of session (clients_in logs es) ≡ option_map (λ c. shown logs (client_in c)) (connection_of session es)
          → cond t (Some (shown logs (client_in e.1))) (client_of session (clients_in logs es)) ≡ option_map (λ c. shown logs (client_in c)) (cond t (Some e.1) (connection_of session es))
      go true h = refl
      go false h = h

  pub set_shown : (logs : List (NodeLog A)) (session : ℕ) (es : List (ℕ × Connection A)) (c later : Connection A) → connection_of session es ≡ Some c
      → clients_in logs (set_value (λ s. eqb session s) es later) ≡ with_client session (shown logs (client_in later)) (clients_in logs es)
  set_shown logs session [] c later e = absurd (cc)
  set_shown logs session (x ∷ es) c later e =
      go (eqb session x.0) e (set_shown logs session es c later)
    where
      go : (t : Bool) → cond t (Some x.1) (connection_of session es) ≡ Some c
          → (connection_of session es ≡ Some c → clients_in logs (set_value (λ s. eqb session s) es later) ≡ with_client session (shown logs (client_in later)) (clients_in logs es))
          → clients_in logs (cond t ((x.0, later) ∷ es) (x ∷ set_value (λ s. eqb session s) es later))
          ≡ cond t ((x.0, shown logs (client_in later)) ∷ clients_in logs es) ((x.0, shown logs (client_in x.1)) ∷ with_client session (shown logs (client_in later)) (clients_in logs es))
      go true q ih = refl
      go false q ih = ap (λ cs. (x.0, shown logs (client_in x.1)) ∷ cs) (ih q)

  -- a client in its own place
  pub with_same : (session : ℕ) (c : Client A) (clients : List (ℕ × Client A)) → client_of session clients ≡ Some c → with_client session c clients ≡ clients
  with_same session c [] e = absurd (cc)
  with_same session c (x ∷ clients) e =
      go (eqb session x.0) e (with_same session c clients)
    where
      go : (t : Bool) → cond t (Some x.1) (client_of session clients) ≡ Some c → (client_of session clients ≡ Some c → with_client session c clients ≡ clients)
          → cond t ((x.0, c) ∷ clients) (x ∷ with_client session c clients) ≡ x ∷ clients
      go true q ih = let same : x.1 ≡ c = cc in ap (λ y. (x.0, y) ∷ clients) (sym same)
      go false q ih = ap (λ cs. x ∷ cs) (ih q)

  -- Nodes go on

  abbrev pub AreAsUp : List (NodeLog A) → List (NodeLog A) → Type 0
  AreAsUp logs later = (n : ℕ) → is_up (log_of n later) ≡ is_up (log_of n logs)

  pub shown_alike : (logs later : List (NodeLog A)) → AreAsUp logs later → (es : List (ℕ × Connection A)) → clients_in later es ≡ clients_in logs es
  shown_alike logs later same [] = refl
  shown_alike logs later same (e ∷ es) = both e.0 (ap (λ t. shown_by t (client_in e.1)) (same (client_in e.1).node)) (shown_alike logs later same es)

  up_after : (log : NodeLog A) (i : Input A) → is_crash i ≡ false → is_up (Some log) ≡ true → is_up (Some (logged log i)) ≡ true
  up_after log i e up = ap not (crash-push log.inputs i (go (list_any is_crash log.inputs) up) ∙ e)
    where
      go : (t : Bool) → not t ≡ true → t ≡ false
      go true q = absurd (cc)
      go false q = refl

  -- an input but a crash leaves each node up that is
  pub takes_as_up : (w : Network A) (n : ℕ) (i : Input A) → is_crash i ≡ false → AreAsUp w.logs (given_input w n i).logs
  takes_as_up w n i quiet m =
      go (log_of n w.logs) refl
    where
      at : (log : NodeLog A) → log_of n w.logs ≡ Some log → is_up (Some log) ≡ true → (t : Bool) → eqb m n ≡ t → is_up (cond t (Some (logged log i)) (log_of m w.logs)) ≡ is_up (log_of m w.logs)
      at log e up true q = up_after log i quiet up ∙ sym (ap is_up (ap (λ k. log_of k w.logs) (eqb-true m n q) ∙ e) ∙ up)
      at log e up false q = refl

      one : (log : NodeLog A) → log_of n w.logs ≡ Some log → (t : Bool) → is_up (Some log) ≡ t
          → is_up (log_of m (cond t (the_network (set w.logs (n - 1) (logged log i)) (w.sent ++ newly_sent (sends_of log i))) w).logs) ≡ is_up (log_of m w.logs)
      one log e true up = ap is_up (log_set w.logs n log (logged log i) e m) ∙ at log e up (eqb m n) refl
      one log e false up = refl

      go : (o : Option (NodeLog A)) → log_of n w.logs ≡ o → is_up (log_of m (taken_by w n i o).logs) ≡ is_up (log_of m w.logs)
      go None e = refl
      go (Some log) e = one log e (is_up (Some log)) refl

  -- A node crashes

  strands_once : (s : Standing A) → disconnected (disconnected s) ≡ disconnected s
  strands_once (Hears state) = refl
  strands_once (Waits state id) = refl
  strands_once (Failed lock) = refl
  strands_once Disconnected = refl
  strands_once Over = refl

  abbrev without_by : Bool → Client A → Client A
  without_by its c = if its then standing_as c (disconnected c.standing) else c

  -- a client shown by whether its node is up, if that is the node that crashes
  crash_one : (logs : List (NodeLog A)) (n : ℕ) (log : NodeLog A) → log_of n logs ≡ Some log → is_up (Some log) ≡ true → (c : Client A)
      → shown_by (is_up (cond (eqb c.node n) (Some (logged log Crash)) (log_of c.node logs))) c ≡ without_by (eqb c.node n) (shown logs c)
  crash_one logs n log e up c =
      go (eqb c.node n) refl
    where
      go : (t : Bool) → eqb c.node n ≡ t → shown_by (is_up (cond t (Some (logged log Crash)) (log_of c.node logs))) c ≡ without_by t (shown logs c)
      go true q =
          let its : is_up (log_of c.node logs) ≡ true = ap is_up (ap (λ k. log_of k logs) (eqb-true c.node n q) ∙ e) ∙ up in
          rw (crashed_down log, its) refl
      go false q = refl

  same_node : (t : Bool) (c : Client A) → (shown_by t c).node ≡ c.node
  same_node true c = refl
  same_node false c = refl

  pub crash_shown : (logs : List (NodeLog A)) (n : ℕ) (log : NodeLog A) → log_of n logs ≡ Some log → is_up (Some log) ≡ true → (es : List (ℕ × Connection A))
      → clients_in (set logs (n - 1) (logged log Crash)) es ≡ all_without_node n (clients_in logs es)
  crash_shown logs n log e up [] = refl
  crash_shown logs n log e up (x ∷ es) =
      let c = client_in x.1 in
      let here : shown (set logs (n - 1) (logged log Crash)) c ≡ without_node n (shown logs c) =
      ap (λ o. shown_by (is_up o) c) (log_set logs n log (logged log Crash) e c.node) ∙ crash_one logs n log e up c ∙ ap (λ m. without_by (eqb m n) (shown logs c)) (sym (same_node (is_up (log_of c.node logs)) c)) in
      both x.0 here (crash_shown logs n log e up es)
