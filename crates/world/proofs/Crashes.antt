-- Which nodes an event has crashed.
use Rattle.std.proofs.Common.{◌≡◌, ◌≢◌, ℕ, zero, suc, ◌+◌, ◌-◌, List, [], ◌∷◌, Bool, true, false, Some, None, refl, sym, ap, ◌∙◌, map, arith, cond, set, replicate}
use Rattle.std.specs.Prelude.{slice_get, option_map, Result, Ok, Err, OnOk, OnErr}
use Rattle.node.specs.Nodes.{NodeValue, stops_after}
use Rattle.node.specs.Tickets.{CanStop}
use Rattle.node.specs.declared.input.Input.{Input}
use Rattle.node.specs.declared.input.Input.TheVariants.{Submit, Arrive, Tick, Campaign, Crash}
use Rattle.node.specs.declared.log.NodeLog.{NodeLog}
use Rattle.node.specs.declared.log.Opening.{Opening}
use Rattle.node.specs.declared.stopped.Stopped.{Stopped}
use Rattle.node.specs.declared.stopped.Stopped.TheVariants.{Crashed, Memory, TicketsUsed}
use Rattle.runs.specs.Messages.{log_of, is_up}
use Rattle.runs.specs.Refusals.{refusal_of}
use Rattle.runs.specs.declared.event.Event.{Event}
use Rattle.runs.specs.declared.event.Event.TheVariants as event
use Rattle.runs.specs.declared.refused.Refused.TheVariants.{Down}
use Rattle.runs.specs.declared.sent.Sent.{Sent}
use Rattle.world.specs.Connections.{service_of}
use Rattle.world.specs.Hosts.{Host, Hosts, crashed_by, crashes_after, crashes_of, has_crashed, host_of, network_of}
use Rattle.world.specs.Kept.{crashes_by, new_hosts}
use Rattle.world.specs.Values.{crash_of, crashed_after}
use Rattle.world.specs.declared.connection.Connection.{Connection}
use Rattle.world.proofs.HostList.{found_log, no_log}

-- what holds after either result
pub either_way : {X E : Type 0} (r : Result X E) {P : Type 0} → OnOk r P → OnErr r P → P
either_way (Ok x) p q = p
either_way (Err e) p q = q

-- what holds anyway
pub on_err_so : {X E : Type 0} (r : Result X E) {P : Type 0} → P → OnErr r P
on_err_so (Ok x) p = tt
on_err_so (Err e) p = p

-- node n stands at the place before
pub crash_at_place : (crashed : List Bool) (place n : ℕ) → place + 1 ≡ n → crash_of n crashed ≡ slice_get crashed place
crash_at_place crashed place zero e = let no : place + 1 ≢ 0 = omega arith in absurd (no e)
crash_at_place crashed place (suc n) e = let same : n ≡ place = omega arith in ap (slice_get crashed) same

set_same : (crashed : List Bool) (place : ℕ) (c : Bool) → slice_get crashed place ≡ Some c → set crashed place c ≡ crashed
set_same [] place c e = refl
set_same (x ∷ crashed) zero c e = let same : x ≡ c = cc in ap (λ y. y ∷ crashed) (sym same)
set_same (x ∷ crashed) (suc k) c e = ap (λ ys. x ∷ ys) (set_same crashed k c e)

module _ {A : Type 0} where
  -- A node

  -- after a step
  pub step_crash : (later : NodeValue A) (host : Host A) (i : Input A) → later.stopped ≡ stops_after i → host.crashed ≡ false → is_up (Some host.log) ≡ true → (host_of later false).crashed ≡ crashed_by i host
  step_crash later host (Submit name op) stops was up = ap has_crashed stops ∙ sym was
  step_crash later host (Arrive m) stops was up = ap has_crashed stops ∙ sym was
  step_crash later host Tick stops was up = ap has_crashed stops ∙ sym was
  step_crash later host Campaign stops was up = ap has_crashed stops ∙ sym was
  step_crash later host Crash stops was up = rw (up) (ap has_crashed stops)

  -- if the step found no memory
  pub stopped_crash : (later : NodeValue A) (log : NodeLog A) (used : Bool) (stop : Stopped) → later ≡ record { log = log; stopped = Some stop; awaited = [] } → CanStop used stop → (host_of later false).crashed ≡ false
  stopped_crash later log used Crashed is can = absurd can
  stopped_crash later log used Memory is can = ap (λ (x : NodeValue A). has_crashed x.stopped) is
  stopped_crash later log used TicketsUsed is can = ap (λ (x : NodeValue A). has_crashed x.stopped) is

  -- an input that a node doesn't take, as it is down
  pub down_crash : (host : Host A) (i : Input A) → is_up (Some host.log) ≡ false → host.crashed ≡ crashed_by i host
  down_crash host (Submit name op) down = refl
  down_crash host (Arrive m) down = refl
  down_crash host Tick down = refl
  down_crash host Campaign down = refl
  down_crash host Crash down = rw (down) refl

  -- The nodes

  crash_got : (hosts : List (Host A)) (k : ℕ) → slice_get (map (λ (h : Host A). h.crashed) hosts) k ≡ option_map (λ (h : Host A). h.crashed) (slice_get hosts k)
  crash_got [] k = refl
  crash_got (h ∷ hosts) zero = refl
  crash_got (h ∷ hosts) (suc k) = crash_got hosts k

  pub crash_at : (w : Hosts A) (place : ℕ) (h : Host A) → slice_get w.hosts place ≡ Some h → slice_get (crashes_of w) place ≡ Some h.crashed
  crash_at w place h found = crash_got w.hosts place ∙ ap (option_map (λ (h : Host A). h.crashed)) found

  pub no_crash_at : (w : Hosts A) (place : ℕ) → slice_get w.hosts place ≡ None → slice_get (crashes_of w) place ≡ None
  no_crash_at w place none = crash_got w.hosts place ∙ ap (option_map (λ (h : Host A). h.crashed)) none

  crashes_set : (hosts : List (Host A)) (place : ℕ) (h : Host A) → map (λ (x : Host A). x.crashed) (set hosts place h) ≡ set (map (λ (x : Host A). x.crashed) hosts) place h.crashed
  crashes_set [] place h = refl
  crashes_set (x ∷ hosts) zero h = refl
  crashes_set (x ∷ hosts) (suc k) h = ap (λ cs. x.crashed ∷ cs) (crashes_set hosts k h)

  -- if a node is another that is crashed if that was
  pub same_crashes : (w : Hosts A) (place : ℕ) (h later : Host A) (sent : List (Sent A)) → slice_get w.hosts place ≡ Some h → later.crashed ≡ h.crashed → crashes_of (record { hosts = set w.hosts place later; sent = sent }) ≡ crashes_of w
  same_crashes w place h later sent found same =
      crashes_set w.hosts place later ∙ ap (set (crashes_of w) place) same ∙ set_same (crashes_of w) place h.crashed (crash_at w place h found)

  -- what a node takes
  pub takes_crash : (w : Hosts A) (n place : ℕ) (h later : Host A) (sent : List (Sent A)) (i : Input A) → place + 1 ≡ n → slice_get w.hosts place ≡ Some h
      → later.crashed ≡ crashed_by i h → crashes_of (record { hosts = set w.hosts place later; sent = sent }) ≡ crashes_after i n w
  takes_crash w n place h later sent (Submit name op) e found is = same_crashes w place h later sent found is
  takes_crash w n place h later sent (Arrive m) e found is = same_crashes w place h later sent found is
  takes_crash w n place h later sent Tick e found is = same_crashes w place h later sent found is
  takes_crash w n place h later sent Campaign e found is = same_crashes w place h later sent found is
  takes_crash w n place h later sent Crash e found is =
      crashes_set w.hosts place later ∙ ap (set (crashes_of w) place) is
      ∙ go (is_up (Some h.log))
      ∙ ap (λ o. cond (is_up o) (set (crashes_of w) (n - 1) true) (crashes_of w)) (sym (found_log w.hosts place n h e found))
    where
      before : n - 1 ≡ place
      before = omega arith

      go : (t : Bool) → set (crashes_of w) place (cond t true h.crashed) ≡ cond t (set (crashes_of w) (n - 1) true) (crashes_of w)
      go true = ap (λ k. set (crashes_of w) k true) (sym before)
      go false = set_same (crashes_of w) place h.crashed (crash_at w place h found)

  -- a node that isn't there takes nothing
  pub none_crashes : (w : Hosts A) (n place : ℕ) (i : Input A) → place + 1 ≡ n → slice_get w.hosts place ≡ None → crashes_of w ≡ crashes_after i n w
  none_crashes w n place (Submit name op) e none = refl
  none_crashes w n place (Arrive m) e none = refl
  none_crashes w n place Tick e none = refl
  none_crashes w n place Campaign e none = refl
  none_crashes w n place Crash e none = ap (λ o. cond (is_up o) (set (crashes_of w) (n - 1) true) (crashes_of w)) (sym (no_log w.hosts place n e none))

  -- The world

  -- an event that can happen
  pub crashes_event : (hosts : Hosts A) (es : List (ℕ × Connection A)) (e : Event A) → refusal_of (service_of hosts es) e ≡ None → crashes_by e hosts ≡ crashed_after e (crashes_of hosts)
  crashes_event hosts es (event.Connect session node stamp) possible = refl
  crashes_event hosts es (event.Line session line) possible = refl
  crashes_event hosts es (event.Hangup session) possible = refl
  crashes_event hosts es (event.Collect session) possible = refl
  crashes_event hosts es (event.Mail node user text key) possible = refl
  crashes_event hosts es (event.Break node user) possible = refl
  crashes_event hosts es (event.Arrive which) possible = refl
  crashes_event hosts es (event.Tick node) possible = refl
  crashes_event hosts es (event.Campaign node) possible = refl
  crashes_event hosts es (event.Crash node) possible =
      go (is_up (log_of node (network_of hosts).logs)) possible
    where
      go : (t : Bool) → cond t None (Some Down) ≡ None → cond t (set (crashes_of hosts) (node - 1) true) (crashes_of hosts) ≡ set (crashes_of hosts) (node - 1) true
      go true p = refl
      go false p = absurd (cc)

  new_crashes : (first : Opening A) (n m : ℕ) → map (λ (h : Host A). h.crashed) (new_hosts first n m) ≡ replicate m false
  new_crashes first n zero = refl
  new_crashes first n (suc m) = ap (λ cs. false ∷ cs) (new_crashes first (suc n) m)

  pub begun_crashes : (first : Opening A) (m : ℕ) (list : List (Host A)) (hosts : Hosts A) → list ≡ new_hosts first 1 m → hosts ≡ record { hosts = list; sent = [] } → crashes_of hosts ≡ replicate m false
  begun_crashes first m list hosts all is = ap crashes_of is ∙ ap (map (λ (h : Host A). h.crashed)) all ∙ new_crashes first 1 m
