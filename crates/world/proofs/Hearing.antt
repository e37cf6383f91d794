-- The index of sessions that await an answer, as it hears what nodes have performed, and what an event leaves to be heard.
use Rattle.std.proofs.Common.{◌≡◌, ◌≢◌, ℕ, ◌+◌, ◌<◌, List, [], ◌∷◌, Bool, true, false, Option, Some, refl, sym, ap, ◌∙◌, inl, inr, ⊎_elim, arith, length, set, drop}
use Rattle.std.specs.Prelude.{◌⊎◌, slice_get}
use Rattle.std.proofs.lemmas.List.{length-set, get_or-set_same, get_or-set_other}
use Rattle.std.proofs.lemmas.Option.{slice_get_within, slice_get-get_or}
use Rattle.maildrop.specs.CommandId.{CommandId}
use Rattle.maildrop.specs.declared.command.Command.{Command}
use Rattle.node.specs.Replay.{mail_rules, replayed}
use Rattle.node.specs.declared.log.NodeLog.{NodeLog}
use Rattle.replica.specs.Replicas.{has_identity}
use Rattle.world.specs.Hosts.{Hosts, network_of}
use Rattle.runs.specs.Worlds.{performed_in}
use Rattle.world.specs.Values.{is_known}
use Rattle.world.specs.Waiting.{Waiting, MayHave, IsWatched, IsBehind, IsHeard, IsUnheard, IsUpToDate, nowhere}
use Rattle.world.specs.declared.connection.Connection.{Connection}
use Rattle.runs.proofs.Logs.{some_same}
use Rattle.world.proofs.Noting.{one_place}

-- what a list has where it was set, and elsewhere
set_here : (xs : List ℕ) (k x : ℕ) → k < length xs → slice_get (set xs k x) k ≡ Some x
set_here xs k x low =
    let within : k < length (set xs k x) = let same = length-set xs k x in omega (arith, low, same) in
    slice_get-get_or (set xs k x) k 0 within ∙ ap Some (get_or-set_same xs k x 0 low)

set_there : (xs : List ℕ) (k j x y : ℕ) → (j ≡ k → ⊥) → slice_get xs j ≡ Some y → slice_get (set xs k x) j ≡ Some y
set_there xs k j x y apart at =
    let low = slice_get_within xs j y at in
    let within : j < length (set xs k x) = let same = length-set xs k x in omega (arith, low, same) in
    let other : j ≢ k = λ e. apart e in
    slice_get-get_or (set xs k x) j 0 within ∙ ap Some (get_or-set_other xs k j x 0 other) ∙ sym (slice_get-get_or xs j 0 low) ∙ at

module _ {A : Type 0} where
  module _ (hosts : Hosts A) (es : List (ℕ × Connection A)) (w later : Waiting) (node : ℕ) (performed : List (ℕ × Command A)) (behind : IsBehind nowhere hosts es w)
      (here : performed_in (slice_get (network_of hosts).logs node) ≡ Some performed)
      (heard : later.heard ≡ set w.heard node (length performed))
      (own : (id : CommandId) (count : ℕ) → id.ticket.node ≡ node + 1 → slice_get w.heard node ≡ Some count → has_identity mail_rules id (drop count performed) ≡ true → (place : ℕ) → IsWatched w place id → MayHave later place)
      (watched : (place : ℕ) (id : CommandId) → IsWatched w place id → IsWatched later place id)
      (may : (place : ℕ) → MayHave w place → MayHave later place) where
    its_performed : (log : NodeLog A) → slice_get (network_of hosts).logs node ≡ Some log → (replayed log).replica.performed ≡ performed
    its_performed log at = some_same (replayed log).replica.performed performed (sym (ap performed_in at) ∙ here)

    pub heard_behind : IsBehind nowhere hosts es later
    heard_behind =
        record {
          nodes = ap length heard ∙ length-set w.heard node (length performed) ∙ behind.nodes;
          watched = λ place e id at no waits. watched place id (behind.watched place e id at no waits);
          there = λ place e id log at no waits log_at up some.
              ⊎_elim
              (λ (has : MayHave w place). inl (may place has))
              (λ (u : IsUnheard hosts w id). unheard place id (behind.watched place e id at no waits) u (one_place u.node node))
              (behind.there place e id log at no waits log_at up some);
        }
      where
        unheard : (place : ℕ) (id : CommandId) → IsWatched w place id → (u : IsUnheard hosts w id) → (u.node ≡ node) ⊎ (u.node ≡ node → ⊥) → MayHave later place ⊎ IsUnheard hosts later id
        unheard place id is u (inl same) =
            let its : id.ticket.node ≡ node + 1 = omega (arith, u.its, same) in
            let all : (replayed u.log).replica.performed ≡ performed = its_performed u.log (ap (slice_get (network_of hosts).logs) (sym same) ∙ u.at) in
            inl (own id u.count its (ap (slice_get w.heard) (sym same) ∙ u.heard) (ap (λ ps. has_identity mail_rules id (drop u.count ps)) (sym all) ∙ u.among) place is)
        unheard place id is u (inr apart) =
            inr (record {
              node = u.node;
              its = u.its;
              log = u.log;
              at = u.at;
              up = u.up;
              count = u.count;
              heard = ap (λ hs. slice_get hs u.node) heard ∙ set_there w.heard node u.node (length performed) u.count apart u.heard;
              among = u.among;
            })

    pub heard_here : node < length w.heard → IsHeard hosts later node
    heard_here low log at up =
        ap (λ hs. slice_get hs node) heard ∙ set_here w.heard node (length performed) low ∙ ap (λ ps. Some (length ps)) (sym (its_performed log at))

    pub heard_there : (k : ℕ) → (k ≡ node → ⊥) → IsHeard hosts w k → IsHeard hosts later k
    heard_there k apart is log at up = ap (λ hs. slice_get hs k) heard ∙ set_there w.heard node k (length performed) _ apart (is log at up)

  -- one that is down, or isn't there
  pub down_heard : (hosts : Hosts A) (w : Waiting) (node : ℕ) (crashed : Option Bool) → false ≡ is_known (slice_get (network_of hosts).logs node) crashed → IsHeard hosts w node
  down_heard hosts w node crashed unknown log at up =
      let known : is_known (Some log) crashed ≡ true = rw (up) refl in
      absurd (let no : false ≡ true = unknown ∙ ap (λ o. is_known o crashed) at ∙ known in cc)

  -- once all was heard
  pub all_heard : (hosts : Hosts A) (es : List (ℕ × Connection A)) (w : Waiting) → IsBehind nowhere hosts es w → ((k : ℕ) → k < length w.heard → IsHeard hosts w k) → IsUpToDate hosts es w
  all_heard hosts es w behind heard =
      record {
        nodes = behind.nodes;
        watched = λ place e id at waits. behind.watched place e id at (λ no. no) waits;
        there = λ place e id log at waits log_at up some.
            ⊎_elim (λ (has : MayHave w place). has) (λ (u : IsUnheard hosts w id). absurd (none_left id u)) (behind.there place e id log at (λ no. no) waits log_at up some);
        heard = every;
      }
    where
      every : (k : ℕ) → IsHeard hosts w k
      every k log at up =
          let low = slice_get_within (network_of hosts).logs k log at in
          heard k (let same = behind.nodes in omega (arith, low, same)) log at up

      none_left : (id : CommandId) → IsUnheard hosts w id → ⊥
      none_left id u =
          let all : u.count ≡ length (replayed u.log).replica.performed = some_same u.count _ (sym u.heard ∙ every u.node u.log u.at u.up) in
          let no : false ≡ true = sym (ap (has_identity mail_rules id) (ap (λ n. drop n (replayed u.log).replica.performed) all ∙ nothing_left (replayed u.log).replica.performed)) ∙ u.among in
          absurd (cc)
        where
          nothing_left : (ps : List (ℕ × Command A)) → drop (length ps) ps ≡ []
          nothing_left [] = refl
          nothing_left (p ∷ ps) = nothing_left ps
