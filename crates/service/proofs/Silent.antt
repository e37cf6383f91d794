-- Sessions that asked nothing make no difference to an audit: what it finds of the others it would find of all.
use Rattle.std.proofs.Common.{◌≡◌, ℕ, zero, suc, ◌+◌, length, List, [], ◌∷◌, ◌++◌, Bool, true, false, Option, Some, None, refl, sym, ap, ◌∙◌, subst, cond, map, arith}
use Rattle.std.specs.Prelude.{slice_get, ◌==◌, ◌&&◌, ◌||◌, not, is_some}
use Rattle.std.specs.List.{filter, list_any, list_all}
use Rattle.std.proofs.lemmas.Bool.{true≢false, and_from}
use Rattle.ballot.specs.declared.message.Envelope.{Envelope}
use Rattle.maildrop.specs.CommandId.{CommandId, same_id}
use Rattle.maildrop.specs.declared.command.Command.{Command}
use Rattle.maildrop.specs.declared.outcome.Outcome.{Outcome}
use Rattle.node.specs.declared.input.Input.{Input}
use Rattle.node.specs.declared.log.NodeLog.{NodeLog}
use Rattle.pop3_wire.specs.declared.line.Line.{Line}
use Rattle.session.specs.declared.transcript.Asked.{Asked}
use Rattle.session.specs.declared.transcript.Transcript.{Transcript}
use Rattle.audit.specs.Audits.{IsWhole}
use Rattle.audit.specs.Case.{Plain, Asks, next, after_next, sends_next, state_at, sent_at, asked, put_before, earlier_in, turns_of, or_else, earlier_among}
use Rattle.audit.specs.Order.{IsLegalOrder}
use Rattle.audit.specs.Placing.{all_answered, message_there, turn_there, is_met, IsPlacing}
use Rattle.audit.specs.Records.{RealCase, AreFit, place_of, places_from, case_of}
use Rattle.audit.specs.Replays.{Replay, after, sends, runs, brought, key_of, answer, same_submit}
use Rattle.audit.specs.Same.{same_envelope}
use Rattle.audit.specs.Turns.{Turns, turns_from, is_blank, script_of, is_untold, is_loose}
use Rattle.audit.specs.Wrong.{is_key, is_submit, has_submit, is_outcome, is_seen, is_good, are_good, seen_after, first_node, node_of, first_wrong}
use Rattle.audit.specs.declared.event.Event.{Event}
use Rattle.audit.proofs.Fit.{order_of_logs}
use Rattle.service.specs.Transcripts.{is_some_asked, has_asked}

-- what doesn't depend on transcripts
module _ {A : Type 0} (logs : List (NodeLog A)) (ts us : List (Transcript A)) where
  abbrev a : RealCase A
  a = case_of logs ts

  abbrev b : RealCase A
  b = case_of logs us

  after_same : (s s' : Replay A) (o : Option (Input A)) → s ≡ s' → after_next a s o ≡ after_next b s' o
  after_same s s' None e = e
  after_same s s' (Some x) e = ap (λ r. after r x) e

  state_same : (n k : ℕ) → state_at a n k ≡ state_at b n k
  state_same n zero = refl
  state_same n (suc k) = after_same (state_at a n k) (state_at b n k) (next a n k) (state_same n k)

  pub states_same : state_at a ≡ state_at b
  states_same = λ i n k. state_same n k i

  sends_same : (s s' : Replay A) (o : Option (Input A)) → s ≡ s' → sends_next a s o ≡ sends_next b s' o
  sends_same s s' None e = refl
  sends_same s s' (Some x) e = ap (λ r. sends r x) e

  sent_same : (n k : ℕ) → sent_at a n k ≡ sent_at b n k
  sent_same n zero = refl
  sent_same n (suc k) =
      ap (λ es. es ++ sends_next a (state_at a n k) (next a n k)) (sent_same n k)
      ∙ ap (λ es. sent_at b n k ++ es) (sends_same (state_at a n k) (state_at b n k) (next a n k) (state_same n k))

  pub sents_same : sent_at a ≡ sent_at b
  sents_same = λ i n k. sent_same n k i

  pub turns_same : (s : Option (Turns A)) → turns_of a s ≡ turns_of b s
  turns_same None = refl
  turns_same (Some turns) = refl

  put_same : (key : CommandId) (found : Option (List CommandId)) → put_before a key found ≡ put_before b key found
  put_same key None = refl
  put_same key (Some keys) = refl

  pub earlier_same : (key : CommandId) (turns : Turns A) → earlier_in a key turns ≡ earlier_in b key turns
  earlier_same key [] = refl
  earlier_same key (Plain line ∷ turns) = earlier_same key turns
  earlier_same key (Asks line x named o ∷ turns) =
      ap (λ found. cond (same_id key named) (Some []) found) (ap (put_before a named) (earlier_same key turns) ∙ put_same named (earlier_in b key turns))

  pub or_same : (x y : Option (List CommandId)) → or_else a x y ≡ or_else b x y
  or_same None y = refl
  or_same (Some keys) y = refl

  is_key_same : (key : CommandId) (o : Option CommandId) → is_key a key o ≡ is_key b key o
  is_key_same key None = refl
  is_key_same key (Some other) = refl

  submit_same : (s : Replay A) (key : CommandId) (x : Input A) (o : Option (Input A)) → is_submit a s key x o ≡ is_submit b s key x o
  submit_same s key x None = refl
  submit_same s key x (Some y) = ap (λ t. t && same_submit y x) (is_key_same key (key_of s y))

  has_same : (n : ℕ) (key : CommandId) (x : Input A) (j : ℕ) → has_submit a n key x j ≡ has_submit b n key x j
  has_same n key x zero = refl
  has_same n key x (suc j) =
      ap (λ s. is_submit a s key x (next a n j) || has_submit a n key x j) (state_same n j)
      ∙ ap (λ t. t || has_submit a n key x j) (submit_same (state_at b n j) key x (next a n j))
      ∙ ap (λ t. is_submit b (state_at b n j) key x (next a n j) || t) (has_same n key x j)

  outcome_same : (told found : Option (Outcome A)) → is_outcome a told found ≡ is_outcome b told found
  outcome_same None found = refl
  outcome_same (Some o) None = refl
  outcome_same (Some o) (Some v) = refl

  good_same : (n : ℕ) (seen : List CommandId) (x : Input A) (key : CommandId) (told : Option (Outcome A)) → is_good a n seen x key told ≡ is_good b n seen x key told
  good_same n seen x key told =
      let home : ℕ = place_of key.ticket.node logs in
      let end : ℕ = length (a.logs home) in
      let here : Bool = home == n in
      ap (λ t. t && (not (is_seen a seen key) && (here && is_outcome a told (answer (state_at a home end) key)))) (has_same home key x end)
      ∙ ap (λ s. has_submit b home key x end && (not (is_seen a seen key) && (here && is_outcome a told (answer s key)))) (state_same home end)
      ∙ ap (λ t. has_submit b home key x end && (not (is_seen a seen key) && (here && t))) (outcome_same told (answer (state_at b home end) key))

  pub all_good_same : (n : ℕ) (seen : List CommandId) (turns : Turns A) → are_good a n seen turns ≡ are_good b n seen turns
  all_good_same n seen [] = refl
  all_good_same n seen (Plain line ∷ turns) = all_good_same n seen turns
  all_good_same n seen (Asks line x key told ∷ turns) =
      ap (λ t. t && are_good a n (key ∷ seen) turns) (good_same n seen x key told)
      ∙ ap (λ t. is_good b n seen x key told && t) (all_good_same n (key ∷ seen) turns)

  pub seen_same : (seen : List CommandId) (turns : Turns A) → seen_after a seen turns ≡ seen_after b seen turns
  seen_same seen [] = refl
  seen_same seen (Plain line ∷ turns) = seen_same seen turns
  seen_same seen (Asks line x key told ∷ turns) = seen_same (key ∷ seen) turns

  first_node_same : (ns : List ℕ) → first_node a ns ≡ first_node b ns
  first_node_same [] = refl
  first_node_same (n ∷ ns) = refl

  pub node_same : (turns : Turns A) → node_of a turns ≡ node_of b turns
  node_same [] = first_node_same (places_from 0 logs)
  node_same (Plain line ∷ turns) = node_same turns
  node_same (Asks line x key told ∷ turns) = refl

-- the turns of a session that asked nothing
module _ {A : Type 0} (logs : List (NodeLog A)) (ts : List (Transcript A)) where
  none_asked : (entries : List (Asked A)) → is_some_asked entries ≡ false → entries ≡ []
  none_asked [] silent = refl
  none_asked (entry ∷ entries) silent = absurd (true≢false silent)

  pub silent_turns : (t : Transcript A) → has_asked t ≡ false → (lines : List Line) × (turns_of (case_of logs ts) (script_of t) ≡ turns_from 0 lines [])
  silent_turns t silent =
      go (is_blank t)
    where
      go : (blank : Bool) → (lines : List Line) × (turns_of (case_of logs ts) (cond blank None (Some (turns_from 0 t.lines t.asked))) ≡ turns_from 0 lines [])
      go true = ([], refl)
      go false = (t.lines, ap (turns_from 0 t.lines) (none_asked t.asked silent))

  pub silent_tells : (t : Transcript A) → has_asked t ≡ false → is_loose (Some t) ≡ false
  silent_tells t silent = ap (list_any is_untold) (none_asked t.asked silent)

  pub earlier_plain : (key : CommandId) (number : ℕ) (lines : List Line) → earlier_in (case_of logs ts) key (turns_from {A = A} number lines []) ≡ None
  earlier_plain key number [] = refl
  earlier_plain key number (line ∷ lines) = earlier_plain key (suc number) lines

  pub good_plain : (n : ℕ) (seen : List CommandId) (number : ℕ) (lines : List Line) → are_good (case_of logs ts) n seen (turns_from {A = A} number lines []) ≡ true
  good_plain n seen number [] = refl
  good_plain n seen number (line ∷ lines) = good_plain n seen (suc number) lines

  pub seen_plain : (seen : List CommandId) (number : ℕ) (lines : List Line) → seen_after (case_of logs ts) seen (turns_from {A = A} number lines []) ≡ seen
  seen_plain seen number [] = refl
  seen_plain seen number (line ∷ lines) = seen_plain seen (suc number) lines

module _ {A : Type 0} (logs : List (NodeLog A)) (all : List (Transcript A)) where
  abbrev kept : List (Transcript A)
  kept = filter has_asked all

  abbrev few : RealCase A
  few = case_of logs kept

  abbrev whole : RealCase A
  whole = case_of logs all

  abbrev found_in : CommandId → List (Transcript A) → Option (List CommandId)
  found_in key rest = earlier_among whole key (map script_of rest)

  abbrev turns_in : Transcript A → Turns A
  turns_in t = turns_of whole (script_of t)

  -- which keys come before one
  earlier_kept : (key : CommandId) (rest : List (Transcript A)) → earlier_among few key (map script_of (filter has_asked rest)) ≡ earlier_among whole key (map script_of rest)
  earlier_kept key [] = refl
  earlier_kept key (t ∷ rest) =
      go (has_asked t) refl (earlier_kept key rest)
    where
      go : (asks : Bool) → has_asked t ≡ asks → earlier_among few key (map script_of (filter has_asked rest)) ≡ found_in key rest
          → earlier_among few key (map script_of (cond asks (t ∷ filter has_asked rest) (filter has_asked rest))) ≡ or_else whole (earlier_in whole key (turns_in t)) (found_in key rest)
      go true e behind =
          let its : earlier_in few key (turns_of few (script_of t)) ≡ earlier_in whole key (turns_in t) =
          ap (earlier_in few key) (turns_same logs kept all (script_of t)) ∙ earlier_same logs kept all key (turns_in t) in
          ap (λ found. or_else few found (earlier_among few key (map script_of (filter has_asked rest)))) its
          ∙ ap (or_else few (earlier_in whole key (turns_in t))) behind
          ∙ or_same logs kept all (earlier_in whole key (turns_in t)) (found_in key rest)
      go false e behind =
          let plain = silent_turns logs all t e in
          behind
          ∙ sym (ap (λ turns. or_else whole (earlier_in whole key turns) (found_in key rest)) plain.1 ∙ ap (λ found. or_else whole found (found_in key rest)) (earlier_plain logs all key 0 plain.0))

  answered_same : (p : ℕ → ℕ) (o : Option (List CommandId)) → all_answered few p o ≡ all_answered whole p o
  answered_same p None = refl
  answered_same p (Some keys) =
      ap (λ (f : ℕ → ℕ → Replay A). list_all (λ key. is_some (answer (f (place_of key.ticket.node logs) (p (place_of key.ticket.node logs))) key)) keys) (states_same logs kept all)

  turn_same : (p : ℕ → ℕ) (o : Option CommandId) → turn_there few p o ≡ turn_there whole p o
  turn_same p None = refl
  turn_same p (Some key) = ap (all_answered few p) (earlier_kept key all) ∙ answered_same p (earlier_among whole key (map script_of all))

  message_same : (p : ℕ → ℕ) (n : ℕ) (o : Option (Envelope (Command A) A)) → message_there few p n o ≡ message_there whole p n o
  message_same p n None = refl
  message_same p n (Some e) =
      ap (λ (f : ℕ → ℕ → List (Envelope (Command A) A)). place_of e.to logs == n && list_any (λ m. list_any (λ e'. same_envelope e' e) (f m (p m))) (places_from 0 logs)) (sents_same logs kept all)

  met_same : (p : ℕ → ℕ) (n : ℕ) (o : Option (Input A)) → is_met few p n o ≡ is_met whole p n o
  met_same p n None = refl
  met_same p n (Some x) =
      let s = state_at whole n (p n) in
      ap (λ (f : ℕ → ℕ → Replay A). runs (f n (p n)) && (message_there few p n (brought x) && turn_there few p (asked few (f n (p n)) x))) (states_same logs kept all)
      ∙ ap (λ t. runs s && (t && turn_there few p (asked few s x))) (message_same p n (brought x))
      ∙ ap (λ t. runs s && (message_there whole p n (brought x) && t)) (turn_same p (asked whole s x))

  placing_same : (order : List ℕ) (p : ℕ → ℕ) → IsPlacing few order p → IsPlacing whole order p
  placing_same [] p e = e
  placing_same (n ∷ ns) p h = (h.0, placing_same ns h.0 h.1, sym (met_same h.0 n (next few n (h.0 n))) ∙ h.2, h.3)

  passes : {X : Type 0} (t : Bool) (x : Option X) (y : X) → cond t x (Some y) ≡ None → (t ≡ true) × (x ≡ None)
  passes true x y e = (refl, e)
  passes false x y e = let no : Some y ≡ None = e in absurd (cc)

  -- no transcript has a wrong answer; those of the rest stand at j among all, and at i among the kept ones
  wrong_kept : (rest : List (Transcript A)) (i j : ℕ) (seen : List CommandId)
      → ((m k : ℕ) → k ≡ i + m → slice_get kept k ≡ slice_get (filter has_asked rest) m)
      → ((m k : ℕ) → k ≡ j + m → slice_get all k ≡ slice_get rest m)
      → first_wrong few i seen (map script_of (filter has_asked rest)) ≡ None → first_wrong whole j seen (map script_of rest) ≡ None
  wrong_kept [] i j seen few_at all_at right = refl
  wrong_kept (t ∷ rest) i j seen few_at all_at right =
      go (has_asked t) refl few_at right (λ k keys. wrong_kept rest k (suc j) keys)
    where
      there : slice_get all j ≡ Some t
      there = all_at 0 j (omega arith)

      behind : (m k : ℕ) → k ≡ suc j + m → slice_get all k ≡ slice_get rest m
      behind m k e = all_at (suc m) k (omega (arith, e))

      -- it is passed
      past : not (is_loose (slice_get all j)) && are_good whole (node_of whole (turns_in t)) seen (turns_in t) ≡ true → first_wrong whole (suc j) (seen_after whole seen (turns_in t)) (map script_of rest) ≡ None → first_wrong whole j seen ((script_of t) ∷ map script_of rest) ≡ None
      past good e = ap (λ b. cond b (first_wrong whole (suc j) (seen_after whole seen (turns_in t)) (map script_of rest)) (Some j)) good ∙ e

      go : (asks : Bool) → has_asked t ≡ asks
          → ((m k : ℕ) → k ≡ i + m → slice_get kept k ≡ slice_get (cond asks (t ∷ filter has_asked rest) (filter has_asked rest)) m)
          → first_wrong few i seen (map script_of (cond asks (t ∷ filter has_asked rest) (filter has_asked rest))) ≡ None
          → ((k : ℕ) (keys : List CommandId)
          → ((m n : ℕ) → n ≡ k + m → slice_get kept n ≡ slice_get (filter has_asked rest) m)
          → ((m n : ℕ) → n ≡ suc j + m → slice_get all n ≡ slice_get rest m)
          → first_wrong few k keys (map script_of (filter has_asked rest)) ≡ None → first_wrong whole (suc j) keys (map script_of rest) ≡ None)
          → first_wrong whole j seen ((script_of t) ∷ map script_of rest) ≡ None
      go false silent at right' on =
          let plain = silent_turns logs all t silent in
          let untold : is_loose (slice_get all j) ≡ false = ap is_loose there ∙ silent_tells logs all t silent in
          let good : are_good whole (node_of whole (turns_in t)) seen (turns_in t) ≡ true = ap (are_good whole (node_of whole (turns_in t)) seen) plain.1 ∙ good_plain logs all (node_of whole (turns_in t)) seen 0 plain.0 in
          let same : seen_after whole seen (turns_in t) ≡ seen = ap (seen_after whole seen) plain.1 ∙ seen_plain logs all seen 0 plain.0 in
          past (and_from (not (is_loose (slice_get all j))) _ (ap not untold) good)
          (ap (λ keys. first_wrong whole (suc j) keys (map script_of rest)) same ∙ on i seen at behind right')
      go true e at right' on =
          let here : slice_get kept i ≡ Some t = at 0 i (omega arith) in
          let same : turns_of few (script_of t) ≡ (turns_in t) = turns_same logs kept all (script_of t) in
          let two = passes (not (is_loose (slice_get kept i)) && are_good few (node_of few (turns_of few (script_of t))) seen (turns_of few (script_of t))) _ i right' in
          let its : not (is_loose (slice_get kept i)) && are_good few (node_of few (turns_of few (script_of t))) seen (turns_of few (script_of t)) ≡ not (is_loose (slice_get all j)) && are_good whole (node_of whole (turns_in t)) seen (turns_in t) =
          ap (λ o. not (is_loose o) && are_good few (node_of few (turns_of few (script_of t))) seen (turns_of few (script_of t))) (here ∙ sym there)
          ∙ ap (λ ts. not (is_loose (slice_get all j)) && are_good few (node_of few ts) seen ts) same
          ∙ ap (λ n. not (is_loose (slice_get all j)) && are_good few n seen (turns_in t)) (node_same logs kept all (turns_in t))
          ∙ ap (λ b. not (is_loose (slice_get all j)) && b) (all_good_same logs kept all (node_of whole (turns_in t)) seen (turns_in t)) in
          let keys : seen_after few seen (turns_of few (script_of t)) ≡ seen_after whole seen (turns_in t) = ap (seen_after few seen) same ∙ seen_same logs kept all seen (turns_in t) in
          past (sym its ∙ two.0)
          (on (suc i) (seen_after whole seen (turns_in t)) (λ m k q. at (suc m) k (omega (arith, q))) behind
          (subst (λ ks. first_wrong few (suc i) ks (map script_of (filter has_asked rest)) ≡ None) keys two.1))

  -- if an audit of the sessions that asked something finds all in order, there is a legal order of all sessions
  pub order_of_all : AreFit logs all → IsWhole few → first_wrong few 0 [] few.scripts ≡ None → (events : List Event) × IsLegalOrder whole events
  order_of_all fit found right =
      let order : List ℕ = found.reached.order in
      order_of_logs logs all fit order found.placed (placing_same order found.placed found.reached.steps) found.all
      (wrong_kept all 0 0 [] (λ m k e. ap (slice_get kept) (let same : k ≡ m = omega (arith, e) in same)) (λ m k e. ap (slice_get all) (let same : k ≡ m = omega (arith, e) in same)) right)
