-- Worked rows: what is a legal order of a small case and what isn't, how its inputs are placed, and what is a wrong answer.
use Rattle.std.proofs.Common.{◌≡◌, ◌⊎◌, ℕ, zero, suc, ◌<◌, ◌≤◌, length, List, [], ◌∷◌, ◌++◌, true, false, Option, Some, None, refl, sym, ap, ◌∙◌, subst, inl, inr, arith}
use Rattle.std.specs.Prelude.{slice_get}
use Rattle.std.proofs.lemmas.Bool.{ne_eqb}
use Rattle.audit.specs.Audits.{IsWhole, IsCause, HasNoOrder}
use Rattle.audit.specs.Case.{Turn, Plain, Asks, Case, next, state_at, asked, count_in, keys_among}
use Rattle.audit.specs.Order.{Awaited, Session, World, opening, Agrees, Says, Submits, Takes, Happens, Leads, SessionEnds, IsNamedOnce, IsLegalOrder}
use Rattle.audit.specs.Placing.{put, can_place, is_stuck}
use Rattle.audit.specs.TwoNodes.{Input, Tick, Arrives, Take, Free, Crashes, Outcome, Granted, Refused, Verb, Noop, Pass, Key, Script, SmallCase, case}
use Rattle.audit.specs.Wrong.{first_wrong}
use Rattle.audit.specs.declared.audit_error.AuditError.TheVariants.{NoOrder}
use Rattle.audit.specs.declared.event.Event.{Event}
use Rattle.audit.specs.declared.event.Event.TheVariants.{Connect, Line, Hangup, Collect, Given, Arrive}

-- A session at the second node says NOOP, then PASS, which takes the lock, and then its client hangs up, which gives the
-- lock back.
abbrev command : ℕ → Key
command number = record { node = 1; number = number }

abbrev passes : Outcome → Turn Input Key Outcome Verb
passes outcome = Asks (Some Pass) Take (command 1) (Some outcome)

abbrev leaves : Turn Input Key Outcome Verb
leaves = Asks None Free (command 2) None

abbrev script : Outcome → Script
script outcome = Plain Noop ∷ passes outcome ∷ leaves ∷ []

-- The first node ticks, and the message that it sends brings the answer to the second. The transcript tells this outcome
-- of PASS.
abbrev told : Outcome → SmallCase
told outcome = case (Tick ∷ []) (Take ∷ Arrives 7 ∷ Free ∷ []) (Some (script outcome) ∷ [])

-- The outcome of the log is `Granted`.
abbrev good : SmallCase
good = told Granted

abbrev events : List Event
events = Connect 0 2 ∷ Line 0 ∷ Line 0 ∷ Given 1 ∷ Arrive 0 ∷ Collect 0 ∷ Hangup 0 ∷ []

-- the world after each of these events
abbrev SmallWorld : Type 0
SmallWorld = World Input ℕ Key Outcome Verb

abbrev with_session : SmallWorld → Session Input Key Outcome Verb → SmallWorld
with_session w s = record { placed = w.placed; sent = w.sent; sessions = put w.sessions 0 s }

abbrev with_input : SmallWorld → ℕ → List ℕ → SmallWorld
with_input w node sent = record { placed = put w.placed node (suc (w.placed node)); sent = w.sent ++ sent; sessions = w.sessions }

abbrev connected : Outcome → SmallWorld
connected outcome = with_session (opening good) (record { node = Some 1; done = []; left = script outcome; awaits = None })

abbrev greeted : Outcome → SmallWorld
greeted outcome = with_session (connected outcome) (record { node = Some 1; done = Plain Noop ∷ []; left = passes outcome ∷ leaves ∷ []; awaits = None })

abbrev passed : Outcome → SmallWorld
passed outcome = with_session (with_input (greeted outcome) 1 []) (record { node = Some 1; done = Plain Noop ∷ passes outcome ∷ []; left = leaves ∷ []; awaits = Some (record { key = command 1; outcome = Some outcome }) })

abbrev ticked : Outcome → SmallWorld
ticked outcome = with_input (passed outcome) 0 (7 ∷ [])

abbrev arrived : Outcome → SmallWorld
arrived outcome = with_input (ticked outcome) 1 []

abbrev collected : SmallWorld
collected = with_session (arrived Granted) (record { node = Some 1; done = Plain Noop ∷ passes Granted ∷ []; left = leaves ∷ []; awaits = None })

abbrev gone : SmallWorld
gone = with_session (with_input collected 1 []) (record { node = Some 1; done = script Granted; left = []; awaits = None })

connects : (outcome : Outcome) → Happens (told outcome) (opening (told outcome)) (Connect 0 2) (connected outcome)
connects outcome = (1, refl, script outcome, refl, inr (inl refl), refl, refl, refl)

says_noop : (outcome : Outcome) → Happens (told outcome) (connected outcome) (Line 0) (greeted outcome)
says_noop outcome = (1, (refl, refl, refl), inl (Noop, (passes outcome ∷ leaves ∷ [], refl, refl)))

says_pass : (outcome : Outcome) → Happens (told outcome) (greeted outcome) (Line 0) (passed outcome)
says_pass outcome = (1, (refl, refl, refl), inr (Pass, (Take, command 1, Some outcome, leaves ∷ [], refl, refl, refl, (refl, refl, refl), tt)))

ticks : (outcome : Outcome) → Happens (told outcome) (passed outcome) (Given 1) (ticked outcome)
ticks outcome = (0, Tick, refl, refl, refl, (refl, refl, refl))

arrives : (outcome : Outcome) → Happens (told outcome) (ticked outcome) (Arrive 0) (arrived outcome)
arrives outcome = (7, Arrives 7, refl, refl, refl, (refl, refl, refl))

collects : Happens good (arrived Granted) (Collect 0) collected
collects = (1, record { key = command 1; outcome = Some Granted }, Granted, refl, refl, refl, refl, refl, refl)

hangs_up : Happens good collected (Hangup 0) gone
hangs_up = (1, (refl, refl, refl), (Free, command 2, None, [], refl, refl, refl, (refl, refl, refl), (refl, refl)))

-- exactly one entry names each of the two commands
named_once : IsNamedOnce good
named_once zero zero x key e h = nothing x key e h
  where
    nothing : (x : Input) (key : Key) → Some Tick ≡ Some x → asked good (state_at good 0 0) x ≡ Some key → count_in good key (keys_among good good.scripts) ≡ 1
    nothing x key e h =
        let it : Tick ≡ x = cc in
        let no_key : None ≡ Some key = subst (λ y. asked good (state_at good 0 0) y ≡ Some key) (sym it) h in
        absurd (cc)
named_once zero (suc k) x key e h = absurd (cc)
named_once (suc zero) zero x key e h = subst (λ k. count_in good k (keys_among good good.scripts) ≡ 1) (same x key e h) refl
  where
    same : (x : Input) (key : Key) → Some Take ≡ Some x → asked good (state_at good 1 0) x ≡ Some key → command 1 ≡ key
    same x key e h =
        let it : Take ≡ x = cc in
        let its : Some (command 1) ≡ Some key = subst (λ y. asked good (state_at good 1 0) y ≡ Some key) (sym it) h in
        cc
named_once (suc zero) (suc zero) x key e h = nothing x key e h
  where
    nothing : (x : Input) (key : Key) → Some (Arrives 7) ≡ Some x → asked good (state_at good 1 1) x ≡ Some key → count_in good key (keys_among good good.scripts) ≡ 1
    nothing x key e h =
        let it : Arrives 7 ≡ x = cc in
        let no_key : None ≡ Some key = subst (λ y. asked good (state_at good 1 1) y ≡ Some key) (sym it) h in
        absurd (cc)
named_once (suc zero) (suc (suc zero)) x key e h = subst (λ k. count_in good k (keys_among good good.scripts) ≡ 1) (same x key e h) refl
  where
    same : (x : Input) (key : Key) → Some Free ≡ Some x → asked good (state_at good 1 2) x ≡ Some key → command 2 ≡ key
    same x key e h =
        let it : Free ≡ x = cc in
        let its : Some (command 2) ≡ Some key = subst (λ y. asked good (state_at good 1 2) y ≡ Some key) (sym it) h in
        cc
named_once (suc zero) (suc (suc (suc k))) x key e h = absurd (cc)
named_once (suc (suc node)) k x key e h = absurd (cc)

all_placed : (node : ℕ) → gone.placed node ≡ length (good.logs node)
all_placed zero = refl
all_placed (suc zero) = refl
all_placed (suc (suc node)) = rw (ne_eqb (suc (suc node)) 1 (λ e. absurd (omega (arith, e))), ne_eqb (suc (suc node)) 0 (λ e. absurd (omega (arith, e)))) refl

all_said : (i : ℕ) → SessionEnds good (slice_get good.scripts i) (gone.sessions i)
all_said zero = (refl, refl, tt, refl)
all_said (suc i) = tt

-- The events of this run are a legal order.
pub legal : IsLegalOrder good events
legal = (
  named_once,
  λ i s e. refl,
  (
    gone,
    (connected Granted, connects Granted, (greeted Granted, says_noop Granted, (passed Granted, says_pass Granted, (ticked Granted, ticks Granted, (arrived Granted, arrives Granted, (collected, collects, (gone, hangs_up, refl))))))),
    (all_placed, all_said),
  ),
)

-- An event leads to one world at most, if each node has a number of its own: so what isn't a legal order is found by
-- going from world to world.
module _ {S I E K O L : Type 0} (a : Case S I E K O L) (apart : (m n : ℕ) → a.number m ≡ a.number n → m ≡ n) where
  submitted : (w v v' : World I E K O L) (i n n' : ℕ) (line line' : Option L) → n ≡ n' → Submits a w i n line v → Submits a w i n' line' v' → v ≡ v'
  submitted w v v' i n n' line line' same (x, k, o, ts, left, quiet, asks, (e, up, is), ends) (x', k', o', ts', left', quiet', asks', (e', up', is'), ends') = cc

  one_world : (w v v' : World I E K O L) (e : Event) → Happens a w e v → Happens a w e v' → v ≡ v'
  one_world w v v' (Connect i number) (n, its, ts, e, there, new, up, is) (n', its', ts', e', there', new', up', is') =
      let same : n ≡ n' = apart n n' (its ∙ sym its') in
      cc
  one_world w v v' (Line i) (n, (at, up, idle), h) (n', (at', up', idle'), h') =
      go h h'
    where
      same : n ≡ n'
      same = cc

      go : ((l : L) × Says a w i n l v) ⊎ ((l : L) × Submits a w i n (Some l) v) → ((l : L) × Says a w i n' l v') ⊎ ((l : L) × Submits a w i n' (Some l) v') → v ≡ v'
      go (inl (l, (ts, left, is))) (inl (l', (ts', left', is'))) = cc
      go (inl (l, (ts, left, is))) (inr (l', (x, k, o, ts', left', quiet, asks, takes, ends))) = absurd (cc)
      go (inr (l, (x, k, o, ts, left, quiet, asks, takes, ends))) (inl (l', (ts', left', is'))) = absurd (cc)
      go (inr (l, h)) (inr (l', h')) = submitted w v v' i n n' (Some l) (Some l') same h h'
  one_world w v v' (Hangup i) (n, (at, up, idle), h) (n', (at', up', idle'), h') =
      submitted w v v' i n n' None None same h h'
    where
      same : n ≡ n'
      same = cc
  one_world w v v' (Collect i) (n, y, o, at, up, awaits, there, agrees, is) (n', y', o', at', up', awaits', there', agrees', is') = cc
  one_world w v v' (Given number) (n, x, its, quiet, asks, (e, up, is)) (n', x', its', quiet', asks', (e', up', is')) =
      let same : n ≡ n' = apart n n' (its ∙ sym its') in
      cc
  one_world w v v' (Arrive k) (m, x, sent, brings, asks, (e, up, is)) (m', x', sent', brings', asks', (e', up', is')) =
      let same : m ≡ m' = cc in
      cc

  -- after an event whose world is known
  behind : (w v u : World I E K O L) (e : Event) (es : List Event) → Happens a w e v → Leads a w (e ∷ es) u → Leads a v es u
  behind w v u e es h (v', h', later) = subst (λ z. Leads a z es u) (one_world w v' v e h' h) later

numbers_apart : (m n : ℕ) → suc m ≡ suc n → m ≡ n
numbers_apart m n e = omega (arith, e)

up_to_passed : (outcome : Outcome) (es : List Event) (u : SmallWorld) → Leads (told outcome) (opening (told outcome)) (Connect 0 2 ∷ Line 0 ∷ Line 0 ∷ es) u → Leads (told outcome) (passed outcome) es u
up_to_passed outcome es u h =
    behind (told outcome) numbers_apart (greeted outcome) (passed outcome) u (Line 0) es (says_pass outcome)
    (behind (told outcome) numbers_apart (connected outcome) (greeted outcome) u (Line 0) (Line 0 ∷ es) (says_noop outcome)
    (behind (told outcome) numbers_apart (opening (told outcome)) (connected outcome) u (Connect 0 2) (Line 0 ∷ Line 0 ∷ es) (connects outcome) h))

up_to_ticked : (outcome : Outcome) (es : List Event) (u : SmallWorld) → Leads (told outcome) (opening (told outcome)) (Connect 0 2 ∷ Line 0 ∷ Line 0 ∷ Given 1 ∷ es) u → Leads (told outcome) (ticked outcome) es u
up_to_ticked outcome es u h = behind (told outcome) numbers_apart (passed outcome) (ticked outcome) u (Given 1) es (ticks outcome) (up_to_passed outcome (Given 1 ∷ es) u h)

up_to_arrived : (outcome : Outcome) (es : List Event) (u : SmallWorld) → Leads (told outcome) (opening (told outcome)) (Connect 0 2 ∷ Line 0 ∷ Line 0 ∷ Given 1 ∷ Arrive 0 ∷ es) u → Leads (told outcome) (arrived outcome) es u
up_to_arrived outcome es u h = behind (told outcome) numbers_apart (ticked outcome) (arrived outcome) u (Arrive 0) es (arrives outcome) (up_to_ticked outcome (Arrive 0 ∷ es) u h)

-- With its first two exchanged they aren't: a session can't say a line before it has connected.
pub not_connected_yet : IsLegalOrder good (Line 0 ∷ Connect 0 2 ∷ Line 0 ∷ Given 1 ∷ Arrive 0 ∷ Collect 0 ∷ Hangup 0 ∷ []) → ⊥
not_connected_yet (named, ticketed, (u, (v, (n, (at, up, idle), h), later), ends)) = absurd (cc)

-- With the tick and the arrival exchanged they aren't: a message can't come before it was sent.
pub not_sent_yet : IsLegalOrder good (Connect 0 2 ∷ Line 0 ∷ Line 0 ∷ Arrive 0 ∷ Given 1 ∷ Collect 0 ∷ Hangup 0 ∷ []) → ⊥
not_sent_yet (named, ticketed, (u, leads, ends)) =
    go (up_to_passed Granted (Arrive 0 ∷ Given 1 ∷ Collect 0 ∷ Hangup 0 ∷ []) u leads)
  where
    go : Leads good (passed Granted) (Arrive 0 ∷ Given 1 ∷ Collect 0 ∷ Hangup 0 ∷ []) u → ⊥
    go (v, (e, x, sent, brings, asks, takes), later) = absurd (cc)

-- With the arrival and the answer exchanged they aren't: a session can't take an answer that isn't there.
pub not_answered_yet : IsLegalOrder good (Connect 0 2 ∷ Line 0 ∷ Line 0 ∷ Given 1 ∷ Collect 0 ∷ Arrive 0 ∷ Hangup 0 ∷ []) → ⊥
not_answered_yet (named, ticketed, (u, leads, ends)) =
    go (up_to_ticked Granted (Collect 0 ∷ Arrive 0 ∷ Hangup 0 ∷ []) u leads)
  where
    go : Leads good (ticked Granted) (Collect 0 ∷ Arrive 0 ∷ Hangup 0 ∷ []) u → ⊥
    go (v, (n, y, o, at, up, awaits, there, agrees, is), later) =
        let here : 1 ≡ n = cc in
        let its : record { key = command 1; outcome = Some Granted } ≡ y = cc in
        let missing : None ≡ Some o = subst (λ (z : Awaited Key Outcome). good.answer (state_at good 1 1) z.key ≡ Some o) (sym its) (subst (λ m. good.answer (state_at good m ((ticked Granted).placed m)) y.key ≡ Some o) (sym here) there) in
        absurd (cc)

-- Without the last of them they aren't: an input of a log is left.
pub not_at_the_end : IsLegalOrder good (Connect 0 2 ∷ Line 0 ∷ Line 0 ∷ Given 1 ∷ Arrive 0 ∷ Collect 0 ∷ []) → ⊥
not_at_the_end (named, ticketed, (u, leads, (all, said))) =
    let last = behind good numbers_apart (arrived Granted) collected u (Collect 0) [] collects (up_to_arrived Granted (Collect 0 ∷ []) u leads) in
    let two_of_three : 2 ≡ 3 = subst (λ (w : SmallWorld). w.placed 1 ≡ 3) last (all 1) in
    absurd (omega (arith, two_of_three))

-- Where the transcript tells another outcome than the log they aren't: the session doesn't find what it was told.
pub told_otherwise : IsLegalOrder (told Refused) events → ⊥
told_otherwise (named, ticketed, (u, leads, ends)) =
    go (up_to_arrived Refused (Collect 0 ∷ Hangup 0 ∷ []) u leads)
  where
    go : Leads (told Refused) (arrived Refused) (Collect 0 ∷ Hangup 0 ∷ []) u → ⊥
    go (v, (n, y, o, at, up, awaits, there, agrees, is), later) =
        let here : 1 ≡ n = cc in
        let its : record { key = command 1; outcome = Some Refused } ≡ y = cc in
        let found : Some Granted ≡ Some o = subst (λ (z : Awaited Key Outcome). good.answer (state_at good 1 2) z.key ≡ Some o) (sym its) (subst (λ m. good.answer (state_at good m ((arrived Refused).placed m)) y.key ≡ Some o) (sym here) there) in
        let told_it : Refused ≡ o = subst (λ (z : Awaited Key Outcome). Agrees (told Refused) z.outcome o) (sym its) agrees in
        absurd (cc)

-- No session of the run has a wrong answer.
pub none_wrong : first_wrong good 0 [] good.scripts ≡ None
none_wrong = refl

-- Where the transcript tells another outcome, the first session has one.
pub first_is_wrong : first_wrong (told Refused) 0 [] (told Refused).scripts ≡ Some 0
first_is_wrong = refl

-- two transcripts name one command
abbrev named_twice : SmallCase
named_twice = case (Tick ∷ []) (Take ∷ Arrives 7 ∷ []) (Some (passes Granted ∷ []) ∷ Some (passes Granted ∷ []) ∷ [])

-- Then no events are a legal order, whichever they are.
pub not_once : (es : List Event) → IsLegalOrder named_twice es → ⊥
not_once es (named, ticketed, rest) =
    let twice : 2 ≡ 1 = named 1 0 Take (command 1) refl refl in
    absurd (omega (arith, twice))

-- And the second session has a wrong answer, since the first names the command before it.
pub second_is_wrong : first_wrong named_twice 0 [] named_twice.scripts ≡ Some 1
second_is_wrong = refl

-- so many inputs of the two logs are placed
abbrev placed : ℕ → ℕ → ℕ → ℕ
placed first second = put (put (λ node. 0) 0 first) 1 second

-- An arrival waits for the tick that sent its message.
pub waits_for_its_tick : can_place good (placed 0 1) 1 ≡ false
waits_for_its_tick = refl

-- The placing isn't stuck then, since the tick can be placed.
pub not_stuck_before_the_tick : is_stuck good (placed 0 1) ≡ false
not_stuck_before_the_tick = refl

-- Behind the tick the arrival can be placed.
pub comes_behind_its_tick : can_place good (placed 1 1) 1 ≡ true
comes_behind_its_tick = refl

-- What a session asks waits for the answer to what it asked before: here no message brings it.
pub waits_for_the_answer : can_place (case (Tick ∷ []) (Take ∷ Free ∷ []) (Some (script Granted) ∷ [])) (placed 1 1) 1 ≡ false
waits_for_the_answer = refl

-- Behind the answer it can be placed.
pub comes_behind_the_answer : can_place good (placed 1 2) 1 ≡ true
comes_behind_the_answer = refl

-- So all inputs of the good run can be placed, one at a time.
pub all_can_be_placed : IsWhole good
all_can_be_placed =
    record {
      placed = put (put (put (put (λ node. 0) 1 1) 0 1) 1 2) 1 3;
      reached = record { order = 1 ∷ 1 ∷ 0 ∷ 1 ∷ []; steps = (put (put (put (λ node. 0) 1 1) 0 1) 1 2, (put (put (λ node. 0) 1 1) 0 1, (put (λ node. 0) 1 1, ((λ node. 0), refl, refl, refl), refl, refl), refl, refl), refl, refl) };
      all = all;
    }
  where
    all : (node : ℕ) → put (put (put (put (λ m. 0) 1 1) 0 1) 1 2) 1 3 node ≡ length (good.logs node)
    all zero = refl
    all (suc zero) = refl
    all (suc (suc node)) = rw (ne_eqb (suc (suc node)) 1 (λ e. absurd (omega (arith, e))), ne_eqb (suc (suc node)) 0 (λ e. absurd (omega (arith, e)))) refl

-- the tick is taken out of its log
abbrev without_tick : SmallCase
without_tick = case [] (Take ∷ Arrives 7 ∷ Free ∷ []) (Some (script Granted) ∷ [])

-- Then the placing is stuck, and the second node has an input left: why an audit gives no events.
pub stuck_at_the_arrival : IsCause without_tick (NoOrder 2)
stuck_at_the_arrival =
    record {
      placed = put (λ node. 0) 1 1;
      reached = record { order = 1 ∷ []; steps = ((λ node. 0), refl, refl, refl) };
      stuck = refl;
      node = 1;
      its = refl;
      left = omega arith;
      least = least;
    }
  where
    least : (node : ℕ) → put (λ m. 0) 1 1 node < length (without_tick.logs node) → 2 ≤ suc node
    least zero less = absurd (omega (arith, less))
    least (suc node) less = omega arith

-- nothing is sent without the tick, and so the arrival never comes
record IsWaiting (w : SmallWorld) : Type 0 where
  nothing_sent : w.sent ≡ []
  waits : w.placed 1 ≤ 1

still_waits : (w w' : SmallWorld) (node : ℕ) (x : Input) (ss : ℕ → Session Input Key Outcome Verb) → IsWaiting w → without_tick.brought x ≡ None → Takes without_tick w node x ss w' → IsWaiting w'
still_waits w w' zero x ss h quiet (e, up, is) = absurd (cc)
still_waits w w' (suc zero) x ss h quiet (e, up, is) =
    go (w.placed 1) refl
  where
    sends_nothing : Some Take ≡ Some x → without_tick.sends (state_at without_tick 1 (w.placed 1)) x ≡ []
    sends_nothing same =
        let it : Take ≡ x = cc in
        subst (λ y. without_tick.sends (state_at without_tick 1 (w.placed 1)) y ≡ []) it refl

    brings_none : without_tick.brought (Arrives 7) ≡ None → ⊥
    brings_none h = absurd (cc)

    brings : Some (Arrives 7) ≡ Some x → ⊥
    brings same =
        let it : Arrives 7 ≡ x = cc in
        brings_none (subst (λ y. without_tick.brought y ≡ None) (sym it) quiet)

    go : (k : ℕ) → w.placed 1 ≡ k → IsWaiting w'
    go zero none =
        subst IsWaiting (sym is)
        (record {
          nothing_sent = ap (λ sent. sent ++ without_tick.sends (state_at without_tick 1 (w.placed 1)) x) h.nothing_sent ∙ sends_nothing (subst (λ k. next without_tick 1 k ≡ Some x) none e);
          waits = omega (arith, none);
        })
    go (suc zero) one = absurd (brings (subst (λ k. next without_tick 1 k ≡ Some x) one e))
    go (suc (suc k)) more = let most = h.waits in absurd (omega (arith, more, most))
still_waits w w' (suc (suc node)) x ss h quiet (e, up, is) = absurd (cc)

waits_on : (w v : SmallWorld) (e : Event) → IsWaiting w → Happens without_tick w e v → IsWaiting v
waits_on w v (Connect i number) h (n, its, ts, script', there, new, up, is) = subst IsWaiting (sym is) (record { nothing_sent = h.nothing_sent; waits = h.waits })
waits_on w v (Line i) h (n, at, inl (l, (ts, is_left, is))) = subst IsWaiting (sym is) (record { nothing_sent = h.nothing_sent; waits = h.waits })
waits_on w v (Line i) h (n, at, inr (l, (x, k, o, ts, is_left, quiet, asks, takes, end))) = still_waits w v n x _ h quiet takes
waits_on w v (Hangup i) h (n, at, (x, k, o, ts, is_left, quiet, asks, takes, end)) = still_waits w v n x _ h quiet takes
waits_on w v (Collect i) h (n, y, o, at, up, awaits, there, agrees, is) = subst IsWaiting (sym is) (record { nothing_sent = h.nothing_sent; waits = h.waits })
waits_on w v (Given number) h (n, x, its, quiet, asks, takes) = still_waits w v n x _ h quiet takes
waits_on w v (Arrive k) h (e, x, sent, brings, asks, takes) = none_sent (subst (λ all. slice_get all k ≡ Some e) h.nothing_sent sent)
  where
    none_sent : None ≡ Some e → IsWaiting v
    none_sent h = absurd (cc)

waits_for_ever : (es : List Event) (w u : SmallWorld) → IsWaiting w → Leads without_tick w es u → IsWaiting u
waits_for_ever [] w u h leads = subst IsWaiting (sym leads) h
waits_for_ever (e ∷ es) w u h (v, now, later) = waits_for_ever es v u (waits_on w v e h now) later

-- So no events are a legal order, whichever they are, as an audit says.
pub no_order_without_it : HasNoOrder without_tick (NoOrder 2)
no_order_without_it es (named, ticketed, (u, leads, (all, said))) =
    let most = (waits_for_ever es (opening without_tick) u (record { nothing_sent = refl; waits = omega arith }) leads).waits in
    let three = all 1 in
    absurd (omega (arith, most, three))

-- With the tick there is one, so that an audit may not say so of any node.
pub an_order_with : (number : ℕ) → HasNoOrder good (NoOrder number) → ⊥
an_order_with number none = none events legal

-- the second node ticks after its crash
abbrev crashed : SmallCase
crashed = case [] (Crashes ∷ Tick ∷ []) []

-- Nothing is placed after a crash.
pub stuck_at_the_crash : is_stuck crashed (placed 0 1) ≡ true
stuck_at_the_crash = refl

-- And the node takes nothing after it.
pub nothing_behind_a_crash : IsLegalOrder crashed (Given 2 ∷ Given 2 ∷ []) → ⊥
nothing_behind_a_crash (named, ticketed, (u, leads, ends)) =
    go (behind crashed numbers_apart (opening crashed) (with_input (opening crashed) 1 []) u (Given 2) (Given 2 ∷ []) (1, Crashes, refl, refl, refl, (refl, refl, refl)) leads)
  where
    go : Leads crashed (with_input (opening crashed) 1 []) (Given 2 ∷ []) u → ⊥
    go (v, (n, x, its, quiet, asks, (e, up, is)), later) =
        let here : n ≡ 1 = omega (arith, its) in
        let down : false ≡ true = subst (λ m. crashed.runs (state_at crashed m ((with_input (opening crashed) 1 []).placed m)) ≡ true) here up in
        absurd (cc)
