-- Events of one session: it collects an answer and says lines.
use Rattle.std.proofs.Common.{◌≡◌, ◌⊎◌, ℕ, ◌<◌, length, List, [], ◌∷◌, ◌++◌, Bool, true, false, Option, Some, None, refl, sym, ap, ◌∙◌, subst, inl, inr, ⊎_elim, cond, append_assoc}
use Rattle.std.specs.Prelude.{◌==◌}
use Rattle.std.proofs.lemmas.List.{append-nil}
use Rattle.std.proofs.lemmas.Bool.{eq-eqb, ne_eqb, cases_Bool, cases_eq}
use Rattle.audit.specs.Case.{Turn, Plain, Asks, EndsIfHangup, Case, next, state_at, asked, key_in}
use Rattle.audit.specs.Placing.{put, is_answered}
use Rattle.audit.specs.declared.event.Event.{Event}
use Rattle.audit.specs.declared.event.Event.TheVariants.{Line, Collect}
use Rattle.audit.specs.Events.{kinds, said, unsaid}
use Rattle.audit.specs.Order.{Awaited, awaited_by, Session, World, Agrees, Happens, Leads}
use Rattle.ballot.specs.Lists.{IsIn}
use Rattle.audit.specs.Laws.{Laws}
use Rattle.audit.specs.Right.{HasNoLine}
use Rattle.audit.proofs.Basics.{put_each, answer_more, some_of, IsBelow}
use Rattle.audit.proofs.Earlier.{keys_both}

pub put_at : {A : Type 0} (f : ℕ → A) (n : ℕ) (x : A) → put f n x n ≡ x
put_at f n x = rw (eq-eqb n n refl) refl

pub put_twice : {A : Type 0} (f : ℕ → A) (n : ℕ) (x y : A) → put (put f n x) n y ≡ put f n y
put_twice {A} f n x y = λ i m. go (m == n) m i
  where
    go : (t : Bool) (m : ℕ) → cond t y (cond t x (f m)) ≡ cond t y (f m)
    go true m = refl
    go false m = refl

pub put_apart : {A : Type 0} (P : ℕ → A → Type 0) (f : ℕ → A) (n : ℕ) (x : A) → P n x → ((m : ℕ) → (m ≡ n → ⊥) → P m (f m)) → (m : ℕ) → P m (put f n x m)
put_apart P f n x new old m =
    ⊎_elim
    (λ (e : m ≡ n). subst (λ k. P k (put f n x k)) (sym e) (subst (P n) (sym (put_at f n x)) new))
    (λ (ne : m ≡ n → ⊥). rw (ne_eqb m n ne) (old m ne))
    (cases_eq m n)

pub put_itself : {A : Type 0} (f : ℕ → A) (n : ℕ) → put f n (f n) ≡ f
put_itself f n = λ i m. put_each (λ k y. y ≡ f k) f n (f n) refl (λ k. refl) m i

-- what a session awaits that has asked
pub awaited_is : {K O L : Type 0} (line : Option L) (k : K) (o : Option O) (y : Awaited K O) → awaited_by line k o ≡ Some y → record { key = k; outcome = o } ≡ y
awaited_is (Some l) k o y e = cc
awaited_is None k o y e = absurd (cc)

module _ {S I E K O L : Type 0} (a : Case S I E K O L) where
  abbrev pub the_world : (ℕ → ℕ) → List E → (ℕ → Session I K O L) → World I E K O L
  the_world q sent ss = record { placed = q; sent = sent; sessions = ss }

  abbrev pub the_session : ℕ → List (Turn I K O L) → List (Turn I K O L) → Session I K O L
  the_session n done left = record { node = Some n; done = done; left = left; awaits = None }

  pub leads_on : (es es' : List Event) (w v u : World I E K O L) → Leads a w es v → Leads a v es' u → Leads a w (es ++ es') u
  leads_on [] es' w v u h k = subst (λ (z : World I E K O L). Leads a z es' u) h k
  leads_on (e ∷ es) es' w v u (z, now, later) k = (z, now, leads_on es es' z v u later k)

  abbrev pub StartsAsking : List (Turn I K O L) → Type 0
  StartsAsking [] = Unit {0}
  StartsAsking (Plain l ∷ ts) = ⊥
  StartsAsking (Asks l x k o ∷ ts) = Unit {0}

  -- after a hangup nothing is left to say
  pub starts_behind : (line : Option L) (k : K) (o : Option O) (ts : List (Turn I K O L)) → EndsIfHangup line o ts → awaited_by line k o ≡ None → StartsAsking ts
  starts_behind (Some l) k o ts h e = absurd (cc)
  starts_behind None k o ts h e = subst StartsAsking (sym h.1) tt

  -- what came of saying lines
  pub record Said (q : ℕ → ℕ) (sent : List E) (f : ℕ → Session I K O L) (i n : ℕ) (done left : List (Turn I K O L)) : Type 0 where
    pub events : List Event
    pub done_then : List (Turn I K O L)
    pub left_then : List (Turn I K O L)
    pub leads : Leads a (the_world q sent (put f i (the_session n done left))) events (the_world q sent (put f i (the_session n done_then left_then)))
    pub whole : done_then ++ left_then ≡ done ++ left
    pub keys_done : key_in a done_then ≡ key_in a done
    pub keys_left : key_in a left_then ≡ key_in a left
    pub asks : StartsAsking left_then
    pub events_are : events ≡ said i (kinds left)
    pub kinds_are : kinds left_then ≡ unsaid (kinds left)

  says_line : (q : ℕ → ℕ) (sent : List E) (f : ℕ → Session I K O L) (i n : ℕ) → a.runs (state_at a n (q n)) ≡ true → (done ts : List (Turn I K O L)) (l : L) → Happens a (the_world q sent (put f i (the_session n done (Plain l ∷ ts)))) (Line i) (the_world q sent (put f i (the_session n (done ++ Plain l ∷ []) ts)))
  says_line q sent f i n up done ts l =
      let s = the_session n done (Plain l ∷ ts) in
      let e : put f i s i ≡ s = put_at f i s in
      let first = ap (λ (z : Session I K O L). the_world q sent (put (put f i s) i (the_session n (z.done ++ Plain l ∷ []) ts))) e in
      let second = ap (λ ss. the_world q sent ss) (put_twice f i s (the_session n (done ++ Plain l ∷ []) ts)) in
      (n, (ap (λ (z : Session I K O L). z.node) e, up, ap (λ (z : Session I K O L). z.awaits) e), inl (l, (ts, ap (λ (z : Session I K O L). z.left) e, sym (first ∙ second))))

  pub say : (q : ℕ → ℕ) (sent : List E) (f : ℕ → Session I K O L) (i n : ℕ) → a.runs (state_at a n (q n)) ≡ true → (left done : List (Turn I K O L)) → Said q sent f i n done left
  say q sent f i n up [] done = record { events = []; done_then = done; left_then = []; leads = refl; whole = refl; keys_done = refl; keys_left = refl; asks = tt; events_are = refl; kinds_are = refl }
  say q sent f i n up (Plain l ∷ ts) done =
      let r = say q sent f i n up ts (done ++ Plain l ∷ []) in
      record {
        events = Line i ∷ r.events;
        done_then = r.done_then;
        left_then = r.left_then;
        leads = (the_world q sent (put f i (the_session n (done ++ Plain l ∷ []) ts)), says_line q sent f i n up done ts l, r.leads);
        whole = r.whole ∙ append_assoc done (Plain l ∷ []) ts;
        keys_done = r.keys_done ∙ (keys_both a done (Plain l ∷ []) ∙ append-nil (key_in a done));
        keys_left = r.keys_left;
        asks = r.asks;
        events_are = ap (λ es. Line i ∷ es) r.events_are;
        kinds_are = r.kinds_are;
      }
  say q sent f i n up (Asks None x k o ∷ ts) done = record { events = []; done_then = done; left_then = Asks None x k o ∷ ts; leads = refl; whole = refl; keys_done = refl; keys_left = refl; asks = tt; events_are = refl; kinds_are = refl }
  say q sent f i n up (Asks (Some l) x k o ∷ ts) done = record { events = []; done_then = done; left_then = Asks (Some l) x k o ∷ ts; leads = refl; whole = refl; keys_done = refl; keys_left = refl; asks = tt; events_are = refl; kinds_are = refl }

  -- the Submit of a key is placed
  abbrev pub IsSubmitted : (ℕ → ℕ) → K → Type 0
  IsSubmitted q k = (j : ℕ) × (x : I) × (j < q (a.home k)) × (next a (a.home k) j ≡ Some x) × (asked a (state_at a (a.home k) j) x ≡ Some k)

  -- a session keeps step with a placing
  pub record Synced (q : ℕ → ℕ) (n : ℕ) (ts : List (Turn I K O L)) (s : Session I K O L) : Type 0 where
    pub node : s.node ≡ Some n
    pub whole : s.done ++ s.left ≡ ts
    pub past : (k : K) → IsIn k (key_in a s.done) → IsSubmitted q k
    pub ahead : (k : K) → IsIn k (key_in a s.left) → IsSubmitted q k → ⊥
    pub outcome : (y : Awaited K O) (v : O) → s.awaits ≡ Some y → y.outcome ≡ Some v → a.answer (state_at a (a.home y.key) (length (a.logs (a.home y.key)))) y.key ≡ Some v
    pub mine : (y : Awaited K O) → s.awaits ≡ Some y → a.home y.key ≡ n
    pub quiet : (y : Awaited K O) → s.awaits ≡ Some y → y.outcome ≡ None → HasNoLine a s.left
    pub held : (y : Awaited K O) → s.awaits ≡ Some y → IsIn y.key (key_in a s.done)

  pub record Caught (q : ℕ → ℕ) (s : Session I K O L) : Type 0 where
    pub idle : s.awaits ≡ None → StartsAsking s.left
    pub waits : (y : Awaited K O) → s.awaits ≡ Some y → is_answered a q y.key ≡ false

  pub record CaughtUp (q : ℕ → ℕ) (sent : List E) (f : ℕ → Session I K O L) (i n : ℕ) (ts : List (Turn I K O L)) : Type 0 where
    pub events : List Event
    pub session : Session I K O L
    pub leads : Leads a (the_world q sent f) events (the_world q sent (put f i session))
    pub synced : Synced q n ts session
    pub caught : Caught q session

  -- a session that says lines keeps in step
  pub said_synced : (q : ℕ → ℕ) (sent : List E) (f : ℕ → Session I K O L) (i n : ℕ) (done left ts : List (Turn I K O L)) (r : Said q sent f i n done left) → (done ++ left ≡ ts) → ((k : K) → IsIn k (key_in a done) → IsSubmitted q k) → ((k : K) → IsIn k (key_in a left) → IsSubmitted q k → ⊥) → Synced q n ts (the_session n r.done_then r.left_then)
  said_synced q sent f i n done left ts r whole past ahead =
      record {
        node = refl;
        whole = r.whole ∙ whole;
        past = λ k h. past k (subst (λ ks. IsIn k ks) r.keys_done h);
        ahead = λ k h. ahead k (subst (λ ks. IsIn k ks) r.keys_left h);
        outcome = λ y v e f'. absurd (cc);
        mine = λ y e. absurd (cc);
        quiet = λ y e f'. absurd (cc);
        held = λ y e. absurd (cc);
      }

  catch_answered : Laws a → (q : ℕ → ℕ) (sent : List E) (f : ℕ → Session I K O L) (i n : ℕ) (ts : List (Turn I K O L)) → IsBelow q (λ m. length (a.logs m)) → Synced q n ts (f i) → (y : Awaited K O) → (f i).awaits ≡ Some y → is_answered a q y.key ≡ true → a.runs (state_at a n (q n)) ≡ true → CaughtUp q sent f i n ts
  catch_answered laws q sent f i n ts below s y awaits answered up =
      let o = some_of a (a.answer (state_at a (a.home y.key) (q (a.home y.key))) y.key) answered in
      let here : a.answer (state_at a n (q n)) y.key ≡ Some o.0 = subst (λ m. a.answer (state_at a m (q m)) y.key ≡ Some o.0) (s.mine y awaits) o.1 in
      let later : a.answer (state_at a (a.home y.key) (length (a.logs (a.home y.key)))) y.key ≡ Some o.0 = answer_more a laws (a.home y.key) y.key o.0 (q (a.home y.key)) _ (below (a.home y.key)) o.1 in
      let agrees : Agrees a y.outcome o.0 = agree y.outcome o.0 _ later (λ v e. s.outcome y v awaits e) in
      let r = say q sent f i n up (f i).left (f i).done in
      record {
        events = Collect i ∷ r.events;
        session = the_session n r.done_then r.left_then;
        leads = (the_world q sent (put f i (the_session n (f i).done (f i).left)), (n, y, o.0, s.node, up, awaits, here, agrees, refl), r.leads);
        synced = said_synced q sent f i n (f i).done (f i).left ts r s.whole s.past s.ahead;
        caught = record { idle = λ e. r.asks; waits = λ z e. absurd (cc) };
      }
    where
      agree : (u : Option O) (o : O) (found : Option O) → found ≡ Some o → ((v : O) → u ≡ Some v → found ≡ Some v) → Agrees a u o
      agree None o found e h = tt
      agree (Some v) o found e h =
          let f : Some v ≡ Some o = sym (h v refl) ∙ e in
          cc

  pub stays_as_is : (q : ℕ → ℕ) (sent : List E) (f : ℕ → Session I K O L) (i n : ℕ) (ts : List (Turn I K O L)) → Synced q n ts (f i) → Caught q (f i) → CaughtUp q sent f i n ts
  stays_as_is q sent f i n ts s c = record { events = []; session = f i; leads = ap (λ ss. the_world q sent ss) (put_itself f i); synced = s; caught = c }

  pub catch : Laws a → (q : ℕ → ℕ) (sent : List E) (f : ℕ → Session I K O L) (i n : ℕ) (ts : List (Turn I K O L)) → IsBelow q (λ m. length (a.logs m)) → Synced q n ts (f i) → ((f i).awaits ≡ None → StartsAsking (f i).left) → ((y : Awaited K O) → (f i).awaits ≡ Some y → is_answered a q y.key ≡ true → a.runs (state_at a n (q n)) ≡ true) → CaughtUp q sent f i n ts
  catch laws q sent f i n ts below s idle up =
      go (f i).awaits refl
    where
      tried : (y : Awaited K O) → (f i).awaits ≡ Some y → (is_answered a q y.key ≡ true) ⊎ (is_answered a q y.key ≡ false) → CaughtUp q sent f i n ts
      tried y e (inl t) = catch_answered laws q sent f i n ts below s y e t (up y e t)
      tried y e (inr t) = stays_as_is q sent f i n ts s (record { idle = idle; waits = λ z e'. subst (λ (u : Awaited K O). is_answered a q u.key ≡ false) (same y z (sym e ∙ e')) t })
        where
          same : (y z : Awaited K O) → Some y ≡ Some z → y ≡ z
          same y z e = cc

      go : (o : Option (Awaited K O)) → (f i).awaits ≡ o → CaughtUp q sent f i n ts
      go None e = stays_as_is q sent f i n ts s (record { idle = idle; waits = λ z e'. absurd (neither z (sym e ∙ e')) })
        where
          neither : (z : Awaited K O) → None ≡ Some z → ⊥
          neither z e = absurd (cc)
      go (Some y) e = tried y e (cases_Bool (is_answered a q y.key))
