-- A placing of all, and no wrong answer: a legal order.
use Rattle.std.proofs.Common.{◌≡◌, ◌⊎◌, ℕ, suc, ◌<◌, ◌≤◌, length, List, [], ◌∷◌, ◌++◌, Bool, true, false, Option, Some, None, refl, sym, ap, ◌∙◌, subst, inl, inr, ⊎_elim, cond, arith, append_assoc}
use Rattle.std.specs.Prelude.{slice_get, is_some, IsSome}
use Rattle.std.specs.List.{list_any}
use Rattle.std.proofs.lemmas.List.{append-nil}
use Rattle.std.proofs.lemmas.Bool.{eqb-true, and_parts, true≢false, cases_Bool, cases_lt}
use Rattle.audit.specs.Case.{Turn, Asks, EndsIfHangup, Case, next, after_next, sends_next, state_at, sent_at, asked, key_in, count_in, keys_among, earlier_among}
use Rattle.audit.specs.Placing.{put, is_answered, all_answered, message_there, turn_there, is_met, can_place, IsPlacing}
use Rattle.audit.specs.declared.event.Event.{Event}
use Rattle.audit.specs.declared.event.Event.TheVariants.{Line, Hangup, Given, Arrive}
use Rattle.audit.specs.Order.{Awaited, awaited_by, Session, World, opening, Runs, Submits, Happens, Leads, NothingAwaited, SessionEnds, IsNamedOnce, AreTicketed, IsLegalOrder}
use Rattle.ballot.specs.Lists.{IsIn}
use Rattle.audit.specs.Laws.{Laws, AllBegin}
use Rattle.audit.specs.Right.{IsRight, HasNoLine, AreRight, NoneWrong}
use Rattle.audit.proofs.Basics.{any_back, in_left, in_right, in_either, all_in, put_each, some_of, IsBelow, put_here}
use Rattle.audit.proofs.Earlier.{keys_both, found, spot, one_place, not_after}
use Rattle.audit.proofs.Walk.{put_apart, awaited_is, the_world, leads_on, StartsAsking, starts_behind, IsSubmitted, Synced, Caught}
use Rattle.audit.proofs.Aligned.{aligned, at_once, right_at, HasNoKey, no_key, nothing_left, nothing_said}
use Rattle.audit.proofs.Sweep.{got_below, IsFit, Ready, sweep, start, same_script}

pub got_in : {A : Type 0} (xs : List A) (x : A) → IsIn x xs → (k : ℕ) × (slice_get xs k ≡ Some x)
got_in [] x h = absurd h
got_in (y ∷ xs) x h = ⊎_elim (λ (e : y ≡ x). (0, ap (λ z. Some z) e)) (λ t. let r = got_in xs x t in (suc r.0, r.1)) h

module _ {S I E K O L : Type 0} (a : Case S I E K O L) (laws : Laws a) (begins : AllBegin a) (at : ℕ → ℕ) (right : NoneWrong a at) where
  abbrev pub used : ℕ → ℕ
  used n = length (a.logs n)

  abbrev pub more : (ℕ → ℕ) → ℕ → ℕ → ℕ
  more q n = put q n (suc (q n))

  record Reached (q : ℕ → ℕ) : Type 0 where
    events : List Event
    sent : List E
    sessions : ℕ → Session I K O L
    leads : Leads a (opening a) events (the_world a q sent sessions)
    all_sent : (n : ℕ) (e : E) → IsIn n a.nodes → IsIn e (sent_at a n (q n)) → IsIn e sent
    fit : (i : ℕ) → IsFit a at q i (sessions i)

  pub asked_key : (s : S) (x : I) (k : K) → asked a s x ≡ Some k → a.key_of s x ≡ Some k
  asked_key s x k =
      go (a.locks x)
    where
      go : (t : Bool) → cond t (a.key_of s x) None ≡ Some k → a.key_of s x ≡ Some k
      go true h = h
      go false h = absurd (cc)

  pub asked_none : (s : S) (x : I) → a.key_of s x ≡ None → asked a s x ≡ None
  asked_none s x h =
      go (a.locks x)
    where
      go : (t : Bool) → cond t (a.key_of s x) None ≡ None
      go true = h
      go false = refl

  pub asked_some : (s : S) (x : I) (k : K) → a.locks x ≡ true → a.key_of s x ≡ Some k → asked a s x ≡ Some k
  asked_some s x k l h = rw l h

  same_some : {A : Type 0} (x y : A) → Some x ≡ Some y → x ≡ y
  same_some x y e = cc

  -- what is submitted after one input more
  pub submitted_more : (q : ℕ → ℕ) (n : ℕ) (k : K) → IsSubmitted a q k → IsSubmitted a (more q n) k
  submitted_more q n k h =
      (h.0, h.1, put_each (λ m v. h.0 < q m → h.0 < v) q n (suc (q n)) (λ l. omega arith) (λ m l. l) (a.home k) h.2, h.3, h.4)

  pub submitted_new : (q : ℕ → ℕ) (n : ℕ) (x : I) (k : K) → next a n (q n) ≡ Some x → IsSubmitted a (more q n) k → IsSubmitted a q k ⊎ (asked a (state_at a n (q n)) x ≡ Some k)
  submitted_new q n x k is (j, y, low, here, asks) =
      put_apart (λ m v. a.home k ≡ m → j < v → IsSubmitted a q k ⊎ (asked a (state_at a n (q n)) x ≡ Some k)) q n (suc (q n))
      (λ e l. ⊎_elim
      (λ (h : j < q n). inl (j, y, subst (λ m. j < q m) (sym e) h, here, asks))
      (λ (h : q n ≤ j).
      let f : j ≡ q n = omega (arith, l, h) in
      let here' : next a n (q n) ≡ Some y = subst (λ i. next a n i ≡ Some y) f (subst (λ m. next a m j ≡ Some y) e here) in
      let asks' : asked a (state_at a n (q n)) y ≡ Some k = subst (λ i. asked a (state_at a n i) y ≡ Some k) f (subst (λ m. asked a (state_at a m j) y ≡ Some k) e asks) in
      inr (subst (λ z. asked a (state_at a n (q n)) z ≡ Some k) (same_some y x (sym here' ∙ is)) asks'))
      (cases_lt j (q n)))
      (λ m ne e l. inl (j, y, subst (λ i. j < q i) (sym e) l, here, asks))
      (a.home k) refl low

  -- an answer that is new is of the node that took the input, and it runs
  pub new_answer : (q : ℕ → ℕ) (n : ℕ) (x : I) (k : K) → next a n (q n) ≡ Some x → is_answered a q k ≡ false → is_answered a (more q n) k ≡ true → a.runs (state_at a (a.home k) (more q n (a.home k))) ≡ true
  new_answer q n x k is old new =
      put_apart (λ m v. a.home k ≡ m → is_some (a.answer (state_at a (a.home k) v) k) ≡ true → a.runs (state_at a (a.home k) v) ≡ true) q n (suc (q n))
      (λ e h. ⊎_elim
      (λ (up : a.runs (state_at a (a.home k) (suc (q n))) ≡ true). up)
      (λ (down : a.runs (state_at a (a.home k) (suc (q n))) ≡ false).
      let after : state_at a (a.home k) (suc (q n)) ≡ a.after (state_at a (a.home k) (q n)) x = ap (after_next a (state_at a (a.home k) (q n))) (subst (λ m. next a m (q n) ≡ Some x) (sym e) is) in
      let down' = subst (λ s. a.runs s ≡ false) after down in
      let same : a.answer (state_at a (a.home k) (suc (q n))) k ≡ a.answer (state_at a (a.home k) (q n)) k = ap (λ s. a.answer s k) after ∙ laws.last (state_at a (a.home k) (q n)) x k down' in
      let old' : is_some (a.answer (state_at a (a.home k) (q n)) k) ≡ false = subst (λ m. is_some (a.answer (state_at a (a.home k) (q m)) k) ≡ false) e old in
      absurd (true≢false (sym h ∙ (ap is_some same ∙ old'))))
      (cases_Bool (a.runs (state_at a (a.home k) (suc (q n))))))
      (λ m ne e h. absurd (true≢false (sym (subst (λ i. is_some (a.answer (state_at a (a.home k) (q i)) k) ≡ true) (sym e) h) ∙ old)))
      (a.home k) refl new

  -- an event at a node, and then all sessions go on
  record Event_of (q : ℕ → ℕ) (n : ℕ) (x : I) (r : Reached q) : Type 0 where
    event : Event
    sessions : ℕ → Session I K O L
    happens : Happens a (the_world a q r.sent r.sessions) event (the_world a (more q n) (r.sent ++ a.sends (state_at a n (q n)) x) sessions)
    synced : (i : ℕ) (ts : List (Turn I K O L)) → slice_get a.scripts i ≡ Some (Some ts) → Synced a (more q n) (at i) ts (sessions i)
    idle : (i : ℕ) (ts : List (Turn I K O L)) → slice_get a.scripts i ≡ Some (Some ts) → (sessions i).awaits ≡ None → StartsAsking a (sessions i).left
    waits : (i : ℕ) (ts : List (Turn I K O L)) (y : Awaited K O) → slice_get a.scripts i ≡ Some (Some ts) → (sessions i).awaits ≡ Some y → is_answered a q y.key ≡ false

  go_on : (q : ℕ → ℕ) (n : ℕ) (x : I) (r : Reached q) → next a n (q n) ≡ Some x → IsBelow (more q n) used → Event_of q n x r → Reached (more q n)
  go_on q n x r is below v =
      let sent' = r.sent ++ a.sends (state_at a n (q n)) x in
      let ready : Ready a at (more q n) v.sessions = record {
        synced = v.synced;
        idle = v.idle;
        up = λ i ts y e w h. subst (λ m. a.runs (state_at a m (more q n m)) ≡ true) ((v.synced i ts e).mine y w) (new_answer q n x y.key is (v.waits i ts y e w) h);
      } in
      let s = sweep a laws at (more q n) sent' v.sessions below ready (length a.scripts) in
      record {
        events = r.events ++ (v.event ∷ s.events);
        sent = sent';
        sessions = s.sessions;
        leads = leads_on a r.events (v.event ∷ s.events) _ _ _ r.leads (the_world a (more q n) sent' v.sessions, v.happens, s.leads);
        all_sent = λ m e here. put_apart (λ k w. k ≡ m → IsIn e (sent_at a k w) → IsIn e sent') q n (suc (q n))
            (λ f h. ⊎_elim
            (λ l. in_left e r.sent _ (r.all_sent n e (subst (λ k. IsIn k a.nodes) (sym f) here) l))
            (λ t. in_right e r.sent _ (subst (λ o. IsIn e (sends_next a (state_at a n (q n)) o)) is t))
            (in_either e (sent_at a n (q n)) (sends_next a (state_at a n (q n)) (next a n (q n))) h))
            (λ k ne f h. in_left e r.sent _ (r.all_sent k e (subst (λ z. IsIn z a.nodes) (sym f) here) h))
            m refl;
        fit = λ i ts e. s.good i (got_below a.scripts i (Some ts) e) ts e;
      }

  -- an input that isn't a Take, Commit or Free
  quietly : (q : ℕ → ℕ) (n : ℕ) (x : I) (r : Reached q) → next a n (q n) ≡ Some x → asked a (state_at a n (q n)) x ≡ None → (e : Event) → Happens a (the_world a q r.sent r.sessions) e (the_world a (more q n) (r.sent ++ a.sends (state_at a n (q n)) x) r.sessions) → Event_of q n x r
  quietly q n x r is asks e happens =
      record {
        event = e;
        sessions = r.sessions;
        happens = happens;
        synced = λ i ts f.
            let s = (r.fit i ts f).0 in
            record {
              node = s.node;
              whole = s.whole;
              past = λ k h. submitted_more q n k (s.past k h);
              ahead = λ k h sub. ⊎_elim (λ o. s.ahead k h o) (λ z. neither k (sym asks ∙ z)) (submitted_new q n x k is sub);
              outcome = s.outcome;
              mine = s.mine;
              quiet = s.quiet;
              held = s.held;
            };
        idle = λ i ts f. (r.fit i ts f).1.idle;
        waits = λ i ts y f. (r.fit i ts f).1.waits y;
      }
    where
      neither : (k : K) → None ≡ Some k → ⊥
      neither k e = absurd (cc)

  pub answered_submitted : (q : ℕ → ℕ) (i : ℕ) (ts : List (Turn I K O L)) → slice_get a.scripts i ≡ Some (Some ts) → (k : K) → IsIn k (key_in a ts) → is_answered a q k ≡ true → IsSubmitted a q k
  answered_submitted q i ts script k in_ts h =
      let v = some_of a (a.answer (state_at a (a.home k) (q (a.home k))) k) h in
      let s = laws.answered (q (a.home k)) k v.0 v.1 in
      let sp = spot a k ts in_ts in
      let ir : IsRight a (at i) sp.input k sp.outcome = (right_at a (at i) sp.before sp.line sp.input k sp.outcome sp.rest (subst (λ us. AreRight a (at i) us) sp.is (right i ts script).1)).0 in
      let m = ir.submit in
      let j : s.0 ≡ m.0 = laws.once (a.home k) s.0 m.0 s.1 sp.input k s.3 m.1 s.4 m.2 in
      let y : s.1 ≡ sp.input = same_some s.1 sp.input (sym s.3 ∙ (ap (next a (a.home k)) j ∙ m.1)) in
      let l : a.locks s.1 ≡ true = subst (λ z. a.locks z ≡ true) (sym y) ir.locks in
      (s.0, s.1, s.2, s.3, asked_some (state_at a (a.home k) s.0) s.1 k l s.4)

  abbrev pub asked_session : ℕ → List (Turn I K O L) → Option L → I → K → Option O → List (Turn I K O L) → Session I K O L
  asked_session n done line x k o rest = record { node = Some n; done = done ++ Asks line x k o ∷ []; left = rest; awaits = awaited_by line k o }

  abbrev pub asked_event : ℕ → Option L → Event
  asked_event i None = Hangup i
  asked_event i (Some l) = Line i

  pub event_happens : (w w' : World I E K O L) (i n : ℕ) (u : Option L) → Submits a w i n u w' → (w.sessions i).node ≡ Some n → Runs a w n → (w.sessions i).awaits ≡ None → Happens a w (asked_event i u) w'
  event_happens w w' i n None h node up none = (n, (node, up, none), h)
  event_happens w w' i n (Some l) h node up none = (n, (node, up, none), inr (l, h))

  asking : (q : ℕ → ℕ) (n : ℕ) (x : I) (r : Reached q) → next a n (q n) ≡ Some x → a.runs (state_at a n (q n)) ≡ true → a.brought x ≡ None → (k : K) → asked a (state_at a n (q n)) x ≡ Some k
      → (i : ℕ) (ts : List (Turn I K O L)) → slice_get a.scripts i ≡ Some (Some ts) → (line : Option L) (o : Option O) (before rest : List (Turn I K O L)) → ts ≡ before ++ Asks line x k o ∷ rest → (r.sessions i).left ≡ Asks line x k o ∷ rest → (r.sessions i).awaits ≡ None
      → IsRight a (at i) x k o → (o ≡ None → HasNoLine a rest) → EndsIfHangup line o rest → a.home k ≡ n → (IsSubmitted a q k → ⊥) → Event_of q n x r
  asking q n x r is up brings k asks i ts script line o before rest ts_is left_is none ir quiet ends home fresh =
      let s = (r.fit i ts script).0 in
      let n_at : at i ≡ n = sym ir.mine ∙ home in
      let node : (r.sessions i).node ≡ Some n = s.node ∙ ap (λ m. Some m) n_at in
      let script' : slice_get a.scripts i ≡ Some (Some (before ++ Asks line x k o ∷ rest)) = script ∙ ap (λ us. Some (Some us)) ts_is in
      let new = asked_session n (r.sessions i).done line x k o rest in
      let w' = the_world a (more q n) (r.sent ++ a.sends (state_at a n (q n)) x) (put r.sessions i new) in
      let submits : (u : Option L) → u ≡ line → Submits a (the_world a q r.sent r.sessions) i n u w' = λ u e. subst (λ z. Submits a (the_world a q r.sent r.sessions) i n z w') (sym e) (x, k, o, rest, left_is, brings, asks, (is, up, refl), ends) in
      let here : IsSubmitted a (more q n) k = subst (λ m. (j : ℕ) × (y : I) × (j < more q n m) × (next a m j ≡ Some y) × (asked a (state_at a m j) y ≡ Some k)) (sym home) (q n, x, subst (λ v. q n < v) (sym (put_here q n (suc (q n)))) (omega arith), is, asks) in
      let in_ts : IsIn k (key_in a ts) = subst (λ us. IsIn k (key_in a us)) (sym ts_is) (subst (λ ks. IsIn k ks) (sym (keys_both a before (Asks line x k o ∷ rest))) (in_right k (key_in a before) _ (inl refl))) in
      let unanswered : is_answered a q k ≡ false = ⊎_elim (λ (t : is_answered a q k ≡ true). absurd (fresh (answered_submitted q i ts script k in_ts t))) (λ f. f) (cases_Bool (is_answered a q k)) in
      let synced : Synced a (more q n) (at i) ts new = record {
        node = ap (λ m. Some m) (sym n_at);
        whole = append_assoc (r.sessions i).done (Asks line x k o ∷ []) rest ∙ (ap (λ us. (r.sessions i).done ++ us) (sym left_is) ∙ s.whole);
        past = λ k' h. ⊎_elim
            (λ l. submitted_more q n k' (s.past k' l))
            (λ (t : IsIn k' (k ∷ [])). ⊎_elim (λ (e : k ≡ k'). subst (IsSubmitted a (more q n)) e here) (λ z. absurd z) t)
            (in_either k' (key_in a (r.sessions i).done) (k ∷ []) (subst (λ ks. IsIn k' ks) (keys_both a (r.sessions i).done (Asks line x k o ∷ [])) h));
        ahead = λ k' h sub. ⊎_elim
            (λ old. s.ahead k' (subst (λ us. IsIn k' (key_in a us)) (sym left_is) (inr h)) old)
            (λ z. not_after a laws k a.scripts i before rest line x o script' ir.once (subst (λ kk. IsIn kk (key_in a rest)) (sym (same_some k k' (sym asks ∙ z))) h))
            (submitted_new q n x k' is sub);
        outcome = λ y v e. subst (λ (z : Awaited K O). z.outcome ≡ Some v → a.answer (state_at a (a.home z.key) (length (a.logs (a.home z.key)))) z.key ≡ Some v) (awaited_is line k o y e) (ir.outcome v);
        mine = λ y e. subst (λ (z : Awaited K O). a.home z.key ≡ at i) (awaited_is line k o y e) ir.mine;
        quiet = λ y e. subst (λ (z : Awaited K O). z.outcome ≡ None → HasNoLine a rest) (awaited_is line k o y e) quiet;
        held = λ y e. subst (λ (z : Awaited K O). IsIn z.key (key_in a ((r.sessions i).done ++ Asks line x k o ∷ []))) (awaited_is line k o y e) (subst (λ ks. IsIn k ks) (sym (keys_both a (r.sessions i).done (Asks line x k o ∷ []))) (in_right k (key_in a (r.sessions i).done) _ (inl refl)));
      } in
      record {
        event = asked_event i line;
        sessions = put r.sessions i new;
        happens = event_happens (the_world a q r.sent r.sessions) w' i n line (submits line refl) node up none;
        synced = put_apart (λ j z. (us : List (Turn I K O L)) → slice_get a.scripts j ≡ Some (Some us) → Synced a (more q n) (at j) us z) r.sessions i new
            (λ us e. subst (λ vs. Synced a (more q n) (at i) vs new) (same_script a (slice_get a.scripts i) ts us script e) synced)
            (λ j ne us e. let z = (r.fit j us e).0 in record {
              node = z.node;
              whole = z.whole;
              past = λ k' h. submitted_more q n k' (z.past k' h);
              ahead = λ k' h sub. ⊎_elim
                  (λ old. z.ahead k' h old)
                  (λ asks'. ne (elsewhere j us e (r.sessions j).done (r.sessions j).left z.whole script' (subst (λ kk. IsIn kk (key_in a (r.sessions j).left)) (sym (same_some k k' (sym asks ∙ asks'))) h) ir.once))
                  (submitted_new q n x k' is sub);
              outcome = z.outcome;
              mine = z.mine;
              quiet = z.quiet;
              held = z.held;
            });
        idle = put_apart (λ j z. (us : List (Turn I K O L)) → slice_get a.scripts j ≡ Some (Some us) → z.awaits ≡ None → StartsAsking a z.left) r.sessions i new (λ us e h. starts_behind a line k o rest ends h) (λ j ne us e. (r.fit j us e).1.idle);
        waits = λ j us y e. put_apart (λ j z. slice_get a.scripts j ≡ Some (Some us) → z.awaits ≡ Some y → is_answered a q y.key ≡ false) r.sessions i new (λ e' h. subst (λ (z : Awaited K O). is_answered a q z.key ≡ false) (awaited_is line k o y h) unanswered) (λ j' ne e' h. (r.fit j' us e').1.waits y h) j e;
      }
    where
      elsewhere : (j : ℕ) (us : List (Turn I K O L)) → slice_get a.scripts j ≡ Some (Some us) → (done left : List (Turn I K O L)) → done ++ left ≡ us → slice_get a.scripts i ≡ Some (Some (before ++ Asks line x k o ∷ rest)) → IsIn k (key_in a left) → count_in a k (keys_among a a.scripts) ≡ 1 → j ≡ i
      elsewhere j us e done left whole script' h one =
          let in_us : IsIn k (key_in a us) = subst (λ vs. IsIn k (key_in a vs)) whole (subst (λ ks. IsIn k ks) (sym (keys_both a done left)) (in_right k (key_in a done) _ h)) in
          let sp = spot a k us in_us in
          one_place a laws k a.scripts j i sp.before sp.rest before rest sp.line line sp.input x sp.outcome o (e ∙ ap (λ vs. Some (Some vs)) sp.is) script' one

  -- the input that can be placed comes as an event
  place_ask : (q : ℕ → ℕ) (n : ℕ) (x : I) (r : Reached q) → next a n (q n) ≡ Some x → a.runs (state_at a n (q n)) ≡ true → a.brought x ≡ None → (k : K) → asked a (state_at a n (q n)) x ≡ Some k → (u : Option (List K)) → earlier_among a k a.scripts ≡ u → all_answered a q u ≡ true → Event_of q n x r
  place_ask q n x r is up brings k asks None e t = absurd (true≢false (sym t))
  place_ask q n x r is up brings k asks (Some ks) e t =
      let f = found a laws k a.scripts ks e in
      let i = f.session in
      let ts = f.script in
      let sp = f.earlier.at in
      let fit = r.fit i ts f.there in
      let s = fit.0 in
      let c = fit.1 in
      let both = right_at a (at i) sp.before sp.line sp.input k sp.outcome sp.rest (subst (λ us. AreRight a (at i) us) sp.is (right i ts f.there).1) in
      let ir = both.0 in
      let key = asked_key (state_at a n (q n)) x k asks in
      let home : a.home k ≡ n = laws.home n (q n) x k is key in
      let m = ir.submit in
      let m1 : next a n m.0 ≡ Some sp.input = subst (λ z. next a z m.0 ≡ Some sp.input) home m.1 in
      let m2 : a.key_of (state_at a n m.0) sp.input ≡ Some k = subst (λ z. a.key_of (state_at a z m.0) sp.input ≡ Some k) home m.2 in
      let j : m.0 ≡ q n = laws.once n m.0 (q n) sp.input x k m1 is m2 key in
      let same : sp.input ≡ x = same_some sp.input x (sym m1 ∙ (ap (next a n) j ∙ is)) in
      let fresh : IsSubmitted a q k → ⊥ = λ sub. contrary sub.0 (q n)
      (subst (λ z. sub.0 < q z) home sub.2)
      (laws.once n sub.0 (q n) sub.1 x k (subst (λ z. next a z sub.0 ≡ Some sub.1) home sub.3) is (asked_key _ sub.1 k (subst (λ z. asked a (state_at a z sub.0) sub.1 ≡ Some k) home sub.4)) key) in
      let whole : (r.sessions i).done ++ (r.sessions i).left ≡ sp.before ++ Asks sp.line sp.input k sp.outcome ∷ sp.rest = s.whole ∙ sp.is in
      let in_before : (k' : K) → IsIn k' (key_in a sp.before) → IsIn k' (key_in a ts) = λ k' h. subst (λ us. IsIn k' (key_in a us)) (sym sp.is) (subst (λ vs. IsIn k' vs) (sym (keys_both a sp.before (Asks sp.line sp.input k sp.outcome ∷ sp.rest))) (in_left k' (key_in a sp.before) _ h)) in
      let answered : (k' : K) → IsIn k' (key_in a sp.before) → is_answered a q k' ≡ true = λ k' h. all_in (λ z. is_answered a q z) ks k' t (subst (λ vs. IsIn k' vs) f.earlier.keys h) in
      let al = aligned a (IsSubmitted a q) sp.line sp.input k sp.outcome (r.sessions i).done (r.sessions i).left sp.before sp.rest whole s.past s.ahead (λ k' h. answered_submitted q i ts f.there k' (in_before k' h) (answered k' h)) fresh in
      let none : (r.sessions i).awaits ≡ None = nothing_awaited (r.sessions i).awaits (λ y e.
      let h : IsIn y.key (key_in a (r.sessions i).done) = s.held y e in
      let h' : IsIn y.key (key_in a sp.before) = subst (λ us. IsIn y.key (key_in a us)) (sym al.before_is) (subst (λ vs. IsIn y.key vs) (sym (keys_both a (r.sessions i).done al.between)) (in_left y.key (key_in a (r.sessions i).done) _ h)) in
      true≢false (sym (answered y.key h') ∙ c.waits y e)) in
      let empty : al.between ≡ [] = at_once a al.between (Asks sp.line sp.input k sp.outcome) sp.rest al.no_keys (subst (StartsAsking a) al.left_is (c.idle none)) in
      let left_is : (r.sessions i).left ≡ Asks sp.line x k sp.outcome ∷ sp.rest = al.left_is ∙ (ap (λ us. us ++ Asks sp.line sp.input k sp.outcome ∷ sp.rest) empty ∙ ap (λ z. Asks sp.line z k sp.outcome ∷ sp.rest) same) in
      asking q n x r is up brings k asks i ts f.there sp.line sp.outcome sp.before sp.rest (sp.is ∙ ap (λ z. sp.before ++ Asks sp.line z k sp.outcome ∷ sp.rest) same) left_is none (subst (λ z. IsRight a (at i) z k sp.outcome) same ir) both.1 both.2 home fresh
    where
      contrary : (i j : ℕ) → i < j → i ≡ j → ⊥
      contrary i j h e = absurd (omega arith)

      nothing_awaited : (o : Option (Awaited K O)) → ((y : Awaited K O) → o ≡ Some y → ⊥) → o ≡ None
      nothing_awaited None h = refl
      nothing_awaited (Some y) h = absurd (h y refl)

  place_free : (q : ℕ → ℕ) (n : ℕ) (x : I) (r : Reached q) → next a n (q n) ≡ Some x → a.runs (state_at a n (q n)) ≡ true → a.brought x ≡ None → (u : Option K) → asked a (state_at a n (q n)) x ≡ u → turn_there a q u ≡ true → Event_of q n x r
  place_free q n x r is up brings None asks t = quietly q n x r is asks (Given (a.number n)) (n, x, refl, brings, asks, (is, up, refl))
  place_free q n x r is up brings (Some k) asks t = place_ask q n x r is up brings k asks (earlier_among a k a.scripts) refl t

  place_one : (q : ℕ → ℕ) (n : ℕ) (x : I) (r : Reached q) → next a n (q n) ≡ Some x → a.runs (state_at a n (q n)) ≡ true → (o : Option E) → a.brought x ≡ o → message_there a q n o ≡ true → turn_there a q (asked a (state_at a n (q n)) x) ≡ true → Event_of q n x r
  place_one q n x r is up None brings m t = place_free q n x r is up brings (asked a (state_at a n (q n)) x) refl t
  place_one q n x r is up (Some e) brings m t =
      let parts = and_parts _ _ m in
      let to : a.to e ≡ n = eqb-true (a.to e) n parts.0 in
      let from = any_back (λ k. list_any (λ e'. a.same_message e' e) (sent_at a k (q k))) a.nodes parts.1 in
      let which = any_back (λ e'. a.same_message e' e) (sent_at a from.0 (q from.0)) from.2 in
      let here : IsIn e (sent_at a from.0 (q from.0)) = subst (λ z. IsIn z (sent_at a from.0 (q from.0))) (laws.same_message which.0 e which.2) which.1 in
      let got = got_in r.sent e (r.all_sent from.0 e from.1 here) in
      let asks : asked a (state_at a n (q n)) x ≡ None = asked_none (state_at a n (q n)) x (laws.apart (state_at a n (q n)) x e brings) in
      quietly q n x r is asks (Arrive got.0)
      (subst (λ z. Happens a (the_world a q r.sent r.sessions) (Arrive got.0) (the_world a (more q z) (r.sent ++ a.sends (state_at a z (q z)) x) r.sessions)) to
      (e, x, got.1, brings, subst (λ z. asked a (state_at a z (q z)) x ≡ None) (sym to) asks, (subst (λ z. next a z (q z) ≡ Some x) (sym to) is, subst (λ z. a.runs (state_at a z (q z)) ≡ true) (sym to) up, refl)))

  step : (q : ℕ → ℕ) (n : ℕ) → Reached q → IsBelow (more q n) used → can_place a q n ≡ true → Reached (more q n)
  step q n r below =
      go (next a n (q n)) refl
    where
      go : (o : Option I) → next a n (q n) ≡ o → is_met a q n o ≡ true → Reached (more q n)
      go None is t = absurd (true≢false (sym t))
      go (Some x) is t =
          let parts = and_parts _ _ t in
          let others = and_parts _ _ parts.1 in
          go_on q n x r is below (place_one q n x r is parts.0 (a.brought x) refl others.0 others.1)

  reached : (ns : List ℕ) (p : ℕ → ℕ) → IsPlacing a ns p → IsBelow p used → Reached p
  reached [] p e below =
      let s = start a begins at right (length a.scripts) in
      subst Reached (sym e) (record {
        events = s.events;
        sent = [];
        sessions = s.sessions;
        leads = s.leads;
        all_sent = λ n m h z. absurd z;
        fit = λ i ts h. s.good i (got_below a.scripts i (Some ts) h) ts h;
      })
  reached (n ∷ ns) p (q, placing, can, e) below =
      let below' : IsBelow (more q n) used = subst (λ z. IsBelow z used) e below in
      let r = reached ns q placing (λ m. less (q m) (more q n m) (used m) (grows q n m) (below' m)) in
      subst Reached (sym e) (step q n r below' can)
    where
      less : (i j k : ℕ) → i ≤ j → j ≤ k → i ≤ k
      less i j k h h' = omega arith

      grows : (q : ℕ → ℕ) (n : ℕ) → (m : ℕ) → q m ≤ more q n m
      grows q n = put_each (λ m v. q m ≤ v) q n (suc (q n)) (omega arith) (λ m. omega arith)

  -- at the end of a placing of all, each session is at its end
  pub session_ends : (p : ℕ → ℕ) → ((n : ℕ) → p n ≡ used n) → (i : ℕ) (ts : List (Turn I K O L)) → slice_get a.scripts i ≡ Some (Some ts) → (s : Session I K O L) → Synced a p (at i) ts s → Caught a p s → (s.done ≡ ts) × (s.left ≡ []) × NothingAwaited a s.awaits × IsSome s.node
  session_ends p all i ts script s z c =
      let in_ts : (k : K) → IsIn k (key_in a s.left) → IsIn k (key_in a ts) = λ k h. subst (λ us. IsIn k (key_in a us)) z.whole (subst (λ ks. IsIn k ks) (sym (keys_both a s.done s.left)) (in_right k (key_in a s.done) _ h)) in
      let keys : HasNoKey a s.left = no_key a s.left (λ k h. z.ahead k h (submitted k (in_ts k h))) in
      let empty : s.left ≡ [] = left_empty keys s.awaits refl in
      (sym (append-nil s.done) ∙ (ap (λ us. s.done ++ us) (sym empty) ∙ z.whole), empty, awaited s.awaits refl, ap is_some z.node)
    where
      submitted : (k : K) → IsIn k (key_in a ts) → IsSubmitted a p k
      submitted k h =
          let sp = spot a k ts h in
          let ir : IsRight a (at i) sp.input k sp.outcome = (right_at a (at i) sp.before sp.line sp.input k sp.outcome sp.rest (subst (λ us. AreRight a (at i) us) sp.is (right i ts script).1)).0 in
          let m = ir.submit in
          (m.0, sp.input, subst (λ v. m.0 < v) (sym (all (a.home k))) (got_below (a.logs (a.home k)) m.0 sp.input m.1), m.1, asked_some (state_at a (a.home k) m.0) sp.input k ir.locks m.2)

      outcome_none : (y : Awaited K O) → s.awaits ≡ Some y → (o : Option O) → y.outcome ≡ o → y.outcome ≡ None
      outcome_none y e None h = h
      outcome_none y e (Some v) h =
          let there = z.outcome y v e h in
          let t : is_answered a p y.key ≡ true = ap is_some (subst (λ k. a.answer (state_at a (a.home y.key) k) y.key ≡ Some v) (sym (all (a.home y.key))) there) in
          absurd (true≢false (sym t ∙ c.waits y e))

      left_empty : HasNoKey a s.left → (o : Option (Awaited K O)) → s.awaits ≡ o → s.left ≡ []
      left_empty keys None e = nothing_left a s.left keys (c.idle e)
      left_empty keys (Some y) e = nothing_said a s.left keys (z.quiet y e (outcome_none y e y.outcome refl))

      awaited : (o : Option (Awaited K O)) → s.awaits ≡ o → NothingAwaited a s.awaits
      awaited None e = subst (NothingAwaited a) (sym e) tt
      awaited (Some y) e = subst (NothingAwaited a) (sym e) (outcome_none y e y.outcome refl)

  -- each Take, Commit and Free was placed at some time
  placed_when : (ns : List ℕ) (p : ℕ → ℕ) → IsPlacing a ns p → (n k : ℕ) → k < p n → (q : ℕ → ℕ) × (can_place a q n ≡ true) × (q n ≡ k)
  placed_when [] p e n k h = absurd (nothing k (subst (λ z. k < z n) e h))
    where
      nothing : (k : ℕ) → k < 0 → ⊥
      nothing k h = absurd (omega arith)
  placed_when (m ∷ ns) p (q, placing, can, e) n k h =
      put_apart (λ j v. n ≡ j → k < v → (q : ℕ → ℕ) × (can_place a q n ≡ true) × (q n ≡ k)) q m (suc (q m))
      (λ f l. ⊎_elim
      (λ (low : k < q m). placed_when ns q placing n k (subst (λ j. k < q j) (sym f) low))
      (λ (high : q m ≤ k). (q, subst (λ j. can_place a q j ≡ true) (sym f) can, ap q f ∙ same k (q m) l high))
      (cases_lt k (q m)))
      (λ j ne f l. placed_when ns q placing n k (subst (λ i. k < q i) (sym f) l))
      n refl (subst (λ z. k < z n) e h)
    where
      same : (k j : ℕ) → k < suc j → j ≤ k → j ≡ k
      same k j l h = omega arith

  pub named_once : (ns : List ℕ) (p : ℕ → ℕ) → IsPlacing a ns p → ((n : ℕ) → p n ≡ used n) → IsNamedOnce a
  named_once ns p placing all n k x key is asks =
      let w = placed_when ns p placing n k (subst (λ v. k < v) (sym (all n)) (got_below (a.logs n) k x is)) in
      let q = w.0 in
      let is' : next a n (q n) ≡ Some x = subst (λ j. next a n j ≡ Some x) (sym w.2) is in
      let met : is_met a q n (Some x) ≡ true = sym (ap (is_met a q n) is') ∙ w.1 in
      let parts = and_parts _ _ met in
      let turn : turn_there a q (asked a (state_at a n (q n)) x) ≡ true = (and_parts _ _ parts.1).1 in
      let turn' : all_answered a q (earlier_among a key a.scripts) ≡ true = sym (ap (turn_there a q) (subst (λ j. asked a (state_at a n j) x ≡ Some key) (sym w.2) asks)) ∙ turn in
      go q (earlier_among a key a.scripts) refl turn'
    where
      go : (q : ℕ → ℕ) (u : Option (List K)) → earlier_among a key a.scripts ≡ u → all_answered a q u ≡ true → count_in a key (keys_among a a.scripts) ≡ 1
      go q None e t = absurd (true≢false (sym t))
      go q (Some ks) e t =
          let f = found a laws key a.scripts ks e in
          let sp = f.earlier.at in
          (right_at a (at f.session) sp.before sp.line sp.input key sp.outcome sp.rest (subst (λ us. AreRight a (at f.session) us) sp.is (right f.session f.script f.there).1)).0.once

  pub legal : AreTicketed a → (ns : List ℕ) (p : ℕ → ℕ) → IsPlacing a ns p → ((n : ℕ) → p n ≡ length (a.logs n)) → (es : List Event) × IsLegalOrder a es
  legal ticketed ns p placing all =
      let r = reached ns p placing (λ n. below (p n) (used n) (all n)) in
      (r.events, (named_once ns p placing all, ticketed, (the_world a p r.sent r.sessions, r.leads, (all, λ i. ends r i (slice_get a.scripts i) refl))))
    where
      below : (i j : ℕ) → i ≡ j → i ≤ j
      below i j e = omega arith

      ends : (r : Reached p) (i : ℕ) (u : Option (Option (List (Turn I K O L)))) → slice_get a.scripts i ≡ u → SessionEnds a u (r.sessions i)
      ends r i None e = tt
      ends r i (Some None) e = tt
      ends r i (Some (Some ts)) e = let f = r.fit i ts e in session_ends p all i ts e (r.sessions i) f.0 f.1
