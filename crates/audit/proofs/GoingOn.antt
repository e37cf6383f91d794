-- Sessions that go on as far as they can, as it is written down: one just before it asks again, those of a node before
-- it crashes, and all at the end.
use Rattle.std.proofs.Common.{◌≡◌, ◌⊎◌, ℕ, zero, suc, ◌<◌, ◌≤◌, length, List, [], ◌∷◌, ◌++◌, Bool, true, false, Option, Some, None, refl, sym, ap, ◌∙◌, subst, inl, inr, ⊎_elim, cond, arith}
use Rattle.std.specs.Prelude.{slice_get, is_some}
use Rattle.std.proofs.lemmas.List.{append-nil}
use Rattle.std.proofs.lemmas.Bool.{true≢false, cases_eq}
use Rattle.audit.specs.Case.{Turn, Plain, Asks, Case, state_at, key_in}
use Rattle.audit.specs.Placing.{put, is_answered}
use Rattle.audit.specs.declared.event.Event.{Event}
use Rattle.audit.specs.declared.event.Event.TheVariants.{Collect}
use Rattle.audit.specs.declared.kind.Kind.{Kind}
use Rattle.audit.specs.Events.{Talk, kinds, said, unsaid, goes_on, gone_on, all_go_on, all_gone_on}
use Rattle.audit.specs.Order.{Awaited, Session, Agrees, Leads}
use Rattle.audit.specs.Laws.{Laws}
use Rattle.audit.proofs.Basics.{answer_more, some_of, IsBelow}
use Rattle.audit.specs.Written.{last_of}
use Rattle.audit.proofs.Walk.{put_apart, put_itself, the_world, the_session, leads_on, StartsAsking, Synced, Caught, say, said_synced}
use Rattle.audit.proofs.Sweep.{same_script}

pub same_some : {A : Type 0} (x y : A) → Some x ≡ Some y → x ≡ y
same_some x y e = cc

module _ {S I E K O L : Type 0} (a : Case S I E K O L) (laws : Laws a) (at : ℕ → ℕ) where
  abbrev used : ℕ → ℕ
  used n = length (a.logs n)

  abbrev pub IsLast : Session I K O L → Type 0
  IsLast s = (y : Awaited K O) → s.awaits ≡ Some y → last_of (key_in a s.done) ≡ Some y.key

  pub record IsTold (t : Talk) (s : Session I K O L) : Type 0 where
    pub left : kinds s.left ≡ t.left
    pub asked : is_some s.awaits ≡ t.asked

  -- a session that is at its script, and is written down so
  pub record Fits (q : ℕ → ℕ) (i : ℕ) (ts : List (Turn I K O L)) (t : Talk) (s : Session I K O L) : Type 0 where
    pub synced : Synced a q (at i) ts s
    pub last : IsLast s
    pub told : IsTold t s

  abbrev pub Up : (ℕ → ℕ) → ℕ → Type 0
  Up q i = a.runs (state_at a (at i) (q (at i))) ≡ true

  pub record Gone (q : ℕ → ℕ) (sent : List E) (f : ℕ → Session I K O L) (i : ℕ) (ts : List (Turn I K O L)) (b : Bool) (t : Talk) : Type 0 where
    pub session : Session I K O L
    pub leads : Leads a (the_world a q sent f) (goes_on i b t) (the_world a q sent (put f i session))
    pub fits : Fits q i ts (gone_on b t) session
    pub caught : Caught a q session

  starts_said : (i : ℕ) (ts : List (Turn I K O L)) → StartsAsking a ts → (said i (kinds ts) ≡ []) × (unsaid (kinds ts) ≡ kinds ts)
  starts_said i [] h = (refl, refl)
  starts_said i (Plain l ∷ ts) h = absurd h
  starts_said i (Asks None x k o ∷ ts) h = (refl, refl)
  starts_said i (Asks (Some l) x k o ∷ ts) h = (refl, refl)

  -- it awaits an answer that isn't there
  gone_waiting : (q : ℕ → ℕ) (sent : List E) (f : ℕ → Session I K O L) (i : ℕ) (ts : List (Turn I K O L)) (ks : List Kind) (y : Awaited K O) → Synced a q (at i) ts (f i) → IsLast (f i) → kinds (f i).left ≡ ks → (f i).awaits ≡ Some y → is_answered a q y.key ≡ false
      → Gone q sent f i ts false (record { left = ks; asked = true })
  gone_waiting q sent f i ts ks y s l left awaits answered =
      record {
        session = f i;
        leads = ap (λ ss. the_world a q sent ss) (put_itself f i);
        fits = record { synced = s; last = l; told = record { left = left; asked = ap is_some awaits } };
        caught = record {
          idle = λ e. absurd (neither y (sym e ∙ awaits));
          waits = λ z e. subst (λ (u : Awaited K O). is_answered a q u.key ≡ false) (same_some y z (sym awaits ∙ e)) answered;
        };
      }
    where
      neither : (y : Awaited K O) → None ≡ Some y → ⊥
      neither y e = absurd (cc)

  -- it awaits an answer that is there
  gone_answered : (q : ℕ → ℕ) (sent : List E) (f : ℕ → Session I K O L) (i : ℕ) (ts : List (Turn I K O L)) (ks : List Kind) (y : Awaited K O) → IsBelow q used → Synced a q (at i) ts (f i) → kinds (f i).left ≡ ks → (f i).awaits ≡ Some y → is_answered a q y.key ≡ true → Up q i
      → Gone q sent f i ts true (record { left = ks; asked = true })
  gone_answered q sent f i ts ks y below s left awaits answered up =
      let o = some_of a (a.answer (state_at a (a.home y.key) (q (a.home y.key))) y.key) answered in
      let here : a.answer (state_at a (at i) (q (at i))) y.key ≡ Some o.0 = subst (λ m. a.answer (state_at a m (q m)) y.key ≡ Some o.0) (s.mine y awaits) o.1 in
      let later : a.answer (state_at a (a.home y.key) (length (a.logs (a.home y.key)))) y.key ≡ Some o.0 = answer_more a laws (a.home y.key) y.key o.0 (q (a.home y.key)) _ (below (a.home y.key)) o.1 in
      let agrees : Agrees a y.outcome o.0 = agree y.outcome o.0 _ later (λ v e. s.outcome y v awaits e) in
      let r = say a q sent f i (at i) up (f i).left (f i).done in
      let events_are : Collect i ∷ r.events ≡ Collect i ∷ said i ks = ap (λ es. Collect i ∷ es) (r.events_are ∙ ap (said i) left) in
      record {
        session = the_session a (at i) r.done_then r.left_then;
        leads = subst (λ es. Leads a (the_world a q sent f) es (the_world a q sent (put f i (the_session a (at i) r.done_then r.left_then)))) events_are
            (the_world a q sent (put f i (the_session a (at i) (f i).done (f i).left)), (at i, y, o.0, s.node, up, awaits, here, agrees, refl), r.leads);
        fits = record {
          synced = said_synced a q sent f i (at i) (f i).done (f i).left ts r s.whole s.past s.ahead;
          last = λ z e. absurd (cc);
          told = record { left = r.kinds_are ∙ ap unsaid left; asked = refl };
        };
        caught = record { idle = λ e. r.asks; waits = λ z e. absurd (cc) };
      }
    where
      agree : (u : Option O) (o : O) (found : Option O) → found ≡ Some o → ((v : O) → u ≡ Some v → found ≡ Some v) → Agrees a u o
      agree None o found e h = tt
      agree (Some v) o found e h =
          let f : Some v ≡ Some o = sym (h v refl) ∙ e in
          cc

  -- it awaits nothing, and its node runs
  gone_idle : (q : ℕ → ℕ) (sent : List E) (f : ℕ → Session I K O L) (i : ℕ) (ts : List (Turn I K O L)) (b : Bool) (ks : List Kind) → Synced a q (at i) ts (f i) → kinds (f i).left ≡ ks → (f i).awaits ≡ None → Up q i
      → Gone q sent f i ts b (record { left = ks; asked = false })
  gone_idle q sent f i ts b ks s left awaits up =
      let r = say a q sent f i (at i) up (f i).left (f i).done in
      let itself : f i ≡ the_session a (at i) (f i).done (f i).left = λ j. record { node = s.node j; done = (f i).done; left = (f i).left; awaits = awaits j } in
      let whole : put f i (the_session a (at i) (f i).done (f i).left) ≡ f = ap (put f i) (sym itself) ∙ put_itself f i in
      let events_are : r.events ≡ said i ks = r.events_are ∙ ap (said i) left in
      record {
        session = the_session a (at i) r.done_then r.left_then;
        leads = subst (λ g. Leads a (the_world a q sent g) (said i ks) (the_world a q sent (put f i (the_session a (at i) r.done_then r.left_then)))) whole
            (subst (λ es. Leads a (the_world a q sent (put f i (the_session a (at i) (f i).done (f i).left))) es (the_world a q sent (put f i (the_session a (at i) r.done_then r.left_then)))) events_are r.leads);
        fits = record {
          synced = said_synced a q sent f i (at i) (f i).done (f i).left ts r s.whole s.past s.ahead;
          last = λ z e. absurd (cc);
          told = record { left = r.kinds_are ∙ ap unsaid left; asked = refl };
        };
        caught = record { idle = λ e. r.asks; waits = λ z e. absurd (cc) };
      }

  -- its node has crashed, and it has gone as far as it could before
  gone_caught : (q : ℕ → ℕ) (sent : List E) (f : ℕ → Session I K O L) (i : ℕ) (ts : List (Turn I K O L)) (b : Bool) (ks : List Kind) → Synced a q (at i) ts (f i) → kinds (f i).left ≡ ks → (f i).awaits ≡ None → Caught a q (f i)
      → Gone q sent f i ts b (record { left = ks; asked = false })
  gone_caught q sent f i ts b ks s left awaits c =
      let starts = starts_said i (f i).left (c.idle awaits) in
      let nothing : said i ks ≡ [] = ap (said i) (sym left) ∙ starts.0 in
      let as_is : kinds (f i).left ≡ unsaid ks = sym starts.1 ∙ ap unsaid left in
      record {
        session = f i;
        leads = subst (λ es. Leads a (the_world a q sent f) es (the_world a q sent (put f i (f i)))) (sym nothing) (ap (λ ss. the_world a q sent ss) (put_itself f i));
        fits = record { synced = s; last = λ z e. absurd (neither z (sym awaits ∙ e)); told = record { left = as_is; asked = ap is_some awaits } };
        caught = c;
      }
    where
      neither : (y : Awaited K O) → None ≡ Some y → ⊥
      neither y e = absurd (cc)

  pub gone : (q : ℕ → ℕ) (sent : List E) (f : ℕ → Session I K O L) (i : ℕ) (ts : List (Turn I K O L)) (b : Bool) (t : Talk) → IsBelow q used → Fits q i ts t (f i) → ((y : Awaited K O) → (f i).awaits ≡ Some y → is_answered a q y.key ≡ b) → Up q i ⊎ Caught a q (f i)
      → Gone q sent f i ts b t
  gone q sent f i ts b t below h there up =
      go (f i).awaits refl t.asked (sym h.told.asked) b there up
    where
      asked_is : (u : Option (Awaited K O)) → (f i).awaits ≡ u → (k : Bool) → k ≡ is_some (f i).awaits → k ≡ is_some u
      asked_is u e k h = h ∙ ap is_some e

      go : (u : Option (Awaited K O)) → (f i).awaits ≡ u → (k : Bool) → k ≡ is_some (f i).awaits → (b : Bool) → ((y : Awaited K O) → (f i).awaits ≡ Some y → is_answered a q y.key ≡ b) → Up q i ⊎ Caught a q (f i) → Gone q sent f i ts b (record { left = t.left; asked = k })
      go None e true k b there up = absurd (true≢false (asked_is None e true k))
      go None e false k b there (inl up) = gone_idle q sent f i ts b t.left h.synced h.told.left e up
      go None e false k b there (inr c) = gone_caught q sent f i ts b t.left h.synced h.told.left e c
      go (Some y) e false k b there up = absurd (true≢false (sym (asked_is (Some y) e false k)))
      go (Some y) e true k false there up = gone_waiting q sent f i ts t.left y h.synced h.last h.told.left e (there y e)
      go (Some y) e true k true there (inl up) = gone_answered q sent f i ts t.left y below h.synced h.told.left e (there y e) up
      go (Some y) e true k true there (inr c) = absurd (true≢false (sym (there y e) ∙ c.waits y e))

  -- the first m sessions, those that pass a test
  pub record AllGone (q : ℕ → ℕ) (sent : List E) (f : ℕ → Session I K O L) (test answered : ℕ → Bool) (talks : ℕ → Talk) (m : ℕ) : Type 0 where
    pub sessions : ℕ → Session I K O L
    pub leads : Leads a (the_world a q sent f) (all_go_on test answered talks m) (the_world a q sent sessions)
    pub fits : (i : ℕ) → i < m → (ts : List (Turn I K O L)) → slice_get a.scripts i ≡ Some (Some ts) → Fits q i ts (all_gone_on test answered talks i) (sessions i)
    pub caught : (i : ℕ) → i < m → (ts : List (Turn I K O L)) → slice_get a.scripts i ≡ Some (Some ts) → test i ≡ true → Caught a q (sessions i)
    pub same : (i : ℕ) → m ≤ i → sessions i ≡ f i
    pub untested : (i : ℕ) → test i ≡ false → sessions i ≡ f i

  pub record CanGo (q : ℕ → ℕ) (f : ℕ → Session I K O L) (test answered : ℕ → Bool) (talks : ℕ → Talk) : Type 0 where
    pub fits : (i : ℕ) (ts : List (Turn I K O L)) → slice_get a.scripts i ≡ Some (Some ts) → Fits q i ts (talks i) (f i)
    pub there : (i : ℕ) (ts : List (Turn I K O L)) (y : Awaited K O) → slice_get a.scripts i ≡ Some (Some ts) → test i ≡ true → (f i).awaits ≡ Some y → is_answered a q y.key ≡ answered i
    pub up : (i : ℕ) (ts : List (Turn I K O L)) → slice_get a.scripts i ≡ Some (Some ts) → test i ≡ true → Up q i ⊎ Caught a q (f i)
    pub silent : (i : ℕ) → ((ts : List (Turn I K O L)) → slice_get a.scripts i ≡ Some (Some ts) → ⊥) → talks i ≡ record { left = []; asked = false }

  abbrev pub NoScript : ℕ → Type 0
  NoScript i = (ts : List (Turn I K O L)) → slice_get a.scripts i ≡ Some (Some ts) → ⊥

  script_or_none : (i : ℕ) → ((ts : List (Turn I K O L)) × (slice_get a.scripts i ≡ Some (Some ts))) ⊎ NoScript i
  script_or_none i =
      go (slice_get a.scripts i) refl
    where
      go : (o : Option (Option (List (Turn I K O L)))) → slice_get a.scripts i ≡ o → ((ts : List (Turn I K O L)) × (slice_get a.scripts i ≡ Some (Some ts))) ⊎ NoScript i
      go None e = inr (λ ts f. let g : None ≡ Some (Some ts) = sym e ∙ f in absurd (cc))
      go (Some None) e = inr (λ ts f. let g : Some None ≡ Some (Some ts) = sym e ∙ f in absurd (cc))
      go (Some (Some ts)) e = inl (ts, e)

  more_gone : (q : ℕ → ℕ) (sent : List E) (f : ℕ → Session I K O L) (test answered : ℕ → Bool) (talks : ℕ → Talk) → IsBelow q used → CanGo q f test answered talks → (m : ℕ) → AllGone q sent f test answered talks m → AllGone q sent f test answered talks (suc m)
  more_gone q sent f test answered talks below can m r =
      go (test m) refl (script_or_none m)
    where
      here : r.sessions m ≡ f m
      here = r.same m (omega arith)

      within : (i : ℕ) → i < suc m → (i ≡ m → ⊥) → i < m
      within i h ne = grind (arith, h, ne)

      -- nothing happens to session m
      stays : (new : ℕ → Session I K O L) → new ≡ r.sessions → Leads a (the_world a q sent f) (all_go_on test answered talks m ++ cond (test m) (goes_on m (answered m) (talks m)) []) (the_world a q sent r.sessions)
          → ((ts : List (Turn I K O L)) → slice_get a.scripts m ≡ Some (Some ts) → Fits q m ts (all_gone_on test answered talks m) (r.sessions m)) → ((ts : List (Turn I K O L)) → slice_get a.scripts m ≡ Some (Some ts) → test m ≡ true → Caught a q (r.sessions m)) → AllGone q sent f test answered talks (suc m)
      stays new e leads fits caught = record {
        sessions = r.sessions;
        leads = leads;
        fits = λ i h ts s. ⊎_elim (λ (same : i ≡ m). subst (λ j. (ts : List (Turn I K O L)) → slice_get a.scripts j ≡ Some (Some ts) → Fits q j ts (all_gone_on test answered talks j) (r.sessions j)) (sym same) fits ts s) (λ (ne : i ≡ m → ⊥). r.fits i (within i h ne) ts s) (cases_eq i m);
        caught = λ i h ts s t. ⊎_elim (λ (same : i ≡ m). subst (λ j. (ts : List (Turn I K O L)) → slice_get a.scripts j ≡ Some (Some ts) → test j ≡ true → Caught a q (r.sessions j)) (sym same) caught ts s t) (λ (ne : i ≡ m → ⊥). r.caught i (within i h ne) ts s t) (cases_eq i m);
        same = λ i h. r.same i (omega (arith, h));
        untested = r.untested;
      }

      nothing : (es : List Event) → es ≡ [] → Leads a (the_world a q sent f) (all_go_on test answered talks m ++ es) (the_world a q sent r.sessions)
      nothing es e = subst (λ more. Leads a (the_world a q sent f) (all_go_on test answered talks m ++ more) (the_world a q sent r.sessions)) (sym e) (subst (λ es'. Leads a (the_world a q sent f) es' (the_world a q sent r.sessions)) (sym (append-nil (all_go_on test answered talks m))) r.leads)

      goes : test m ≡ true → (ts : List (Turn I K O L)) → slice_get a.scripts m ≡ Some (Some ts) → AllGone q sent f test answered talks (suc m)
      goes t ts s =
          let g = gone q sent r.sessions m ts (answered m) (talks m) below (subst (λ x. Fits q m ts (talks m) x) (sym here) (can.fits m ts s))
          (subst (λ (x : Session I K O L). (y : Awaited K O) → x.awaits ≡ Some y → is_answered a q y.key ≡ answered m) (sym here) (λ y. can.there m ts y s t))
          (subst (λ x. Up q m ⊎ Caught a q x) (sym here) (can.up m ts s t)) in
          let told : all_gone_on test answered talks m ≡ gone_on (answered m) (talks m) = ap (λ b. cond b (gone_on (answered m) (talks m)) (talks m)) t in
          record {
            sessions = put r.sessions m g.session;
            leads = subst (λ es. Leads a (the_world a q sent f) (all_go_on test answered talks m ++ es) (the_world a q sent (put r.sessions m g.session))) (sym (ap (λ b. cond b (goes_on m (answered m) (talks m)) []) t))
                (leads_on a (all_go_on test answered talks m) (goes_on m (answered m) (talks m)) _ _ _ r.leads g.leads);
            fits = λ i h us e. put_apart (λ j x. i ≡ j → Fits q i us (all_gone_on test answered talks i) x) r.sessions m g.session
                (λ same. subst (λ j. (vs : List (Turn I K O L)) → slice_get a.scripts j ≡ Some (Some vs) → Fits q j vs (all_gone_on test answered talks j) g.session) (sym same)
                (λ vs e'. subst (λ w. Fits q m vs w g.session) (sym told) (subst (λ w. Fits q m w (gone_on (answered m) (talks m)) g.session) (same_script a (slice_get a.scripts m) ts vs s e') g.fits)) us e)
                (λ j ne same. subst (λ x. Fits q i us (all_gone_on test answered talks i) (r.sessions x)) same (r.fits i (within i h (λ e'. ne (sym same ∙ e'))) us e))
                i refl;
            caught = λ i h us e t'. put_apart (λ j x. i ≡ j → Caught a q x) r.sessions m g.session (λ same. g.caught) (λ j ne same. subst (λ x. Caught a q (r.sessions x)) same (r.caught i (within i h (λ e'. ne (sym same ∙ e'))) us e t')) i refl;
            same = λ i h. put_apart (λ j x. i ≡ j → x ≡ f i) r.sessions m g.session (λ same. absurd (apart i h same)) (λ j ne same. ap r.sessions (sym same) ∙ r.same i (omega (arith, h))) i refl;
            untested = λ i u. put_apart (λ j x. i ≡ j → x ≡ f i) r.sessions m g.session (λ same. absurd (true≢false (sym t ∙ (ap test (sym same) ∙ u)))) (λ j ne same. ap r.sessions (sym same) ∙ r.untested i u) i refl;
          }
        where
          apart : (i : ℕ) → suc m ≤ i → i ≡ m → ⊥
          apart i h e = absurd (omega (arith, h, e))

      go : (t : Bool) → test m ≡ t → ((ts : List (Turn I K O L)) × (slice_get a.scripts m ≡ Some (Some ts))) ⊎ NoScript m → AllGone q sent f test answered talks (suc m)
      go true t (inl found) = goes t found.0 found.1
      go true t (inr none) =
          let blank_talk = can.silent m none in
          stays r.sessions refl (nothing _ (ap (λ b. cond b (goes_on m (answered m) (talks m)) []) t ∙ ap (λ k. goes_on m (answered m) k) blank_talk)) (λ ts s. absurd (none ts s)) (λ ts s. absurd (none ts s))
      go false t either =
          stays r.sessions refl (nothing _ (ap (λ b. cond b (goes_on m (answered m) (talks m)) []) t))
          (λ ts s. subst (λ k. Fits q m ts k (r.sessions m)) (sym (ap (λ b. cond b (gone_on (answered m) (talks m)) (talks m)) t)) (subst (λ x. Fits q m ts (talks m) x) (sym here) (can.fits m ts s)))
          (λ ts s t'. absurd (true≢false (sym t' ∙ t)))

  pub all_gone : (q : ℕ → ℕ) (sent : List E) (f : ℕ → Session I K O L) (test answered : ℕ → Bool) (talks : ℕ → Talk) → IsBelow q used → CanGo q f test answered talks → (m : ℕ) → AllGone q sent f test answered talks m
  all_gone q sent f test answered talks below can zero =
      record { sessions = f; leads = refl; fits = λ i h. absurd (omega (arith, h)); caught = λ i h. absurd (omega (arith, h)); same = λ i h. refl; untested = λ i h. refl }
  all_gone q sent f test answered talks below can (suc m) = more_gone q sent f test answered talks below can m (all_gone q sent f test answered talks below can m)
