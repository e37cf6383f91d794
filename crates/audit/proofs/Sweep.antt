-- All sessions in turn.
use Rattle.std.proofs.Common.{◌≡◌, ◌⊎◌, ℕ, zero, suc, ◌<◌, ◌≤◌, length, List, [], ◌∷◌, ◌++◌, true, Option, Some, None, refl, sym, ap, ◌∙◌, subst, inl, inr, arith}
use Rattle.std.specs.Prelude.{slice_get}
use Rattle.audit.specs.Case.{Turn, Case, state_at}
use Rattle.audit.specs.Placing.{put, is_answered}
use Rattle.audit.specs.declared.event.Event.{Event}
use Rattle.audit.specs.declared.event.Event.TheVariants.{Connect}
use Rattle.audit.specs.Order.{Awaited, Session, Leads}
use Rattle.audit.specs.Laws.{Laws, AllBegin}
use Rattle.audit.specs.Right.{NoneWrong}
use Rattle.audit.proofs.Basics.{IsBelow}
use Rattle.audit.proofs.Walk.{put_apart, put_itself, the_world, the_session, leads_on, StartsAsking, say, said_synced, Synced, Caught, catch}

pub got_below : {A : Type 0} (xs : List A) (k : ℕ) (x : A) → slice_get xs k ≡ Some x → k < length xs
got_below [] k x e = absurd (cc)
got_below (y ∷ xs) zero x e = omega arith
got_below (y ∷ xs) (suc k) x e =
    let r = got_below xs k x e in
    omega (arith, r)

module _ {S I E K O L : Type 0} (a : Case S I E K O L) where
  -- one session is seen to
  pub record One (q : ℕ → ℕ) (sent : List E) (Q : ℕ → Session I K O L → Type 0) (g : ℕ → Session I K O L) (i : ℕ) : Type 0 where
    pub events : List Event
    pub session : Session I K O L
    pub leads : Leads a (the_world a q sent g) events (the_world a q sent (put g i session))
    pub good : Q i session

  pub record All (q : ℕ → ℕ) (sent : List E) (Q : ℕ → Session I K O L → Type 0) (f : ℕ → Session I K O L) (m : ℕ) : Type 0 where
    pub events : List Event
    pub sessions : ℕ → Session I K O L
    pub leads : Leads a (the_world a q sent f) events (the_world a q sent sessions)
    pub good : (i : ℕ) → i < m → Q i (sessions i)
    pub same : (i : ℕ) → m ≤ i → sessions i ≡ f i

  pub each : (q : ℕ → ℕ) (sent : List E) (Q : ℕ → Session I K O L → Type 0) (f : ℕ → Session I K O L) → ((g : ℕ → Session I K O L) (i : ℕ) → g i ≡ f i → One q sent Q g i) → (m : ℕ) → All q sent Q f m
  each q sent Q f one zero = record { events = []; sessions = f; leads = refl; good = λ i h. absurd (omega arith); same = λ i h. refl }
  each q sent Q f one (suc m) =
      let r = each q sent Q f one m in
      let o = one r.sessions m (r.same m (omega arith)) in
      record {
        events = r.events ++ o.events;
        sessions = put r.sessions m o.session;
        leads = leads_on a r.events o.events _ _ _ r.leads o.leads;
        good = put_apart (λ i s. i < suc m → Q i s) r.sessions m o.session (λ h. o.good) (λ i ne h. r.good i (below i m h ne));
        same = put_apart (λ i s. suc m ≤ i → s ≡ f i) r.sessions m o.session (λ h. absurd (omega arith)) (λ i ne h. r.same i (omega arith));
      }
    where
      below : (i m : ℕ) → i < suc m → (i ≡ m → ⊥) → i < m
      below i m h ne = grind (arith, h, ne)

  -- in step, and as far as it can be
  abbrev pub IsFit : (ℕ → ℕ) → (ℕ → ℕ) → ℕ → Session I K O L → Type 0
  IsFit at q i s = (ts : List (Turn I K O L)) → slice_get a.scripts i ≡ Some (Some ts) → Synced a q (at i) ts s × Caught a q s

  as_is : (q : ℕ → ℕ) (sent : List E) (Q : ℕ → Session I K O L → Type 0) (g : ℕ → Session I K O L) (i : ℕ) → Q i (g i) → One q sent Q g i
  as_is q sent Q g i h = record { events = []; session = g i; leads = ap (λ ss. the_world a q sent ss) (put_itself g i); good = h }

  pub same_script : (u : Option (Option (List (Turn I K O L)))) (ts ts' : List (Turn I K O L)) → u ≡ Some (Some ts) → u ≡ Some (Some ts') → ts ≡ ts'
  same_script u ts ts' e f =
      let g : Some (Some ts) ≡ Some (Some ts') = sym e ∙ f in
      cc

  pub no_script : (at q : ℕ → ℕ) (i : ℕ) (s : Session I K O L) → (slice_get a.scripts i ≡ None) ⊎ (slice_get a.scripts i ≡ Some None) → IsFit at q i s
  no_script at q i s (inl e) ts f = absurd (apart (sym e ∙ f))
    where
      apart : None ≡ Some (Some ts) → ⊥
      apart h = absurd (cc)
  no_script at q i s (inr e) ts f = absurd (apart (sym e ∙ f))
    where
      apart : Some None ≡ Some (Some ts) → ⊥
      apart h = absurd (cc)

  pub fit_from : (at q : ℕ → ℕ) (i : ℕ) (ts : List (Turn I K O L)) (s : Session I K O L) → slice_get a.scripts i ≡ Some (Some ts) → Synced a q (at i) ts s → Caught a q s → IsFit at q i s
  fit_from at q i ts s e x c ts' f = (subst (λ us. Synced a q (at i) us s) (same_script (slice_get a.scripts i) ts ts' e f) x, c)

  -- what a sweep starts from
  pub record Ready (at q : ℕ → ℕ) (f : ℕ → Session I K O L) : Type 0 where
    pub synced : (i : ℕ) (ts : List (Turn I K O L)) → slice_get a.scripts i ≡ Some (Some ts) → Synced a q (at i) ts (f i)
    pub idle : (i : ℕ) (ts : List (Turn I K O L)) → slice_get a.scripts i ≡ Some (Some ts) → (f i).awaits ≡ None → StartsAsking a (f i).left
    pub up : (i : ℕ) (ts : List (Turn I K O L)) (y : Awaited K O) → slice_get a.scripts i ≡ Some (Some ts) → (f i).awaits ≡ Some y → is_answered a q y.key ≡ true → a.runs (state_at a (at i) (q (at i))) ≡ true

  pub sweep : Laws a → (at q : ℕ → ℕ) (sent : List E) (f : ℕ → Session I K O L) → IsBelow q (λ m. length (a.logs m)) → Ready at q f → (m : ℕ) → All q sent (IsFit at q) f m
  sweep laws at q sent f below ready =
      each q sent (IsFit at q) f (λ g i same. go g i same (slice_get a.scripts i) refl)
    where
      go : (g : ℕ → Session I K O L) (i : ℕ) → g i ≡ f i → (o : Option (Option (List (Turn I K O L)))) → slice_get a.scripts i ≡ o → One q sent (IsFit at q) g i
      go g i same None e = as_is q sent (IsFit at q) g i (no_script at q i (g i) (inl e))
      go g i same (Some None) e = as_is q sent (IsFit at q) g i (no_script at q i (g i) (inr e))
      go g i same (Some (Some ts)) e =
          let c = catch a laws q sent g i (at i) ts below
          (subst (λ s. Synced a q (at i) ts s) (sym same) (ready.synced i ts e))
          (subst (λ (s : Session I K O L). s.awaits ≡ None → StartsAsking a s.left) (sym same) (ready.idle i ts e))
          (subst (λ (s : Session I K O L). (y : Awaited K O) → s.awaits ≡ Some y → is_answered a q y.key ≡ true → a.runs (state_at a (at i) (q (at i))) ≡ true) (sym same) (λ y. ready.up i ts y e)) in
          record { events = c.events; session = c.session; leads = c.leads; good = fit_from at q i ts c.session e c.synced c.caught }

  -- at the start each session connects, and says its first lines
  abbrev pub blank : Session I K O L
  blank = record { node = None; done = []; left = []; awaits = None }

  pub start : AllBegin a → (at : ℕ → ℕ) → NoneWrong a at → (m : ℕ) → All (λ n. 0) [] (IsFit at (λ n. 0)) (λ i. blank) m
  start begins at right =
      each (λ n. 0) [] (IsFit at (λ n. 0)) (λ i. blank) (λ g i same. go g i same (slice_get a.scripts i) refl)
    where
      go : (g : ℕ → Session I K O L) (i : ℕ) → g i ≡ blank → (o : Option (Option (List (Turn I K O L)))) → slice_get a.scripts i ≡ o → One (λ n. 0) [] (IsFit at (λ n. 0)) g i
      go g i same None e = as_is (λ n. 0) [] (IsFit at (λ n. 0)) g i (no_script at (λ n. 0) i (g i) (inl e))
      go g i same (Some None) e = as_is (λ n. 0) [] (IsFit at (λ n. 0)) g i (no_script at (λ n. 0) i (g i) (inr e))
      go g i same (Some (Some ts)) e =
          let up : a.runs (a.start (at i)) ≡ true = begins (at i) (right i ts e).0 in
          let r = say a (λ n. 0) [] g i (at i) up ts [] in
          let s = the_session a (at i) r.done_then r.left_then in
          let synced : Synced a (λ n. 0) (at i) ts s = said_synced a (λ n. 0) [] g i (at i) [] ts ts r refl (λ k h. absurd h) (λ k h sub. absurd (none sub.0 sub.2)) in
          let caught : Caught a (λ n. 0) s = record { idle = λ e'. r.asks; waits = λ z e'. absurd (cc) } in
          record {
            events = Connect i (a.number (at i)) ∷ r.events;
            session = s;
            leads = (the_world a (λ n. 0) [] (put g i (the_session a (at i) [] ts)), (at i, refl, ts, e, (right i ts e).0, ap (λ (z : Session I K O L). z.node) same, up, refl), r.leads);
            good = fit_from at (λ n. 0) i ts s e synced caught;
          }
        where
          none : (j : ℕ) → j < 0 → ⊥
          none j h = absurd (omega arith)
