-- A stuck placing that leaves inputs: no legal order exists.
use Rattle.std.proofs.Common.{◌≡◌, ◌⊎◌, ℕ, suc, ◌<◌, ◌≤◌, length, List, [], ◌∷◌, ◌++◌, Bool, true, false, Option, Some, None, refl, sym, ap, ◌∙◌, subst, inl, inr, ⊎_elim, cond, arith, append_assoc}
use Rattle.std.specs.Prelude.{slice_get, is_some}
use Rattle.std.proofs.lemmas.Bool.{eq-eqb, and_from, true≢false, cases_eq, cases_lt}
use Rattle.audit.specs.Case.{Turn, Plain, Asks, EndsIfHangup, Case, next, sends_next, state_at, sent_at, asked, key_in, count_in, keys_among, earlier_among}
use Rattle.audit.specs.Placing.{put, was_sent, is_answered, all_answered, message_there, turn_there, is_met, can_place, is_stuck}
use Rattle.audit.specs.declared.event.Event.{Event}
use Rattle.audit.specs.declared.event.Event.TheVariants.{Connect, Line, Hangup, Collect, Given, Arrive}
use Rattle.audit.specs.Order.{Awaited, awaited_by, Session, World, opening, Takes, Submits, IsAt, Says, Happens, Leads, IsNamedOnce, IsLegalOrder}
use Rattle.ballot.specs.Lists.{IsIn}
use Rattle.audit.specs.Laws.{Laws}
use Rattle.audit.proofs.Basics.{in_right, in_either, all_in, put_here, in_got, all_from, put_each, sent_more, answered_more, sent_from, IsBelow}
use Rattle.audit.proofs.Earlier.{earlier_is, keys_both}
use Rattle.audit.proofs.Walk.{awaited_is}

both : (j k : ℕ) → j ≤ k → k ≤ j → j ≡ k
both j k l h = omega arith

module _ {S I E K O L : Type 0} (a : Case S I E K O L) where
  abbrev AwaitsKey : Option (Awaited K O) → K → Type 0
  AwaitsKey o k = (y : Awaited K O) × (o ≡ Some y) × (y.key ≡ k)

  -- what always holds of a session
  record GoodSession (p : ℕ → ℕ) (i : ℕ) (s : Session I K O L) : Type 0 where
    script : (n : ℕ) → s.node ≡ Some n → slice_get a.scripts i ≡ Some (Some (s.done ++ s.left))
    answered : (k : K) → IsIn k (key_in a s.done) → AwaitsKey s.awaits k ⊎ ((is_answered a p k ≡ true) ⊎ (s.left ≡ []))
    at_home : (n : ℕ) (y : Awaited K O) → s.node ≡ Some n → s.awaits ≡ Some y → a.home y.key ≡ n

  record Good (w : World I E K O L) : Type 0 where
    from_logs : (e : E) → IsIn e w.sent → (n : ℕ) × IsIn n a.nodes × IsIn e (sent_at a n (w.placed n))
    sessions_good : (i : ℕ) → GoodSession w.placed i (w.sessions i)

  session_on : Laws a → (p q : ℕ → ℕ) → IsBelow p q → (i : ℕ) (s : Session I K O L) → GoodSession p i s → GoodSession q i s
  session_on laws p q below i s g =
      record {
        script = g.script;
        answered = λ k h. ⊎_elim (λ l. inl l) (λ r. inr (⊎_elim (λ t. inl (answered_more a laws p q below k t)) (λ t. inr t) r)) (g.answered k h);
        at_home = g.at_home;
      }

  -- an input more
  below_put : (p : ℕ → ℕ) (n : ℕ) → IsBelow p (put p n (suc (p n)))
  below_put p n = put_each (λ m v. p m ≤ v) p n (suc (p n)) (omega arith) (λ m. omega arith)

  sent_on : (w : World I E K O L) → Good w → (n : ℕ) (x : I) → Laws a → next a n (w.placed n) ≡ Some x → (e : E) → IsIn e (w.sent ++ a.sends (state_at a n (w.placed n)) x) → (m : ℕ) × IsIn m a.nodes × IsIn e (sent_at a m (put w.placed n (suc (w.placed n)) m))
  sent_on w g n x laws at e h =
      ⊎_elim
      (λ (l : IsIn e w.sent).
      let old = g.from_logs e l in
      (old.0, old.1, sent_more a e old.0 (w.placed old.0) _ (below_put w.placed n old.0) old.2))
      (λ (r : IsIn e (a.sends (state_at a n (w.placed n)) x)).
      let new : IsIn e (sent_at a n (suc (w.placed n))) = in_right e (sent_at a n (w.placed n)) _ (subst (λ o. IsIn e (sends_next a (state_at a n (w.placed n)) o)) (sym at) r) in
      (n, laws.there n (w.placed n) x at, subst (λ v. IsIn e (sent_at a n v)) (sym (put_here w.placed n (suc (w.placed n)))) new))
      (in_either e w.sent (a.sends (state_at a n (w.placed n)) x) h)

  -- the conditions of x, that would be next at n, by what is placed
  record Met (p : ℕ → ℕ) (s : S) (n : ℕ) (x : I) : Type 0 where
    up : a.runs s ≡ true
    message : message_there a p n (a.brought x) ≡ true
    turn : turn_there a p (asked a s x) ≡ true

  placeable : (w : World I E K O L) (p : ℕ → ℕ) (n : ℕ) (x : I) → w.placed n ≡ p n → next a n (w.placed n) ≡ Some x → Met p (state_at a n (w.placed n)) n x → can_place a p n ≡ true
  placeable w p n x e at met =
      let at' : next a n (p n) ≡ Some x = subst (λ k. next a n k ≡ Some x) e at in
      let met' : Met p (state_at a n (p n)) n x = subst (λ k. Met p (state_at a n k) n x) e met in
      let t : is_met a p n (Some x) ≡ true = and_from _ _ met'.up (and_from _ _ met'.message met'.turn) in
      ap (is_met a p n) at' ∙ t

  IsStuckAt : (ℕ → ℕ) → Type 0
  IsStuckAt p = (n : ℕ) → can_place a p n ≡ true → ⊥

  -- so an input of a legal order lies within a stuck placing
  within : (w : World I E K O L) (p : ℕ → ℕ) (n : ℕ) (x : I) → ((m : ℕ) → can_place a p m ≡ true → ⊥) → IsBelow w.placed p → next a n (w.placed n) ≡ Some x → Met p (state_at a n (w.placed n)) n x → IsBelow (put w.placed n (suc (w.placed n))) p
  within w p n x stuck below at met =
      put_each (λ m v. v ≤ p m) w.placed n (suc (w.placed n))
      (⊎_elim
      (λ (e : w.placed n ≡ p n). absurd (stuck n (placeable w p n x e at met)))
      (λ (ne : w.placed n ≡ p n → ⊥). more (w.placed n) (p n) (below n) ne)
      (cases_eq (w.placed n) (p n)))
      below
    where
      more : (j k : ℕ) → j ≤ k → (j ≡ k → ⊥) → suc j ≤ k
      more j k l ne = ⊎_elim (λ (h : j < k). h) (λ (h : k ≤ j). absurd (ne (both j k l h))) (cases_lt j k)

  took : (laws : Laws a) (w w' : World I E K O L) (p : ℕ → ℕ) (n : ℕ) (x : I) (ss : ℕ → Session I K O L) → ((m : ℕ) → can_place a p m ≡ true → ⊥) → Good w → IsBelow w.placed p → Takes a w n x ss w' → Met p (state_at a n (w.placed n)) n x → ((i : ℕ) → GoodSession (put w.placed n (suc (w.placed n))) i (ss i)) → Good w' × IsBelow w'.placed p
  took laws w w' p n x ss stuck g below t met sessions =
      subst (λ (v : World I E K O L). Good v × IsBelow v.placed p) (sym t.2)
      (record { from_logs = sent_on w g n x laws t.0; sessions_good = sessions }, within w p n x stuck below t.0 met)

  asked_key : (s : S) (x : I) (k : K) → asked a s x ≡ Some k → a.key_of s x ≡ Some k
  asked_key s x k =
      go (a.locks x)
    where
      go : (t : Bool) → cond t (a.key_of s x) None ≡ Some k → a.key_of s x ≡ Some k
      go true h = h
      go false h = absurd (cc)

  -- if a session awaits nothing, and has a turn left, all that it asked is answered
  all_there : (p : ℕ → ℕ) (i : ℕ) (s : Session I K O L) → GoodSession p i s → s.awaits ≡ None → (t : Turn I K O L) (ts : List (Turn I K O L)) → s.left ≡ t ∷ ts → (k : K) → IsIn k (key_in a s.done) → is_answered a p k ≡ true
  all_there p i s g none t ts more k h =
      ⊎_elim
      (λ (l : AwaitsKey s.awaits k). absurd (neither l.0 (sym none ∙ l.1)))
      (λ r. ⊎_elim (λ (there : is_answered a p k ≡ true). there) (λ (over : s.left ≡ []). absurd (apart t ts (sym more ∙ over))) r)
      (g.answered k h)
    where
      apart : (t : Turn I K O L) (ts : List (Turn I K O L)) → t ∷ ts ≡ [] → ⊥
      apart t ts e = absurd (cc)

      neither : (y : Awaited K O) → None ≡ Some y → ⊥
      neither y e = absurd (cc)

  submitted : (laws : Laws a) → IsNamedOnce a → (w w' : World I E K O L) (p : ℕ → ℕ) (i n : ℕ) (line : Option L) → ((m : ℕ) → can_place a p m ≡ true → ⊥) → Good w → IsBelow w.placed p → IsAt a w i n → Submits a w i n line w' → Good w' × IsBelow w'.placed p
  submitted laws once w w' p i n line stuck g below at (x, k, o, ts, left, brings, asks, takes, ends) =
      let old = g.sessions_good i in
      let script : slice_get a.scripts i ≡ Some (Some ((w.sessions i).done ++ Asks line x k o ∷ ts)) = subst (λ us. slice_get a.scripts i ≡ Some (Some ((w.sessions i).done ++ us))) left (old.script n at.0) in
      let one : count_in a k (keys_among a a.scripts) ≡ 1 = once n (w.placed n) x k takes.0 asks in
      let first : earlier_among a k a.scripts ≡ Some (key_in a (w.sessions i).done) = earlier_is a laws k a.scripts i (w.sessions i).done ts line x o script one in
      let there : (key : K) → IsIn key (key_in a (w.sessions i).done) → is_answered a w.placed key ≡ true = all_there w.placed i (w.sessions i) old at.2 (Asks line x k o) ts left in
      let placed' = put w.placed n (suc (w.placed n)) in
      let up : IsBelow w.placed placed' = below_put w.placed n in
      let turn : turn_there a p (Some k) ≡ true = ap (all_answered a p) first ∙ all_from (λ key. is_answered a p key) (key_in a (w.sessions i).done) (λ key h. answered_more a laws w.placed p below key (there key h)) in
      let met : Met p (state_at a n (w.placed n)) n x = record { up = takes.1; message = ap (message_there a p n) brings; turn = ap (turn_there a p) asks ∙ turn } in
      let home : a.home k ≡ n = laws.home n (w.placed n) x k takes.0 (asked_key (state_at a n (w.placed n)) x k asks) in
      let new : GoodSession placed' i (record { node = Some n; done = (w.sessions i).done ++ Asks line x k o ∷ []; left = ts; awaits = awaited_by line k o }) =
      record {
        script = λ m e. script ∙ ap (λ us. Some (Some us)) (sym (append_assoc (w.sessions i).done (Asks line x k o ∷ []) ts));
        answered = λ key h. ⊎_elim
            (λ (l : IsIn key (key_in a (w.sessions i).done)). inr (inl (answered_more a laws w.placed placed' up key (there key l))))
            (λ (r : IsIn key (k ∷ [])). ⊎_elim (λ (e : k ≡ key). awaited_or_over line key o ts e ends) (λ e. absurd e) r)
            (in_either key (key_in a (w.sessions i).done) (k ∷ []) (subst (λ ks. IsIn key ks) (keys_both a (w.sessions i).done (Asks line x k o ∷ [])) h));
        at_home = λ m y e f. let q : m ≡ n = same_number m n e in let r : y.key ≡ k = sym (ap (λ (z : Awaited K O). z.key) (awaited_is line k o y f)) in ap a.home r ∙ home ∙ sym q;
      } in
      took laws w w' p n x _ stuck g below takes met (put_each (GoodSession placed') w.sessions i _ new (λ j. session_on laws w.placed placed' up j (w.sessions j) (g.sessions_good j)))
    where
      same_number : (m n : ℕ) → Some n ≡ Some m → m ≡ n
      same_number m n e = cc

      -- what a line asked is awaited, and after a hangup nothing is left
      awaited_or_over : (line : Option L) (key : K) (o : Option O) (ts : List (Turn I K O L)) → k ≡ key → EndsIfHangup line o ts → AwaitsKey (awaited_by line k o) key ⊎ ((is_answered a (put w.placed n (suc (w.placed n))) key ≡ true) ⊎ (ts ≡ []))
      awaited_or_over (Some l) key o ts e ends = inl (record { key = k; outcome = o }, refl, e)
      awaited_or_over None key o ts e ends = inr (inr ends.1)

  step : (laws : Laws a) → IsNamedOnce a → (w w' : World I E K O L) (p : ℕ → ℕ) (e : Event) → ((m : ℕ) → can_place a p m ≡ true → ⊥) → Good w → IsBelow w.placed p → Happens a w e w' → Good w' × IsBelow w'.placed p
  step laws once w w' p (Connect i number) stuck g below (n, named, ts, at, inside, fresh, up, is) =
      let new : GoodSession w.placed i (record { node = Some n; done = []; left = ts; awaits = None }) = record { script = λ m e. at; answered = λ k h. absurd h; at_home = λ m y e f. absurd (cc) } in
      let after : World I E K O L = record { placed = w.placed; sent = w.sent; sessions = put w.sessions i (record { node = Some n; done = []; left = ts; awaits = None }) } in
      let good : Good after = record { from_logs = g.from_logs; sessions_good = put_each (GoodSession w.placed) w.sessions i _ new g.sessions_good } in
      subst (λ (v : World I E K O L). Good v × IsBelow v.placed p) (sym is) (good, below)
  step laws once w w' p (Line i) stuck g below (n, at, h) =
      ⊎_elim
      (λ (said : (l : L) × Says a w i n l w').
      let l = said.0 in
      let says_what = said.0 in
      let says = said.1 in
      let ts = says.0 in
      let old = g.sessions_good i in
      let script : slice_get a.scripts i ≡ Some (Some ((w.sessions i).done ++ Plain l ∷ ts)) = subst (λ us. slice_get a.scripts i ≡ Some (Some ((w.sessions i).done ++ us))) says.1 (old.script n at.0) in
      let s : Session I K O L = record { node = Some n; done = (w.sessions i).done ++ Plain l ∷ []; left = ts; awaits = None } in
      let new : GoodSession w.placed i s = record {
        script = λ m e. script ∙ ap (λ us. Some (Some us)) (sym (append_assoc (w.sessions i).done (Plain l ∷ []) ts));
        answered = λ key k. ⊎_elim
            (λ (l : IsIn key (key_in a (w.sessions i).done)). inr (inl (all_there w.placed i (w.sessions i) old at.2 (Plain says_what) ts says.1 key l)))
            (λ (r : IsIn key []). absurd r)
            (in_either key (key_in a (w.sessions i).done) [] (subst (λ ks. IsIn key ks) (keys_both a (w.sessions i).done (Plain l ∷ [])) k));
        at_home = λ m y e f. absurd (cc);
      } in
      let after : World I E K O L = record { placed = w.placed; sent = w.sent; sessions = put w.sessions i s } in
      let good : Good after = record { from_logs = g.from_logs; sessions_good = put_each (GoodSession w.placed) w.sessions i s new g.sessions_good } in
      subst (λ (v : World I E K O L). Good v × IsBelow v.placed p) (sym says.2) (good, below))
      (λ (submits : (l : L) × Submits a w i n (Some l) w'). submitted laws once w w' p i n (Some submits.0) stuck g below at submits.1)
      h
  step laws once w w' p (Hangup i) stuck g below (n, at, submits) = submitted laws once w w' p i n None stuck g below at submits
  step laws once w w' p (Collect i) stuck g below (n, y, o, node, up, awaits, answer, agrees, is) =
      let old = g.sessions_good i in
      let home : a.home y.key ≡ n = old.at_home n y node awaits in
      let there : is_answered a w.placed y.key ≡ true = ap is_some (subst (λ m. a.answer (state_at a m (w.placed m)) y.key ≡ Some o) (sym home) answer) in
      let s : Session I K O L = record { node = Some n; done = (w.sessions i).done; left = (w.sessions i).left; awaits = None } in
      let new : GoodSession w.placed i s = record {
        script = λ m e. old.script n node;
        answered = λ key k. ⊎_elim
            (λ (l : AwaitsKey (w.sessions i).awaits key). inr (inl (subst (λ z. is_answered a w.placed z ≡ true) (same y l.0 key (sym awaits ∙ l.1) l.2) there)))
            (λ r. inr r)
            (old.answered key k);
        at_home = λ m z e f. absurd (cc);
      } in
      let after : World I E K O L = record { placed = w.placed; sent = w.sent; sessions = put w.sessions i s } in
      let good : Good after = record { from_logs = g.from_logs; sessions_good = put_each (GoodSession w.placed) w.sessions i s new g.sessions_good } in
      subst (λ (v : World I E K O L). Good v × IsBelow v.placed p) (sym is) (good, below)
    where
      same : (y z : Awaited K O) (key : K) → Some y ≡ Some z → z.key ≡ key → y.key ≡ key
      same y z key e f =
          let q : y ≡ z = cc in
          ap (λ (v : Awaited K O). v.key) q ∙ f
  step laws once w w' p (Given number) stuck g below (n, x, named, brings, asks, takes) =
      let met : Met p (state_at a n (w.placed n)) n x = record { up = takes.1; message = ap (message_there a p n) brings; turn = ap (turn_there a p) asks } in
      let up = below_put w.placed n in
      took laws w w' p n x w.sessions stuck g below takes met (λ j. session_on laws w.placed _ up j (w.sessions j) (g.sessions_good j))
  step laws once w w' p (Arrive k) stuck g below (e, x, at, brings, asks, takes) =
      let old = g.from_logs e (in_got w.sent k e at) in
      let sent : was_sent a p e ≡ true = sent_from a laws p e old.0 old.1 (sent_more a e old.0 (w.placed old.0) (p old.0) (below old.0) old.2) in
      let there : message_there a p (a.to e) (Some e) ≡ true = and_from _ _ (eq-eqb (a.to e) (a.to e) refl) sent in
      let met : Met p (state_at a (a.to e) (w.placed (a.to e))) (a.to e) x = record { up = takes.1; message = ap (message_there a p (a.to e)) brings ∙ there; turn = ap (turn_there a p) asks } in
      let up = below_put w.placed (a.to e) in
      took laws w w' p (a.to e) x w.sessions stuck g below takes met (λ j. session_on laws w.placed _ up j (w.sessions j) (g.sessions_good j))

  run : (laws : Laws a) → IsNamedOnce a → (p : ℕ → ℕ) → ((m : ℕ) → can_place a p m ≡ true → ⊥) → (es : List Event) (w w' : World I E K O L) → Good w → IsBelow w.placed p → Leads a w es w' → IsBelow w'.placed p
  run laws once p stuck [] w w' g below h = subst (λ (v : World I E K O L). IsBelow v.placed p) (sym h) below
  run laws once p stuck (e ∷ es) w w' g below (v, now, later) =
      let b = step laws once w v p e stuck g below now in
      run laws once p stuck es v w' b.0 b.1 later

  begins : Good (opening a)
  begins = record { from_logs = λ e h. absurd h; sessions_good = λ i. record { script = λ n e. absurd (cc); answered = λ k h. absurd h; at_home = λ n y e f. absurd (cc) } }

  pub stuck_at : Laws a → (p : ℕ → ℕ) → is_stuck a p ≡ true → (m : ℕ) → can_place a p m ≡ true → ⊥
  stuck_at laws p s m =
      go (next a m (p m)) refl
    where
      contrary : (t : Bool) → (cond t false true) ≡ true → t ≡ true → ⊥
      contrary true e f = true≢false (sym e)
      contrary false e f = true≢false (sym f)

      go : (o : Option I) → next a m (p m) ≡ o → is_met a p m o ≡ true → ⊥
      go None e h = true≢false (sym h)
      go (Some x) e h = contrary (can_place a p m) (all_in (λ n. cond (can_place a p n) false true) a.nodes m s (laws.there m (p m) x e)) (ap (is_met a p m) e ∙ h)

  -- a stuck placing that leaves inputs: there is no legal order
  pub no_order : Laws a → (p : ℕ → ℕ) (n : ℕ) → is_stuck a p ≡ true → p n < length (a.logs n) → (es : List Event) → IsLegalOrder a es → ⊥
  no_order laws p n stuck less es (once, ticketed, order) =
      let w = order.0 in
      let leads = order.1 in
      let ends = order.2 in
      let b = run laws once p (stuck_at laws p stuck) es (opening a) w begins (λ m. omega arith) leads in
      let most : w.placed n ≤ p n = b n in
      let all : w.placed n ≡ length (a.logs n) = ends.0 n in
      let no : ⊥ = contrary (w.placed n) (p n) (length (a.logs n)) most all less in
      no
    where
      contrary : (i j k : ℕ) → i ≤ j → i ≡ k → j < k → ⊥
      contrary i j k x y z = absurd (omega arith)
