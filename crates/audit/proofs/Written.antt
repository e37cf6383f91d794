-- The events of a placing, as they are written down, are a legal order.
use Rattle.std.proofs.Common.{◌≡◌, ◌⊎◌, ℕ, suc, ◌<◌, ◌≤◌, length, List, [], ◌∷◌, ◌++◌, Bool, true, false, Option, Some, None, refl, sym, ap, ◌∙◌, subst, inl, inr, ⊎_elim, cond, arith, append_assoc}
use Rattle.std.specs.Prelude.{slice_get, ◌==◌, ◌&&◌, is_some, IsSome}
use Rattle.std.proofs.lemmas.List.{append-nil}
use Rattle.std.proofs.lemmas.Bool.{eqb-true, eq-eqb, ne_eqb, and_parts, true≢false, cases_Bool, cases_eq, cases_lt}
use Rattle.ballot.specs.Lists.{IsIn}
use Rattle.audit.specs.Case.{Turn, Asks, EndsIfHangup, Case, next, after_next, sends_next, state_at, sent_at, asked, key_in, earlier_among}
use Rattle.audit.specs.Placing.{put, is_answered, all_answered, message_there, turn_there, is_met, can_place, IsPlacing}
use Rattle.audit.specs.declared.event.Event.{Event}
use Rattle.audit.specs.declared.event.Event.TheVariants.{Line, Hangup, Given, Arrive}
use Rattle.audit.specs.declared.kind.Kind.{Kind}
use Rattle.audit.specs.declared.placement.Placement.{Placement}
use Rattle.audit.specs.declared.placement.Source.{Source}
use Rattle.audit.specs.declared.placement.Source.TheVariants.{Own, Last, Message, FromSession}
use Rattle.audit.specs.Events.{Talk, kinds, goes_on, gone_on, asking_event, behind, kind_of, asking as asks_on, awaits_after, asked_on, events_of, talks_after, events_from, all_go_on, all_gone_on}
use Rattle.audit.specs.Order.{Awaited, awaited_by, Session, World, Runs, Submits, Happens, Leads, Ends, NothingAwaited, SessionEnds, IsNamedOnce, AreTicketed, IsLegalOrder}
use Rattle.audit.specs.Laws.{Laws, AllBegin}
use Rattle.audit.specs.Right.{IsRight, HasNoLine, AreRight, NoneWrong}
use Rattle.audit.proofs.Basics.{in_left, in_right, in_either, all_in, put_each, IsBelow, put_here}
use Rattle.audit.proofs.Earlier.{earlier_is, keys_both, spot, one_place, not_after}
use Rattle.audit.proofs.Connected.{connected}
use Rattle.audit.proofs.GoingOn.{same_some}
use Rattle.audit.proofs.GoingOn as going
use Rattle.audit.proofs.Sound as sound
use Rattle.audit.specs.Written.{first_talk, first_talks, last_of, answered_last, script_keys, in_the_end, IsFrom, ArePlaced, written_order}
use Rattle.audit.proofs.Walk.{awaited_is, put_at, put_apart, the_world, the_session, leads_on, StartsAsking, IsSubmitted, Synced, Caught}
use Rattle.audit.proofs.Aligned.{Aligned, aligned, at_once, right_at}
use Rattle.audit.proofs.Sweep.{got_below, same_script}

module _ {S I E K O L : Type 0} (a : Case S I E K O L) (laws : Laws a) (begins : AllBegin a) (at : ℕ → ℕ) (right : NoneWrong a at) where
  abbrev used : ℕ → ℕ
  used n = length (a.logs n)

  abbrev more : (ℕ → ℕ) → ℕ → ℕ → ℕ
  more q n = put q n (suc (q n))

  abbrev asked_session : ℕ → List (Turn I K O L) → Option L → I → K → Option O → List (Turn I K O L) → Session I K O L
  asked_session n done line x k o rest = record { node = Some n; done = done ++ Asks line x k o ∷ []; left = rest; awaits = awaited_by line k o }

  abbrev asked_event : ℕ → Option L → Event
  asked_event i None = Hangup i
  asked_event i (Some l) = Line i

  asked_key : (s : S) (x : I) (k : K) → asked a s x ≡ Some k → a.key_of s x ≡ Some k
  asked_key = sound.asked_key a laws begins at right

  asked_none : (s : S) (x : I) → a.key_of s x ≡ None → asked a s x ≡ None
  asked_none = sound.asked_none a laws begins at right

  asked_some : (s : S) (x : I) (k : K) → a.locks x ≡ true → a.key_of s x ≡ Some k → asked a s x ≡ Some k
  asked_some = sound.asked_some a laws begins at right

  submitted_more : (q : ℕ → ℕ) (n : ℕ) (k : K) → IsSubmitted a q k → IsSubmitted a (more q n) k
  submitted_more = sound.submitted_more a laws begins at right

  submitted_new : (q : ℕ → ℕ) (n : ℕ) (x : I) (k : K) → next a n (q n) ≡ Some x → IsSubmitted a (more q n) k → IsSubmitted a q k ⊎ (asked a (state_at a n (q n)) x ≡ Some k)
  submitted_new = sound.submitted_new a laws begins at right

  new_answer : (q : ℕ → ℕ) (n : ℕ) (x : I) (k : K) → next a n (q n) ≡ Some x → is_answered a q k ≡ false → is_answered a (more q n) k ≡ true → a.runs (state_at a (a.home k) (more q n (a.home k))) ≡ true
  new_answer = sound.new_answer a laws begins at right

  answered_submitted : (q : ℕ → ℕ) (i : ℕ) (ts : List (Turn I K O L)) → slice_get a.scripts i ≡ Some (Some ts) → (k : K) → IsIn k (key_in a ts) → is_answered a q k ≡ true → IsSubmitted a q k
  answered_submitted = sound.answered_submitted a laws begins at right

  event_happens : (w w' : World I E K O L) (i n : ℕ) (u : Option L) → Submits a w i n u w' → (w.sessions i).node ≡ Some n → Runs a w n → (w.sessions i).awaits ≡ None → Happens a w (asked_event i u) w'
  event_happens = sound.event_happens a laws begins at right

  session_ends : (p : ℕ → ℕ) → ((n : ℕ) → p n ≡ used n) → (i : ℕ) (ts : List (Turn I K O L)) → slice_get a.scripts i ≡ Some (Some ts) → (s : Session I K O L) → Synced a p (at i) ts s → Caught a p s → (s.done ≡ ts) × (s.left ≡ []) × NothingAwaited a s.awaits × IsSome s.node
  session_ends = sound.session_ends a laws begins at right

  named_once : (ns : List ℕ) (p : ℕ → ℕ) → IsPlacing a ns p → ((n : ℕ) → p n ≡ used n) → IsNamedOnce a
  named_once = sound.named_once a laws begins at right

  abbrev IsLast : Session I K O L → Type 0
  IsLast = going.IsLast a laws at

  abbrev Fits : (ℕ → ℕ) → ℕ → List (Turn I K O L) → Talk → Session I K O L → Type 0
  Fits = going.Fits a laws at

  abbrev Up : (ℕ → ℕ) → ℕ → Type 0
  Up = going.Up a laws at

  abbrev Gone : (ℕ → ℕ) → List E → (ℕ → Session I K O L) → ℕ → List (Turn I K O L) → Bool → Talk → Type 0
  Gone = going.Gone a laws at

  abbrev AllGone : (ℕ → ℕ) → List E → (ℕ → Session I K O L) → (ℕ → Bool) → (ℕ → Bool) → (ℕ → Talk) → ℕ → Type 0
  AllGone = going.AllGone a laws at

  abbrev CanGo : (ℕ → ℕ) → (ℕ → Session I K O L) → (ℕ → Bool) → (ℕ → Bool) → (ℕ → Talk) → Type 0
  CanGo = going.CanGo a laws at

  abbrev NoScript : ℕ → Type 0
  NoScript = going.NoScript a laws at

  gone : (q : ℕ → ℕ) (sent : List E) (f : ℕ → Session I K O L) (i : ℕ) (ts : List (Turn I K O L)) (b : Bool) (t : Talk) → IsBelow q used → Fits q i ts t (f i) → ((y : Awaited K O) → (f i).awaits ≡ Some y → is_answered a q y.key ≡ b) → Up q i ⊎ Caught a q (f i)
      → Gone q sent f i ts b t
  gone = going.gone a laws at

  all_gone : (q : ℕ → ℕ) (sent : List E) (f : ℕ → Session I K O L) (test answered : ℕ → Bool) (talks : ℕ → Talk) → IsBelow q used → CanGo q f test answered talks → (m : ℕ) → AllGone q sent f test answered talks m
  all_gone = going.all_gone a laws at

  last_push : (ks : List K) (k : K) → last_of (ks ++ k ∷ []) ≡ Some k
  last_push [] k = refl
  last_push (k' ∷ []) k = refl
  last_push (k' ∷ k'' ∷ ks) k = last_push (k'' ∷ ks) k

  -- what is kept while inputs are placed
  record Standing (q : ℕ → ℕ) (sent : List E) (f : ℕ → Session I K O L) (talks : ℕ → Talk) : Type 0 where
    all_sent : (n : ℕ) (e : E) → IsIn n a.nodes → IsIn e (sent_at a n (q n)) → IsIn e sent
    fits : (i : ℕ) (ts : List (Turn I K O L)) → slice_get a.scripts i ≡ Some (Some ts) → Fits q i ts (talks i) (f i)
    down : (i : ℕ) (ts : List (Turn I K O L)) → slice_get a.scripts i ≡ Some (Some ts) → a.runs (state_at a (at i) (q (at i))) ≡ false → Caught a q (f i)
    silent : (i : ℕ) → NoScript i → talks i ≡ record { left = []; asked = false }

  sent_after : (q : ℕ → ℕ) (sent : List E) (n : ℕ) (x : I) → next a n (q n) ≡ Some x → ((m : ℕ) (e : E) → IsIn m a.nodes → IsIn e (sent_at a m (q m)) → IsIn e sent)
      → (m : ℕ) (e : E) → IsIn m a.nodes → IsIn e (sent_at a m (more q n m)) → IsIn e (sent ++ a.sends (state_at a n (q n)) x)
  sent_after q sent n x is all m e here =
      put_apart (λ k w. k ≡ m → IsIn e (sent_at a k w) → IsIn e (sent ++ a.sends (state_at a n (q n)) x)) q n (suc (q n))
      (λ f h. ⊎_elim
      (λ l. in_left e sent _ (all n e (subst (λ k. IsIn k a.nodes) (sym f) here) l))
      (λ t. in_right e sent _ (subst (λ o. IsIn e (sends_next a (state_at a n (q n)) o)) is t))
      (in_either e (sent_at a n (q n)) (sends_next a (state_at a n (q n)) (next a n (q n))) h))
      (λ k ne f h. in_left e sent _ (all k e (subst (λ z. IsIn z a.nodes) (sym f) here) h))
      m refl

  -- a session whose node is down is still as far as it can be
  caught_after : (q : ℕ → ℕ) (n : ℕ) (x : I) → next a n (q n) ≡ Some x → (i : ℕ) (ts : List (Turn I K O L)) (s : Session I K O L) → Synced a q (at i) ts s → a.runs (state_at a (at i) (more q n (at i))) ≡ false → Caught a q s → Caught a (more q n) s
  caught_after q n x is i ts s z down c =
      record {
        idle = c.idle;
        waits = λ y e. ⊎_elim
            (λ (t : is_answered a (more q n) y.key ≡ true).
            absurd (true≢false (sym (subst (λ m. a.runs (state_at a m (more q n m)) ≡ true) (z.mine y e) (new_answer q n x y.key is (c.waits y e) t)) ∙ down)))
            (λ f. f)
            (cases_Bool (is_answered a (more q n) y.key));
      }

  synced_after : (q : ℕ → ℕ) (n : ℕ) (x : I) → next a n (q n) ≡ Some x → (i : ℕ) (ts : List (Turn I K O L)) (s : Session I K O L) → ((k : K) → IsIn k (key_in a s.left) → asked a (state_at a n (q n)) x ≡ Some k → ⊥) → Synced a q (at i) ts s → Synced a (more q n) (at i) ts s
  synced_after q n x is i ts s other z =
      record {
        node = z.node;
        whole = z.whole;
        past = λ k h. submitted_more q n k (z.past k h);
        ahead = λ k h sub. ⊎_elim (λ o. z.ahead k h o) (λ e. other k h e) (submitted_new q n x k is sub);
        outcome = z.outcome;
        mine = z.mine;
        quiet = z.quiet;
        held = z.held;
      }

  fits_after : (q : ℕ → ℕ) (n : ℕ) (x : I) → next a n (q n) ≡ Some x → (i : ℕ) (ts : List (Turn I K O L)) (t : Talk) (s : Session I K O L) → ((k : K) → IsIn k (key_in a s.left) → asked a (state_at a n (q n)) x ≡ Some k → ⊥) → Fits q i ts t s → Fits (more q n) i ts t s
  fits_after q n x is i ts t s other h = record { synced = synced_after q n x is i ts s other h.synced; last = h.last; told = h.told }

  record Moved (q : ℕ → ℕ) (n : ℕ) (x : I) (sent : List E) (f : ℕ → Session I K O L) (events : List Event) (talks : ℕ → Talk) : Type 0 where
    sessions : ℕ → Session I K O L
    leads : Leads a (the_world a q sent f) events (the_world a (more q n) (sent ++ a.sends (state_at a n (q n)) x) sessions)
    standing : Standing (more q n) (sent ++ a.sends (state_at a n (q n)) x) sessions talks

  asks_nothing : (s : S) (x : I) → asked a s x ≡ None → (k : K) → asked a s x ≡ Some k → ⊥
  asks_nothing s x none k e = neither k (sym none ∙ e)
    where
      neither : (k : K) → None ≡ Some k → ⊥
      neither k e = absurd (cc)

  -- an input that no session brings, if all sessions whose node is then down are as far as they can be
  moved_quietly : (q : ℕ → ℕ) (n : ℕ) (x : I) (sent : List E) (f g : ℕ → Session I K O L) (before : List Event) (event : Event) (talks talks' : ℕ → Talk) → next a n (q n) ≡ Some x → asked a (state_at a n (q n)) x ≡ None
      → ((m : ℕ) (e : E) → IsIn m a.nodes → IsIn e (sent_at a m (q m)) → IsIn e sent)
      → Leads a (the_world a q sent f) before (the_world a q sent g) → Happens a (the_world a q sent g) event (the_world a (more q n) (sent ++ a.sends (state_at a n (q n)) x) g)
      → ((i : ℕ) (ts : List (Turn I K O L)) → slice_get a.scripts i ≡ Some (Some ts) → Fits q i ts (talks' i) (g i))
      → ((i : ℕ) (ts : List (Turn I K O L)) → slice_get a.scripts i ≡ Some (Some ts) → a.runs (state_at a (at i) (more q n (at i))) ≡ false → Caught a q (g i))
      → ((i : ℕ) → NoScript i → talks' i ≡ record { left = []; asked = false })
      → Moved q n x sent f (before ++ event ∷ []) talks'
  moved_quietly q n x sent f g before event talks talks' is asks all leads happens fits down silent =
      record {
        sessions = g;
        leads = leads_on a before (event ∷ []) _ _ _ leads (the_world a (more q n) (sent ++ a.sends (state_at a n (q n)) x) g, happens, refl);
        standing = record {
          all_sent = sent_after q sent n x is all;
          fits = λ i ts e. fits_after q n x is i ts (talks' i) (g i) (λ k h asked'. asks_nothing (state_at a n (q n)) x asks k asked') (fits i ts e);
          down = λ i ts e d. caught_after q n x is i ts (g i) (fits i ts e).synced d (down i ts e d);
          silent = silent;
        };
      }

  -- a node that stays up after an input: the others that are down were down before
  down_before : (q : ℕ → ℕ) (n : ℕ) (x : I) → next a n (q n) ≡ Some x → a.runs (a.after (state_at a n (q n)) x) ≡ true → (m : ℕ) → a.runs (state_at a m (more q n m)) ≡ false → a.runs (state_at a m (q m)) ≡ false
  down_before q n x is up m =
      put_apart (λ k w. a.runs (state_at a k w) ≡ false → a.runs (state_at a k (q k)) ≡ false) q n (suc (q n))
      (λ d. absurd (true≢false (sym up ∙ (ap (λ o. a.runs (after_next a (state_at a n (q n)) o)) (sym is) ∙ d))))
      (λ k ne d. d)
      m

  -- a node that is down is at the end of its log
  at_end : (q : ℕ → ℕ) (sent : List E) (ps : List Placement) → ArePlaced a q sent ps → (n : ℕ) → a.runs (state_at a n (q n)) ≡ false → q n ≡ used n
  at_end q sent [] h n down = h n
  at_end q sent (p ∷ ps) (x, is, can, from, rest) n down =
      ⊎_elim
      (λ (e : n ≡ p.node). absurd (true≢false (sym (runs_there x is can) ∙ subst (λ m. a.runs (state_at a m (q m)) ≡ false) e down)))
      (λ (ne : n ≡ p.node → ⊥).
      let same : more q p.node n ≡ q n = rw (ne_eqb n p.node ne) refl in
      sym same ∙ at_end (more q p.node) _ ps rest n (subst (λ k. a.runs (state_at a n k) ≡ false) (sym same) down))
      (cases_eq n p.node)
    where
      runs_there : (x : I) → next a p.node (q p.node) ≡ Some x → can_place a q p.node ≡ true → a.runs (state_at a p.node (q p.node)) ≡ true
      runs_there x is can = (and_parts _ _ (sym (ap (is_met a q p.node) is) ∙ can)).0

  below_used : (q : ℕ → ℕ) (sent : List E) (ps : List Placement) → ArePlaced a q sent ps → IsBelow q used
  below_used q sent [] h n = exact (q n) (used n) (h n)
    where
      exact : (i j : ℕ) → i ≡ j → i ≤ j
      exact i j e = omega (arith, e)
  below_used q sent (p ∷ ps) (x, is, can, from, rest) n =
      less (q n) (more q p.node n) (used n) (put_each (λ m v. q m ≤ v) q p.node (suc (q p.node)) (omega arith) (λ m. omega arith) n) (below_used (more q p.node) _ ps rest n)
    where
      less : (i j k : ℕ) → i ≤ j → j ≤ k → i ≤ k
      less i j k h h' = omega (arith, h, h')

  last_answered : (i : ℕ) (ts : List (Turn I K O L)) → slice_get a.scripts i ≡ Some (Some ts) → (q : ℕ → ℕ) (s : Session I K O L) → Synced a q (at i) ts s → IsLast s → ((k : K) → IsIn k (key_in a s.left) → ⊥) → (y : Awaited K O) → s.awaits ≡ Some y → (in_the_end a) i ≡ is_answered a used y.key
  last_answered i ts script q s z l none y awaits =
      let left : key_in a s.left ≡ [] = no_member (key_in a s.left) none in
      let keys : key_in a ts ≡ key_in a s.done = ap (key_in a) (sym z.whole) ∙ (keys_both a s.done s.left ∙ (ap (λ ks. key_in a s.done ++ ks) left ∙ append-nil (key_in a s.done))) in
      ap (λ u. (answered_last a) (last_of ((script_keys a) u))) script ∙ ap (answered_last a) (ap last_of keys ∙ l y awaits)
    where
      no_member : (ks : List K) → ((k : K) → IsIn k ks → ⊥) → ks ≡ []
      no_member [] h = refl
      no_member (k ∷ ks) h = absurd (h k (inl refl))

  -- a command of a script is submitted in the log of the session's node
  submitted_at : (i : ℕ) (ts : List (Turn I K O L)) → slice_get a.scripts i ≡ Some (Some ts) → (k : K) → IsIn k (key_in a ts) → (j : ℕ) × (x : I) × (next a (a.home k) j ≡ Some x) × (asked a (state_at a (a.home k) j) x ≡ Some k) × (a.home k ≡ at i)
  submitted_at i ts script k h =
      let sp = spot a k ts h in
      let ir : IsRight a (at i) sp.input k sp.outcome = (right_at a (at i) sp.before sp.line sp.input k sp.outcome sp.rest (subst (λ us. AreRight a (at i) us) sp.is (right i ts script).1)).0 in
      let m = ir.submit in
      (m.0, sp.input, m.1, asked_some (state_at a (a.home k) m.0) sp.input k ir.locks m.2, ir.mine)

  in_script : (q : ℕ → ℕ) (i : ℕ) (ts : List (Turn I K O L)) (s : Session I K O L) → Synced a q (at i) ts s → (k : K) → IsIn k (key_in a s.left) → IsIn k (key_in a ts)
  in_script q i ts s z k h = subst (λ us. IsIn k (key_in a us)) z.whole (subst (λ ks. IsIn k ks) (sym (keys_both a s.done s.left)) (in_right k (key_in a s.done) _ h))

  -- if all but one input of a log is placed, and that one is of no session, its sessions have asked all
  nothing_asked_last : (q : ℕ → ℕ) (n : ℕ) (x : I) → next a n (q n) ≡ Some x → asked a (state_at a n (q n)) x ≡ None → suc (q n) ≡ used n → (i : ℕ) (ts : List (Turn I K O L)) → slice_get a.scripts i ≡ Some (Some ts) → at i ≡ n → (s : Session I K O L) → Synced a q (at i) ts s → (k : K) → IsIn k (key_in a s.left) → ⊥
  nothing_asked_last q n x is asks whole i ts script here s z k h =
      let m = submitted_at i ts script k (in_script q i ts s z k h) in
      let home : a.home k ≡ n = m.4 ∙ here in
      let m2 : next a n m.0 ≡ Some m.1 = subst (λ w. next a w m.0 ≡ Some m.1) home m.2 in
      let m3 : asked a (state_at a n m.0) m.1 ≡ Some k = subst (λ w. asked a (state_at a w m.0) m.1 ≡ Some k) home m.3 in
      let less : m.0 < used n = got_below (a.logs n) m.0 m.1 m2 in
      ⊎_elim
      (λ (low : m.0 < q n). z.ahead k h (m.0, m.1, subst (λ w. m.0 < q w) (sym home) low, m.2, m.3))
      (λ (high : q n ≤ m.0).
      let same : m.0 ≡ q n = exact m.0 (q n) (used n) less whole high in
      let input : m.1 ≡ x = same_some m.1 x (sym m2 ∙ (ap (next a n) same ∙ is)) in
      asks_nothing (state_at a n (q n)) x asks k (subst (λ w. asked a (state_at a n (q n)) w ≡ Some k) input (subst (λ j. asked a (state_at a n j) m.1 ≡ Some k) same m3)))
      (cases_lt m.0 (q n))
    where
      exact : (i j k : ℕ) → i < k → suc j ≡ k → j ≤ i → i ≡ j
      exact i j k h e l = omega (arith, h, e, l)

  -- the last input of a node answers nothing
  answered_before : (q : ℕ → ℕ) (n : ℕ) (x : I) → next a n (q n) ≡ Some x → a.runs (a.after (state_at a n (q n)) x) ≡ false → suc (q n) ≡ used n → (k : K) → a.home k ≡ n → is_answered a q k ≡ is_answered a used k
  answered_before q n x is down whole k home =
      let after_it : state_at a n (used n) ≡ a.after (state_at a n (q n)) x = ap (state_at a n) (sym whole) ∙ ap (after_next a (state_at a n (q n))) is in
      let same : a.answer (state_at a n (used n)) k ≡ a.answer (state_at a n (q n)) k = ap (λ s. a.answer s k) after_it ∙ laws.last (state_at a n (q n)) x k down in
      subst (λ m. is_some (a.answer (state_at a m (q m)) k) ≡ is_some (a.answer (state_at a m (used m)) k)) (sym home) (ap is_some (sym same))

  -- a crash: first its node's sessions go on
  moved_last : (q : ℕ → ℕ) (n : ℕ) (x : I) (sent : List E) (f : ℕ → Session I K O L) (talks : ℕ → Talk) → Standing q sent f talks → IsBelow q used → next a n (q n) ≡ Some x → a.runs (state_at a n (q n)) ≡ true → a.brought x ≡ None → asked a (state_at a n (q n)) x ≡ None → a.runs (a.after (state_at a n (q n)) x) ≡ false → suc (q n) ≡ used n
      → Moved q n x sent f (all_go_on (λ i. at i == n) (in_the_end a) talks (length a.scripts) ++ Given (a.number n) ∷ []) (all_gone_on (λ i. at i == n) (in_the_end a) talks)
  moved_last q n x sent f talks st below is up brings asks down whole =
      let can : CanGo q f (λ i. at i == n) (in_the_end a) talks = record {
        fits = st.fits;
        there = λ i ts y e t awaits.
            let here : at i ≡ n = eqb-true (at i) n t in
            let z = (st.fits i ts e).synced in
            answered_before q n x is down whole y.key (z.mine y awaits ∙ here)
            ∙ sym (last_answered i ts e q (f i) z (st.fits i ts e).last (nothing_asked_last q n x is asks whole i ts e here (f i) z) y awaits);
        up = λ i ts e t. inl (subst (λ m. a.runs (state_at a m (q m)) ≡ true) (sym (eqb-true (at i) n t)) up);
        silent = st.silent;
      } in
      let g = all_gone q sent f (λ i. at i == n) (in_the_end a) talks below can (length a.scripts) in
      let inside : (i : ℕ) (ts : List (Turn I K O L)) → slice_get a.scripts i ≡ Some (Some ts) → i < length a.scripts = λ i ts e. got_below a.scripts i (Some ts) e in
      moved_quietly q n x sent f g.sessions (all_go_on (λ i. at i == n) (in_the_end a) talks (length a.scripts)) (Given (a.number n)) talks (all_gone_on (λ i. at i == n) (in_the_end a) talks) is asks st.all_sent g.leads
      (n, x, refl, brings, asks, (is, up, refl))
      (λ i ts e. g.fits i (inside i ts e) ts e)
      (λ i ts e d. ⊎_elim
      (λ (here : at i ≡ n). g.caught i (inside i ts e) ts e (eq-eqb (at i) n here))
      (λ (ne : at i ≡ n → ⊥). subst (Caught a q) (sym (g.untested i (ne_eqb (at i) n ne)))
      (st.down i ts e (subst (λ k. a.runs (state_at a (at i) k) ≡ false) (ne_put q n (at i) ne) d)))
      (cases_eq (at i) n))
      (λ i none. ap (λ t. cond (at i == n) (gone_on ((in_the_end a) i) t) t) (st.silent i none) ∙ blank_stays (at i == n) ((in_the_end a) i))
    where
      ne_put : (q : ℕ → ℕ) (n m : ℕ) → (m ≡ n → ⊥) → more q n m ≡ q m
      ne_put q n m ne = rw (ne_eqb m n ne) refl

      blank_stays : (t b : Bool) → cond t (gone_on b (record { left = []; asked = false })) (record { left = []; asked = false }) ≡ record { left = []; asked = false }
      blank_stays true b = refl
      blank_stays false b = refl

  asking_event_is : (i : ℕ) (line : Option L) (x : I) (k : K) (o : Option O) (ks : List Kind) → asking_event i (kind_of (Asks line x k o) ∷ ks) ≡ asked_event i line ∷ []
  asking_event_is i None x k o ks = refl
  asking_event_is i (Some l) x k o ks = refl

  awaits_is : (line : Option L) (x : I) (k : K) (o : Option O) (ks : List Kind) → is_some (awaited_by line k o) ≡ awaits_after (kind_of (Asks line x k o) ∷ ks)
  awaits_is None x k o ks = refl
  awaits_is (Some l) x k o ks = refl

  -- what is known of a session that is to ask
  record Ready_to_ask (q : ℕ → ℕ) (i : ℕ) (ts : List (Turn I K O L)) (x : I) (key : K) : Type 0 where
    line : Option L
    outcome : Option O
    before : List (Turn I K O L)
    rest : List (Turn I K O L)
    is : ts ≡ before ++ Asks line x key outcome ∷ rest
    right_so : IsRight a (at i) x key outcome
    quiet : outcome ≡ None → HasNoLine a rest
    ends : EndsIfHangup line outcome rest
    answered : (k : K) → IsIn k (key_in a before) → is_answered a q k ≡ true
    fresh : IsSubmitted a q key → ⊥

  -- it has asked all that stands before, and nothing else
  lined_up : (q : ℕ → ℕ) (i : ℕ) (ts : List (Turn I K O L)) (x : I) (key : K) → slice_get a.scripts i ≡ Some (Some ts) → (r : Ready_to_ask q i ts x key) → (s : Session I K O L) → Synced a q (at i) ts s
      → Aligned a key (Asks r.line x key r.outcome) s.done s.left r.before r.rest
  lined_up q i ts x key script r s z =
      aligned a (IsSubmitted a q) r.line x key r.outcome s.done s.left r.before r.rest (z.whole ∙ r.is) z.past z.ahead
      (λ k h. answered_submitted q i ts script k (subst (λ us. IsIn k (key_in a us)) (sym r.is) (subst (λ vs. IsIn k vs) (sym (keys_both a r.before (Asks r.line x key r.outcome ∷ r.rest))) (in_left k (key_in a r.before) _ h))) (r.answered k h))
      r.fresh

  -- so what it awaits is answered
  awaited_there : (q : ℕ → ℕ) (i : ℕ) (ts : List (Turn I K O L)) (x : I) (key : K) → slice_get a.scripts i ≡ Some (Some ts) → (r : Ready_to_ask q i ts x key) → (s : Session I K O L) → Synced a q (at i) ts s → (y : Awaited K O) → s.awaits ≡ Some y → is_answered a q y.key ≡ true
  awaited_there q i ts x key script r s z y e =
      let al = lined_up q i ts x key script r s z in
      r.answered y.key (subst (λ us. IsIn y.key (key_in a us)) (sym al.before_is) (subst (λ vs. IsIn y.key vs) (sym (keys_both a s.done al.between)) (in_left y.key (key_in a s.done) _ (z.held y e))))

  awaits_none : (q : ℕ → ℕ) (i : ℕ) (ts : List (Turn I K O L)) (x : I) (key : K) → slice_get a.scripts i ≡ Some (Some ts) → (r : Ready_to_ask q i ts x key) → (s : Session I K O L) → Synced a q (at i) ts s → Caught a q s → s.awaits ≡ None
  awaits_none q i ts x key script r s z c =
      go s.awaits (λ y e. true≢false (sym (awaited_there q i ts x key script r s z y e) ∙ c.waits y e))
    where
      go : (o : Option (Awaited K O)) → ((y : Awaited K O) → o ≡ Some y → ⊥) → o ≡ None
      go None h = refl
      go (Some y) h = absurd (h y refl)

  left_asks : (q : ℕ → ℕ) (i : ℕ) (ts : List (Turn I K O L)) (x : I) (key : K) → slice_get a.scripts i ≡ Some (Some ts) → (r : Ready_to_ask q i ts x key) → (s : Session I K O L) → Synced a q (at i) ts s → Caught a q s → s.left ≡ Asks r.line x key r.outcome ∷ r.rest
  left_asks q i ts x key script r s z c =
      let al = lined_up q i ts x key script r s z in
      let none = awaits_none q i ts x key script r s z c in
      let empty : al.between ≡ [] = at_once a al.between (Asks r.line x key r.outcome) r.rest al.no_keys (subst (StartsAsking a) al.left_is (c.idle none)) in
      al.left_is ∙ ap (λ us. us ++ Asks r.line x key r.outcome ∷ r.rest) empty

  -- a session that has gone on asks
  asks_now : (q : ℕ → ℕ) (n : ℕ) (x : I) (sent : List E) (F : ℕ → Session I K O L) (i : ℕ) (ts : List (Turn I K O L)) (key : K) (r : Ready_to_ask q i ts x key)
      → next a n (q n) ≡ Some x → a.runs (state_at a n (q n)) ≡ true → a.brought x ≡ None → asked a (state_at a n (q n)) x ≡ Some key → (F i).node ≡ Some n → (F i).awaits ≡ None → (F i).left ≡ Asks r.line x key r.outcome ∷ r.rest
      → Happens a (the_world a q sent F) (asked_event i r.line) (the_world a (more q n) (sent ++ a.sends (state_at a n (q n)) x) (put F i (asked_session n (F i).done r.line x key r.outcome r.rest)))
  asks_now q n x sent F i ts key r is up brings asks node none left =
      event_happens (the_world a q sent F) _ i n r.line (x, key, r.outcome, r.rest, left, brings, asks, (is, up, refl), r.ends) node up none

  fits_asked : (q : ℕ → ℕ) (n : ℕ) (x : I) (i : ℕ) (ts : List (Turn I K O L)) (key : K) (r : Ready_to_ask q i ts x key) (t : Talk) (s : Session I K O L) → slice_get a.scripts i ≡ Some (Some ts) → next a n (q n) ≡ Some x → asked a (state_at a n (q n)) x ≡ Some key → a.home key ≡ n → Synced a q (at i) ts s → s.left ≡ Asks r.line x key r.outcome ∷ r.rest → kinds s.left ≡ t.left
      → Fits (more q n) i ts (record { left = behind t.left; asked = awaits_after t.left }) (asked_session n s.done r.line x key r.outcome r.rest)
  fits_asked q n x i ts key r t s script is asks home z left told =
      let n_at : at i ≡ n = sym r.right_so.mine ∙ home in
      let script' : slice_get a.scripts i ≡ Some (Some (r.before ++ Asks r.line x key r.outcome ∷ r.rest)) = script ∙ ap (λ us. Some (Some us)) r.is in
      let here : IsSubmitted a (more q n) key = subst (λ m. (j : ℕ) × (y : I) × (j < more q n m) × (next a m j ≡ Some y) × (asked a (state_at a m j) y ≡ Some key)) (sym home) (q n, x, subst (λ v. q n < v) (sym (put_here q n (suc (q n)))) (omega arith), is, asks) in
      record {
        synced = record {
          node = ap (λ m. Some m) (sym n_at);
          whole = append_assoc s.done (Asks r.line x key r.outcome ∷ []) r.rest ∙ (ap (λ us. s.done ++ us) (sym left) ∙ z.whole);
          past = λ k h. ⊎_elim
              (λ l. submitted_more q n k (z.past k l))
              (λ (w : IsIn k (key ∷ [])). ⊎_elim (λ (e : key ≡ k). subst (IsSubmitted a (more q n)) e here) (λ no. absurd no) w)
              (in_either k (key_in a s.done) (key ∷ []) (subst (λ ks. IsIn k ks) (keys_both a s.done (Asks r.line x key r.outcome ∷ [])) h));
          ahead = λ k h sub. ⊎_elim
              (λ old. z.ahead k (subst (λ us. IsIn k (key_in a us)) (sym left) (inr h)) old)
              (λ w. not_after a laws key a.scripts i r.before r.rest r.line x r.outcome script' r.right_so.once (subst (λ kk. IsIn kk (key_in a r.rest)) (sym (same_some key k (sym asks ∙ w))) h))
              (submitted_new q n x k is sub);
          outcome = λ y v e. subst (λ (w : Awaited K O). w.outcome ≡ Some v → a.answer (state_at a (a.home w.key) (length (a.logs (a.home w.key)))) w.key ≡ Some v) (awaited_is r.line key r.outcome y e) (r.right_so.outcome v);
          mine = λ y e. subst (λ (w : Awaited K O). a.home w.key ≡ at i) (awaited_is r.line key r.outcome y e) r.right_so.mine;
          quiet = λ y e. subst (λ (w : Awaited K O). w.outcome ≡ None → HasNoLine a r.rest) (awaited_is r.line key r.outcome y e) r.quiet;
          held = λ y e. subst (λ (w : Awaited K O). IsIn w.key (key_in a (s.done ++ Asks r.line x key r.outcome ∷ []))) (awaited_is r.line key r.outcome y e) (subst (λ ks. IsIn key ks) (sym (keys_both a s.done (Asks r.line x key r.outcome ∷ []))) (in_right key (key_in a s.done) _ (inl refl)));
        };
        last = λ y e. ap last_of (keys_both a s.done (Asks r.line x key r.outcome ∷ [])) ∙ (last_push (key_in a s.done) key ∙ ap (λ (w : Awaited K O). Some w.key) (awaited_is r.line key r.outcome y e));
        told = record { left = sym (ap behind (sym told ∙ ap kinds left)); asked = awaits_is r.line x key r.outcome (kinds r.rest) ∙ sym (ap awaits_after (sym told ∙ ap kinds left)) };
      }

  -- only one session has the command left to ask
  not_elsewhere : (q : ℕ → ℕ) (i : ℕ) (ts : List (Turn I K O L)) (x : I) (key : K) (r : Ready_to_ask q i ts x key) → slice_get a.scripts i ≡ Some (Some ts) → (j : ℕ) (us : List (Turn I K O L)) → slice_get a.scripts j ≡ Some (Some us) → (s : Session I K O L) → Synced a q (at j) us s → IsIn key (key_in a s.left) → j ≡ i
  not_elsewhere q i ts x key r script j us e s z h =
      let sp = spot a key us (in_script q j us s z key h) in
      one_place a laws key a.scripts j i sp.before sp.rest r.before r.rest sp.line r.line sp.input x sp.outcome r.outcome (e ∙ ap (λ vs. Some (Some vs)) sp.is) (script ∙ ap (λ vs. Some (Some vs)) r.is) r.right_so.once

  moved_asking : (q : ℕ → ℕ) (n : ℕ) (x : I) (sent : List E) (f : ℕ → Session I K O L) (talks : ℕ → Talk) → Standing q sent f talks → IsBelow q used → next a n (q n) ≡ Some x → a.runs (state_at a n (q n)) ≡ true → a.brought x ≡ None → a.runs (a.after (state_at a n (q n)) x) ≡ true
      → (i : ℕ) (ts : List (Turn I K O L)) (key : K) → slice_get a.scripts i ≡ Some (Some ts) → asked a (state_at a n (q n)) x ≡ Some key → a.home key ≡ n → Ready_to_ask q i ts x key
      → Moved q n x sent f (asks_on i (talks i)) (put talks i (asked_on (talks i)))
  moved_asking q n x sent f talks st below is up brings up' i ts key script asks home r =
      let n_at : at i ≡ n = sym r.right_so.mine ∙ home in
      let up_i : Up q i = subst (λ m. a.runs (state_at a m (q m)) ≡ true) (sym n_at) up in
      let g = gone q sent f i ts true (talks i) below (st.fits i ts script) (λ y e. awaited_there q i ts x key script r (f i) (st.fits i ts script).synced y e) (inl up_i) in
      let F = put f i g.session in
      let at_i : F i ≡ g.session = put_at f i g.session in
      let z : Synced a q (at i) ts (F i) = subst (λ w. Synced a q (at i) ts w) (sym at_i) g.fits.synced in
      let c : Caught a q (F i) = subst (λ w. Caught a q w) (sym at_i) g.caught in
      let left = left_asks q i ts x key script r (F i) z c in
      let told : kinds (F i).left ≡ (gone_on true (talks i)).left = ap (λ (w : Session I K O L). kinds w.left) at_i ∙ g.fits.told.left in
      let new = asked_session n (F i).done r.line x key r.outcome r.rest in
      let happens = asks_now q n x sent F i ts key r is up brings asks (z.node ∙ ap (λ m. Some m) n_at) (awaits_none q i ts x key script r (F i) z c) left in
      let asking_event_so : asking_event i (gone_on true (talks i)).left ≡ asked_event i r.line ∷ [] = ap (asking_event i) (sym told ∙ ap kinds left) ∙ asking_event_is i r.line x key r.outcome (kinds r.rest) in
      record {
        sessions = put F i new;
        leads = subst (λ es. Leads a (the_world a q sent f) (goes_on i true (talks i) ++ es) (the_world a (more q n) (sent ++ a.sends (state_at a n (q n)) x) (put F i new))) (sym asking_event_so)
            (leads_on a (goes_on i true (talks i)) (asked_event i r.line ∷ []) _ _ _ g.leads (the_world a (more q n) (sent ++ a.sends (state_at a n (q n)) x) (put F i new), happens, refl));
        standing = record {
          all_sent = sent_after q sent n x is st.all_sent;
          fits = λ j us e. put_apart (λ m w. j ≡ m → Fits (more q n) j us (put talks i (asked_on (talks i)) j) w) F i new
              (λ same. subst (λ m. (vs : List (Turn I K O L)) → slice_get a.scripts m ≡ Some (Some vs) → Fits (more q n) m vs (put talks i (asked_on (talks i)) m) new) (sym same)
              (λ vs e'. subst (λ w. Fits (more q n) i vs w new) (sym (put_at talks i (asked_on (talks i)))) (subst (λ ws. Fits (more q n) i ws (asked_on (talks i)) new) (same_script a (slice_get a.scripts i) ts vs script e') (fits_asked q n x i ts key r (gone_on true (talks i)) (F i) script is asks home z left told))) us e)
              (λ m ne same. subst (λ w. Fits (more q n) j us (put talks i (asked_on (talks i)) j) (F w)) same (fits_other j us e (λ e'. ne (sym same ∙ e')) g.session))
              j refl;
          down = λ j us e d. put_apart (λ m w. j ≡ m → Caught a (more q n) w) F i new
              (λ same. absurd (true≢false (sym up' ∙ still_up j (ap at same ∙ n_at) d)))
              (λ m ne same. subst (λ w. Caught a (more q n) (F w)) same (caught_other j us e (λ e'. ne (sym same ∙ e')) g.session d))
              j refl;
          silent = λ j none. put_apart (λ m w. j ≡ m → w ≡ record { left = []; asked = false }) talks i (asked_on (talks i)) (λ same. absurd (none ts (subst (λ m. slice_get a.scripts m ≡ Some (Some ts)) (sym same) script))) (λ m ne same. subst (λ w. talks w ≡ record { left = []; asked = false }) same (st.silent j none)) j refl;
        };
      }
    where
      elsewhere : {X : Type 0} (h : ℕ → X) (w : X) (j : ℕ) → (j ≡ i → ⊥) → put h i w j ≡ h j
      elsewhere h w j ne = rw (ne_eqb j i ne) refl

      fits_other : (j : ℕ) (us : List (Turn I K O L)) → slice_get a.scripts j ≡ Some (Some us) → (j ≡ i → ⊥) → (w : Session I K O L) → Fits (more q n) j us (put talks i (asked_on (talks i)) j) (put f i w j)
      fits_other j us e ne w =
          let old = st.fits j us e in
          subst (λ s. Fits (more q n) j us (put talks i (asked_on (talks i)) j) s) (sym (elsewhere f w j ne))
          (subst (λ t. Fits (more q n) j us t (f j)) (sym (elsewhere talks (asked_on (talks i)) j ne))
          (fits_after q n x is j us (talks j) (f j) (λ k h asked'. ne (not_elsewhere q i ts x key r script j us e (f j) old.synced (subst (λ kk. IsIn kk (key_in a (f j).left)) (sym (same_some key k (sym asks ∙ asked'))) h))) old))

      still_up : (j : ℕ) → at j ≡ n → a.runs (state_at a (at j) (more q n (at j))) ≡ false → a.runs (a.after (state_at a n (q n)) x) ≡ false
      still_up j here d =
          let d' : a.runs (state_at a n (more q n n)) ≡ false = subst (λ m. a.runs (state_at a m (more q n m)) ≡ false) here d in
          let d'' : a.runs (state_at a n (suc (q n))) ≡ false = subst (λ k. a.runs (state_at a n k) ≡ false) (put_here q n (suc (q n))) d' in
          subst (λ o. a.runs (after_next a (state_at a n (q n)) o) ≡ false) is d''

      caught_other : (j : ℕ) (us : List (Turn I K O L)) → slice_get a.scripts j ≡ Some (Some us) → (j ≡ i → ⊥) → (w : Session I K O L) → a.runs (state_at a (at j) (more q n (at j))) ≡ false → Caught a (more q n) (put f i w j)
      caught_other j us e ne w d =
          subst (λ s. Caught a (more q n) s) (sym (elsewhere f w j ne))
          (caught_after q n x is j us (f j) (st.fits j us e).synced d (st.down j us e (down_before q n x is up' (at j) d)))

  -- one placement more
  moved : (q : ℕ → ℕ) (sent : List E) (f : ℕ → Session I K O L) (talks : ℕ → Talk) (p : Placement) (x : I) (ps : List Placement) → Standing q sent f talks → next a p.node (q p.node) ≡ Some x → can_place a q p.node ≡ true → IsFrom a q sent p.node x p.source → ArePlaced a (more q p.node) (sent ++ a.sends (state_at a p.node (q p.node)) x) ps
      → Moved q p.node x sent f (events_of a.number at (in_the_end a) (length a.scripts) talks p.node p.source) (talks_after a.number at (in_the_end a) (length a.scripts) talks p.node p.source)
  moved q sent f talks p x ps st is can from rest =
      go p.source from
    where
      met : is_met a q p.node (Some x) ≡ true
      met = sym (ap (is_met a q p.node) is) ∙ can

      up : a.runs (state_at a p.node (q p.node)) ≡ true
      up = (and_parts (a.runs (state_at a p.node (q p.node))) (message_there a q p.node (a.brought x) && turn_there a q (asked a (state_at a p.node (q p.node)) x)) met).0

      others : (message_there a q p.node (a.brought x) && turn_there a q (asked a (state_at a p.node (q p.node)) x)) ≡ true
      others = (and_parts (a.runs (state_at a p.node (q p.node))) (message_there a q p.node (a.brought x) && turn_there a q (asked a (state_at a p.node (q p.node)) x)) met).1

      less : (i j k : ℕ) → i ≤ j → j ≤ k → i ≤ k
      less i j k h h' = omega (arith, h, h')

      below : IsBelow q used
      below m = less (q m) (more q p.node m) (used m) (put_each (λ m v. q m ≤ v) q p.node (suc (q p.node)) (omega arith) (λ m. omega arith) m) (below_used (more q p.node) (sent ++ a.sends (state_at a p.node (q p.node)) x) ps rest m)

      down_is : a.runs (a.after (state_at a p.node (q p.node)) x) ≡ true → (i : ℕ) (ts : List (Turn I K O L)) → slice_get a.scripts i ≡ Some (Some ts) → a.runs (state_at a (at i) (more q p.node (at i))) ≡ false → Caught a q (f i)
      down_is up' i ts e d = st.down i ts e (down_before q p.node x is up' (at i) d)

      quiet_move : (event : Event) → asked a (state_at a p.node (q p.node)) x ≡ None → a.runs (a.after (state_at a p.node (q p.node)) x) ≡ true → Happens a (the_world a q sent f) event (the_world a (more q p.node) (sent ++ a.sends (state_at a p.node (q p.node)) x) f) → Moved q p.node x sent f (event ∷ []) talks
      quiet_move event asks up' happens = moved_quietly q p.node x sent f f [] event talks talks is asks st.all_sent refl happens st.fits (down_is up') st.silent

      at_home : (key : K) → asked a (state_at a p.node (q p.node)) x ≡ Some key → a.home key ≡ p.node
      at_home key asks = laws.home p.node (q p.node) x key is (asked_key (state_at a p.node (q p.node)) x key asks)

      contrary : (i j : ℕ) → i < j → i ≡ j → ⊥
      contrary i j h e = absurd (omega (arith, h, e))

      ready : (i : ℕ) (ts : List (Turn I K O L)) (key : K) → slice_get a.scripts i ≡ Some (Some ts) → asked a (state_at a p.node (q p.node)) x ≡ Some key → IsIn key (key_in a ts) → Ready_to_ask q i ts x key
      ready i ts key script asks there =
          let sp = spot a key ts there in
          let both = right_at a (at i) sp.before sp.line sp.input key sp.outcome sp.rest (subst (λ us. AreRight a (at i) us) sp.is (right i ts script).1) in
          let ir = both.0 in
          let key_is = asked_key (state_at a p.node (q p.node)) x key asks in
          let home = at_home key asks in
          let m = ir.submit in
          let m1 : next a p.node m.0 ≡ Some sp.input = subst (λ z. next a z m.0 ≡ Some sp.input) home m.1 in
          let m2 : a.key_of (state_at a p.node m.0) sp.input ≡ Some key = subst (λ z. a.key_of (state_at a z m.0) sp.input ≡ Some key) home m.2 in
          let j : m.0 ≡ q p.node = laws.once p.node m.0 (q p.node) sp.input x key m1 is m2 key_is in
          let same : sp.input ≡ x = same_some sp.input x (sym m1 ∙ (ap (next a p.node) j ∙ is)) in
          let earlier : earlier_among a key a.scripts ≡ Some (key_in a sp.before) = earlier_is a laws key a.scripts i sp.before sp.rest sp.line sp.input sp.outcome (script ∙ ap (λ us. Some (Some us)) sp.is) ir.once in
          let turn : all_answered a q (Some (key_in a sp.before)) ≡ true = sym (ap (turn_there a q) asks ∙ ap (all_answered a q) earlier) ∙ (and_parts (message_there a q p.node (a.brought x)) (turn_there a q (asked a (state_at a p.node (q p.node)) x)) others).1 in
          record {
            line = sp.line;
            outcome = sp.outcome;
            before = sp.before;
            rest = sp.rest;
            is = sp.is ∙ ap (λ z. sp.before ++ Asks sp.line z key sp.outcome ∷ sp.rest) same;
            right_so = subst (λ z. IsRight a (at i) z key sp.outcome) same ir;
            quiet = both.1;
            ends = both.2;
            answered = λ k h. all_in (λ z. is_answered a q z) (key_in a sp.before) k turn h;
            fresh = λ sub. contrary sub.0 (q p.node) (subst (λ z. sub.0 < q z) home sub.2)
                (laws.once p.node sub.0 (q p.node) sub.1 x key (subst (λ z. next a z sub.0 ≡ Some sub.1) home sub.3) is (asked_key (state_at a p.node sub.0) sub.1 key (subst (λ z. asked a (state_at a z sub.0) sub.1 ≡ Some key) home sub.4)) key_is);
          }

      go : (s : Source) → IsFrom a q sent p.node x s → Moved q p.node x sent f (events_of a.number at (in_the_end a) (length a.scripts) talks p.node s) (talks_after a.number at (in_the_end a) (length a.scripts) talks p.node s)
      go Own (brings, asks, up') = quiet_move (Given (a.number p.node)) asks up' (p.node, x, refl, brings, asks, (is, up, refl))
      go Last (brings, asks, down') =
          let end : suc (q p.node) ≡ used p.node = sym (put_here q p.node (suc (q p.node))) ∙ at_end (more q p.node) _ ps rest p.node (subst (λ k. a.runs (state_at a p.node k) ≡ false) (sym (put_here q p.node (suc (q p.node)))) (subst (λ o. a.runs (after_next a (state_at a p.node (q p.node)) o) ≡ false) (sym is) down')) in
          moved_last q p.node x sent f talks st below is up brings asks down' end
      go (Message k) (e, at_k, brings, up') =
          let there : message_there a q p.node (Some e) ≡ true = sym (ap (message_there a q p.node) brings) ∙ (and_parts (message_there a q p.node (a.brought x)) (turn_there a q (asked a (state_at a p.node (q p.node)) x)) others).0 in
          let to : a.to e ≡ p.node = eqb-true (a.to e) p.node (and_parts _ _ there).0 in
          let asks : asked a (state_at a p.node (q p.node)) x ≡ None = asked_none (state_at a p.node (q p.node)) x (laws.apart (state_at a p.node (q p.node)) x e brings) in
          quiet_move (Arrive k) asks up'
          (subst (λ z. Happens a (the_world a q sent f) (Arrive k) (the_world a (more q z) (sent ++ a.sends (state_at a z (q z)) x) f)) to
          (e, x, at_k, brings, subst (λ z. asked a (state_at a z (q z)) x ≡ None) (sym to) asks, (subst (λ z. next a z (q z) ≡ Some x) (sym to) is, subst (λ z. a.runs (state_at a z (q z)) ≡ true) (sym to) up, refl)))
      go (FromSession i) (ts, key, script, asks, there, up') =
          moved_asking q p.node x sent f talks st below is up (brought_none (a.brought x) refl) up' i ts key script asks (at_home key asks) (ready i ts key script asks there)
        where
          brought_none : (o : Option E) → a.brought x ≡ o → a.brought x ≡ None
          brought_none None e = e
          brought_none (Some m) e = absurd (asks_nothing (state_at a p.node (q p.node)) x (asked_none (state_at a p.node (q p.node)) x (laws.apart (state_at a p.node (q p.node)) x m e)) key asks)

  -- at the end all sessions go on, and each is at its end
  record Ended (q : ℕ → ℕ) (sent : List E) (f : ℕ → Session I K O L) (events : List Event) : Type 0 where
    world : World I E K O L
    leads : Leads a (the_world a q sent f) events world
    ends : Ends a world

  ended : (q : ℕ → ℕ) (sent : List E) (f : ℕ → Session I K O L) (talks : ℕ → Talk) → Standing q sent f talks → ((n : ℕ) → q n ≡ used n) → Ended q sent f (all_go_on (λ i. true) (in_the_end a) talks (length a.scripts))
  ended q sent f talks st all =
      let can : CanGo q f (λ i. true) (in_the_end a) talks = record {
        fits = st.fits;
        there = λ i ts y e t awaits.
            let z = (st.fits i ts e).synced in
            subst (λ k. is_some (a.answer (state_at a (a.home y.key) k) y.key) ≡ (in_the_end a) i) (sym (all (a.home y.key)))
            (sym (last_answered i ts e q (f i) z (st.fits i ts e).last (no_keys i ts e z) y awaits));
        up = λ i ts e t. ⊎_elim (λ u. inl u) (λ d. inr (st.down i ts e d)) (cases_Bool (a.runs (state_at a (at i) (q (at i)))));
        silent = st.silent;
      } in
      let g = all_gone q sent f (λ i. true) (in_the_end a) talks below can (length a.scripts) in
      record { world = the_world a q sent g.sessions; leads = g.leads; ends = (all, λ i. session_end g.sessions (λ j h ts s. (g.fits j h ts s).synced) (λ j h ts s. g.caught j h ts s refl) i (slice_get a.scripts i) refl) }
    where
      exact : (i j : ℕ) → i ≡ j → i ≤ j
      exact i j e = omega (arith, e)

      below : IsBelow q used
      below n = exact (q n) (used n) (all n)

      no_keys : (i : ℕ) (ts : List (Turn I K O L)) → slice_get a.scripts i ≡ Some (Some ts) → Synced a q (at i) ts (f i) → (k : K) → IsIn k (key_in a (f i).left) → ⊥
      no_keys i ts e z k h =
          let m = submitted_at i ts e k (in_script q i ts (f i) z k h) in
          z.ahead k h (m.0, m.1, subst (λ v. m.0 < v) (sym (all (a.home k))) (got_below (a.logs (a.home k)) m.0 m.1 m.2), m.2, m.3)

      session_end : (g : ℕ → Session I K O L) → ((j : ℕ) → j < length a.scripts → (ts : List (Turn I K O L)) → slice_get a.scripts j ≡ Some (Some ts) → Synced a q (at j) ts (g j)) → ((j : ℕ) → j < length a.scripts → (ts : List (Turn I K O L)) → slice_get a.scripts j ≡ Some (Some ts) → Caught a q (g j)) → (i : ℕ) (u : Option (Option (List (Turn I K O L)))) → slice_get a.scripts i ≡ u → SessionEnds a u (g i)
      session_end g z c i None e = tt
      session_end g z c i (Some None) e = tt
      session_end g z c i (Some (Some ts)) e =
          let inside = got_below a.scripts i (Some ts) e in
          session_ends q all i ts e (g i) (z i inside ts e) (c i inside ts e)

  goes : (ps : List Placement) (q : ℕ → ℕ) (sent : List E) (f : ℕ → Session I K O L) (talks : ℕ → Talk) → Standing q sent f talks → ArePlaced a q sent ps → Ended q sent f (events_from a.number at (in_the_end a) (length a.scripts) talks ps)
  goes [] q sent f talks st h = ended q sent f talks st h
  goes (p ∷ ps) q sent f talks st (x, is, can, from, rest) =
      let m = moved q sent f talks p x ps st is can from rest in
      let r = goes ps (more q p.node) (sent ++ a.sends (state_at a p.node (q p.node)) x) m.sessions _ m.standing rest in
      record { world = r.world; leads = leads_on a _ _ _ _ _ m.leads r.leads; ends = r.ends }

  at_first : (g : ℕ → Session I K O L) → ((i : ℕ) (ts : List (Turn I K O L)) → slice_get a.scripts i ≡ Some (Some ts) → g i ≡ the_session a (at i) [] ts) → Standing (λ n. 0) [] g (first_talks a)
  at_first g begun =
      record {
        all_sent = λ n e i h. h;
        fits = λ i ts e. subst (λ s. Fits (λ n. 0) i ts ((first_talks a) i) s) (sym (begun i ts e)) (subst (λ o. Fits (λ n. 0) i ts (first_talk a o) (the_session a (at i) [] ts)) (sym e) (fresh i ts));
        down = λ i ts e d. absurd (true≢false (sym (begins (at i) (right i ts e).0) ∙ d));
        silent = λ i none. silent_at i none (slice_get a.scripts i) refl;
      }
    where
      nothing : (j : ℕ) → j < 0 → ⊥
      nothing j h = absurd (omega (arith, h))

      fresh : (i : ℕ) (ts : List (Turn I K O L)) → Fits (λ n. 0) i ts (record { left = kinds ts; asked = false }) (the_session a (at i) [] ts)
      fresh i ts = record {
        synced = record {
          node = refl;
          whole = refl;
          past = λ k h. absurd h;
          ahead = λ k h sub. nothing sub.0 sub.2;
          outcome = λ y v e f. absurd (cc);
          mine = λ y e. absurd (cc);
          quiet = λ y e f. absurd (cc);
          held = λ y e. absurd (cc);
        };
        last = λ y e. absurd (cc);
        told = record { left = refl; asked = refl };
      }

      silent_at : (i : ℕ) → NoScript i → (o : Option (Option (List (Turn I K O L)))) → slice_get a.scripts i ≡ o → first_talk a o ≡ record { left = []; asked = false }
      silent_at i none None e = refl
      silent_at i none (Some None) e = refl
      silent_at i none (Some (Some ts)) e = absurd (none ts e)

  -- the nodes of placements, the last first
  as_placing : (ps : List Placement) (q : ℕ → ℕ) (sent : List E) → ArePlaced a q sent ps → (order : List ℕ) → IsPlacing a order q → (whole : List ℕ) × (p : ℕ → ℕ) × IsPlacing a whole p × ((n : ℕ) → p n ≡ used n)
  as_placing [] q sent h order placing = (order, q, placing, h)
  as_placing (p ∷ ps) q sent (x, is, can, from, rest) order placing = as_placing ps (more q p.node) _ rest (p.node ∷ order) (q, placing, can, refl)

  -- what is written down is a legal order
  pub written : AreTicketed a → (ps : List Placement) → ArePlaced a (λ n. 0) [] ps → IsLegalOrder a (written_order a at ps)
  written ticketed ps h =
      let c = connected a begins at right (length a.scripts) in
      let st = at_first c.sessions (λ i ts e. c.begun i (got_below a.scripts i (Some ts) e) ts e) in
      let r = goes ps (λ n. 0) [] c.sessions (first_talks a) st h in
      let w = as_placing ps (λ n. 0) [] h [] refl in
      (named_once w.0 w.1 w.2 w.3, ticketed, (r.world, leads_on a _ _ _ _ _ c.leads r.leads, r.ends))
