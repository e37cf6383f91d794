-- Sessions go on, one after another.
use Rattle.std.proofs.Common.{◌≡◌, ℕ, suc, ◌≤◌, ◌<◌, length, List, [], ◌++◌, Bool, Some, sym, ap, ◌∙◌, subst, ⊎_elim, cond, set, append_assoc, arith}
use Rattle.std.specs.Prelude.{slice_get}
use Rattle.std.proofs.lemmas.List.{append-nil}
use Rattle.std.proofs.lemmas.Bool.{cases_lt}
use Rattle.std.proofs.lemmas.Option.{slice_get_within}
use Rattle.audit.specs.Events.{Talk, goes_on, gone_on, all_go_on, all_gone_on}
use Rattle.audit.specs.Speakers.{Speaker, AreSpeakers}
use Rattle.audit.specs.declared.event.Event.{Event}
use Rattle.audit.proofs.Seats.{set_got}

module _ (at : ℕ → ℕ) (answered : ℕ → Bool) where
  abbrev is : (ℕ → Talk) → ℕ → Speaker
  is talks i = record { seat = at i; answered = answered i; talk = talks i }

  module _ (tests : ℕ → Bool) (talks : ℕ → Talk) (start : List Event) where
    abbrev test : ℕ → Bool
    test i = tests (at i)

    -- the first m sessions went on
    pub record Swept (m : ℕ) (events : List Event) (speakers : List Speaker) : Type 0 where
      pub written : events ≡ start ++ all_go_on test answered talks m
      pub before : (i : ℕ) (s : Speaker) → i < m → slice_get speakers i ≡ Some s → s ≡ is (all_gone_on test answered talks) i
      pub behind : (i : ℕ) (s : Speaker) → m ≤ i → slice_get speakers i ≡ Some s → s ≡ is talks i

    pub none_swept : (speakers : List Speaker) → AreSpeakers at answered talks speakers → Swept 0 start speakers
    none_swept speakers h = record { written = sym (append-nil start); before = λ i s less e. absurd (omega (arith, less)); behind = λ i s le e. h.each i s e }

    pub one_swept : (m next : ℕ) (old new : List Event) (speakers : List Speaker) (s after : Speaker) → Swept m old speakers → next ≡ suc m → slice_get speakers m ≡ Some s
        → new ≡ old ++ cond (tests s.seat) (goes_on m s.answered s.talk) [] → after ≡ record { seat = s.seat; answered = s.answered; talk = cond (tests s.seat) (gone_on s.answered s.talk) s.talk }
        → Swept next new (set speakers m after)
    one_swept m next old new speakers s after h next_is here more gone_is =
        subst (λ n. Swept n new (set speakers m after)) (sym next_is)
        (record {
          written = more ∙ ap (λ (z : Speaker). old ++ cond (tests z.seat) (goes_on m z.answered z.talk) []) was ∙ ap (λ es. es ++ cond (tests (at m)) (goes_on m (answered m) (talks m)) []) h.written ∙ append_assoc start (all_go_on test answered talks m) (cond (tests (at m)) (goes_on m (answered m) (talks m)) []);
          before = before;
          behind = λ i z le e. ⊎_elim (λ both. let same = both.0 in absurd (omega (arith, same, le))) (λ other. h.behind i z (omega (arith, le)) other.1) (set_got speakers m i after z e);
        })
      where
        was : s ≡ is talks m
        was = h.behind m s (omega arith) here

        gone : after ≡ is (all_gone_on test answered talks) m
        gone = gone_is ∙ ap (λ (z : Speaker). record { seat = z.seat; answered = z.answered; talk = cond (tests z.seat) (gone_on z.answered z.talk) z.talk }) was

        before : (i : ℕ) (z : Speaker) → i < suc m → slice_get (set speakers m after) i ≡ Some z → z ≡ is (all_gone_on test answered talks) i
        before i z less e =
            ⊎_elim
            (λ both. sym both.1 ∙ gone ∙ ap (is (all_gone_on test answered talks)) both.0)
            (λ other. ⊎_elim (λ (low : i < m). h.before i z low other.1) (λ (high : m ≤ i). absurd (other.0 (omega (arith, less, high)))) (cases_lt i m))
            (set_got speakers m i after z e)

    pub all_swept : (m count : ℕ) (events : List Event) (speakers : List Speaker) → Swept m events speakers → m ≡ count → length speakers ≤ count → (events ≡ start ++ all_go_on test answered talks count) × AreSpeakers at answered (all_gone_on test answered talks) speakers
    all_swept m count events speakers h same size =
        (h.written ∙ ap (λ n. start ++ all_go_on test answered talks n) same, record { each = λ i s e. h.before i s (within i s e) e })
      where
        within : (i : ℕ) (s : Speaker) → slice_get speakers i ≡ Some s → i < m
        within i s e =
            let less = slice_get_within speakers i s e in
            omega (arith, less, same, size)
