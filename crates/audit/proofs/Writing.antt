-- The events of placements are written down one after another.
use Rattle.std.proofs.Common.{◌≡◌, ℕ, suc, ◌≤◌, length, List, [], ◌∷◌, ◌++◌, Bool, true, Some, Result, Ok, Err, OnOk, refl, sym, ap, ◌∙◌, subst, ⊎_elim, cond, set, drop, append_assoc}
use Rattle.std.specs.Prelude.{slice_get, ◌==◌}
use Rattle.std.proofs.Math.ListN.{drop_of_length-le}
use Rattle.std.proofs.lemmas.Bool.{eq-eqb, ne_eqb}
use Rattle.audit.specs.Events.{Talk, asked_on, asking, all_go_on, all_gone_on, events_of, events_from, talks_after}
use Rattle.audit.specs.Placing.{put}
use Rattle.audit.specs.Speakers.{Speaker, AreSpeakers}
use Rattle.audit.specs.declared.event.Event.{Event}
use Rattle.audit.specs.declared.placement.Placement.{Placement}
use Rattle.audit.specs.declared.event.Event.TheVariants as event
use Rattle.audit.specs.declared.placement.Source.{Source}
use Rattle.audit.specs.declared.placement.Source.TheVariants.{Own, Last, Message, FromSession}
use Rattle.audit.proofs.Naming.{drop_got}
use Rattle.audit.proofs.Seats.{set_got}

pub on_ok : {E : Type 0} {P Q : Type 0} (r : Result (Unit {0}) E) → OnOk r P → (P → Q) → OnOk r Q
on_ok (Ok x) h f = f h
on_ok (Err e) h f = tt

pub both_ok : {E : Type 0} {P Q R : Type 0} (r : Result (Unit {0}) E) → OnOk r P → OnOk r Q → (P → Q → R) → OnOk r R
both_ok (Ok x) h i f = f h i
both_ok (Err e) h i f = tt

module _ (number at : ℕ → ℕ) (answered : ℕ → Bool) (sessions : ℕ) where
  -- a session asks
  pub asked_one : (talks : ℕ → Talk) (i : ℕ) (speakers : List Speaker) (s after : Speaker) (old new : List Event) → AreSpeakers at answered talks speakers → slice_get speakers i ≡ Some s → new ≡ old ++ asking i s.talk → after ≡ record { seat = s.seat; answered = s.answered; talk = asked_on s.talk }
      → (new ≡ old ++ asking i (talks i)) × AreSpeakers at answered (put talks i (asked_on (talks i))) (set speakers i after)
  asked_one talks i speakers s after old new h here more asked_is =
      (more ∙ ap (λ (z : Speaker). old ++ asking i z.talk) was, record { each = each })
    where
      was : s ≡ record { seat = at i; answered = answered i; talk = talks i }
      was = h.each i s here

      gone : after ≡ record { seat = at i; answered = answered i; talk = asked_on (talks i) }
      gone = asked_is ∙ ap (λ (z : Speaker). record { seat = z.seat; answered = z.answered; talk = asked_on z.talk }) was

      each : (j : ℕ) (z : Speaker) → slice_get (set speakers i after) j ≡ Some z → z ≡ record { seat = at j; answered = answered j; talk = put talks i (asked_on (talks i)) j }
      each j z e =
          ⊎_elim
          (λ both. sym both.1 ∙ gone ∙ ap (λ (k : ℕ). record { seat = at k; answered = answered k; talk = asked_on (talks i) }) both.0 ∙ ap (λ t. record { seat = at j; answered = answered j; talk = cond t (asked_on (talks i)) (talks j) }) (sym (eq-eqb j i (sym both.0))))
          (λ other. h.each j z other.1 ∙ ap (λ t. record { seat = at j; answered = answered j; talk = cond t (asked_on (talks i)) (talks j) }) (sym (ne_eqb j i (λ e. other.0 (sym e)))))
          (set_got speakers i j after z e)

  pub from_session : (talks : ℕ → Talk) (n i : ℕ) (source : Source) (old new : List Event) (speakers : List Speaker) → source ≡ FromSession i → (new ≡ old ++ asking i (talks i)) × AreSpeakers at answered (put talks i (asked_on (talks i))) speakers
      → (new ≡ old ++ events_of number at answered sessions talks n source) × AreSpeakers at answered (talks_after number at answered sessions talks n source) speakers
  from_session talks n i source old new speakers is h =
      subst (λ s. (new ≡ old ++ events_of number at answered sessions talks n s) × AreSpeakers at answered (talks_after number at answered sessions talks n s) speakers) (sym is) h

  pub last_one : (talks : ℕ → Talk) (n its : ℕ) (source : Source) (old new : List Event) (speakers : List Speaker) → source ≡ Last → its ≡ number n → (new ≡ old ++ (all_go_on (λ i. at i == n) answered talks sessions ++ event.Given its ∷ [])) × AreSpeakers at answered (all_gone_on (λ i. at i == n) answered talks) speakers
      → (new ≡ old ++ events_of number at answered sessions talks n source) × AreSpeakers at answered (talks_after number at answered sessions talks n source) speakers
  last_one talks n its source old new speakers is same h =
      subst (λ s. (new ≡ old ++ events_of number at answered sessions talks n s) × AreSpeakers at answered (talks_after number at answered sessions talks n s) speakers) (sym is)
      (h.0 ∙ ap (λ k. old ++ (all_go_on (λ i. at i == n) answered talks sessions ++ event.Given k ∷ [])) same, h.1)

  pub own_one : (talks : ℕ → Talk) (n its : ℕ) (source : Source) (old new : List Event) (speakers : List Speaker) → source ≡ Own → its ≡ number n → AreSpeakers at answered talks speakers → new ≡ old ++ event.Given its ∷ []
      → (new ≡ old ++ events_of number at answered sessions talks n source) × AreSpeakers at answered (talks_after number at answered sessions talks n source) speakers
  own_one talks n its source old new speakers is same h e =
      subst (λ s. (new ≡ old ++ events_of number at answered sessions talks n s) × AreSpeakers at answered (talks_after number at answered sessions talks n s) speakers) (sym is)
      (e ∙ ap (λ k. old ++ event.Given k ∷ []) same, h)

  pub message_one : (talks : ℕ → Talk) (n which : ℕ) (source : Source) (old new : List Event) (speakers : List Speaker) → source ≡ Message which → AreSpeakers at answered talks speakers → new ≡ old ++ event.Arrive which ∷ []
      → (new ≡ old ++ events_of number at answered sessions talks n source) × AreSpeakers at answered (talks_after number at answered sessions talks n source) speakers
  message_one talks n which source old new speakers is h e =
      subst (λ s. (new ≡ old ++ events_of number at answered sessions talks n s) × AreSpeakers at answered (talks_after number at answered sessions talks n s) speakers) (sym is)
      (e, h)

  -- the events of these placements are written, and the others aren't
  pub record Writ (start : List Event) (begun : ℕ → Talk) (placements : List Placement) (k : ℕ) (events : List Event) (speakers : List Speaker) : Type 0 where
    pub talks : ℕ → Talk
    pub now : AreSpeakers at answered talks speakers
    pub rest : start ++ events_from number at answered sessions begun placements ≡ events ++ events_from number at answered sessions talks (drop k placements)

  module _ (start : List Event) (begun : ℕ → Talk) (placements : List Placement) where
    pub none_writ : (speakers : List Speaker) → AreSpeakers at answered begun speakers → Writ start begun placements 0 start speakers
    none_writ speakers h = record { talks = begun; now = h; rest = refl }

    pub one_writ : (k next : ℕ) (old new : List Event) (before after : List Speaker) (p : Placement) (w : Writ start begun placements k old before) → next ≡ suc k → slice_get placements k ≡ Some p
        → (new ≡ old ++ events_of number at answered sessions w.talks p.node p.source) × AreSpeakers at answered (talks_after number at answered sessions w.talks p.node p.source) after → Writ start begun placements next new after
    one_writ k next old new before after p w is here step =
        subst (λ n. Writ start begun placements n new after) (sym is)
        (record {
          talks = talks_after number at answered sessions w.talks p.node p.source;
          now = step.1;
          rest =
              w.rest
              ∙ ap (λ ps. old ++ events_from number at answered sessions w.talks ps) (drop_got placements k p here)
              ∙ sym (append_assoc old (events_of number at answered sessions w.talks p.node p.source) (events_from number at answered sessions (talks_after number at answered sessions w.talks p.node p.source) (drop (suc k) placements)))
              ∙ ap (λ es. es ++ events_from number at answered sessions (talks_after number at answered sessions w.talks p.node p.source) (drop (suc k) placements)) (sym step.0);
        })

    pub all_writ : (k : ℕ) (old new : List Event) (speakers : List Speaker) (w : Writ start begun placements k old speakers) → length placements ≤ k → new ≡ old ++ all_go_on (λ i. true) answered w.talks sessions → new ≡ start ++ events_from number at answered sessions begun placements
    all_writ k old new speakers w past more =
        more ∙ sym (w.rest ∙ ap (λ ps. old ++ events_from number at answered sessions w.talks ps) (drop_of_length-le placements past))
