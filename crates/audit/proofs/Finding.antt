-- How messages are found among those that were sent.
use Rattle.std.proofs.Common.{◌≡◌, ◌<◌, ◌≤◌, length, get_or, ℕ, List, [], ◌∷◌, ◌++◌, Bool, true, false, Option, Some, None, Result, Ok, Err, OnOk, OnErr, IsSome, is_some, refl, sym, ap, ◌∙◌, subst, ⊎_elim, cond}
use Rattle.std.specs.List.{list_any}
use Rattle.std.specs.Prelude.{slice_get, ◌&&◌, ◌==◌, IfSome}
use Rattle.std.proofs.lemmas.Option.{slice_get_read, slice_get_past}
use Rattle.std.proofs.lemmas.Bool.{true≢false, eq-eqb}
use Rattle.ballot.specs.declared.message.Envelope.{Envelope}
use Rattle.maildrop.specs.declared.command.Command.{Command}
use Rattle.audit.specs.Same.{same_envelope}
use Rattle.audit.specs.Sends.{label_of, HasPlaces}
use Rattle.audit.specs.declared.sent.Topic.{Topic}
use Rattle.audit.proofs.Basics.{any_back, any_in, in_either, in_got}
use Rattle.audit.proofs.Equal.{envelope_decides}

-- what a look-up finds
pub got : {X : Type 0} (xs ys : List X) (k : ℕ) (x : X) → xs ≡ ys → k < length xs → x ≡ get_or xs k x → slice_get ys k ≡ Some x
got xs ys k x same within is = ap (λ zs. slice_get zs k) (sym same) ∙ slice_get_read xs (length xs) k x refl within is

pub got_none : {X : Type 0} (xs ys : List X) (k : ℕ) → xs ≡ ys → length xs ≤ k → slice_get ys k ≡ None
got_none xs ys k same past = ap (λ zs. slice_get zs k) (sym same) ∙ slice_get_past xs k past

pub kept_by : {V : Type 0} (new old : Option V) (t : Bool) (v : V) → new ≡ cond t (Some v) old → IsSome old → IsSome new
kept_by new old true v e h = ap is_some e
kept_by new old false v e h = ap is_some e ∙ h

module _ {A : Type 0} where
  pub same_is : (e f : Envelope (Command A) A) → same_envelope e f ≡ true → e ≡ f
  same_is e f h = (envelope_decides e f).0 h

  -- what has no place isn't there
  pub not_sent : (place : ℕ × ℕ × Topic → Option ℕ) (sent : List (Envelope (Command A) A)) (e : Envelope (Command A) A) → HasPlaces place sent → place (label_of e) ≡ None → list_any (λ other. same_envelope other e) sent ≡ false
  not_sent place sent e h none =
      go (list_any (λ other. same_envelope other e) sent) refl
    where
      go : (t : Bool) → list_any (λ other. same_envelope other e) sent ≡ t → t ≡ false
      go true is =
          let found = any_back (λ other. same_envelope other e) sent is in
          absurd (true≢false (sym (h.each found.0 found.1) ∙ ap (λ f. is_some (place (label_of f))) (same_is found.0 e found.2) ∙ ap is_some none))
      go false is = refl

  pub places_kept : (place next : ℕ × ℕ × Topic → Option ℕ) (sent : List (Envelope (Command A) A)) → HasPlaces place sent → ((l : ℕ × ℕ × Topic) → IsSome (place l) → IsSome (next l)) → HasPlaces next sent
  places_kept place next sent h kept = record { each = λ e at. kept (label_of e) (h.each e at) }

  pub place_added : {E : Type 0} (r : Result (Unit {0}) E) (place next : ℕ × ℕ × Topic → Option ℕ) (sent now : List (Envelope (Command A) A)) (e : Envelope (Command A) A) → HasPlaces place sent → ((l : ℕ × ℕ × Topic) → IsSome (place l) → IsSome (next l)) → IsSome (next (label_of e))
      → OnOk r (now ≡ sent ++ e ∷ []) → OnErr r (now ≡ sent) → HasPlaces next now
  place_added (Err x) place next sent now e h kept own ok err = subst (HasPlaces next) (sym err) (places_kept place next sent h kept)
  place_added (Ok u) place next sent now e h kept own ok err =
      subst (HasPlaces next) (sym ok) (record { each = λ f at. ⊎_elim (λ old. kept (label_of f) (h.each f old)) (λ new. ⊎_elim (λ (is : e ≡ f). subst (λ g. IsSome (next (label_of g))) is own) (λ none. absurd none) new) (in_either f sent (e ∷ []) at) })

  -- a message that was sent to a node, or wasn't
  pub sent_there : (o : Option ℕ) (sent : List (Envelope (Command A) A)) (e : Envelope (Command A) A) (home node : ℕ) → home ≡ node → IfSome o (λ k. slice_get sent k ≡ Some e) → (o ≡ None → list_any (λ other. same_envelope other e) sent ≡ false)
      → is_some o ≡ (home == node && list_any (λ other. same_envelope other e) sent)
  sent_there None sent e home node is found none = sym (ap (λ t. t && list_any (λ other. same_envelope other e) sent) (eq-eqb home node is) ∙ none refl)
  sent_there (Some k) sent e home node is found none =
      sym (ap (λ t. t && list_any (λ other. same_envelope other e) sent) (eq-eqb home node is) ∙ any_in (λ other. same_envelope other e) sent e (in_got sent k e found) ((envelope_decides e e).1 refl))
