-- Whether something is awaited that isn't there: taking answers doesn't change that.
use Rattle.std.proofs.Common.{◌≡◌, List, [], ◌∷◌, Bool, true, false, Option, Some, None, is_none, inl, inr, refl, sym, ap, cond}
use Rattle.std.specs.Prelude.{◌||◌}
use Rattle.std.specs.Map.{lookup}
use Rattle.std.specs.BTreeMap.{is_at}
use Rattle.std.specs.Cmp.{IsTotalOrder}
use Rattle.std.specs.Ordering.{is_eq}
use Rattle.std.proofs.lemmas.Cmp.{tied_itself}
use Rattle.replica.specs.Replicas.{Rules, ReplicaState, is_waiting}
use Rattle.replica.specs.Calls.{awaited_for, Ascend}
use Rattle.replica.specs.Taken.{IsLeft, IsButTaken}
use Rattle.replica.proofs.Identities.{equal_is, none_found}

left_waits : {R : Type 0} (here there : Option (Option R)) → IsLeft here there → here ≡ Some None → there ≡ Some None
left_waits here None l e = absurd (cc (l, e))
left_waits here (Some None) l e = refl
left_waits here (Some (Some a)) (inl l) e = absurd (cc (l, e))
left_waits here (Some (Some a)) (inr l) e = absurd (cc (l, e))

waits_left : {R : Type 0} (here there : Option (Option R)) → IsLeft here there → there ≡ Some None → here ≡ Some None
waits_left here None l e = absurd (cc e)
waits_left here (Some None) l e = l
waits_left here (Some (Some a)) l e = absurd (cc e)

both_ways : (t u : Bool) → (t ≡ true → u ≡ true) → (u ≡ true → t ≡ true) → t ≡ u
both_ways true u f g = sym (f refl)
both_ways false true f g = g refl
both_ways false false f g = refl

module _ {C I R M : Type 0} (rules : Rules C I R M) where
  -- what is found without an answer waits
  found_waits : (i : I) (es : List (I × Option R)) → lookup (is_at (rules.compare i)) es ≡ Some None → is_waiting es ≡ true
  found_waits i [] h = absurd (cc h)
  found_waits i (e ∷ es) h =
      go (is_eq (rules.compare i e.0)) e.1 h (found_waits i es)
    where
      go : (t : Bool) (o : Option R) → cond t (Some o) (lookup (is_at (rules.compare i)) es) ≡ Some None → (lookup (is_at (rules.compare i)) es ≡ Some None → is_waiting es ≡ true) → (is_none o || is_waiting es) ≡ true
      go t None h rest = refl
      go true (Some a) h rest = absurd (cc h)
      go false (Some a) h rest = rest h

module _ {C I R M : Type 0} (rules : Rules C I R M) (total : IsTotalOrder rules.compare) where
  -- and what waits is found
  waits_found : (es : List (I × Option R)) → Ascend rules es → is_waiting es ≡ true → (i : I) × (lookup (is_at (rules.compare i)) es ≡ Some None)
  waits_found [] h w = absurd (cc w)
  waits_found (e ∷ es) h w =
      go e.1 refl w (waits_found es h.1)
    where
      go : (o : Option R) → e.1 ≡ o → (is_none o || is_waiting es) ≡ true → (is_waiting es ≡ true → (i : I) × (lookup (is_at (rules.compare i)) es ≡ Some None)) → (i : I) × (lookup (is_at (rules.compare i)) (e ∷ es) ≡ Some None)
      go None same w rest = (e.0, rw (tied_itself total e.0) (ap (λ x. Some x) same))
      go (Some a) same w rest = (found.0, later (is_eq (rules.compare found.0 e.0)) refl)
        where
          found : (i : I) × (lookup (is_at (rules.compare i)) es ≡ Some None)
          found = rest w

          later : (t : Bool) → is_eq (rules.compare found.0 e.0) ≡ t → cond t (Some e.1) (lookup (is_at (rules.compare found.0)) es) ≡ Some None
          later true tied = absurd (cc (none_found rules total found.0 e.0 es (equal_is (rules.compare found.0 e.0) tied) h.0, found.1))
          later false tied = found.1

  pub waiting_left : (first : M) (r s : ReplicaState C I R M) → IsButTaken rules first r s → is_waiting r.awaited ≡ is_waiting s.awaited
  waiting_left first r s h =
      both_ways (is_waiting r.awaited) (is_waiting s.awaited)
      (λ w. let found = waits_found r.awaited h.here.ordered w in found_waits rules found.0 s.awaited (left_waits (awaited_for rules found.0 r) (awaited_for rules found.0 s) (h.left found.0) found.1))
      (λ w. let found = waits_found s.awaited h.there.ordered w in found_waits rules found.0 r.awaited (waits_left (awaited_for rules found.0 r) (awaited_for rules found.0 s) (h.left found.0) found.1))
