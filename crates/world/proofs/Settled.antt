-- Events that come next in turn.
use Rattle.std.proofs.Common.{◌≡◌, ◌≢◌, ℕ, zero, suc, ◌+◌, List, Bool, Option, Some, None, refl, sym, ap, ◌∙◌, arith, drop}
use Rattle.std.specs.Prelude.{find, position, option_map}
use Rattle.std.specs.Option.{option_or}
use Rattle.runs.specs.Clients.{Client}
use Rattle.runs.specs.Services.{Service}
use Rattle.runs.specs.Worlds.{World, Settled, is_answered, may_arrive, next_oldest, one_more, settled, settled_by, stepped}
use Rattle.runs.specs.declared.event.Event.{Event}
use Rattle.runs.specs.declared.event.Event.TheVariants as event
use Rattle.world.specs.Values.{crashed_after}

module _ {A : Type 0} where
  abbrev pub at : ℕ → World A → Settled A
  at n v = record { events = n; world = v }

  one_after : (n : ℕ) (v : World A) → one_more (at n v) ≡ at (suc n) v
  one_after n v = let next : n + 1 ≡ suc n = omega arith in ap (λ k. at k v) next

  -- one more event, done first
  before_one : (r : Settled A) (n : ℕ) (v : World A) → one_more r ≡ at (suc n) v → r ≡ at n v
  before_one r n v e j =
      let count : r.events ≡ n = let one : r.events + 1 ≡ suc n = ap (λ (s : Settled A). s.events) e in omega arith in
      let world : r.world ≡ v = ap (λ (s : Settled A). s.world) e in
      record { events = count j; world = world j }

  pub settled_next : (n : ℕ) (w v : World A) (e : Event A) → settled n w ≡ at n v → next_oldest v.service 0 ≡ Some e → settled (suc n) w ≡ at (suc n) (stepped v e)
  settled_next zero w v e so next =
      let same : w ≡ v = ap (λ (s : Settled A). s.world) so in
      ap (λ (x : World A). settled (suc zero) x) same ∙ ap (settled_by (settled zero) v) next
  settled_next (suc n) w v e so next =
      go (next_oldest w.service 0) refl (λ d first. settled_next n (stepped w d) v e first next)
    where
      go : (o : Option (Event A)) → next_oldest w.service 0 ≡ o → ((d : Event A) → settled n (stepped w d) ≡ at n v → settled (suc n) (stepped w d) ≡ at (suc n) (stepped v e))
          → settled (suc (suc n)) w ≡ at (suc (suc n)) (stepped v e)
      go None q ih =
          let none : zero ≡ suc n = ap (λ (s : Settled A). s.events) (sym (ap (settled_by (settled n) w) q) ∙ so) in
          absurd (let no : zero ≢ suc n = omega arith in no none)
      go (Some d) q ih =
          let first : settled n (stepped w d) ≡ at n v = before_one (settled n (stepped w d)) n v (sym (ap (settled_by (settled n) w) q) ∙ so) in
          ap (settled_by (settled (suc n)) w) q ∙ ap one_more (ih d first) ∙ one_after (suc n) (stepped v e)

  -- what comes next crashes nobody
  pub next_uncrashed : (w : Service A) (from : ℕ) (e : Event A) (crashed : List Bool) → next_oldest w from ≡ Some e → crashed_after e crashed ≡ crashed
  next_uncrashed w from e crashed next =
      go (find (λ (c : ℕ × Client A). is_answered w c.1 c.1.standing) w.clients) (position (may_arrive w 1) (drop from w.network.sent)) next
    where
      go : (answer : Option (ℕ × Client A)) (place : Option ℕ) → option_or (option_map (λ c. event.Collect c.0) answer) (option_map (λ k. event.Arrive (from + k)) place) ≡ Some e → crashed_after e crashed ≡ crashed
      go (Some c) place is = let same : event.Collect c.0 ≡ e = cc in ap (λ (x : Event A). crashed_after x crashed) (sym same)
      go None (Some k) is = let same : event.Arrive (from + k) ≡ e = cc in ap (λ (x : Event A). crashed_after x crashed) (sym same)
      go None None is = absurd (cc)

  pub settled_ends : (n m : ℕ) (w v : World A) → settled n w ≡ at n v → next_oldest v.service 0 ≡ None → (limit : ℕ) → n + m ≡ limit → settled limit w ≡ at n v
  settled_ends zero m w v so none zero e = so
  settled_ends zero m w v so none (suc limit) e =
      let same : w ≡ v = ap (λ (s : Settled A). s.world) so in
      ap (λ (x : World A). settled (suc limit) x) same ∙ ap (settled_by (settled limit) v) none
  settled_ends (suc n) m w v so none zero e = absurd (let no : suc n + m ≢ 0 = omega arith in no e)
  settled_ends (suc n) m w v so none (suc limit) e =
      go (next_oldest w.service 0) refl (λ d first. settled_ends n m (stepped w d) v first none limit rest)
    where
      rest : n + m ≡ limit
      rest = omega arith

      go : (o : Option (Event A)) → next_oldest w.service 0 ≡ o → ((d : Event A) → settled n (stepped w d) ≡ at n v → settled limit (stepped w d) ≡ at n v) → settled (suc limit) w ≡ at (suc n) v
      go None q ih =
          let other : zero ≡ suc n = ap (λ (s : Settled A). s.events) (sym (ap (settled_by (settled n) w) q) ∙ so) in
          absurd (let no : zero ≢ suc n = omega arith in no other)
      go (Some d) q ih =
          let first : settled n (stepped w d) ≡ at n v = before_one (settled n (stepped w d)) n v (sym (ap (settled_by (settled n) w) q) ∙ so) in
          ap (settled_by (settled limit) w) q ∙ ap one_more (ih d first) ∙ one_after n v
