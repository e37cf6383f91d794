-- Places before which all messages of a route have arrived.
use Rattle.std.proofs.Common.{◌≡◌, ℕ, zero, suc, ◌≤◌, List, [], ◌∷◌, ◌++◌, Bool, true, false, Some, None, refl, sym, ap, ◌∙◌, subst, ⊎_elim, arith, cond, set, length}
use Rattle.std.specs.Prelude.{slice_get, ◌==◌, ◌&&◌}
use Rattle.std.specs.List.{position}
use Rattle.std.proofs.lemmas.Bool.{eqb-true, and_parts}
use Rattle.ballot.specs.declared.message.Envelope.{Envelope}
use Rattle.maildrop.specs.declared.command.Command.{Command}
use Rattle.script.specs.Kinds.{kind_of}
use Rattle.script.specs.declared.message_kind.MessageKind.{MessageKind}
use Rattle.script.specs.declared.message_kind.MessageKind.TheVariants.{Propose, P1a, P1b, P2a, P2b, Decision, Ask}
use Rattle.simulator.specs.Undelivered.{is_next, is_of, rank, same_route, same_kind, HaveArrived, AreMarks}
use Rattle.simulator.specs.declared.deliveries.Mark.{Mark}
use Rattle.simulator.specs.declared.undelivered.Route.{Route}
use Rattle.runs.specs.declared.sent.Sent.{Sent}
use Rattle.world.proofs.Searching.{there}
use Rattle.simulator.proofs.Arrivals.{Grows}
use Rattle.simulator.proofs.Places.{set_or, last_or, told, untold, earlier, found_at}

abbrev ranked : ℕ → MessageKind
ranked zero = Propose
ranked (suc zero) = P1a
ranked (suc (suc zero)) = P1b
ranked (suc (suc (suc zero))) = P2a
ranked (suc (suc (suc (suc zero)))) = P2b
ranked (suc (suc (suc (suc (suc zero))))) = Decision
ranked n = Ask

ranked_back : (kind : MessageKind) → ranked (rank kind) ≡ kind
ranked_back Propose = refl
ranked_back P1a = refl
ranked_back P1b = refl
ranked_back P2a = refl
ranked_back P2b = refl
ranked_back Decision = refl
ranked_back Ask = refl

same_routes : (a b : Route) → same_route a b ≡ true → a ≡ b
same_routes a b e =
    let parts = and_parts ((a.from == b.from) && (a.to == b.to)) (same_kind a.kind b.kind) e in
    let ends = and_parts (a.from == b.from) (a.to == b.to) parts.0 in
    let from : a.from ≡ b.from = eqb-true a.from b.from ends.0 in
    let to : a.to ≡ b.to = eqb-true a.to b.to ends.1 in
    let kind : a.kind ≡ b.kind = sym (ranked_back a.kind) ∙ ap ranked (eqb-true (rank a.kind) (rank b.kind) parts.1) ∙ ranked_back b.kind in
    ap (λ n. record { from = n; to = a.to; kind = a.kind }) from ∙ ap (λ n. record { from = b.from; to = n; kind = a.kind }) to ∙ ap (λ k. record { from = b.from; to = b.to; kind = k }) kind

module _ {A : Type 0} where
  -- a message that isn't looked for is none later
  still_not : (route : Route) (s now : Sent A) → now.envelope ≡ s.envelope → s.arrived ≤ now.arrived → is_next route s ≡ false → is_next route now ≡ false
  still_not route s now same often is =
      go (now.arrived == 0) refl
    where
      go : (t : Bool) → (now.arrived == 0) ≡ t → is_next route now ≡ false
      go true e =
          let new : now.arrived ≡ 0 = eqb-true now.arrived 0 e in
          let none : s.arrived ≡ 0 = omega (arith, new, often) in
          let alike : now.arrived ≡ s.arrived = new ∙ sym none in
          ap (λ n. (n == 0) && (now.envelope.from == route.from) && (now.envelope.to == route.to) && same_kind (kind_of now.envelope.message) route.kind) alike
          ∙ ap (λ (v : Envelope (Command A) A). (s.arrived == 0) && (v.from == route.from) && (v.to == route.to) && same_kind (kind_of v.message) route.kind) same ∙ is
      go false e = rw (e) refl

  later_arrived : (route : Route) (place : ℕ) (old new : List (Sent A)) → Grows old new → HaveArrived route place old → HaveArrived route place new
  later_arrived route place old new g h = record {
    within = omega (arith, h.within, g.longer);
    each = λ k s low at.
        let here = there old k (omega (arith, low, h.within)) in
        let x = g.each k here.0 here.1 in
        let same : x.now ≡ s = cc (sym x.there ∙ at) in
        subst (λ (y : Sent A). is_next route y ≡ false) same (still_not route here.0 x.now x.same x.often (h.each k here.0 low here.1));
  }

  pub no_marks : (sent : List (Sent A)) → AreMarks sent []
  no_marks sent = record { each = λ k mark at. absurd (cc at) }

  pub later_marks : (old new : List (Sent A)) (marks : List Mark) → Grows old new → AreMarks old marks → AreMarks new marks
  later_marks old new marks g h = record { each = λ k mark at. later_arrived mark.route mark.place old new g (h.each k mark at) }

  pub set_marks : (sent : List (Sent A)) (marks : List Mark) (at : ℕ) (mark : Mark) → AreMarks sent marks → HaveArrived mark.route mark.place sent → AreMarks sent (set marks at mark)
  set_marks sent marks at mark h here = record {
    each = λ k m e. ⊎_elim (λ (p : mark ≡ m). subst (λ (x : Mark). HaveArrived x.route x.place sent) p here) (λ q. h.each k m q) (set_or marks at k mark m e);
  }

  pub pushed_marks : (sent : List (Sent A)) (marks : List Mark) (t : Bool) (mark : Mark) → AreMarks sent marks → HaveArrived mark.route mark.place sent → AreMarks sent (cond t (marks ++ mark ∷ []) marks)
  pushed_marks sent marks true mark h here = record {
    each = λ k m e. ⊎_elim (λ (p : mark ≡ m). subst (λ (x : Mark). HaveArrived x.route x.place sent) p here) (λ q. h.each k m q) (last_or marks k mark m e);
  }
  pushed_marks sent marks false mark h here = h

  pub marked : (sent : List (Sent A)) (marks : List Mark) (route : Route) (at : ℕ) (mark : Mark) → AreMarks sent marks → position (is_of route) marks ≡ Some at → slice_get marks at ≡ Some mark
      → HaveArrived route mark.place sent
  marked sent marks route at mark h first there =
      let found = found_at (is_of route) marks at first in
      let same : found.0 ≡ mark = cc (sym found.1 ∙ there) in
      let its : mark.route ≡ route = same_routes mark.route route (subst (λ (m : Mark). is_of route m ≡ true) same found.2) in
      subst (λ r. HaveArrived r mark.place sent) its (h.each at mark there)

  pub unmarked : (sent : List (Sent A)) (route : Route) → HaveArrived route 0 sent
  unmarked sent route = record { within = omega arith; each = λ k s low at. absurd (omega arith) }

  pub arrived_before : (sent : List (Sent A)) (route : Route) (place : ℕ) → position (is_next route) sent ≡ Some place → HaveArrived route place sent
  arrived_before sent route place first =
      let there = told (is_next route) sent place first in
      record { within = omega (arith, there.1); each = λ k s low at. earlier (is_next route) sent k s (omega (arith, low, there.0)) at }

  pub all_arrived : (sent : List (Sent A)) (route : Route) → position (is_next route) sent ≡ None → HaveArrived route (length sent) sent
  all_arrived sent route none =
      let past = untold (is_next route) sent none in
      record { within = omega arith; each = λ k s low at. earlier (is_next route) sent k s (omega (arith, low, past)) at }
