-- What logs and transcripts of a service give a legal order.
use Rattle.std.proofs.Common.{◌≡◌, ℕ, suc, ◌+◌, ◌<◌, length, List, [], ◌∷◌, true, Option, Some, None, refl, sym, ap, ◌∙◌, subst, inl, ⊎_elim, cond, arith}
use Rattle.std.specs.Prelude.{slice_get, ◌==◌, ◌&&◌}
use Rattle.std.proofs.lemmas.Bool.{eq-eqb}
use Rattle.ballot.specs.Lists.{IsIn}
use Rattle.node.specs.declared.log.NodeLog.{NodeLog}
use Rattle.session.specs.declared.transcript.Transcript.{Transcript}
use Rattle.audit.specs.Laws.{AllBegin}
use Rattle.audit.specs.Order.{IsLegalOrder}
use Rattle.audit.specs.Placing.{IsPlacing}
use Rattle.audit.specs.Records.{is_fit, place_of, begun_at, places_from, case_of, AreFit}
use Rattle.audit.specs.Replays.{runs}
use Rattle.audit.specs.Turns.{Turns}
use Rattle.audit.specs.Wrong.{seat, first_node, first_wrong}
use Rattle.audit.specs.declared.event.Event.{Event}
use Rattle.audit.proofs.Once.{none_wrong, ticketed}
use Rattle.audit.proofs.RealLaws.{real_laws}
use Rattle.audit.proofs.Sound.{legal}
use Rattle.audit.proofs.Written.{written}
use Rattle.audit.specs.declared.placement.Placement.{Placement}
use Rattle.audit.specs.Written.{ArePlaced, written_order}

-- a place of a list is after its first, and something stands there
pub from_place : {X : Type 0} (from n : ℕ) (xs : List X) → IsIn n (places_from from xs) → (k : ℕ) × (x : X) × (n ≡ from + k) × (slice_get xs k ≡ Some x)
from_place from n [] h = absurd h
from_place from n (y ∷ ys) h =
    ⊎_elim
    (λ (here : from ≡ n). let same : n ≡ from + 0 = omega (arith, here) in (0, y, same, refl))
    (λ later.
    let r = from_place (suc from) n ys later in
    let there = r.2 in
    let same : n ≡ from + suc r.0 = omega (arith, there) in
    (suc r.0, r.1, same, r.3))
    h

module _ {A : Type 0} (logs : List (NodeLog A)) (transcripts : List (Transcript A)) (fit : AreFit logs transcripts) where
  begins_at : (n : ℕ) (log : NodeLog A) (o : Option (NodeLog A)) → o ≡ Some log → is_fit log.opening ≡ true → place_of log.opening.me logs ≡ n → runs (begun_at logs n o) ≡ true
  begins_at n log None e f p = absurd (cc)
  begins_at n log (Some l) e f p =
      ap (λ t. runs (cond t (Some (record { opening = l.opening; inputs = [] })) None)) both
    where
      same : l ≡ log
      same = cc

      fit_here : is_fit l.opening ≡ true
      fit_here = subst (λ (m : NodeLog A). is_fit m.opening ≡ true) (sym same) f

      place_here : (place_of l.opening.me logs == n) ≡ true
      place_here = eq-eqb (place_of l.opening.me logs) n (subst (λ (m : NodeLog A). place_of m.opening.me logs ≡ n) (sym same) p)

      both : (is_fit l.opening && place_of l.opening.me logs == n) ≡ true
      both = ap (λ t. t && place_of l.opening.me logs == n) fit_here ∙ place_here

  all_begin : AllBegin (case_of logs transcripts)
  all_begin n there =
      let r = from_place 0 n logs there in
      let third = r.2 in
      let same : n ≡ r.0 = omega (arith, third) in
      let at : slice_get logs n ≡ Some r.1 = subst (λ k. slice_get logs k ≡ Some r.1) (sym same) r.3 in
      let own = fit.openings n r.1 at in
      begins_at n r.1 (slice_get logs n) at own.0 own.1

  first_there : (xs : List (NodeLog A)) (n : ℕ) → 0 < length xs → IsIn (first_node (case_of logs transcripts) (places_from n xs)) (places_from n xs)
  first_there [] n h = absurd (omega (arith, h))
  first_there (x ∷ xs) n h = inl refl

  pub order_of_logs : (ns : List ℕ) (p : ℕ → ℕ) → IsPlacing (case_of logs transcripts) ns p → ((n : ℕ) → p n ≡ length ((case_of logs transcripts).logs n)) → first_wrong (case_of logs transcripts) 0 [] (case_of logs transcripts).scripts ≡ None
      → (events : List Event) × IsLegalOrder (case_of logs transcripts) events
  order_of_logs ns p placing all right =
      let a = case_of logs transcripts in
      let laws = real_laws logs transcripts in
      legal a laws all_begin (seat a) (none_wrong a laws (first_there logs 0 fit.some) fit.scripts right) (ticketed a laws right) ns p placing all

  pub order_written : (ps : List Placement) → ArePlaced (case_of logs transcripts) (λ n. 0) [] ps → first_wrong (case_of logs transcripts) 0 [] (case_of logs transcripts).scripts ≡ None
      → IsLegalOrder (case_of logs transcripts) (written_order (case_of logs transcripts) (seat (case_of logs transcripts)) ps)
  order_written ps placed right =
      let a = case_of logs transcripts in
      let laws = real_laws logs transcripts in
      written a laws all_begin (seat a) (none_wrong a laws (first_there logs 0 fit.some) fit.scripts right) (ticketed a laws right) ps placed

  -- each session that began is at a node with a log
  pub seats_there : first_wrong (case_of logs transcripts) 0 [] (case_of logs transcripts).scripts ≡ None → (i : ℕ) (turns : Turns A) → slice_get (case_of logs transcripts).scripts i ≡ Some (Some turns) → IsIn (seat (case_of logs transcripts) i) (case_of logs transcripts).nodes
  seats_there right i turns e =
      let a = case_of logs transcripts in
      (none_wrong a (real_laws logs transcripts) (first_there logs 0 fit.some) fit.scripts right i turns e).0
