-- The tickets that users got last, and how many inputs it takes to use them up.
use Rattle.std.proofs.Common.{◌≡◌, refl, ap, ◌∙◌, ℕ, ◌+◌, ◌≤◌, List, [], ◌∷◌, ◌++◌, length, Bool, true, false, cond, Some, arith, eqb}
use Rattle.std.proofs.lemmas.Bool.{eqb-true, ne_eqb}
use Rattle.std.proofs.lemmas.Slice.Eq.{bytes_eq-Decides}
use Rattle.std.specs.Str.{bytes_eq}
use Rattle.maildrop.specs.declared.op.Op.{Op}
use Rattle.node.specs.Replay.{counts, submits_of, last_ticket, ticket_of}
use Rattle.node.specs.Nodes.{logged, user_of, no_ticket_for}
use Rattle.node.specs.Tickets.{LAST_TICKET, ticket_at}
use Rattle.node.specs.declared.input.Input.{Input}
use Rattle.node.specs.declared.input.Input.TheVariants.{Submit, Arrive, Tick, Campaign, Crash}
use Rattle.node.specs.declared.log.NodeLog.{NodeLog}
use Rattle.node.proofs.Replaying.{submits_of-push}
use Rattle.node.proofs.Submitting.{counts_own}

-- a number that isn't 0 has its ticket
there : (me n : ℕ) → ticket_at me (1 + n) ≡ Some (record { node = me; seq = 1 + n })
there me n = let some : eqb (1 + n) 0 ≡ false = ne_eqb (1 + n) 0 (λ p. absurd (omega (arith, p))) in rw some refl

module _ {A : Type 0} where
  pub last_is_new : (log : NodeLog A) (user : List ℕ) (op : Op A) → last_ticket log.opening.me user (logged log (Submit user op)).inputs ≡ ticket_of log (Submit user op)
  last_is_new log user op =
      let count : submits_of user (log.inputs ++ Submit user op ∷ []) ≡ 1 + submits_of user log.inputs = submits_of-push user log.inputs (Submit user op) ∙ ap (λ n. n + submits_of user log.inputs) (counts_own user op) in
      ap (ticket_at log.opening.me) count ∙ there log.opening.me (submits_of user log.inputs)

  counts_none : (user : List ℕ) (i : Input A) → (user_of i ≡ Some user → ⊥) → counts user i ≡ 0
  counts_none user (Submit name op) other =
      go (bytes_eq name user) refl
    where
      go : (t : Bool) → bytes_eq name user ≡ t → ◌≡◌ {A = ℕ} (cond t 1 0) 0
      go true q = let same : name ≡ user = (bytes_eq-Decides name user).0 q in absurd (other (ap (λ (n : List ℕ). Some n) same))
      go false q = refl
  counts_none user (Arrive e) other = refl
  counts_none user Tick other = refl
  counts_none user Campaign other = refl
  counts_none user Crash other = refl

  pub last_stays : (log : NodeLog A) (user : List ℕ) (i : Input A) → (user_of i ≡ Some user → ⊥) → last_ticket log.opening.me user (logged log i).inputs ≡ last_ticket log.opening.me user log.inputs
  last_stays log user i other =
      let more : submits_of user (log.inputs ++ i ∷ []) ≡ counts user i + submits_of user log.inputs = submits_of-push user log.inputs i in
      let none : counts user i ≡ 0 = counts_none user i other in
      let same : submits_of user (log.inputs ++ i ∷ []) ≡ submits_of user log.inputs = omega (arith, more, none) in
      ap (ticket_at log.opening.me) same

  counts_few : (user : List ℕ) (i : Input A) → counts user i ≤ 1
  counts_few user (Submit name op) =
      go (bytes_eq name user)
    where
      go : (t : Bool) → cond t 1 0 ≤ 1
      go true = omega arith
      go false = omega arith
  counts_few user (Arrive e) = omega arith
  counts_few user Tick = omega arith
  counts_few user Campaign = omega arith
  counts_few user Crash = omega arith

  -- a user has no more operations than there are inputs
  submits_few : (user : List ℕ) (is : List (Input A)) → submits_of user is ≤ length is
  submits_few user [] = omega arith
  submits_few user (i ∷ is) = let one = counts_few user i in let more = submits_few user is in omega (arith, one, more)

  pub used_up : (log : NodeLog A) (i : Input A) → no_ticket_for log i ≡ true → LAST_TICKET ≤ length log.inputs
  used_up log (Submit user op) h = let all : submits_of user log.inputs ≡ LAST_TICKET = eqb-true (submits_of user log.inputs) LAST_TICKET h in let few = submits_few user log.inputs in omega (arith, all, few)
  used_up log (Arrive e) h = absurd (cc h)
  used_up log Tick h = absurd (cc h)
  used_up log Campaign h = absurd (cc h)
  used_up log Crash h = absurd (cc h)
