-- The logs of the nodes, by the nodes' numbers.
use Rattle.std.proofs.Common.{◌≡◌, ◌≢◌, ℕ, zero, suc, ◌+◌, ◌-◌, List, [], ◌∷◌, ◌++◌, Some, refl, sym, ap, ◌∙◌, subst, inl, inr, ⊎_elim, arith, cond, eqb, set, map}
use Rattle.std.specs.Prelude.{slice_get}
use Rattle.std.proofs.lemmas.Bool.{cases_eq, eq-eqb, ne_eqb}
use Rattle.ballot.specs.Lists.{IsIn}
use Rattle.ballot.specs.declared.message.Envelope.{Envelope}
use Rattle.ballot.proofs.Member.{in_got}
use Rattle.maildrop.specs.declared.command.Command.{Command}
use Rattle.node.specs.Nodes.{logged}
use Rattle.node.specs.declared.input.Input.{Input}
use Rattle.node.specs.declared.log.Opening.{Opening}
use Rattle.node.specs.declared.log.NodeLog.{NodeLog}
use Rattle.node.proofs.Submitting.{submitted_later}
use Rattle.maildrop.specs.Same.{identity_of}
use Rattle.node.specs.Submits.{IsSubmitted}
use Rattle.runs.specs.Messages.{log_of, newly_sent, with_arrival, new_logs, WasSubmitted}
use Rattle.runs.specs.declared.sent.Sent.{Sent}

pub some_same : {X : Type 0} (a b : X) → Some a ≡ Some b → a ≡ b
some_same a b q = cc

next_number : (a b : ℕ) → eqb (suc a) (suc b) ≡ eqb a b
next_number a b =
    ⊎_elim
    (λ (q : a ≡ b). eq-eqb (suc a) (suc b) (ap suc q) ∙ sym (eq-eqb a b q))
    (λ (ne : a ≢ b). let other : suc a ≢ suc b = λ e. ne (omega arith) in ne_eqb (suc a) (suc b) other ∙ sym (ne_eqb a b ne))
    (cases_eq a b)

-- what is read from a list in which an element was set
get_set : {X : Type 0} (xs : List X) (k j : ℕ) (x y : X) → slice_get xs k ≡ Some y → slice_get (set xs k x) j ≡ cond (eqb j k) (Some x) (slice_get xs j)
get_set [] k j x y e = absurd (cc)
get_set (z ∷ xs) zero zero x y e = refl
get_set (z ∷ xs) zero (suc j) x y e = let ne : suc j ≢ 0 = omega arith in rw (ne_eqb (suc j) 0 ne) refl
get_set (z ∷ xs) (suc k) zero x y e = let ne : 0 ≢ suc k = omega arith in rw (ne_eqb 0 (suc k) ne) refl
get_set (z ∷ xs) (suc k) (suc j) x y e = rw (next_number j k) (get_set xs k j x y e)

module _ {A : Type 0} where
  -- the logs, if that of node n is another
  pub log_set : (logs : List (NodeLog A)) (n : ℕ) (log x : NodeLog A) → log_of n logs ≡ Some log → (m : ℕ) → log_of m (set logs (n - 1) x) ≡ cond (eqb m n) (Some x) (log_of m logs)
  log_set logs zero log x e m = absurd (cc)
  log_set logs (suc k) log x e zero = let ne : 0 ≢ suc k = omega arith in rw (ne_eqb 0 (suc k) ne) refl
  log_set logs (suc k) log x e (suc j) =
      let down : suc k - 1 ≡ k = omega arith in
      rw (down, next_number j k) (get_set logs k j x log e)

  pub log_same : (logs : List (NodeLog A)) (n : ℕ) (log x : NodeLog A) → log_of n logs ≡ Some log → log_of n (set logs (n - 1) x) ≡ Some x
  log_same logs n log x e = log_set logs n log x e n ∙ rw (eq-eqb n n refl) refl

  pub log_other : (logs : List (NodeLog A)) (n : ℕ) (log x : NodeLog A) → log_of n logs ≡ Some log → (m : ℕ) → m ≢ n → log_of m (set logs (n - 1) x) ≡ log_of m logs
  log_other logs n log x e m ne = log_set logs n log x e m ∙ rw (ne_eqb m n ne) refl

  -- each new log is a node's of its number, and empty
  pub new_log : (first : Opening A) (n m j : ℕ) (log : NodeLog A) → slice_get (new_logs first n m) j ≡ Some log → record { opening = record first { me = n + j }; inputs = [] } ≡ log
  new_log first n zero j log e = absurd (cc)
  new_log first n (suc m) zero log e =
      let here : record { opening = record first { me = n }; inputs = [] } ≡ log = cc in
      let same : n + 0 ≡ n = omega arith in
      subst (λ k. record { opening = record first { me = k }; inputs = [] } ≡ log) (sym same) here
  new_log first n (suc m) (suc j) log e =
      let same : suc n + j ≡ n + suc j = omega arith in
      subst (λ k. record { opening = record first { me = k }; inputs = [] } ≡ log) same (new_log first (suc n) m j log e)

  pub new_log_of : (first : Opening A) (m n : ℕ) (log : NodeLog A) → log_of n (new_logs first 1 m) ≡ Some log → record { opening = record first { me = n }; inputs = [] } ≡ log
  new_log_of first m zero log e = absurd (cc)
  new_log_of first m (suc n) log e =
      let same : 1 + n ≡ suc n = omega arith in
      subst (λ k. record { opening = record first { me = k }; inputs = [] } ≡ log) same (new_log first 1 m n log e)

  -- what was submitted stays submitted, and a new Submit's command is
  pub submitted_more : (logs : List (NodeLog A)) (n : ℕ) (log : NodeLog A) (i : Input A) → log_of n logs ≡ Some log → (c : Command A) → WasSubmitted logs c → WasSubmitted (set logs (n - 1) (logged log i)) c
  submitted_more logs n log i e c h =
      ⊎_elim
      (λ (q : c.ticket.node ≡ n).
      let same : log ≡ h.0 = some_same log h.0 (sym e ∙ subst (λ k. log_of k logs ≡ Some h.0) q h.1) in
      let x : IsSubmitted log (identity_of c) c.op = subst (λ l. IsSubmitted l (identity_of c) c.op) (sym same) h.2 in (
        logged log i,
        subst (λ k. log_of k (set logs (n - 1) (logged log i)) ≡ Some (logged log i)) (sym q) (log_same logs n log (logged log i) e),
        submitted_later log (i ∷ []) (identity_of c) c.op x,
      ))
      (λ (ne : c.ticket.node ≢ n). (h.0, log_other logs n log (logged log i) e c.ticket.node ne ∙ h.1, h.2))
      (cases_eq c.ticket.node n)

  -- the messages, without their arrivals
  pub in_sent : (ss : List (Sent A)) (k : ℕ) (s : Sent A) → slice_get ss k ≡ Some s → IsIn s.envelope (map (λ (x : Sent A). x.envelope) ss)
  in_sent ss k s e =
      go ss (in_got ss k s e)
    where
      go : (xs : List (Sent A)) → IsIn s xs → IsIn s.envelope (map (λ (x : Sent A). x.envelope) xs)
      go [] h = absurd h
      go (x ∷ xs) h = ⊎_elim (λ (q : x ≡ s). inl (ap (λ (y : Sent A). y.envelope) q)) (λ t. inr (go xs t)) h

  pub arrival_alike : (k : ℕ) (ss : List (Sent A)) → map (λ (x : Sent A). x.envelope) (with_arrival k ss) ≡ map (λ (x : Sent A). x.envelope) ss
  arrival_alike k [] = refl
  arrival_alike zero (s ∷ ss) = refl
  arrival_alike (suc k) (s ∷ ss) = ap (λ es. s.envelope ∷ es) (arrival_alike k ss)

  pub envelopes_more : (ss : List (Sent A)) (es : List (Envelope (Command A) A)) → map (λ (x : Sent A). x.envelope) (ss ++ newly_sent es) ≡ map (λ (x : Sent A). x.envelope) ss ++ es
  envelopes_more [] es =
      new es
    where
      new : (es : List (Envelope (Command A) A)) → map (λ (x : Sent A). x.envelope) (newly_sent es) ≡ es
      new [] = refl
      new (e ∷ es) = ap (λ xs. e ∷ xs) (new es)
  envelopes_more (s ∷ ss) es = ap (λ xs. s.envelope ∷ xs) (envelopes_more ss es)
