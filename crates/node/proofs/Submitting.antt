-- Each identity that a node gives names one Submit of its log.
use Rattle.std.proofs.Common.{◌≡◌, ℕ, ◌+◌, List, [], ◌∷◌, ◌++◌, Bool, true, false, cond, Option, Some, refl, ap, ◌∙◌, sym, subst, append_assoc, arith}
use Rattle.std.proofs.lemmas.List.{append-nil}
use Rattle.std.proofs.lemmas.Slice.Eq.{bytes_eq-Decides}
use Rattle.maildrop.specs.CommandId.{CommandId, same_id}
use Rattle.maildrop.specs.Ticket.{Ticket}
use Rattle.maildrop.specs.Equality.{id_decides}
use Rattle.maildrop.specs.declared.op.Op.{Op}
use Rattle.node.specs.Replay.{counts, submits_of, next_ticket}
use Rattle.node.specs.Nodes.{logged, lengthened}
use Rattle.node.specs.Submits.{IsSubmitted, next_id, op_at, op_among, op_of}
use Rattle.node.specs.declared.input.Input.{Input}
use Rattle.node.specs.declared.input.Input.TheVariants.{Submit, Arrive, Tick, Campaign, Crash}
use Rattle.node.specs.declared.log.NodeLog.{NodeLog}

module _ {A : Type 0} where
  submits_of-append : (name : List ℕ) (is more : List (Input A)) → submits_of name (is ++ more) ≡ submits_of name is + submits_of name more
  submits_of-append name [] more = omega arith
  submits_of-append name (i ∷ is) more = grind (arith, submits_of-append name is more)

  pub counts_own : (name : List ℕ) (op : Op A) → counts name (Submit name op) ≡ 1
  counts_own name op = rw ((bytes_eq-Decides name name).1 refl) refl

  pub submitted_later : (log : NodeLog A) (more : List (Input A)) (id : CommandId) (op : Op A) → IsSubmitted log id op → IsSubmitted (lengthened log more) id op
  submitted_later log more id op h =
      record {
        before = h.before;
        after = h.after ++ more;
        inputs = ap (λ (is : List (Input A)). is ++ more) h.inputs ∙ append_assoc h.before (Submit id.user op ∷ h.after) more;
        ticket = h.ticket;
      }

  -- a ticket is of the node that gave it
  pub submitted_here : (log : NodeLog A) (id : CommandId) (op : Op A) → IsSubmitted log id op → id.ticket.node ≡ log.opening.me
  submitted_here log id op h = ap (λ (t : Ticket). t.node) h.ticket

  -- where the operation stands among inputs
  record Found (me : ℕ) (before is : List (Input A)) (id : CommandId) (op : Op A) : Type 0 where
    front : List (Input A)
    rest : List (Input A)
    inputs : is ≡ front ++ Submit id.user op ∷ rest
    ticket : id.ticket ≡ next_ticket me id.user (before ++ front)

  later : (me : ℕ) (before is : List (Input A)) (i : Input A) (id : CommandId) (op : Op A) → Found me (before ++ i ∷ []) is id op → Found me before (i ∷ is) id op
  later me before is i id op f =
      record {
        front = i ∷ f.front;
        rest = f.rest;
        inputs = ap (λ (xs : List (Input A)). i ∷ xs) f.inputs;
        ticket = f.ticket ∙ ap (λ (b : List (Input A)). next_ticket me id.user b) (append_assoc before (i ∷ []) f.front);
      }

  found : (me : ℕ) (before is : List (Input A)) (id : CommandId) (op : Op A) → op_among me before is id ≡ Some op → Found me before is id op
  found me before [] id op e = absurd (cc e)
  found me before (Submit user x ∷ is) id op e =
      go (same_id (next_id me user before) id) refl (λ f. later me before is (Submit user x) id op (found me (before ++ Submit user x ∷ []) is id op f)) e
    where
      here : Found me before (Submit user x ∷ is) (next_id me user before) x
      here = record { front = []; rest = is; inputs = refl; ticket = ap (λ (b : List (Input A)). next_ticket me user b) (sym (append-nil before)) }

      go : (t : Bool) → same_id (next_id me user before) id ≡ t → (op_among me (before ++ Submit user x ∷ []) is id ≡ Some op → Found me before (Submit user x ∷ is) id op)
          → cond t (Some x) (op_among me (before ++ Submit user x ∷ []) is id) ≡ Some op → Found me before (Submit user x ∷ is) id op
      go true q behind e =
          let same : next_id me user before ≡ id = (id_decides (next_id me user before) id).0 q in
          let is_op : x ≡ op = cc e in
          subst (λ (j : CommandId). Found me before (Submit user x ∷ is) j op) same (subst (λ (y : Op A). Found me before (Submit user x ∷ is) (next_id me user before) y) is_op here)
      go false q behind e = behind e
  found me before (Arrive x ∷ is) id op e = later me before is (Arrive x) id op (found me (before ++ Arrive x ∷ []) is id op e)
  found me before (Tick ∷ is) id op e = later me before is Tick id op (found me (before ++ Tick ∷ []) is id op e)
  found me before (Campaign ∷ is) id op e = later me before is Campaign id op (found me (before ++ Campaign ∷ []) is id op e)
  found me before (Crash ∷ is) id op e = later me before is Crash id op (found me (before ++ Crash ∷ []) is id op e)

  -- an earlier input isn't the Submit that gets the next ticket
  passed : (me : ℕ) (before is : List (Input A)) (i : Input A) (user : List ℕ) (o : Option (Op A)) → op_at me before (next_id me user (before ++ i ∷ is)) i o ≡ o
  passed me before is (Submit u x) user o =
      go (same_id (next_id me u before) (next_id me user (before ++ Submit u x ∷ is))) refl
    where
      go : (t : Bool) → same_id (next_id me u before) (next_id me user (before ++ Submit u x ∷ is)) ≡ t → cond t (Some x) o ≡ o
      go true q =
          let same : next_id me u before ≡ next_id me user (before ++ Submit u x ∷ is) = (id_decides (next_id me u before) (next_id me user (before ++ Submit u x ∷ is))).0 q in
          let users : u ≡ user = ap (λ (j : CommandId). j.user) same in
          let numbers : 1 + submits_of u before ≡ 1 + submits_of u (before ++ Submit u x ∷ is) = ap (λ (j : CommandId). j.ticket.seq) same ∙ ap (λ (n : List ℕ). 1 + submits_of n (before ++ Submit u x ∷ is)) (sym users) in
          absurd (omega (arith, numbers, submits_of-append u before (Submit u x ∷ is), counts_own u x))
      go false q = refl
  passed me before is (Arrive x) user o = refl
  passed me before is Tick user o = refl
  passed me before is Campaign user o = refl
  passed me before is Crash user o = refl

  new_among : (me : ℕ) (before is : List (Input A)) (user : List ℕ) (op : Op A) → op_among me before (is ++ Submit user op ∷ []) (next_id me user (before ++ is)) ≡ Some op
  new_among me before [] user op =
      rw ((id_decides (next_id me user before) (next_id me user (before ++ []))).1 (ap (λ (b : List (Input A)). next_id me user b) (sym (append-nil before)))) refl
  new_among me before (i ∷ is) user op =
      passed me before is i user (op_among me (before ++ i ∷ []) (is ++ Submit user op ∷ []) (next_id me user (before ++ i ∷ is)))
      ∙ subst (λ (b : List (Input A)). op_among me (before ++ i ∷ []) (is ++ Submit user op ∷ []) (next_id me user b) ≡ Some op) (append_assoc before (i ∷ []) is) (new_among me (before ++ i ∷ []) is user op)

  -- a Submit's identity names its operation
  pub op_new : (log : NodeLog A) (user : List ℕ) (op : Op A) → op_of (logged log (Submit user op)) (next_id log.opening.me user log.inputs) ≡ Some op
  op_new log user op = new_among log.opening.me [] log.inputs user op

  at_stays : (me : ℕ) (before : List (Input A)) (id : CommandId) (i : Input A) (o o' : Option (Op A)) (op : Op A) → (o ≡ Some op → o' ≡ Some op) → op_at me before id i o ≡ Some op → op_at me before id i o' ≡ Some op
  at_stays me before id (Submit u x) o o' op h e =
      go (same_id (next_id me u before) id) e
    where
      go : (t : Bool) → cond t (Some x) o ≡ Some op → cond t (Some x) o' ≡ Some op
      go true f = f
      go false f = h f
  at_stays me before id (Arrive x) o o' op h e = h e
  at_stays me before id Tick o o' op h e = h e
  at_stays me before id Campaign o o' op h e = h e
  at_stays me before id Crash o o' op h e = h e

  among_stays : (me : ℕ) (before is more : List (Input A)) (id : CommandId) (op : Op A) → op_among me before is id ≡ Some op → op_among me before (is ++ more) id ≡ Some op
  among_stays me before [] more id op e = absurd (cc e)
  among_stays me before (i ∷ is) more id op e =
      at_stays me before id i (op_among me (before ++ i ∷ []) is id) (op_among me (before ++ i ∷ []) (is ++ more) id) op (λ f. among_stays me (before ++ i ∷ []) is more id op f) e

  pub op_stays : (log : NodeLog A) (more : List (Input A)) (id : CommandId) (op : Op A) → op_of log id ≡ Some op → op_of (lengthened log more) id ≡ Some op
  op_stays log more id op e = among_stays log.opening.me [] log.inputs more id op e

  pub op_found : (log : NodeLog A) (id : CommandId) (op : Op A) → op_of log id ≡ Some op → IsSubmitted log id op
  op_found log id op e =
      let f = found log.opening.me [] log.inputs id op e in
      record { before = f.front; after = f.rest; inputs = f.inputs; ticket = f.ticket }

  pub op_named : (log : NodeLog A) (id : CommandId) (op : Op A) → IsSubmitted log id op → op_of log id ≡ Some op
  op_named log id op h =
      subst (λ (is : List (Input A)). op_among log.opening.me [] is id ≡ Some op) (append_assoc h.before (Submit id.user op ∷ []) h.after ∙ sym h.inputs)
      (subst (λ (t : Ticket). op_among log.opening.me [] ((h.before ++ Submit id.user op ∷ []) ++ h.after) (record { user = id.user; ticket = t }) ≡ Some op) (sym h.ticket)
      (among_stays log.opening.me [] (h.before ++ Submit id.user op ∷ []) h.after (next_id log.opening.me id.user h.before) op (new_among log.opening.me [] h.before id.user op)))

  -- two places of one identity are one
  pub one_place : (user : List ℕ) (b b' a a' : List (Input A)) (op op' : Op A) → b ++ Submit user op ∷ a ≡ b' ++ Submit user op' ∷ a' → submits_of user b ≡ submits_of user b' → (b ≡ b') × (op ≡ op') × (a ≡ a')
  one_place user [] [] a a' op op' e s =
      let same : op ≡ op' = cc e in
      let rest : a ≡ a' = cc e in
      (refl, same, rest)
  one_place user [] (j ∷ b') a a' op op' e s =
      let first : Submit user op ≡ j = cc e in
      absurd (omega (arith, s, sym (counts_own user op) ∙ ap (counts user) first))
  one_place user (i ∷ b) [] a a' op op' e s =
      let first : i ≡ Submit user op' = cc e in
      absurd (omega (arith, s, ap (counts user) first ∙ counts_own user op'))
  one_place user (i ∷ b) (j ∷ b') a a' op op' e s =
      let first : i ≡ j = cc e in
      let rest : b ++ Submit user op ∷ a ≡ b' ++ Submit user op' ∷ a' = cc e in
      let numbers : submits_of user b ≡ submits_of user b' = omega (arith, s, ap (counts user) first) in
      let more = one_place user b b' a a' op op' rest numbers in
      (ap (λ (x : Input A). x ∷ b) first ∙ ap (λ (xs : List (Input A)). j ∷ xs) more.0, more.1, more.2)

  pub one_submit : (log : NodeLog A) (id : CommandId) (op op' : Op A) (h : IsSubmitted log id op) (h' : IsSubmitted log id op') → (h.before ≡ h'.before) × (op ≡ op') × (h.after ≡ h'.after)
  one_submit log id op op' h h' =
      let numbers : 1 + submits_of id.user h.before ≡ 1 + submits_of id.user h'.before = ap (λ (t : Ticket). t.seq) (sym h.ticket ∙ h'.ticket) in
      one_place id.user h.before h'.before h.after h'.after op op' (sym h.inputs ∙ h'.inputs) (omega (arith, numbers))
