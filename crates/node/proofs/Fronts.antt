-- A node has performed the whole front of what it was told.
use Rattle.std.proofs.Common.{◌≡◌, ℕ, List, [], ◌∷◌, ◌++◌, Bool, true, false, cond, eqb, refl, sym, ap, ◌∙◌, subst, append_assoc}
use Rattle.std.specs.List.{list_any}
use Rattle.std.proofs.lemmas.List.{append-nil}
use Rattle.std.proofs.lemmas.List.Folds.{list_any-append}
use Rattle.ballot.specs.declared.message.Message.{Message}
use Rattle.ballot.specs.declared.message.Message.TheVariants.{Propose, P1a, P1b, P2a, P2b, Decision, Ask}
use Rattle.maildrop.specs.declared.command.Command.{Command}
use Rattle.replica.specs.Replicas.{IsFrontOf, IsSettled}
use Rattle.ballot.specs.Slots.{at_slot}
use Rattle.replica.specs.Calls.{Requests, Decides}
use Rattle.replica.proofs.History.{called_settled, called_given}
use Rattle.replica.proofs.Settled.{settled_new, front_given}
use Rattle.node.specs.Replay.{NodeState, NodeMove, mail_rules, new_node, hears, acts, is_crash, takes, takes_all, replayed, command_for}
use Rattle.ballot.specs.Sends.{stays}
use Rattle.node.specs.Told.{decision_in, told_by, told_decisions}
use Rattle.node.specs.declared.input.Input.{Input}
use Rattle.node.specs.declared.input.Input.TheVariants.{Submit, Arrive, Tick, Campaign, Crash}
use Rattle.node.specs.declared.log.Opening.{Opening}
use Rattle.node.specs.declared.log.NodeLog.{NodeLog}
use Rattle.node.proofs.Alike.{first}
use Rattle.node.proofs.Crashing.{behind}

module _ {A : Type 0} where
  -- a node was told these decisions, of which it keeps the first for each slot, and has performed their front
  record Knows (given : List (ℕ × Command A)) (n : NodeState A) : Type 0 where
    settled : IsSettled mail_rules n.replica
    same : (s : ℕ) → at_slot s n.replica.decisions ≡ at_slot s given

  none_more : (given : List (ℕ × Command A)) (n : NodeState A) → Knows given n → (s : ℕ) → at_slot s n.replica.decisions ≡ at_slot s (given ++ [])
  none_more given n k s = k.same s ∙ ap (at_slot s) (sym (append-nil given))

  untold : (given : List (ℕ × Command A)) (n : NodeState A) → Knows given n → Knows (given ++ []) n
  untold given n k = record { settled = k.settled; same = none_more given n k }

  hears_know : (given : List (ℕ × Command A)) (n : NodeState A) (from : ℕ) (m : Message (Command A) A) → Knows given n → Knows (given ++ decision_in m) (hears n from m).after
  hears_know given n from (Decision s c) k =
      record { settled = called_settled A mail_rules (Decides s c) n.replica k.settled; same = called_given A mail_rules (Decides s c) n.replica given k.same }
  hears_know given n from (Propose s c) k = record { settled = k.settled; same = none_more given n k }
  hears_know given n from (P1a b) k = record { settled = k.settled; same = none_more given n k }
  hears_know given n from (P1b p) k = record { settled = k.settled; same = none_more given n k }
  hears_know given n from (P2a p) k = record { settled = k.settled; same = none_more given n k }
  hears_know given n from (P2b v) k = record { settled = k.settled; same = none_more given n k }
  hears_know given n from (Ask s) k = untold given n k

  acts_know : (me : ℕ) (before : List (Input A)) (given : List (ℕ × Command A)) (n : NodeState A) (i : Input A) → Knows given n → Knows (given ++ told_by me i) (acts me before n i).after
  acts_know me before given n (Submit user op) k =
      record {
        settled = called_settled A mail_rules (Requests (command_for me user op before)) n.replica k.settled;
        same = called_given A mail_rules (Requests (command_for me user op before)) n.replica given k.same;
      }
  acts_know me before given n (Arrive e) k =
      go (eqb e.to me)
    where
      go : (t : Bool) → Knows (given ++ cond t (decision_in e.message) []) (cond t (hears n e.from e.message) (stays n)).after
      go true = hears_know given n e.from e.message k
      go false = untold given n k
  acts_know me before given n Tick k = untold given n k
  acts_know me before given n Campaign k = record { settled = k.settled; same = none_more given n k }
  acts_know me before given n Crash k = untold given n k

  crash_stays : (me : ℕ) (before : List (Input A)) (n : NodeState A) (i : Input A) → is_crash i ≡ true → acts me before n i ≡ stays n
  crash_stays me before n (Submit user op) q = absurd (cc q)
  crash_stays me before n (Arrive e) q = absurd (cc q)
  crash_stays me before n Tick q = absurd (cc q)
  crash_stays me before n Campaign q = absurd (cc q)
  crash_stays me before n Crash q = refl

  all_know : (me : ℕ) (before : List (Input A)) (given : List (ℕ × Command A)) (n : NodeState A) (is : List (Input A)) → list_any is_crash before ≡ false → Knows given n
      → Knows (given ++ told_decisions me is) (takes_all me before n is)
  all_know me before given n [] up k = untold given n k
  all_know me before given n (i ∷ is) up k =
      go (is_crash i) refl (all_know me (before ++ i ∷ []) (given ++ told_by me i) (takes me before n i).after is)
    where
      acted : takes me before n i ≡ acts me before n i
      acted = rw up refl

      go : (t : Bool) → is_crash i ≡ t
          → (list_any is_crash (before ++ i ∷ []) ≡ false → Knows (given ++ told_by me i) (takes me before n i).after → Knows ((given ++ told_by me i) ++ told_decisions me is) (takes_all me (before ++ i ∷ []) (takes me before n i).after is))
          → Knows (given ++ cond t [] (told_by me i ++ told_decisions me is)) (takes_all me (before ++ i ∷ []) (takes me before n i).after is)
      go true q rest =
          let ended : takes_all me (before ++ i ∷ []) (takes me before n i).after is ≡ n =
          ap (λ (m : NodeMove A). takes_all me (before ++ i ∷ []) m.after is) (acted ∙ crash_stays me before n i q) ∙ behind me (before ++ i ∷ []) n is (list_any-append is_crash before (i ∷ []) ∙ rw (up, q) refl) in
          subst (λ (m : NodeState A). Knows (given ++ []) m) (sym ended) (untold given n k)
      go false q rest =
          subst (λ (g : List (ℕ × Command A)). Knows g (takes_all me (before ++ i ∷ []) (takes me before n i).after is)) (append_assoc given (told_by me i) (told_decisions me is))
          (rest (list_any-append is_crash before (i ∷ []) ∙ rw (up, q) refl) (subst (λ (m : NodeMove A). Knows (given ++ told_by me i) m.after) (sym acted) (acts_know me before given n i k)))

  pub front_told : (log : NodeLog A) → IsFrontOf mail_rules (told_decisions log.opening.me log.inputs) (replayed log).replica
  front_told log =
      let o : Opening A = log.opening in
      let k : Knows (told_decisions o.me log.inputs) (replayed log) =
      all_know o.me [] [] (new_node o) log.inputs refl (record { settled = settled_new mail_rules o.me o.cluster o.window (first o); same = λ s. refl }) in
      front_given mail_rules (told_decisions o.me log.inputs) (replayed log).replica k.same k.settled.front
