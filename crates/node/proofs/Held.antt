-- Which answers are there after an input.
use Rattle.std.proofs.Common.{◌≡◌, refl, ap, ◌∙◌, sym, ℕ, ◌==◌, List, Bool, true, false, Option, Some, None, inl, inr, if◌then◌else◌}
use Rattle.std.specs.List.{list_any}
use Rattle.ballot.specs.declared.message.Message.{Message}
use Rattle.ballot.specs.declared.message.Message.TheVariants.{Propose, P1a, P1b, P2a, P2b, Decision, Ask}
use Rattle.maildrop.specs.CommandId.{CommandId}
use Rattle.maildrop.specs.declared.command.Command.{Command}
use Rattle.maildrop.specs.declared.outcome.Outcome.{Outcome}
use Rattle.replica.proofs.Parts.{held}
use Rattle.replica.specs.Calls.{awaited_for, answered_with}
use Rattle.replica.specs.Taken.{IsLeft}
use Rattle.replica.proofs.History.{requests_add_none}
use Rattle.replica.proofs.Left.{decided_answered}
use Rattle.node.specs.Replay.{NodeState, NodeMove, mail_rules, hears, command_for, acts, is_crash, takes, replayed}
use Rattle.node.specs.Roles.{submits}
use Rattle.ballot.specs.Sends.{stays}
use Rattle.node.specs.Nodes.{answer_of, answered, left_after, answer_after, IsButTaken, IsCurrent}
use Rattle.node.specs.declared.input.Input.{Input}
use Rattle.node.specs.declared.input.Input.TheVariants.{Submit, Arrive, Tick, Campaign, Crash}
use Rattle.node.specs.declared.log.NodeLog.{NodeLog}
use Rattle.node.specs.declared.log.Opening.{Opening}
use Rattle.node.proofs.Orders.{ids_total}
use Rattle.node.proofs.Alike.{first}
use Rattle.node.proofs.Replaying.{replayed-push}

module _ {A : Type 0} where
  same_after : (here there : Option (Outcome A)) → here ≡ left_after here there there
  same_after None None = refl
  same_after None (Some a) = refl
  same_after (Some a) there = refl

  -- if an answer comes to both
  comes_after : (o : Option (Outcome A)) (here there : Option (Option (Outcome A))) → IsLeft here there → held (answered_with o here) ≡ left_after (held here) (held there) (held (answered_with o there))
  comes_after o here None e = rw e refl
  comes_after o here (Some None) e = rw e refl
  comes_after o here (Some (Some a)) (inl e) = rw e refl
  comes_after o here (Some (Some a)) (inr e) = rw e refl

  abbrev Follows : CommandId → NodeState A → NodeState A → NodeMove A → NodeMove A → Type 0
  Follows id m n m' n' = answer_of id m'.after.replica.awaited ≡ left_after (answer_of id m.replica.awaited) (answer_of id n.replica.awaited) (answer_of id n'.after.replica.awaited)

  submits_follow : (o : Opening A) (m n : NodeState A) (c : Command A) (id : CommandId) → IsButTaken o m n → Follows id m n (submits m c) (submits n c)
  submits_follow o m n c id h =
      rw (requests_add_none A mail_rules ids_total (first o) c m.replica h.replica.here id, requests_add_none A mail_rules ids_total (first o) c n.replica h.replica.there id)
      (same_after (answer_of id m.replica.awaited) (answer_of id n.replica.awaited))

  unchanged : (m n : NodeState A) (id : CommandId) → answer_of id m.replica.awaited ≡ left_after (answer_of id m.replica.awaited) (answer_of id n.replica.awaited) (answer_of id n.replica.awaited)
  unchanged m n id = same_after (answer_of id m.replica.awaited) (answer_of id n.replica.awaited)

  hears_follow : (o : Opening A) (m n : NodeState A) (from : ℕ) (message : Message (Command A) A) (id : CommandId) → IsButTaken o m n → Follows id m n (hears m from message) (hears n from message)
  hears_follow o m n from (Propose s c) id h = unchanged m n id
  hears_follow o m n from (P1a b) id h = unchanged m n id
  hears_follow o m n from (P1b p) id h = unchanged m n id
  hears_follow o m n from (P2a p) id h = unchanged m n id
  hears_follow o m n from (P2b v) id h = unchanged m n id
  hears_follow o m n from (Decision s c) id h =
      let both = decided_answered A mail_rules ids_total (first o) s c m.replica n.replica h.replica id in
      ap held both.1.0
      ∙ comes_after both.0 (awaited_for mail_rules id m.replica) (awaited_for mail_rules id n.replica) (h.replica.left id)
      ∙ ap (λ (x : Option (Option (Outcome A))). left_after (answer_of id m.replica.awaited) (answer_of id n.replica.awaited) (held x)) (sym both.1.1)
  hears_follow o m n from (Ask s) id h = unchanged m n id

  pick : (t : Bool) (m n : NodeState A) (id : CommandId) (m' n' m'' n'' : NodeMove A) → Follows id m n m' n' → Follows id m n m'' n'' → Follows id m n (if t then m' else m'') (if t then n' else n'')
  pick true m n id m' n' m'' n'' p q = p
  pick false m n id m' n' m'' n'' p q = q

  acts_follow : (o : Opening A) (me : ℕ) (before : List (Input A)) (m n : NodeState A) (i : Input A) (id : CommandId) → IsButTaken o m n → Follows id m n (acts me before m i) (acts me before n i)
  acts_follow o me before m n (Submit name op) id h = submits_follow o m n (command_for me name op before) id h
  acts_follow o me before m n (Arrive e) id h = pick (e.to == me) m n id (hears m e.from e.message) (hears n e.from e.message) (stays m) (stays n) (hears_follow o m n e.from e.message id h) (unchanged m n id)
  acts_follow o me before m n Tick id h = unchanged m n id
  acts_follow o me before m n Campaign id h = unchanged m n id
  acts_follow o me before m n Crash id h = unchanged m n id

  takes_follow : (o : Opening A) (me : ℕ) (before : List (Input A)) (m n : NodeState A) (i : Input A) (id : CommandId) → IsButTaken o m n → Follows id m n (takes me before m i) (takes me before n i)
  takes_follow o me before m n i id h = pick (list_any is_crash before) m n id (stays m) (stays n) (acts me before m i) (acts me before n i) (unchanged m n id) (acts_follow o me before m n i id h)

  -- the answers of a node after an input are those that were there, and what its log gets by the input
  pub answers_follow : (log : NodeLog A) (i : Input A) (roles : Option (NodeState A)) (given : List (List ℕ × ℕ)) (h : IsCurrent log roles given) (id : CommandId)
      → answer_of id (takes log.opening.me log.inputs h.node i).after.replica.awaited ≡ answer_after log i id (answer_of id h.node.replica.awaited)
  answers_follow log i roles given h id =
      takes_follow log.opening log.opening.me log.inputs h.node (replayed log) i id h.replay
      ∙ ap (λ (n : NodeState A). left_after (answer_of id h.node.replica.awaited) (answered log id) (answer_of id n.replica.awaited)) (sym (replayed-push log i))
