-- A node whose answers were taken, beside one that keeps them, takes the same steps and sends the same.
use Rattle.std.proofs.Common.{◌≡◌, refl, ap, ◌∙◌, ℕ, List, [], ◌∷◌, ◌++◌, Bool, true, false, if◌then◌else◌, ◌==◌}
use Rattle.std.specs.List.{list_any}
use Rattle.ballot.specs.declared.message.Message.{Message}
use Rattle.ballot.specs.declared.message.Message.TheVariants.{Propose, P1a, P1b, P2a, P2b, Decision, Ask}
use Rattle.acceptor.specs.Acceptors.{AcceptorState, after_p1a, after_p2a, promise_for, vote_for}
use Rattle.leader.specs.Leaders.{LeaderState, proposed, hears_promise, hears_vote, campaigned, leader_ticks}
use Rattle.maildrop.specs.Same.{same_command}
use Rattle.maildrop.specs.Office.{User}
use Rattle.maildrop.specs.declared.command.Command.{Command}
use Rattle.ballot.specs.Slots.{at_slot}
use Rattle.replica.specs.Replicas.{replica_ticks}
use Rattle.replica.proofs.ButAwaited.{requested_alike, decided_alike}
use Rattle.replica.proofs.Left.{requested_left, decided_left}
use Rattle.node.specs.Replay.{NodeState, MailReplica, NodeMove, mail_rules, first_users, hears, command_for, acts, is_crash, takes}
use Rattle.node.specs.Roles.{submits, decision_to, ticks, campaigns}
use Rattle.ballot.specs.Sends.{stays}
use Rattle.node.specs.Nodes.{IsButTaken}
use Rattle.node.specs.declared.input.Input.{Input}
use Rattle.node.specs.declared.input.Input.TheVariants.{Submit, Arrive, Tick, Campaign, Crash}
use Rattle.node.specs.declared.log.Opening.{Opening}
use Rattle.node.proofs.Orders.{ids_total}

module _ {A : Type 0} where
  pub record AreAlike (o : Opening A) (here there : NodeMove A) : Type 0 where
    pub node : IsButTaken o here.after there.after
    pub sends : here.sends ≡ there.sends

  abbrev pub first : Opening A → List (User A)
  first o = first_users o

  pick : (o : Opening A) (t : Bool) (m n m' n' : NodeMove A) → AreAlike o m n → AreAlike o m' n' → AreAlike o (if t then m else m') (if t then n else n')
  pick o true m n m' n' p q = p
  pick o false m n m' n' p q = q

  stays_alike : (o : Opening A) (m n : NodeState A) → IsButTaken o m n → AreAlike o (stays m) (stays n)
  stays_alike o m n h = record { node = h; sends = refl }

  submits_alike : (o : Opening A) (m n : NodeState A) (c : Command A) → IsButTaken o m n → AreAlike o (submits m c) (submits n c)
  submits_alike o m n c h =
      record {
        node = record { acceptor = h.acceptor; leader = h.leader; replica = requested_left A mail_rules ids_total (first o) c m.replica n.replica h.replica };
        sends = (requested_alike {A = A} mail_rules c m.replica n.replica h.replica.same).sends;
      }

  hears_alike : (o : Opening A) (m n : NodeState A) (from : ℕ) (message : Message (Command A) A) → IsButTaken o m n → AreAlike o (hears m from message) (hears n from message)
  hears_alike o m n from (Propose s c) h =
      record {
        node = record { acceptor = h.acceptor; leader = ap (λ (l : LeaderState (Command A)). (proposed {A = A} l s c).after) h.leader; replica = h.replica };
        sends = ap (λ (l : LeaderState (Command A)). (proposed {A = A} l s c).sends) h.leader;
      }
  hears_alike o m n from (P1a b) h =
      record {
        node = record { acceptor = ap (λ (a : AcceptorState (Command A)). after_p1a a b) h.acceptor; leader = h.leader; replica = h.replica };
        sends = ap (λ (a : AcceptorState (Command A)). record { to = from; message = P1b (promise_for {A = A} a b) } ∷ []) h.acceptor;
      }
  hears_alike o m n from (P1b p) h =
      record {
        node = record { acceptor = h.acceptor; leader = ap (λ (l : LeaderState (Command A)). (hears_promise {A = A} same_command l from p).after) h.leader; replica = h.replica };
        sends = ap (λ (l : LeaderState (Command A)). (hears_promise {A = A} same_command l from p).sends) h.leader;
      }
  hears_alike o m n from (P2a p) h =
      record {
        node = record { acceptor = ap (λ (a : AcceptorState (Command A)). after_p2a a p) h.acceptor; leader = h.leader; replica = h.replica };
        sends = ap (λ (a : AcceptorState (Command A)). record { to = from; message = P2b (vote_for a p) } ∷ []) h.acceptor;
      }
  hears_alike o m n from (P2b v) h =
      record {
        node = record { acceptor = h.acceptor; leader = ap (λ (l : LeaderState (Command A)). (hears_vote {A = A} l from v).after) h.leader; replica = h.replica };
        sends = ap (λ (l : LeaderState (Command A)). (hears_vote {A = A} l from v).sends) h.leader;
      }
  hears_alike o m n from (Decision s c) h =
      record {
        node = record { acceptor = h.acceptor; leader = h.leader; replica = decided_left A mail_rules ids_total (first o) s c m.replica n.replica h.replica };
        sends = (decided_alike {A = A} mail_rules s c m.replica n.replica h.replica.same).sends;
      }
  hears_alike o m n from (Ask s) h =
      record { node = h; sends = ap (λ (r : MailReplica A). decision_to from s (at_slot s r.decisions)) h.replica.same }

  ticks_alike : (o : Opening A) (m n : NodeState A) → IsButTaken o m n → AreAlike o (ticks m) (ticks n)
  ticks_alike o m n h =
      record {
        node = h;
        sends = ap (λ (l : LeaderState (Command A)). (leader_ticks {A = A} l).sends ++ (replica_ticks m.replica).sends) h.leader
            ∙ ap (λ (r : MailReplica A). (leader_ticks {A = A} n.leader).sends ++ (replica_ticks {A = A} r).sends) h.replica.same;
      }

  campaigns_alike : (o : Opening A) (m n : NodeState A) → IsButTaken o m n → AreAlike o (campaigns m) (campaigns n)
  campaigns_alike o m n h =
      record {
        node = record { acceptor = h.acceptor; leader = ap (λ (l : LeaderState (Command A)). (campaigned {A = A} l).after) h.leader; replica = h.replica };
        sends = ap (λ (l : LeaderState (Command A)). (campaigned {A = A} l).sends) h.leader;
      }

  acts_alike : (o : Opening A) (me : ℕ) (before : List (Input A)) (m n : NodeState A) (i : Input A) → IsButTaken o m n → AreAlike o (acts me before m i) (acts me before n i)
  acts_alike o me before m n (Submit name op) h = submits_alike o m n (command_for me name op before) h
  acts_alike o me before m n (Arrive e) h = pick o (e.to == me) _ _ _ _ (hears_alike o m n e.from e.message h) (stays_alike o m n h)
  acts_alike o me before m n Tick h = ticks_alike o m n h
  acts_alike o me before m n Campaign h = campaigns_alike o m n h
  acts_alike o me before m n Crash h = stays_alike o m n h

  pub takes_alike : (o : Opening A) (me : ℕ) (before : List (Input A)) (m n : NodeState A) (i : Input A) → IsButTaken o m n → AreAlike o (takes me before m i) (takes me before n i)
  takes_alike o me before m n i h = pick o (list_any is_crash before) _ _ _ _ (stays_alike o m n h) (acts_alike o me before m n i h)
