-- The parts of a node that are seen through its roles.
use Rattle.std.proofs.Common.{List, ◌≡◌, ℕ, ◌==◌, true, false, Option, Some, None, option_map, refl, ap, ◌∙◌}
use Rattle.std.specs.Prelude.{IfSome}
use Rattle.maildrop.specs.Office.{User}
use Rattle.acceptor.specs.Acceptors.{AcceptorState}
use Rattle.leader.specs.Leaders.{LeaderState}
use Rattle.maildrop.specs.declared.command.Command.{Command}
use Rattle.ballot.specs.declared.message.Envelope.{Envelope}
use Rattle.node.specs.Replay.{NodeState, MailReplica, hears}
use Rattle.node.specs.Roles.{arrives}
use Rattle.ballot.specs.Sends.{stays}
use Rattle.node.specs.Roles.{node_of}

inside : {X : Type 0} (x y : X) → Some x ≡ Some y → x ≡ y
inside x y h = cc h

module _ {A : Type 0} where
  pub replica_of : (a : AcceptorState (Command A)) (l : Option (LeaderState (Command A))) (r : Option (MailReplica A)) (n : NodeState A) → node_of a l r ≡ Some n → r ≡ Some n.replica
  replica_of a None r n h = absurd (cc h)
  replica_of a (Some l) None n h = absurd (cc h)
  replica_of a (Some l) (Some r) n h = ap (λ (m : NodeState A). Some m.replica) (inside _ _ h)

  pub office_of : (a : AcceptorState (Command A)) (l : Option (LeaderState (Command A))) (r : Option (MailReplica A)) (users : List (User A)) → IfSome r (λ s. users ≡ s.machine) → IfSome (node_of a l r) (λ n. users ≡ n.replica.machine)
  office_of a None r users h = tt
  office_of a (Some l) None users h = tt
  office_of a (Some l) (Some r) users h = h

  pub moved_to : (f : NodeState A → NodeState A) (old new : Option (NodeState A)) (n : NodeState A) → old ≡ Some n → new ≡ option_map f old → new ≡ Some (f n)
  moved_to f old new n is same = same ∙ ap (option_map f) is

  pub arrives_here : (me : ℕ) (n : NodeState A) (e : Envelope (Command A) A) → (e.to == me) ≡ true → arrives me n e ≡ hears n e.from e.message
  arrives_here me n e here = rw here refl

  pub arrives_elsewhere : (me : ℕ) (n : NodeState A) (e : Envelope (Command A) A) → (e.to == me) ≡ false → arrives me n e ≡ stays n
  arrives_elsewhere me n e elsewhere = rw elsewhere refl
