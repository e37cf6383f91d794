-- What a line makes of a client.
use Rattle.std.proofs.Common.{◌≡◌, ℕ, List, [], ◌∷◌, ◌++◌, Bool, true, false, Option, Some, None, refl, sym, ap, ◌∙◌, cond, inl, inr}
use Rattle.std.specs.Prelude.{◌⊎◌}
use Rattle.maildrop.specs.Ticket.{Ticket}
use Rattle.maildrop.specs.CommandId.{CommandId}
use Rattle.maildrop.specs.declared.op.Op.{Op}
use Rattle.pop3_wire.specs.declared.line.Line.{Line}
use Rattle.session.specs.Session.{lock_due}
use Rattle.session.specs.declared.state.State.{State}
use Rattle.session.specs.declared.state.Step.{Step}
use Rattle.session.specs.declared.state.Step.TheVariants.{Say, Ask, SayAndClose}
use Rattle.node.specs.Replay.{next_ticket}
use Rattle.node.specs.declared.input.Input.TheVariants.{Submit, Crash}
use Rattle.node.specs.declared.log.NodeLog.{NodeLog}
use Rattle.runs.specs.Clients.{Standing, Waits, Failed, Disconnected, Client, standing_as, disconnected, with_line, asking}
use Rattle.world.specs.Hosts.{ticket_at}
use Rattle.runs.specs.Messages.{Network, is_up, given_input}
use Rattle.world.specs.Served.{IsAsking, IsCrash, IsLost, IsStepCut}
use Rattle.world.proofs.Locks.{KeepsLock}

module _ {A : Type 0} where
  -- a line without a ticket is heard
  pub pushed : (c : Client A) (line : Line) (lines : List Line) (tickets : List Ticket) → lines ≡ c.lines ++ line ∷ [] → tickets ≡ c.tickets → record c { lines = lines; tickets = tickets } ≡ with_line c line
  pushed c line lines tickets p q j = record c { lines = p j; tickets = q j }

  -- a line with a ticket
  pub pushed_asking : (c : Client A) (line : Line) (lines : List Line) (tickets : List Ticket) (state : State A) (id id2 : CommandId) (ticket : Ticket) → lines ≡ c.lines ++ line ∷ [] → tickets ≡ c.tickets ++ ticket ∷ [] → id ≡ id2
      → record c { lines = lines; tickets = tickets; standing = Waits state id } ≡ asking (with_line c line) ticket (Waits state id2)
  pushed_asking c line lines tickets state id id2 ticket p q r j = record c { lines = p j; tickets = q j; standing = Waits state (r j) }

  pub asked : (o : Option (NodeLog A)) (c later : Client A) (state : State A) (user : List ℕ) (op : Op A) (ticket : Ticket) → is_up o ≡ true → Some ticket ≡ ticket_at o (Submit user op)
      → later ≡ asking c ticket (Waits state (record { user = user; ticket = ticket })) → IsAsking c later state user o
  asked None c later state user op ticket up t e = absurd (cc)
  asked (Some log) c later state user op ticket up t e =
      e ∙ ap (λ (x : Ticket). asking c x (Waits state (record { user = user; ticket = x }))) (some_same ticket (next_ticket log.opening.me user log.inputs) (t ∙ go (is_up (Some log)) up))
    where
      some_same : (a b : Ticket) → Some a ≡ Some b → a ≡ b
      some_same a b q = cc

      go : (b : Bool) → b ≡ true → cond b (Some (next_ticket log.opening.me user log.inputs)) None ≡ Some (next_ticket log.opening.me user log.inputs)
      go true q = refl
      go false q = absurd (cc)

  -- there was no memory for what a line brings
  pub cut : (state later_state : State A) (step : Step A) (n new : Network A) (c middle later : Client A) → KeepsLock (lock_due state) step later_state → IsStepCut later_state step n new middle later
      → ((s : Standing A) → standing_as middle s ≡ standing_as c s) → middle.node ≡ c.node → disconnected c.standing ≡ Disconnected → IsLost (lock_due state) n new c later ⊎ IsCrash n new c later
  cut state later_state (Say bytes) n new c middle later keeps h same node strands = inl (h.0, h.1 ∙ same (Failed (lock_due later_state)) ∙ ap (λ lock. standing_as c (Failed lock)) keeps)
  cut state later_state (SayAndClose bytes) n new c middle later keeps h same node strands = inl (h.0, h.1 ∙ same (Failed (lock_due later_state)) ∙ ap (λ lock. standing_as c (Failed lock)) keeps)
  cut state later_state (Ask user op) n new c middle later keeps h same node strands =
      inr (h.0 ∙ ap (λ m. given_input n m Crash) node, h.1 ∙ same Disconnected ∙ ap (λ (s : Standing A). standing_as c s) (sym strands))
