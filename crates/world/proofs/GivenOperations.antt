-- The operations that were given from outside of sessions.
use Rattle.std.proofs.Common.{◌≡◌, ℕ, List, [], ◌∷◌, ◌++◌, Bool, true, false, Option, Some, None, refl, ap, ◌∙◌, cond}
use Rattle.std.specs.Map.{lookup}
use Rattle.indexmap.specs.IndexMap.{insert_entry}
use Rattle.maildrop.specs.CommandId.{CommandId, same_id}
use Rattle.maildrop.specs.Ticket.{Ticket}
use Rattle.maildrop.specs.declared.op.Op.{Op}
use Rattle.node.specs.declared.input.Input.TheVariants.{Submit}
use Rattle.node.specs.declared.log.NodeLog.{NodeLog}
use Rattle.world.specs.Hosts.{ticket_at}
use Rattle.runs.specs.Messages.{is_up}
use Rattle.runs.specs.Services.{next_id}

-- a new command goes last
pub insert_last : {X : Type 0} (es : List (CommandId × X)) (id : CommandId) (x : X) → lookup (same_id id) es ≡ None → insert_entry same_id es id x ≡ es ++ (id, x) ∷ []
insert_last [] id x e = refl
insert_last (y ∷ es) id x e =
    go (same_id id y.0) e (insert_last es id x)
  where
    go : (t : Bool) → cond t (Some y.1) (lookup (same_id id) es) ≡ None → (lookup (same_id id) es ≡ None → insert_entry same_id es id x ≡ es ++ (id, x) ∷ [])
        → cond t ((y.0, x) ∷ es) (y ∷ insert_entry same_id es id x) ≡ (y ∷ es) ++ (id, x) ∷ []
    go true q ih = absurd (cc)
    go false q ih = ap (λ xs. y ∷ xs) (ih q)

module _ {A : Type 0} where
  -- the command that a node makes of an operation
  pub given_id : (o : Option (NodeLog A)) (log : NodeLog A) (user : List ℕ) (op : Op A) (ticket : Ticket) → o ≡ Some log → is_up (Some log) ≡ true → Some ticket ≡ ticket_at o (Submit user op)
      → record { user = user; ticket = ticket } ≡ next_id log user
  given_id o log user op ticket at up e =
      ap (λ (t : Ticket). record { user = user; ticket = t }) (some_same ticket ((next_id log user).ticket) (e ∙ ap (λ l. ticket_at l (Submit user op)) at ∙ rw (up) refl))
    where
      some_same : (a b : Ticket) → Some a ≡ Some b → a ≡ b
      some_same a b q = cc
