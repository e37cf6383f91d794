-- What is decided under a ticket that a session got is what the session asked for.
use Rattle.std.proofs.Common.{◌≡◌, ℕ, List, [], ◌∷◌, Some, sym, ap, ◌∙◌, subst}
use Rattle.ballot.specs.Lists.{IsIn}
use Rattle.maildrop.specs.Ticket.{Ticket}
use Rattle.maildrop.specs.declared.command.Command.{Command}
use Rattle.maildrop.specs.declared.op.Op.{Op}
use Rattle.node.specs.declared.log.NodeLog.{NodeLog}
use Rattle.node.specs.declared.log.Opening.{Opening}
use Rattle.session.specs.Conversation.{Request}
use Rattle.node.specs.Submits.{IsSubmitted}
use Rattle.runs.specs.Messages.{NodeEvent, log_of, network_of}
use Rattle.runs.specs.Projection.{AreSubmitted, AreDecidedAsAsked}
use Rattle.runs.specs.Runs.{order_of}
use Rattle.maildrop.specs.CommandId.{CommandId}
use Rattle.maildrop.specs.Same.{identity_of}
use Rattle.node.proofs.Submitting.{one_submit}
use Rattle.runs.proofs.Logs.{some_same}
use Rattle.runs.proofs.NodeRuns.{every_run}
use Rattle.runs.proofs.Theorems.{order_chosen, chosen_submitted}

module _ {A : Type 0} where
  module _ (first : Opening A) (events : List (NodeEvent A)) (node : ℕ) (log : NodeLog A) (at : log_of node (network_of first events).logs ≡ Some log) where
    -- a decided command with the identity of an operation that was submitted to the node is that operation
    pub one_as_asked : (id : CommandId) (op : Op A) (d : Command A) (slot : ℕ) → IsIn (slot, d) (order_of first events) → IsSubmitted log id op → identity_of d ≡ id → d.op ≡ op
    one_as_asked id op d slot among h its_id =
        let was = chosen_submitted first events slot d (order_chosen first events slot d among) in
        let me : log.opening.me ≡ node = ap (λ o. o.me) ((every_run first events).begins node log at) in
        let its : d.ticket.node ≡ node = ap (λ i. i.ticket.node) its_id ∙ ap (λ t. t.node) h.ticket ∙ me in
        let same : was.0 ≡ log = some_same was.0 log (sym was.1 ∙ ap (λ n. log_of n (network_of first events).logs) its ∙ at) in
        (one_submit log id d.op op (subst (λ i. IsSubmitted log i d.op) its_id (subst (λ l. IsSubmitted l (identity_of d) d.op) same was.2)) h).1

    pub as_asked : (requests : List (Request A)) (tickets : List Ticket) → AreSubmitted log requests tickets → AreDecidedAsAsked (order_of first events) requests tickets
    as_asked [] [] h = tt
    as_asked [] (t ∷ ts) h = absurd h
    as_asked (r ∷ rs) [] h = absurd h
    as_asked (r ∷ rs) (t ∷ ts) h =
        (λ slot d among user ticket. one_as_asked (record { user = r.user; ticket = t }) r.op d slot among h.0 (λ i. record { user = user i; ticket = ticket i }), as_asked rs ts h.1)
