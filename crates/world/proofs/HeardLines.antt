-- The lines that a client sent, and their tickets.
use Rattle.std.proofs.Common.{◌≡◌, List, [], ◌∷◌, ◌++◌, Some, None, refl, sym, ap, ◌∙◌, append_assoc}
use Rattle.std.proofs.lemmas.List.{append-nil}
use Rattle.maildrop.specs.Ticket.{Ticket}
use Rattle.world.specs.Connections.{lines_in, tickets_in, in_list}
use Rattle.world.specs.declared.connection.Heard.{Heard}

pub lines_push : (hs : List Heard) (h : Heard) → lines_in (hs ++ h ∷ []) ≡ lines_in hs ++ h.line ∷ []
lines_push [] h = refl
lines_push (x ∷ hs) h = ap (λ ls. x.line ∷ ls) (lines_push hs h)

tickets_push : (hs : List Heard) (h : Heard) → tickets_in (hs ++ h ∷ []) ≡ tickets_in hs ++ in_list h.ticket
tickets_push [] h = append-nil (in_list h.ticket)
tickets_push (x ∷ hs) h = ap (λ ts. in_list x.ticket ++ ts) (tickets_push hs h) ∙ sym (append_assoc (in_list x.ticket) (tickets_in hs) (in_list h.ticket))

pub ticket_push : (hs : List Heard) (h : Heard) (ticket : Ticket) → h.ticket ≡ Some ticket → tickets_in (hs ++ h ∷ []) ≡ tickets_in hs ++ ticket ∷ []
ticket_push hs h ticket e = tickets_push hs h ∙ ap (λ t. tickets_in hs ++ in_list t) e

pub no_ticket_push : (hs : List Heard) (h : Heard) → h.ticket ≡ None → tickets_in (hs ++ h ∷ []) ≡ tickets_in hs
no_ticket_push hs h e = tickets_push hs h ∙ ap (λ t. tickets_in hs ++ in_list t) e ∙ append-nil (tickets_in hs)
