-- What the sessions of a service are told, beside what a server tells them that has their user's maildrop alone.
use Rattle.std.specs.Prelude.{◌≡◌, ℕ, List, [], ◌∷◌, map, true, Some, is_some, ⊤}
use Rattle.std.specs.List.{concat}
use mathlib.Core.Logic.{◌⊎◌}
use Rattle.ballot.specs.Lists.{IsIn}
use Rattle.maildrop.specs.Ticket.{Ticket}
use Rattle.maildrop.specs.declared.command.Command.{Command}
use Rattle.apop.specs.Login.{account_named}
use Rattle.pop3_wire.specs.declared.line.Line.{Line}
use Rattle.session.specs.Alone.{replies_alone}
use Rattle.session.specs.Asking.{AreFor}
use Rattle.session.specs.Conversation.{Answer, Request, conversation}
use Rattle.session.specs.Prefix.{IsPrefix}
use Rattle.node.specs.Replay.{mail_rules}
use Rattle.node.specs.declared.log.NodeLog.{NodeLog}
use Rattle.runs.specs.Clients.{Client}
use Rattle.runs.specs.Decided.{decided_order}
use Rattle.node.specs.Submits.{IsSubmitted}
use Rattle.runs.specs.Messages.{envelopes, log_of}
use Rattle.node.specs.Outcomes.{first_maildrop, own_of}
use Rattle.runs.specs.Services.{Service, opening_of}
use Rattle.runs.specs.declared.config.Config.{Config}

-- one of the two is a prefix of the other
abbrev pub AreComparable : {X : Type 0} → List X → List X → Type 0
AreComparable xs ys = IsPrefix xs ys ⊎ IsPrefix ys xs

module _ {A : Type 0} where
  -- what the nodes of a service have decided, each command with its slot
  abbrev pub decided : Config A → Service A → List (ℕ × Command A)
  decided cfg w = decided_order mail_rules cfg.cluster (envelopes w.network)

  -- the user's decided commands, in order, each once
  abbrev pub own_commands : Config A → Service A → List ℕ → List (Command A)
  own_commands cfg w user = own_of user (decided_order mail_rules cfg.cluster (envelopes w.network))

  -- what the client's lines ask for, if they are answered so
  abbrev pub asked_by : Config A → Client A → List (Answer A) → List (Request A)
  asked_by cfg c answers = (conversation cfg.accounts c.stamp c.lines answers).asked

  -- whatever is answered, all that the client's lines ask for is for this user
  abbrev pub IsUserOf : Config A → Client A → List ℕ → Type 0
  IsUserOf cfg c user = (answers : List (Answer A)) → AreFor user (conversation cfg.accounts c.stamp c.lines answers).asked

  abbrev pub AsksNothing : Config A → Client A → Type 0
  AsksNothing cfg c = (answers : List (Answer A)) → asked_by cfg c answers ≡ []

  -- the client asks for nothing, or all of it is for one user, who has an account
  abbrev pub HasOneUser : Config A → Client A → Type 0
  HasOneUser cfg c = AsksNothing cfg c ⊎ ((user : List ℕ) × (is_some (account_named cfg.accounts user) ≡ true) × IsUserOf cfg c user)

  -- the bytes of the replies of a server that has the user's maildrop alone, to the client's greeting and these lines,
  -- if the operations that they ask for have these tickets, and these are the user's commands
  abbrev pub alone_bytes : Config A → Client A → List ℕ → List Line → List Ticket → List (Command A) → List ℕ
  alone_bytes cfg c user lines tickets own =
      concat (replies_alone cfg.accounts c.stamp (first_maildrop (opening_of cfg) user) lines tickets own)

  -- What the client was told is a prefix of what that server says: to the client's lines, with its tickets and its user's
  -- commands, and to any lists that these are prefixes of.
  abbrev pub IsProjected : Config A → Service A → Client A → Type 0
  IsProjected cfg w c = (user : List ℕ) (lines : List Line) (tickets : List Ticket) (own : List (Command A)) →
      IsUserOf cfg c user → IsPrefix c.lines lines → IsPrefix c.tickets tickets → IsPrefix (own_commands cfg w user) own →
      IsPrefix c.replies (alone_bytes cfg c user lines tickets own)

  -- Two clients of two services agree: on the greeting, on the maildrop as their user's opened, and as far as both have come on
  -- the lines, the tickets and the user's decided commands.
  pub record Agree (cfg cfg2 : Config A) (w w2 : Service A) (c c2 : Client A) (user : List ℕ) : Type 0 where
    pub accounts : cfg.accounts ≡ cfg2.accounts
    -- both services opened the user's maildrop alike
    pub maildrops : first_maildrop (opening_of cfg) user ≡ first_maildrop (opening_of cfg2) user
    pub greetings : c.stamp ≡ c2.stamp
    pub its_user : IsUserOf cfg c user
    pub same_user : IsUserOf cfg2 c2 user
    pub lines : AreComparable c.lines c2.lines
    pub tickets : AreComparable c.tickets c2.tickets
    pub commands : AreComparable (own_commands cfg w user) (own_commands cfg2 w2 user)

  -- these operations were submitted to the node of this log, and got these tickets, one for one and in order
  abbrev pub AreSubmitted : NodeLog A → List (Request A) → List Ticket → Type 0
  AreSubmitted log [] [] = ⊤
  AreSubmitted log [] (ticket ∷ tickets) = ⊥
  AreSubmitted log (request ∷ requests) [] = ⊥
  AreSubmitted log (request ∷ requests) (ticket ∷ tickets) =
      IsSubmitted log (record { user = request.user; ticket = ticket }) request.op × AreSubmitted log requests tickets

  -- Each of these operations is decided as it was asked for: a decided command of its user with its ticket is it.
  abbrev pub AreDecidedAsAsked : List (ℕ × Command A) → List (Request A) → List Ticket → Type 0
  AreDecidedAsAsked order (request ∷ requests) (ticket ∷ tickets) =
      ((slot : ℕ) (command : Command A) → IsIn (slot, command) order → command.user ≡ request.user → command.ticket ≡ ticket → command.op ≡ request.op)
      × AreDecidedAsAsked order requests tickets
  AreDecidedAsAsked order requests tickets = ⊤

  -- With the answers that the client took, its replies are those of the conversation, and its tickets those of what that
  -- asks. The answers are to the first of its tickets.
  pub record HasTickets (cfg : Config A) (w : Service A) (c : Client A) : Type 0 where
    pub log : NodeLog A
    pub its_node : log_of c.node w.network.logs ≡ Some log
    pub answers : List (Answer A)
    pub answered : IsPrefix (map (λ answer. answer.ticket) answers) c.tickets
    pub replied : c.replies ≡ concat (conversation cfg.accounts c.stamp c.lines answers).replies
    pub submitted : AreSubmitted log (asked_by cfg c answers) c.tickets
    pub decided_as_asked : AreDecidedAsAsked (decided cfg w) (asked_by cfg c answers) c.tickets
