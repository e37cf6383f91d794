-- A worked session of a server that has one user's maildrop alone.
use Rattle.std.specs.Prelude.{◌≡◌, List, [], ◌∷◌, ◌++◌, codes, refl}
use Rattle.std.specs.Fmt.{digits}
use Rattle.std.specs.declared.alloc.Global.{Global}
use Rattle.maildrop.specs.declared.command.Command.{Command}
use Rattle.maildrop.specs.declared.op.Op.TheVariants.{Take, Commit}
use Rattle.apop.specs.Stamp.{Stamp}
use Rattle.apop.specs.Accounts.{Account}
use Rattle.apop.specs.declared.method.Method.TheVariants.{Pass}
use Rattle.pop3_wire.specs.Lines.{lines_of}
use Rattle.session.specs.Alone.{replies_alone}
use Rattle.server.specs.Tickets.{ticket_of}
use Rattle.server.specs.Lone.{mails_from, tickets_of, lone_maildrop}

abbrev accounts : List Account
accounts = record { name = codes "alice"; method = Pass; secret = codes "s" } ∷ []

abbrev stamp : Stamp
stamp = record { nonce = codes "1.1"; host = codes "localhost" }

-- the mailbox holds one message
abbrev mails : List (Command Global)
mails = mails_from 1 (codes "alice") ((codes "Subject: x" ∷ [] ∷ codes "hi" ∷ []) ∷ [])

-- the session takes the lock under the next ticket, and removes the message under the one after
abbrev own : List (Command Global)
own = record { user = codes "alice"; ticket = ticket_of 2; op = Take } ∷ record { user = codes "alice"; ticket = ticket_of 3; op = Commit (ticket_of 2) (1 ∷ []) } ∷ []

login : replies_alone accounts stamp (lone_maildrop Global) (lines_of (codes "USER alice\r\nPASS s\r\nRETR 1\r\nDELE 1\r\nQUIT\r\n")) (tickets_of own) (mails ++ own)
    ≡ codes "+OK POP3 server ready <1.1@localhost>\r\n" ∷ codes "+OK send PASS\r\n" ∷ codes "+OK maildrop has 1 messages (18 octets)\r\n"
    ∷ codes "+OK 18 octets\r\nSubject: x\r\n\r\nhi\r\n.\r\n" ∷ codes "+OK message 1 deleted\r\n" ∷ codes "+OK signing off\r\n" ∷ []
unfolding digits
login = refl

-- if the removal is not decided yet, no more is said
undecided : replies_alone accounts stamp (lone_maildrop Global) (lines_of (codes "USER alice\r\nPASS s\r\nDELE 1\r\nQUIT\r\n")) (tickets_of own) (mails ++ record { user = codes "alice"; ticket = ticket_of 2; op = Take } ∷ [])
    ≡ codes "+OK POP3 server ready <1.1@localhost>\r\n" ∷ codes "+OK send PASS\r\n" ∷ codes "+OK maildrop has 1 messages (18 octets)\r\n" ∷ codes "+OK message 1 deleted\r\n" ∷ []
unfolding digits
undecided = refl
