-- The kinds of messages between nodes.
use Rattle.std.specs.Prelude.{ℕ, List, codes, if◌then◌else◌, Option, None, Some}
use Rattle.std.specs.Str.{bytes_eq}
use Rattle.ballot.specs.declared.message.Message.{Message}
use Rattle.ballot.specs.declared.message.Message.TheVariants as message
use Rattle.script.specs.declared.message_kind.MessageKind.{MessageKind}
use Rattle.script.specs.declared.message_kind.MessageKind.TheVariants as kind

abbrev pub kind_named : List ℕ → Option MessageKind
kind_named word =
    if bytes_eq word (codes "propose") then Some kind.Propose
    else if bytes_eq word (codes "p1a") then Some kind.P1a
    else if bytes_eq word (codes "p1b") then Some kind.P1b
    else if bytes_eq word (codes "p2a") then Some kind.P2a
    else if bytes_eq word (codes "p2b") then Some kind.P2b
    else if bytes_eq word (codes "decision") then Some kind.Decision
    else if bytes_eq word (codes "ask") then Some kind.Ask
    else None

module _ {C A : Type 0} where
  abbrev pub kind_of : Message C A → MessageKind
  kind_of (message.Propose slot command) = kind.Propose
  kind_of (message.P1a ballot) = kind.P1a
  kind_of (message.P1b promise) = kind.P1b
  kind_of (message.P2a pvalue) = kind.P2a
  kind_of (message.P2b vote) = kind.P2b
  kind_of (message.Decision slot command) = kind.Decision
  kind_of (message.Ask slot) = kind.Ask
