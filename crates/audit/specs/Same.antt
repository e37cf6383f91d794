-- Equality of messages, as a test that computes.
use Rattle.std.specs.Prelude.{Bool, false, List, ◌==◌, ◌&&◌}
use Rattle.std.specs.Cmp.Lexicographic.{pointwise}
use Rattle.ballot.specs.Ballots.{same_ballot}
use Rattle.ballot.specs.PValues.{same_pvalue}
use Rattle.ballot.specs.declared.message.Envelope.{Envelope}
use Rattle.ballot.specs.declared.message.Message.{Message}
use Rattle.ballot.specs.declared.message.Message.TheVariants.{Propose, P1a, P1b, P2a, P2b, Decision, Ask}
use Rattle.ballot.specs.declared.message.Promise.{Promise}
use Rattle.ballot.specs.declared.message.Vote.{Vote}
use Rattle.ballot.specs.declared.pvalue.PValue.{PValue}
use Rattle.maildrop.specs.Same.{same_command}
use Rattle.maildrop.specs.declared.command.Command.{Command}

abbrev pub same_vote : Vote → Vote → Bool
same_vote v w = same_ballot v.asked w.asked && (v.slot == w.slot && same_ballot v.ballot w.ballot)

module _ {A : Type 0} where
  abbrev pub same_pvalues : List (PValue (Command A)) → List (PValue (Command A)) → Bool
  same_pvalues = pointwise (same_pvalue same_command)

  abbrev pub same_promise : Promise (Command A) A → Promise (Command A) A → Bool
  same_promise p q = same_ballot p.asked q.asked && (same_ballot p.ballot q.ballot && same_pvalues p.accepted q.accepted)

  abbrev pub same_message : Message (Command A) A → Message (Command A) A → Bool
  same_message (Propose slot command) (Propose other_slot other) = slot == other_slot && same_command command other
  same_message (P1a ballot) (P1a other) = same_ballot ballot other
  same_message (P1b promise) (P1b other) = same_promise promise other
  same_message (P2a pvalue) (P2a other) = same_pvalue same_command pvalue other
  same_message (P2b vote) (P2b other) = same_vote vote other
  same_message (Decision slot command) (Decision other_slot other) = slot == other_slot && same_command command other
  same_message (Ask slot) (Ask other) = slot == other
  same_message message other = false

  abbrev pub same_envelope : Envelope (Command A) A → Envelope (Command A) A → Bool
  same_envelope e f = e.from == f.from && (e.to == f.to && same_message e.message f.message)
