-- How a message is found among those that were sent.
use Rattle.std.specs.Prelude.{ℕ, List, Option, IsSome}
use Rattle.ballot.specs.Lists.{IsIn}
use Rattle.ballot.specs.declared.message.Envelope.{Envelope}
use Rattle.ballot.specs.declared.message.Message.{Message}
use Rattle.ballot.specs.declared.message.Message.TheVariants.{Propose, P1a, P1b, P2a, P2b, Decision, Ask}
use Rattle.maildrop.specs.declared.command.Command.{Command}
use Rattle.audit.specs.declared.sent.Topic.{Topic}
use Rattle.audit.specs.declared.sent.Topic.TheVariants as topic

module _ {A : Type 0} where
  abbrev pub topic_of : Message (Command A) A → Topic
  topic_of (Propose slot command) = topic.Propose slot
  topic_of (P1a ballot) = topic.P1a ballot
  topic_of (P1b promise) = topic.P1b promise.asked promise.ballot
  topic_of (P2a pvalue) = topic.P2a pvalue.slot pvalue.ballot
  topic_of (P2b vote) = topic.P2b vote.slot vote.asked vote.ballot
  topic_of (Decision slot command) = topic.Decision slot
  topic_of (Ask slot) = topic.Ask slot

  -- by its sender, its addressee and its topic
  abbrev pub label_of : Envelope (Command A) A → ℕ × ℕ × Topic
  label_of e = (e.from, e.to, topic_of e.message)

  -- the index has a place for the label of each message
  pub record HasPlaces (place : ℕ × ℕ × Topic → Option ℕ) (sent : List (Envelope (Command A) A)) : Type 0 where
    pub each : (e : Envelope (Command A) A) → IsIn e sent → IsSome (place (label_of e))
