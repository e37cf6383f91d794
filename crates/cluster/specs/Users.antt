-- What a node's maildrops show of its users.
use Rattle.std.specs.Prelude.{◌≡◌, ◌⊎◌, ℕ, List, [], Option, option_map}
use Rattle.std.specs.List.{filter_map}
use Rattle.std.specs.declared.alloc.Global.{Global}
use Rattle.maildrop.specs.Office.{User, names_of, holder_in, usage_in}
use Rattle.maildrop.specs.Ticket.{Ticket}
use Rattle.maildrop.specs.declared.usage.Usage.{Usage}
use Rattle.node.specs.Replay.{replayed}
use Rattle.node.specs.declared.log.NodeLog.{NodeLog}
use Rattle.cluster.specs.Members.{IsLogOf}
use Rattle.cluster.specs.declared.setup.Setup.{Setup}

-- the user with the ticket of the Take that holds the lock of the maildrop, if one does
abbrev pub lock_for : List (User Global) → List ℕ → Option (List ℕ × Ticket)
lock_for users name = option_map (λ ticket. (name, ticket)) (holder_in name users)

-- the users whose maildrop is locked, in their order
abbrev pub locks_in : List (User Global) → List (List ℕ × Ticket)
locks_in users = filter_map (lock_for users) (names_of users)

-- the user with what the maildrop has
abbrev pub usage_for : List (User Global) → List ℕ → Option (List ℕ × Usage)
usage_for users name = option_map (λ usage. (name, usage)) (usage_in name users)

-- all users, in their order
abbrev pub usages_in : List (User Global) → List (List ℕ × Usage)
usages_in users = filter_map (usage_for users) (names_of users)

-- the users to whose maildrops a log leads
abbrev pub users_by : NodeLog Global → List (User Global)
users_by log = (replayed log).replica.machine

-- the locks at the node of this number, as some log of it says; or none
abbrev pub AreLocksOf : Setup → ℕ → List (List ℕ × Ticket) → Type 0
AreLocksOf setup me locks = (locks ≡ []) ⊎ ((log : NodeLog Global) × IsLogOf setup me log × (locks ≡ locks_in (users_by log)))

-- what each user has at the node of this number, as some log of it says; or nothing
abbrev pub AreUsagesOf : Setup → ℕ → List (List ℕ × Usage) → Type 0
AreUsagesOf setup me usages = (usages ≡ []) ⊎ ((log : NodeLog Global) × IsLogOf setup me log × (usages ≡ usages_in (users_by log)))
