-- What an operator is told of the maildrops at a node.
use Rattle.std.specs.Prelude.{ℕ, List, ◌++◌, codes, decimal}
use Rattle.std.specs.List.{flat_map}
use Rattle.maildrop.specs.Ticket.{Ticket}
use Rattle.maildrop.specs.declared.usage.Usage.{Usage}

-- a lock: its user, and the node and the number of the Take that holds it
abbrev pub lock_line : (List ℕ × Ticket) → List ℕ
lock_line lock = codes "user " ++ lock.0 ++ codes " node " ++ decimal lock.1.node ++ codes " ticket " ++ decimal lock.1.seq ++ codes "\n"

abbrev pub lock_lines : List (List ℕ × Ticket) → List ℕ
lock_lines locks = flat_map lock_line locks ++ codes "end\n"

-- what a user's maildrop has
abbrev pub user_line : (List ℕ × Usage) → List ℕ
user_line user =
    codes "user " ++ user.0 ++ codes " messages " ++ decimal user.1.messages ++ codes " octets " ++ decimal user.1.octets
    ++ codes " next_id " ++ decimal user.1.next_uid ++ codes "\n"

abbrev pub user_lines : List (List ℕ × Usage) → List ℕ
user_lines users = flat_map user_line users ++ codes "end\n"
