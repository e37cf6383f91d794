-- The places of operators' connections.
use Rattle.std.specs.Prelude.{ℕ, suc, Bool, nat_le}

-- how many connections at most are unread or wait for nodes
abbrev pub most_places : ℕ
most_places = 1008

-- there is a place for one more
abbrev pub has_place : ℕ → Bool
has_place taken = nat_le (suc taken) most_places
