-- What `maildropd ctl` is called with.
use Rattle.std.specs.Prelude.{ℕ, List, [], ◌∷◌, ◌&&◌, ◌||◌, Bool, false, is_some, is_none, codes}
use Rattle.std.specs.Str.{bytes_eq}
use Rattle.ports.specs.Ranges.{may_be_between, last_port}
use Rattle.ctl.specs.declared.client.CtlOptions.{CtlOptions}

-- the options name a port or a socket
abbrev pub is_place : CtlOptions → Bool
is_place o =
    (is_some o.port && is_none o.socket && may_be_between 1 last_port o.port) || (is_none o.port && is_some o.socket)

-- the words are to deliver one message
abbrev pub is_put : List (List ℕ) → Bool
is_put [] = false
is_put (first ∷ rest) = bytes_eq first (codes "put")
