-- What has become of a message, by the line that reports it.
use Rattle.std.specs.Prelude.{ℕ, ◌+◌, nat_eq, List, drop, position, Option, None, Some, option_and_then, codes, if◌then◌else◌}
use Rattle.std.specs.List.{starts_with}
use Rattle.std.specs.Option.{option_map}
use Rattle.std.specs.Str.{bytes_eq}
use Rattle.apop.specs.Accounts.{is_space}
use Rattle.ctl.specs.declared.put.PutOutcome.{PutOutcome}
use Rattle.ctl.specs.declared.put.PutOutcome.TheVariants.{Stored, NoSuchUser, TooLarge, Later}

-- what follows the first space
abbrev pub after_space : List ℕ → Option (List ℕ)
after_space bytes = option_map (λ place. drop (place + 1) bytes) (position is_space bytes)

abbrev pub outcome_named : List ℕ → PutOutcome
outcome_named text =
    if starts_with nat_eq text (codes "stored ") then Stored
    else if bytes_eq text (codes "no such user") then NoSuchUser
    else if bytes_eq text (codes "too large") then TooLarge
    else Later

-- of a line `op USER NODE/SEQ OUTCOME`
abbrev pub outcome_in : List ℕ → Option PutOutcome
outcome_in line =
    if starts_with nat_eq line (codes "op ")
    then option_map outcome_named (option_and_then after_space (option_and_then after_space (after_space line)))
    else None

abbrev pub outcome_of : List ℕ → Option PutOutcome
outcome_of line = if bytes_eq line (codes "no such user") then Some NoSuchUser else outcome_in line
