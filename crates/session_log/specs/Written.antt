-- What an operator is told of a session that is open.
use Rattle.std.specs.Prelude.{ℕ, List, ◌++◌, Option, Some, None, codes, decimal}

-- the name of who is logged in, or `-`
abbrev pub user_text : Option (List ℕ) → List ℕ
user_text None = codes "-"
user_text (Some user) = user

-- the line of a session after a text: its number, its node, the address of its client, its user, its age and how much it
-- was told
abbrev pub with_session : List ℕ → ℕ → ℕ → List ℕ → Option (List ℕ) → ℕ → ℕ → List ℕ
with_session text number node peer user seconds bytes =
    text ++ codes "session " ++ decimal number ++ codes " node " ++ decimal node ++ codes " peer " ++ peer
    ++ codes " user " ++ user_text user ++ codes " seconds " ++ decimal seconds ++ codes " bytes " ++ decimal bytes ++ codes "\n"
