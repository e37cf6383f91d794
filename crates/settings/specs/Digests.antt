-- The digest of what all nodes of a service must begin with alike.
use Rattle.std.specs.Prelude.{ℕ, List, [], ◌∷◌, ◌++◌, take, codes}
use Rattle.std.specs.List.{flat_map}
use Rattle.std.specs.Fmt.{decimal}
use Rattle.hex.specs.Hex.{encode_lower}
use Rattle.sha2.specs.Sha256.{sha256}
use Rattle.settings.specs.declared.options.ServeOptions.{ServeOptions}

abbrev pub name_line : List ℕ → List ℕ
name_line name = name ++ 10 ∷ []

-- the size of the cluster, the window, the limits of a maildrop, and the users
abbrev pub agreement_text : ServeOptions → List (List ℕ) → List ℕ
agreement_text o names =
    (decimal o.nodes ++ 32 ∷ decimal o.window ++ 32 ∷ decimal o.messages ++ 32 ∷ decimal o.octets ++ 32 ∷ decimal o.ids ++ 10 ∷ []) ++ flat_map name_line names

abbrev pub agreement_line : ServeOptions → List (List ℕ) → List ℕ
agreement_line o names = codes "settings " ++ take 16 (encode_lower (sha256 (agreement_text o names))) ++ 10 ∷ []
