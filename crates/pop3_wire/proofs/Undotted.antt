-- Texts without a dot to double.
use Rattle.std.proofs.Common.{◌≡◌, ℕ, false, List, [], ◌∷◌, ◌++◌, refl, ap, ◌∙◌}
use Rattle.std.specs.List.{flat_map, list_any}
use Rattle.std.proofs.lemmas.Bool.{or_parts}
use Rattle.maildrop.specs.Text.{begins_with_dot, block_of}
use Rattle.pop3_wire.specs.Stuffing.{wire_line}

-- a line that begins with no dot stands on the wire as in a block
undotted : (line : List ℕ) → begins_with_dot line ≡ false → line ++ 13 ∷ 10 ∷ [] ≡ wire_line line
undotted line none = rw none refl

-- so does a text of such lines
pub block-on_wire : (text : List (List ℕ)) → list_any begins_with_dot text ≡ false → block_of text ≡ flat_map wire_line text
block-on_wire [] none = refl
block-on_wire (line ∷ text) none =
    let parts = or_parts (begins_with_dot line) (list_any begins_with_dot text) none in
    ap (λ front. front ++ block_of text) (undotted line parts.0) ∙ ap (λ rest. wire_line line ++ rest) (block-on_wire text parts.1)
