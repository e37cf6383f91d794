-- The first lines of a text.
use Rattle.std.proofs.Common.{◌≡◌, ℕ, zero, suc, ◌-◌, ◌<◌, List, ◌∷◌, ◌++◌, take, arith, append_assoc}
use Rattle.std.specs.List.{flat_map}
use Rattle.pop3_wire.specs.Stuffing.{wire_line}

-- one of the first lines is written
pub first-next : (n : ℕ) (done more line : List ℕ) (rest lines : List (List ℕ)) → 0 < n → lines ≡ line ∷ rest → more ≡ done ++ wire_line line → more ++ flat_map wire_line (take (n - 1) rest) ≡ done ++ flat_map wire_line (take n lines)
first-next zero done more line rest lines some e is = absurd (omega arith)
first-next (suc n) done more line rest lines some e is =
    let less : suc n - 1 ≡ n = omega arith in
    rw (e, is, less) (append_assoc done (wire_line line) (flat_map wire_line (take n rest)))
