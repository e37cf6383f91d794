-- What becomes of the messages of a delivery.
use Rattle.std.specs.Prelude.{◌≡◌, refl, ℕ, ◌+◌, ◌-◌, ◌^◌, min, List, [], ◌∷◌, ◌++◌, codes, decimal}
use Rattle.std.specs.Fmt.{digits}
use Rattle.maildrop.specs.declared.outcome.Outcome.{Outcome}
use Rattle.maildrop.specs.declared.outcome.Outcome.TheVariants.{Stored}
use Rattle.script.specs.Output.{outcome_line}
use Rattle.service.specs.declared.delivery.Delivered.{Delivered}
use Rattle.service.specs.declared.delivery.Submitted.{Submitted}

abbrev pub none_delivered : Delivered
none_delivered = record { stored = 0; octets = 0; refused = 0 }

-- a count of 64 bits stays at the highest number
abbrev pub plus : ℕ → ℕ → ℕ
plus count more = min (count + more) (2 ^ 64 - 1)

-- one more message, of so many octets, has this outcome
abbrev pub delivered_with : {A : Type 0} → ℕ → Outcome A → Delivered → Delivered
delivered_with octets (Stored uid) delivered =
    record { stored = plus delivered.stored 1; octets = plus delivered.octets octets; refused = delivered.refused }
delivered_with octets outcome delivered =
    record { stored = delivered.stored; octets = delivered.octets; refused = plus delivered.refused 1 }

-- what is delivered after these outcomes, each of the text at the same place; the shorter list ends both
abbrev pub delivered_after : {A : Type 0} → List (Outcome A) → List Submitted → Delivered → Delivered
delivered_after [] texts delivered = delivered
delivered_after (outcome ∷ outcomes) [] delivered = delivered
delivered_after (outcome ∷ outcomes) (text ∷ texts) delivered = delivered_after outcomes texts (delivered_with text.octets outcome delivered)

-- the lines about these outcomes, each of the text at the same place; the shorter list ends both
abbrev pub outcome_lines : {A : Type 0} → List ℕ → List (Outcome A) → List Submitted → List ℕ
outcome_lines user [] texts = []
outcome_lines user (outcome ∷ outcomes) [] = []
outcome_lines user (outcome ∷ outcomes) (text ∷ texts) = outcome_line user text.ticket outcome ++ outcome_lines user outcomes texts

-- the answer to the delivery of one message that is larger than any that is taken: it has no ticket
abbrev pub too_large_answer : (user : List ℕ) → (node : ℕ) → List ℕ
too_large_answer user node = codes "op " ++ user ++ codes " " ++ decimal node ++ codes "/0 too large\nend\n"

too_large : too_large_answer (codes "alice") 1 ≡ codes "op alice 1/0 too large\nend\n"
unfolding digits
too_large = refl
