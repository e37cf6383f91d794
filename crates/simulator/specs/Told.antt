-- What is written, one thing after another.
use Rattle.std.specs.Prelude.{◌≡◌, ℕ, List, [], ◌++◌}

-- where something leads, and what is written of it
pub record Told (S : Type 0) : Type 0 where
  pub state : S
  pub text : List ℕ

module _ {S : Type 0} where
  abbrev pub silent : S → Told S
  silent s = record { state = s; text = [] }

  -- one after the other
  abbrev pub followed : Told S → (S → Told S) → Told S
  followed t next = record { state = (next t.state).state; text = t.text ++ (next t.state).text }

  -- what is written grows by the text, and the state is that to which it leads
  abbrev pub IsWritten : Told S → S → (before after : List ℕ) → Type 0
  IsWritten told now before after = (now ≡ told.state) × (after ≡ before ++ told.text)
