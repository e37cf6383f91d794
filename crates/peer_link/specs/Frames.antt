-- The frames of several envelopes.
use Rattle.std.specs.Prelude.{◌≡◌, ℕ, List, [], ◌∷◌, ◌++◌, ◌⊎◌}
use Rattle.ballot.specs.declared.message.Envelope.{Envelope}
use Rattle.maildrop.specs.declared.command.Command.{Command}
use Rattle.peer_frames.specs.Frames.{written_frame}

module _ {A : Type 0} where
  -- to the old bytes the frames of these envelopes are added, in their order; any may be left out
  abbrev pub AreAdded : List (Envelope (Command A) A) → List ℕ → List ℕ → Type 0
  AreAdded [] old new = new ≡ old
  AreAdded (e ∷ es) old new = AreAdded es (old ++ written_frame e) new ⊎ AreAdded es old new
