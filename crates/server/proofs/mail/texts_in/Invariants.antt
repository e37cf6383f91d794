use Rattle.std.proofs.Common.{◌≡◌, ℕ, List, ◌++◌, length}
use Rattle.mboxrd.specs.Reader.{kept_after}
use Rattle.server.proofs.mail.texts_in.Given as goal

-- what the reader keeps is that of a front of the file
abbrev pub invariant-loop-rest : goal.invariant-loop-rest
invariant-loop-rest l = (front : List ℕ) × (l.file ≡ front ++ l.rest) × (l.reader ≡ kept_after front)

abbrev pub decreases-loop-rest : goal.decreases-loop-rest
decreases-loop-rest l = length l.rest
