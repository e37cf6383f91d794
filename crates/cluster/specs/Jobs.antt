-- Sessions that a cluster serves.
use Rattle.std.specs.Prelude.{◌≡◌, ℕ, List, true, Option, IfSome}
use Rattle.std.specs.declared.alloc.Global.{Global}
use Rattle.ballot.specs.Nodes.{is_among}
use Rattle.apop.specs.Accounts.{Account}
use Rattle.apop.specs.Stamp.{Stamp}
use Rattle.session.specs.Serve.{IsTranscript}
use Rattle.session.specs.declared.transcript.Transcript.{Transcript}

-- the answer for a session at this node with this timestamp, by a cluster of these nodes: none, or the node runs here and it
-- is the session's transcript
abbrev pub IsServed : (nodes : List ℕ) → List Account → (node : ℕ) → Stamp → Option (Transcript Global) → Type 0
IsServed nodes accounts node stamp answer = IfSome answer (λ transcript. (is_among node nodes ≡ true) × IsTranscript accounts stamp transcript)
