-- What a session's thread promised is what its job is answered.
use Rattle.std.proofs.Common.{◌≡◌, ◌∙◌, sym, subst, ℕ, List, Bool, true, Option, Some, None, IfSome, IsSomeAnd}
use Rattle.std.specs.declared.alloc.Global.{Global}
use Rattle.ballot.specs.Nodes.{is_among}
use Rattle.apop.specs.Accounts.{Account}
use Rattle.apop.specs.Stamp.{Stamp}
use Rattle.session.specs.Serve.{IsTranscript}
use Rattle.session.specs.declared.transcript.Transcript.{Transcript}
use Rattle.cluster.specs.Jobs.{IsServed}

module _ {T : Type 0} (accounts_of : T → List Account) (stamp_of : T → Stamp) (nodes : List ℕ) (accounts : List Account) where
  -- the thread of a session at this node with this timestamp
  abbrev pub IsStarted : ℕ → Stamp → Option T → Type 0
  IsStarted node stamp thread = IfSome thread (λ t. (is_among node nodes ≡ true) × (accounts_of t ≡ accounts) × (stamp_of t ≡ stamp))

  pub started : (node : ℕ) (stamp its_stamp : Stamp) (its_accounts : List Account) (here : Bool) (thread : Option T)
      → here ≡ is_among node nodes → its_accounts ≡ accounts → its_stamp ≡ stamp
      → IfSome thread (λ t. (here ≡ true) × (accounts_of t ≡ its_accounts) × (stamp_of t ≡ its_stamp))
      → IsStarted node stamp thread
  started node stamp its_stamp its_accounts here None is same_accounts same_stamp so = tt
  started node stamp its_stamp its_accounts here (Some t) is same_accounts same_stamp so = (sym is ∙ so.0, so.1 ∙ same_accounts, so.2 ∙ same_stamp)

  pub served : (node : ℕ) (stamp : Stamp) (thread : Option T) (answer : Option (Transcript Global))
      → IsStarted node stamp thread
      → IfSome answer (λ transcript. IsSomeAnd thread (λ t. IsTranscript (accounts_of t) (stamp_of t) transcript))
      → IsServed nodes accounts node stamp answer
  served node stamp thread None started kept = tt
  served node stamp None (Some transcript) started kept = absurd kept
  served node stamp (Some t) (Some transcript) started kept =
      (started.0, subst (λ s. IsTranscript accounts s transcript) started.2 (subst (λ a. IsTranscript a (stamp_of t) transcript) started.1 kept))
