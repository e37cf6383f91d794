-- A call of a replica that isn't spent is its move.
use Rattle.std.proofs.Common.{◌≡◌, List, Bool, true, false, Option, Some, None, Ok, sym, ap, ◌∙◌, if◌then◌else◌, option_map}
use Rattle.std.proofs.lemmas.Bool.{true≢false}
use Rattle.ballot.specs.declared.outgoing.Outgoing.{Outgoing}
use Rattle.replica.specs.Replicas.{ReplicaState, IsMoved}
use Rattle.ballot.specs.Sends.{Move}

module _ {S : Type 0} where
  fresh : (spent : Bool) (s : S) (now : Option S) → spent ≡ false → (if spent then None else Some s) ≡ now → now ≡ Some s
  fresh true s now e view = absurd (true≢false e)
  fresh false s now e view = sym view

  unspent : (s r : S) (now : Option S) → now ≡ Some s → now ≡ Some r → s ≡ r
  unspent s r now is was = let same : Some s ≡ Some r = sym is ∙ was in cc

module _ {C I R M A : Type 0} where
  pub moved : (move : ReplicaState C I R M → Move (ReplicaState C I R M) C A) (spent : Bool) (r new : ReplicaState C I R M) (now : Option (ReplicaState C I R M)) (sends : List (Outgoing C A))
      → spent ≡ false → (if spent then None else Some r) ≡ now → new ≡ (move r).after → sends ≡ (move r).sends → IsMoved move now (Some new) (Ok sends)
  moved move spent r new now sends e view replica sent =
      let is : now ≡ Some r = fresh spent r now e view in
      record {
        replica = ap Some replica ∙ sym (ap (option_map (λ x. (move x).after)) is);
        sends = λ x was. sent ∙ ap (λ y. (move y).sends) (unspent r x now is was);
        spent = λ none. absurd (let no : None ≡ Some r = sym none ∙ is in cc);
        err = tt;
      }
