use Rattle.std.proofs.Common.{◌≡◌, true, List, sym, ◌∙◌, subst}
use Rattle.std.proofs.lemmas.Bool.{true≢false}
use Rattle.ballot.specs.Ballots.{BallotNumber, same_ballot}
use Rattle.ballot.specs.declared.pvalue.PValue.{PValue}
use Rattle.ballot.proofs.Order.{same_ballot_itself}
use Rattle.acceptor.specs.Acceptors.{AcceptorState, Holds, accepts}
use Rattle.acceptor.specs.Fields.{pvalues_of}
use Rattle.acceptor.proofs.Raised.{taken_raises}
use Rattle.acceptor.proofs.Kept.{kept_new}
use Rattle.acceptor.proofs.acceptor.Acceptor.p2a.Goals as goal
use Rattle.acceptor.proofs.acceptor.Acceptor.p2a.Goals.{then-eq+in_ok-keep, else-eq}

pub returns-clause-accepts : goal.returns-clause-accepts
returns-clause-accepts g c =
    let slot = c.args.pvalue.slot in
    let b : BallotNumber = c.args.pvalue.ballot in
    λ taken. elim c.if-eq.branch [
      | then-eq+in_ok-keep w ↦
          subst (λ (s : AcceptorState g.row.C.Denot). Holds s.accepted slot b) (sym w.self-is)
          (subst (λ (ps : List (PValue g.row.C.Denot)). Holds ps slot b) (sym w.in_ok-keep.ensures.ok) (kept_new (pvalues_of c.self.inside.accepted.entries) c.args.pvalue))
      | else-eq w ↦
          let open_to : accepts c.self.inside.ballot b ≡ true = subst (λ (s : AcceptorState g.row.C.Denot). accepts s.ballot b ≡ true) (sym c.self.view_is) taken in
          let answer : c.higher-ballot.result ≡ b = c.higher-ballot.ensures ∙ taken_raises c.self.inside.ballot b open_to in
          let equal : same_ballot c.higher-ballot.result b ≡ true = subst (λ (x : BallotNumber). same_ballot x b ≡ true) (sym answer) (same_ballot_itself b) in
          absurd (true≢false (sym equal ∙ (sym c.eq.ensures ∙ w.if-eq.false)))
    ]
