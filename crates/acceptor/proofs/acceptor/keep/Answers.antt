use Rattle.std.proofs.Common.{sym, ◌∙◌}
use Rattle.std.proofs.lemmas.Bool.{true≢false}
use Rattle.acceptor.proofs.Entries.{kept_stays, kept_over, kept_first, accepted_for_none}
use Rattle.acceptor.proofs.acceptor.keep.Goals as goal
use Rattle.acceptor.proofs.acceptor.keep.Goals.{in-Some+else-eq, in_default}

pub returns-then-eq-clause-ok : goal.returns-then-eq-clause-ok
returns-then-eq-clause-ok g c =
    kept_stays c.args.accepted.now.entries c.args.pvalue c.in-Some.there.now (rw c.in-Some.is at c.get.ensures.value) (sym c.eq.ensures ∙ c.if-eq.true)

pub returns-in_err-insert-clause-slot_is_there : goal.returns-in_err-insert-clause-slot_is_there
returns-in_err-insert-clause-slot_is_there g c =
    λ there. absurd (true≢false (sym there ∙ accepted_for_none c.args.accepted.now.entries c.args.pvalue.slot c.in_err-insert.ensures.absent))

pub returns-clause-ok : goal.returns-clause-ok
returns-clause-ok g c =
    rw c.in_ok-insert.ensures.entries (elim c.match-get.branch [
      | in-Some+else-eq w ↦
          kept_over c.args.accepted.now.entries c.args.pvalue w.in-Some.there.now (rw w.in-Some.is at c.get.ensures.value) (sym w.eq.ensures ∙ w.if-eq.false)
      | in_default w ↦ kept_first c.args.accepted.now.entries c.args.pvalue (rw w.in_default.is at c.get.ensures.value)
    ])
