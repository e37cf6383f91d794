use Rattle.std.proofs.Common.{◌≡◌, ◌∙◌, subst, sym}
use Rattle.std.proofs.lemmas.List.{append-nil}
use Rattle.acceptor.specs.Acceptors.{RiseBySlot}
use Rattle.acceptor.specs.Fields.{pvalues_of}
use Rattle.acceptor.proofs.Entries.{rising_entries}
use Rattle.acceptor.proofs.acceptor.copy_of.Goals as goal

pub returns-clause-rising : goal.returns-clause-rising
returns-clause-rising g c =
    let whole : c.loop-slot.copies.items ≡ pvalues_of c.args.accepted.now.entries = sym (append-nil c.loop-slot.copies.items) ∙ (rw c.in-None.ensures.steps.0 at c.loop-slot.invariant) in
    subst (RiseBySlot {C = g.row.C.Denot}) (sym (c.from_vec.ensures ∙ whole)) (rising_entries c.args.accepted.now.entries c.len.ensures.ordered)
