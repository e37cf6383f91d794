use Rattle.audit.proofs.Finding.{kept_by}
use Rattle.audit.proofs.sent.note.Goals as goal

pub returns-clause-kept : goal.returns-clause-kept
returns-clause-kept g c = λ other h. kept_by _ _ _ _ (c.in_ok-insert.ensures.updates.0 other) h
