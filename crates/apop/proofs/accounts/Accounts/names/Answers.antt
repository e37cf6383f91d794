use Rattle.apop.proofs.accounts.Accounts.names.Goals as goal

pub returns-clause-value : goal.returns-clause-value
returns-clause-value g c = rw (c.as_slice.ensures.value, ← c.self.view_is) c.self.invariant.0
