use Rattle.std.proofs.Common.{◌∙◌, sym}
use Rattle.apop.proofs.TableLemmas.{has_account-lookup}
use Rattle.apop.proofs.accounts.Accounts.has.Goals as goal

pub returns : goal.returns
returns g c = rw (← c.self.view_is) (c.contains_key.ensures ∙ sym (has_account-lookup c.args.name.now c.self.inside.credentials.entries))
