use Rattle.std.proofs.Common.{refl}
use Rattle.apop.proofs.TableLemmas.{account_named-lookup}
use Rattle.apop.proofs.accounts.Accounts.check_pass.Goals as goal

pub returns-in-Some : goal.returns-in-Some
returns-in-Some g c = rw (← c.self.view_is, account_named-lookup c.args.name.now c.self.inside.credentials.entries, ← c.in-Some.ensures.value) c.admits_secret.ensures

pub returns-in-None : goal.returns-in-None
returns-in-None g c = rw (← c.self.view_is, account_named-lookup c.args.name.now c.self.inside.credentials.entries, ← c.in-None.ensures.value) refl
