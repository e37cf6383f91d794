use Rattle.std.proofs.Common.{◌∙◌}
use Rattle.maildrop.proofs.UniqueIds.{is_listed-found}
use Rattle.maildrop.proofs.maildrop.is_listed.Goals as goal

pub returns : goal.returns
returns c = c.is_ok.ensures.value ∙ is_listed-found c.args.uids.now c.args.uid c.binary_search.result c.requires c.binary_search.ensures.bound c.binary_search.ensures.position
