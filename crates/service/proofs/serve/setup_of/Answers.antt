use Rattle.std.proofs.Common.{rules, ◌≡◌, true, map}
use Rattle.apop.specs.Accounts.{name_of}
use Rattle.maildrop.specs.Name.{are_different}
use Rattle.runs.proofs.Names.{different_names}
use Rattle.service.proofs.serve.setup_of.Goals as goal

pub returns-clause-different : goal.returns-clause-different
returns-clause-different c =
    let apart : are_different (map name_of c.args.accounts.now) ≡ true = different_names _ c.names.ensures.different in
    search (apart, rules)
