use Rattle.std.proofs.Common.{◌≡◌, ◌++◌, ◌∷◌, [], true, false, Ok, rules, ap, sym}
use Rattle.std.specs.BTreeSet.{Updates}
use Rattle.std.specs.Cmp.Lexicographic.{slice_cmp}
use Rattle.std.specs.Ordering.{nat_cmp}
use Rattle.apop.specs.Accounts.{has_account}
use Rattle.script.proofs.SeenLemmas.{AreNamesOf-push}
use Rattle.script.specs.Rows.{accounts_written}
use Rattle.script.proofs.AccountRows.{account_in, accounts-push, rows-push}
use Rattle.script.proofs.account_rows.add_account.Goals as goal

pub returns-clause-ok : goal.returns-clause-ok
returns-clause-ok g c =
    let bytes = c.args.rows.now.items in
    let row = c.args.row.now in
    let found = account_in row c.name-name.result c.name-name.ensures in
    let pushed : c.put_row.new.rows.items ≡ bytes ++ (row ++ 10 ∷ []) = search rules in
    let absent : has_account (accounts_written bytes) c.name-name.result ≡ false = search rules in
    let new : has_account (accounts_written bytes) found.0.name ≡ false = rw found.2 absent in
    rw (pushed, found.1, new) (ap Ok (sym (accounts-push bytes row found.0 c.requires.rows c.get.ensures.line found.1)))

pub returns-clause-rows : goal.returns-clause-rows
returns-clause-rows g c =
    let bytes = c.args.rows.now.items in
    let row = c.args.row.now in
    let found = account_in row c.name-name.result c.name-name.ensures in
    let pushed : c.put_row.new.rows.items ≡ bytes ++ (row ++ 10 ∷ []) = search rules in
    let absent : has_account (accounts_written bytes) c.name-name.result ≡ false = search rules in
    let new : has_account (accounts_written bytes) found.0.name ≡ false = rw found.2 absent in
    rw pushed (rows-push bytes row found.0 c.requires.rows c.get.ensures.line found.1 new)

pub returns-clause-names : goal.returns-clause-names
returns-clause-names g c =
    let bytes = c.args.rows.now.items in
    let row = c.args.row.now in
    let found = account_in row c.name-name.result c.name-name.ensures in
    let pushed : c.put_row.new.rows.items ≡ bytes ++ (row ++ 10 ∷ []) = search rules in
    let updates : Updates (slice_cmp nat_cmp) c.args.names.now c.insert.new.self c.name-name.result true = search rules in
    let named : Updates (slice_cmp nat_cmp) c.args.names.now c.insert.new.self found.0.name true = rw found.2 updates in
    rw (pushed, accounts-push bytes row found.0 c.requires.rows c.get.ensures.line found.1)
    (AreNamesOf-push c.args.names.now c.insert.new.self (accounts_written bytes) found.0 c.requires.names named)
