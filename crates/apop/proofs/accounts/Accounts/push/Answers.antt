use Rattle.std.proofs.Common.{◌≡◌, List, ◌∷◌, [], ◌++◌, ℕ, map, false, ap, sym, ◌∙◌}
use Rattle.apop.specs.Accounts.{Account, has_account, name_of}
use Rattle.apop.specs.Table.{accounts_in_table}
use Rattle.apop.proofs.TableLemmas.{HaveDifferentNames-push, names-push, accounts_in_table-insert}
use Rattle.apop.proofs.accounts.Accounts.push.Goals as goal

pub invariant_of-self-2 : goal.invariant_of-self-2
invariant_of-self-2 g c =
    let name = c.args.row.now.name in
    let account : Account = record { name = name; method = c.args.row.now.method; secret = c.in_ok-secret.secret } in
    let old = accounts_in_table c.self.inside.credentials.entries in
    let new : has_account old name ≡ false = rw c.self.view_is c.requires in
    let more : accounts_in_table c.insert.new.self.entries ≡ old ++ account ∷ [] =
    ap accounts_in_table c.in_ok-insert.ensures.entries ∙ accounts_in_table-insert c.self.inside.credentials.entries name _ new in
    let names : c.push_reserved.new.self.items ≡ map name_of old ++ name ∷ [] =
    c.push_reserved.ensures.items ∙ ap (λ (names : List (List ℕ)). names ++ name ∷ []) (c.reserve.ensures.items ∙ c.self.invariant.0) in (
      names ∙ sym (ap (map name_of) more ∙ names-push old account),
      rw more (HaveDifferentNames-push old account c.self.invariant.1 new),
    )

pub returns : goal.returns
returns g c =
    let name = c.args.row.now.name in
    let old = accounts_in_table c.self.inside.credentials.entries in
    let new : has_account old name ≡ false = rw c.self.view_is c.requires in
    rw (← c.self.view_is, ← c.in_ok-secret.ensures)
    (ap accounts_in_table c.in_ok-insert.ensures.entries ∙ accounts_in_table-insert c.self.inside.credentials.entries name _ new)
