use Rattle.std.proofs.Common.{◌∙◌, sym}
use Rattle.maildrop.specs.Office.{names_of}
use Rattle.cluster.specs.Users.{usage_for}
use Rattle.cluster.proofs.AsLogged.{found_more}
use Rattle.cluster.proofs.users.usages_in.Goals as goal

pub loop-place-preserved : goal.loop-place-preserved
loop-place-preserved c =
    let office = c.args.office.now in
    c.in_ok-add_usage.ensures
    ∙ found_more (usage_for office) (names_of office) c.loop-place.place c.in-Some.name c.loop-place.usages.items (sym c.in-Some.ensures) c.loop-place.invariant
