use Rattle.std.proofs.Common.{◌≡◌, ◌∙◌, true, ap, refl}
use Rattle.maildrop.specs.Name.{are_different}
use Rattle.runs.proofs.Names.{different_names}
use Rattle.world.proofs.world.begin_one.Goals as goal

pub open-requires : goal.open-requires
open-requires g c =
    let names = c.from_vec.ensures ∙ c.in_ok-names.ensures.items in
    let different : are_different c.from_vec.result ≡ true = ap are_different (names ∙ c.names.ensures.value) ∙ different_names c.args.config.now.accounts c.names.ensures.different in
    rw (different) refl
