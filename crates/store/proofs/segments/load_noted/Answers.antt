use Rattle.std.proofs.Common.{◌≡◌, ℕ, List, Some, sym, subst}
use Rattle.store.specs.Folders.{file_in}
use Rattle.store.specs.Loading.{IsSegment}
use Rattle.store.specs.declared.loading.Loaded.{Loaded}
use Rattle.store.proofs.Noted.{if_ok, unnoted_segment}
use Rattle.store.proofs.segments.load_noted.Goals as goal

pub returns-in-None-clause-bytes : goal.returns-in-None-clause-bytes
returns-in-None-clause-bytes g c known is =
    let at = c.in_ok-loaded.ensures.bytes known is in
    (at.0, at.1, unnoted_segment c.args.number at.0 c.in_ok-loaded.loaded c.unnoted.result c.unnoted.ensures at.2)

pub returns-in-Some-clause-bytes : goal.returns-in-Some-clause-bytes
returns-in-Some-clause-bytes g c known is =
    let at = c.in_ok-loaded.ensures.bytes known is in
    if_ok c.noted.result (λ loaded same. (at.0, at.1, subst (λ (l : Loaded). IsSegment c.args.number at.0 l) (sym same) at.2)) c.noted.ensures.same
