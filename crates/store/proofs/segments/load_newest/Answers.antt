use Rattle.std.proofs.Common.{◌≡◌, ℕ, List, Some, sym, subst}
use Rattle.store.specs.Folders.{file_in}
use Rattle.store.specs.Loading.{IsSegment}
use Rattle.store.proofs.Noted.{if_ok}
use Rattle.store.proofs.segments.load_newest.Goals as goal

pub returns-clause-bytes : goal.returns-clause-bytes
returns-clause-bytes g c known is =
    if_ok c.load_noted.result
    (λ loaded at. subst (λ (n : ℕ). (bytes : List ℕ) × (file_in n known.files ≡ Some bytes) × IsSegment n bytes loaded) (sym at.2.number_is) at)
    (c.load_noted.ensures.bytes known is)
