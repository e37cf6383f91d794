use Rattle.store.proofs.Noted.{if_ok}
use Rattle.store.proofs.segments.load_segment.Goals as goal

pub returns-clause-bytes : goal.returns-clause-bytes
returns-clause-bytes g c known is =
    let at = c.in_ok-source.ensures known is in
    if_ok c.load.result (λ loaded segment. (at.0, at.1, segment)) (c.load.ensures.bytes at.0 at.2)
