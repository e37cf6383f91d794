use Rattle.std.proofs.Common.{◌∙◌, ap, length, sym, subst}
use Rattle.batches.specs.Batches.{IsFileOf}
use Rattle.store.specs.Segments.{snapshot_payloads}
use Rattle.store.proofs.Additions.{opened_is_numbered}
use Rattle.store.proofs.segments.make_segment.Goals as goal

pub new-requires-clause-numbered : goal.new-requires-clause-numbered
new-requires-clause-numbered g c =
    let made = c.in_ok-file-2.ensures in
    let args = c.args in
    opened_is_numbered args.salt c.in_ok-file-2.size args.number args.keys args.kept.now _ (subst (λ b. IsFileOf args.salt (snapshot_payloads args.number args.keys args.kept.now) b) (sym made.synced) made.written) (made.size ∙ ap length (sym made.synced))
