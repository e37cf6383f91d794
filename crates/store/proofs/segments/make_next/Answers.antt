use Rattle.std.proofs.Common.{◌≡◌, ℕ, Some, None, ap, sym, ◌∙◌}
use Rattle.store.specs.Folders.{FolderContent, next_number, with_file}
use Rattle.store.proofs.Noted.{if_both, if_ok}
use Rattle.store.proofs.segments.make_next.Goals as goal

pub returns-clause-next : goal.returns-clause-next
returns-clause-next g c known is =
    let forgotten = c.in_ok-forget_note.ensures known is in
    if_ok c.make_segment.result (λ s at. at ∙ c.in_ok-number.ensures (record known { note = None }) forgotten) c.make_segment.ensures.number

pub returns-clause-counts : goal.returns-clause-counts
returns-clause-counts g c known is =
    let forgotten = c.in_ok-forget_note.ensures known is in
    if_both c.make_segment.result
    (λ s number at. at ∙ ap (λ (n : ℕ). Some (record { files = with_file n (g.F.File.Device.synced s.device) known.files; note = None })) (sym number))
    c.make_segment.ensures.number
    (c.make_segment.ensures.counts (record known { note = None }) forgotten)
