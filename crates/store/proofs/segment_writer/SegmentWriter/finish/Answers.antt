use Rattle.std.proofs.Common.{◌∙◌, List, ℕ, ap, subst, sym}
use Rattle.batches.specs.Batches.{IsFileOf}
use Rattle.store.specs.Segments.{Written}
use Rattle.store.proofs.Writing.{all_written}
use Rattle.store.proofs.segment_writer.SegmentWriter.finish.Goals as goal

pub returns-clause-written : goal.returns-clause-written
returns-clause-written g c = λ salt payloads h.
    let file = all_written salt payloads c.flush.new.self c.in_ok-flush.ensures.all (c.in_ok-flush.ensures.written salt payloads h) in
    subst (λ (b : List ℕ). IsFileOf salt payloads b) (ap (λ w. w.file) (sym c.self.view_is) ∙ sym c.in_ok-sync.ensures.seen) file
