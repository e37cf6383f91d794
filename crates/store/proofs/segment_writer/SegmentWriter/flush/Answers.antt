use Rattle.std.proofs.Common.{◌≡◌, ◌∙◌, ◌++◌, List, ℕ, length, refl, ap, subst, sym}
use Rattle.records.specs.Spelling.{spell}
use Rattle.store.specs.Segments.{HasWritten}
use Rattle.store.proofs.Writing.{flushes}
use Rattle.store.proofs.segment_writer.SegmentWriter.flush.Goals as goal

pub returns-clause-written : goal.returns-clause-written
returns-clause-written g c = λ salt payloads h.
    let p = c.self.inside in
    let file = g.D.Device.seen p.device in
    let bytes : c.deref.result.now ≡ spell p.salt (length file) p.batch =
    c.deref.ensures.value
    ∙ c.in_ok-bytes.ensures
    ∙ ap (spell p.salt p.place) c.replace-batch.ensures.value
    ∙ ap (λ (n : ℕ). spell p.salt n p.batch) (c.self.invariant c.if-self.false) in
    flushes salt payloads (record { salt = p.salt; device = p.device; file = file; content = p.batch; failed = p.failed }) _ c.size.ensures.content refl (c.in_ok-append.ensures.appended ∙ ap (λ (b : List ℕ). file ++ b) bytes) c.in_place_of.ensures
    (subst (λ w. HasWritten salt payloads w) (sym c.self.view_is) h)
