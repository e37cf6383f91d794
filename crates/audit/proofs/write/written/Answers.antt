use Rattle.std.proofs.Common.{◌≡◌, ◌∙◌, length, sym, ap, subst}
use Rattle.audit.specs.Records.{case_of}
use Rattle.audit.specs.Speakers.{AreKnown, AreSpeakers}
use Rattle.audit.specs.Written.{in_the_end, first_talks}
use Rattle.audit.specs.Wrong.{seat}
use Rattle.audit.proofs.Openings.{all_known, all_written}
use Rattle.audit.proofs.write.written.Goals as goal

pub write_all-requires : goal.write_all-requires
write_all-requires g c =
    let known = all_known c.args.logs.now c.args.transcripts.now c.args.placements.now (λ n. 0) _ c.requires.placed in
    let count : length c.deref_mut.result.now ≡ length c.args.transcripts.now = ap length c.deref_mut.ensures.value ∙ c.in_ok-speakers.ensures.count in
    subst (λ n. AreKnown (length c.args.logs.now) n c.args.placements.now) (sym count) known

pub returns : goal.returns
returns g c = λ seated.
    let a = case_of c.args.logs.now c.args.transcripts.now in
    let count : length c.deref_mut.result.now ≡ length c.args.transcripts.now = ap length c.deref_mut.ensures.value ∙ c.in_ok-speakers.ensures.count in
    let speakers = subst (AreSpeakers (seat a) (in_the_end a) (first_talks a)) (sym c.deref_mut.ensures.value) c.in_ok-speakers.ensures.speakers in
    all_written c.args.logs.now c.args.transcripts.now c.args.placements.now (length c.deref_mut.result.now) c.new-events.result.items c.connect_all.new.events.items c.write_all.new.events.items count c.new-events.ensures.items (c.in_ok-connect_all.ensures seated)
    (c.in_ok-write_all.ensures (seat a) (in_the_end a) (first_talks a) speakers)
