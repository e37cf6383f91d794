use Rattle.std.proofs.Common.{◌≡◌, ◌∙◌, false, Some}
use Rattle.audit.specs.Case.{turns_of}
use Rattle.audit.specs.Records.{case_of}
use Rattle.audit.specs.Speakers.{Speaker}
use Rattle.audit.specs.Turns.{script_of}
use Rattle.audit.specs.Written.{first_talk}
use Rattle.audit.specs.Wrong.{node_of}
use Rattle.audit.proofs.Openings.{first_is}
use Rattle.audit.proofs.write.speaker_of.Goals as goal

pub returns : goal.returns
returns g c = λ transcripts.
    let talk = first_is c.args.logs.now transcripts c.args.transcript.now c.in_ok-kinds.kinds.items c.in_ok-kinds.ensures in
    let same : ◌≡◌ {A = Speaker}
    (record { seat = c.seat_of.result; answered = c.args.answered; talk = record { left = c.in_ok-kinds.kinds.items; asked = false } })
    (record { seat = node_of (case_of c.args.logs.now transcripts) (turns_of (case_of c.args.logs.now transcripts) (script_of c.args.transcript.now)); answered = c.args.answered; talk = first_talk (case_of c.args.logs.now transcripts) (Some (script_of c.args.transcript.now)) }) =
    λ i. record { seat = c.seat_of.ensures transcripts i; answered = c.args.answered; talk = talk i } in
    c.new.ensures ∙ same
