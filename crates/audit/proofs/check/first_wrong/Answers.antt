use Rattle.std.proofs.Common.{◌∙◌, ◌+◌, length, refl, sym, ap, arith}
use Rattle.std.specs.List.{list_any}
use Rattle.std.proofs.lemmas.Option.{slice_get_read}
use Rattle.audit.specs.Turns.{is_untold}
use Rattle.audit.proofs.Firsts.{starts, untold_here, wrong_here, right_here, none_wrong_left}
use Rattle.audit.proofs.check.first_wrong.Goals as goal

pub loop-session-init : goal.loop-session-init
loop-session-init g c = starts c.args.logs.now c.args.transcripts.now _ c.args.outcomes.now c.requires.answers c.requires.names

pub returns-then-has_untold : goal.returns-then-has_untold
returns-then-has_untold g c =
    let transcripts = c.args.transcripts.now in
    let session = c.loop-session.session in
    let t = c.index-transcripts-session.result in
    untold_here c.args.logs.now transcripts _ session c.loop-session.outcomes t (slice_get_read transcripts (length transcripts) session t refl c.loop-session-test.true c.index-transcripts-session.is) c.loop-session.invariant
    (ap (list_any is_untold) (sym c.get.ensures) ∙ sym c.has_untold.ensures ∙ c.if-has_untold.true)

pub returns-then-not-check_session : goal.returns-then-not-check_session
returns-then-not-check_session g c =
    let transcripts = c.args.transcripts.now in
    let session = c.loop-session.session in
    let t = c.index-transcripts-session.result in
    wrong_here c.args.logs.now transcripts _ session c.loop-session.outcomes t (slice_get_read transcripts (length transcripts) session t refl c.loop-session-test.true c.index-transcripts-session.is) c.loop-session.invariant
    c.check_session.result c.check_session.new.outcomes (c.check_session.ensures transcripts) c.if-not-check_session.true

pub loop-session-preserved : goal.loop-session-preserved
loop-session-preserved g c =
    let transcripts = c.args.transcripts.now in
    let session = c.loop-session.session in
    let t = c.index-transcripts-session.result in
    right_here c.args.logs.now transcripts _ session c.loop-session.outcomes t (slice_get_read transcripts (length transcripts) session t refl c.loop-session-test.true c.index-transcripts-session.is) c.loop-session.invariant
    (session + 1) c.check_session.result c.check_session.new.outcomes (omega arith) (ap (list_any is_untold) (sym c.get.ensures) ∙ sym c.has_untold.ensures ∙ c.if-has_untold.false) (c.check_session.ensures transcripts) c.if-not-check_session.false

pub returns : goal.returns
returns g c = none_wrong_left c.args.logs.now c.args.transcripts.now _ c.loop-session.session c.loop-session.outcomes c.loop-session-test.false c.loop-session.invariant
