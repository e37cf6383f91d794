use Rattle.std.proofs.Common.{◌++◌, Err, ap, ◌∙◌, refl}
use Rattle.mboxrd.specs.Reader.{kept_by}
use Rattle.mboxrd.specs.declared.error.MboxError.TheVariants.{NoFromLine}
use Rattle.mboxrd.proofs.ReaderLemmas.{opened_by, failed_by, failed, still_refused, tested, kept_after-read, kept_after-refused, not_failed}
use Rattle.mboxrd.proofs.reader.Reader.feed.Goals as goal

pub returns-in-Some-clause-refused : goal.returns-in-Some-clause-refused
returns-in-Some-clause-refused g c bytes is =
    let kept = failed_by _ _ _ _ _ bytes _ c.self.view_is c.in-Some.is is in
    (λ _. still_refused bytes c.args.piece.now c.in-Some.error kept, λ _. ap (λ e. Err e) ((failed bytes c.in-Some.error kept).1))

pub returns-then-not-may_go_on-clause-refused : goal.returns-then-not-may_go_on-clause-refused
returns-then-not-may_go_on-clause-refused g c bytes is =
    let kept = opened_by _ _ _ _ _ bytes c.self.view_is c.in_default.is is in
    let stops = tested bytes c.args.piece.now _ _ _ _ _ _ kept.0 kept.1 c.is_some.ensures c.deref.ensures.value c.may_go_on.ensures ∙ c.if-not-may_go_on.true in
    (λ _. kept_after-refused (bytes ++ c.args.piece.now) stops, λ _. refl)

pub returns-in-Ok-clause-kept : goal.returns-in-Ok-clause-kept
returns-in-Ok-clause-kept g c bytes is =
    let kept = opened_by _ _ _ _ _ bytes c.self.view_is c.in_default.is is in
    let goes_on = tested bytes c.args.piece.now _ _ _ _ _ _ kept.0 kept.1 c.is_some.ensures c.deref.ensures.value c.may_go_on.ensures ∙ c.if-not-may_go_on.false in
    ap (λ error. kept_by error c.take_in.new.texts.items c.take_in.new.text c.take_in.new.line.items) c.in_default.is
    ∙ kept_after-read (bytes ++ c.args.piece.now) _ _ _ goes_on (c.in-Ok.ensures.kept bytes kept.1)

pub returns-in-Ok-clause-refused : goal.returns-in-Ok-clause-refused
returns-in-Ok-clause-refused g c bytes is =
    let kept = opened_by _ _ _ _ _ bytes c.self.view_is c.in_default.is is in
    let goes_on = tested bytes c.args.piece.now _ _ _ _ _ _ kept.0 kept.1 c.is_some.ensures c.deref.ensures.value c.may_go_on.ensures ∙ c.if-not-may_go_on.false in
    (λ wrong. absurd (cc wrong), λ wrong. absurd (not_failed (bytes ++ c.args.piece.now) NoFromLine goes_on wrong))

pub returns-in-Err-clause-refused : goal.returns-in-Err-clause-refused
returns-in-Err-clause-refused g c bytes is =
    let kept = opened_by _ _ _ _ _ bytes c.self.view_is c.in_default.is is in
    let goes_on = tested bytes c.args.piece.now _ _ _ _ _ _ kept.0 kept.1 c.is_some.ensures c.deref.ensures.value c.may_go_on.ensures ∙ c.if-not-may_go_on.false in
    (λ wrong. absurd (cc wrong), λ wrong. absurd (not_failed (bytes ++ c.args.piece.now) NoFromLine goes_on wrong))
