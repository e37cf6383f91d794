use Rattle.std.proofs.Common.{◌≡◌, true, false, Ok, Err, sym, ap, ◌∙◌, refl}
use Rattle.mboxrd.specs.Reader.{is_begun, all_texts}
use Rattle.mboxrd.proofs.ReaderLemmas.{opened_by, failed_by, failed, read_of-disagree, read_of-refused, read_of-begun, not_memory}
use Rattle.mboxrd.proofs.reader.Reader.finish.Goals as goal

pub returns-in-Some-clause-refused : goal.returns-in-Some-clause-refused
returns-in-Some-clause-refused g c bytes is =
    let error = failed bytes c.in-Some.error (failed_by _ _ _ _ _ bytes _ c.self.view_is c.in-Some.is is) in
    (λ _. read_of-disagree bytes error.0, λ _. ap (λ e. Err e) error.1)

pub returns-then-not-is_begun-clause-refused : goal.returns-then-not-is_begun-clause-refused
returns-then-not-is_begun-clause-refused g c bytes is =
    let kept = opened_by _ _ _ _ _ bytes c.self.view_is c.in_default.is is in
    let none : is_begun c.self.inside.text c.self.inside.line.items ≡ false = ap (is_begun c.self.inside.text) (sym c.deref.ensures.value) ∙ sym c.is_begun.ensures ∙ c.if-not-is_begun.true in
    (λ _. read_of-refused bytes _ _ _ kept.0 kept.1 none, λ _. refl)

pub returns-in_err-texts_of-clause-refused : goal.returns-in_err-texts_of-clause-refused
returns-in_err-texts_of-clause-refused g c bytes is =
    let kept = opened_by _ _ _ _ _ bytes c.self.view_is c.in_default.is is in
    let begun : is_begun c.self.inside.text c.self.inside.line.items ≡ true = ap (is_begun c.self.inside.text) (sym c.deref.ensures.value) ∙ sym c.is_begun.ensures ∙ c.if-not-is_begun.false in
    let all = read_of-begun bytes _ _ _ kept.0 kept.1 begun in
    (λ wrong. absurd (not_memory _ c.from_residual.ensures wrong), λ wrong. absurd (cc (all, wrong)))

pub returns-clause-value : goal.returns-clause-value
returns-clause-value g c bytes is =
    let kept = opened_by _ _ _ _ _ bytes c.self.view_is c.in_default.is is in
    let begun : is_begun c.self.inside.text c.self.inside.line.items ≡ true = ap (is_begun c.self.inside.text) (sym c.deref.ensures.value) ∙ sym c.is_begun.ensures ∙ c.if-not-is_begun.false in
    read_of-begun bytes _ _ _ kept.0 kept.1 begun
    ∙ ap (λ texts. Ok texts) (ap (all_texts c.self.inside.texts.items c.self.inside.text) (sym c.deref-2.ensures.value) ∙ sym c.in_ok-texts_of.ensures.all)

pub returns-clause-refused : goal.returns-clause-refused
returns-clause-refused g c bytes is =
    let all = returns-clause-value g c bytes is in
    (λ wrong. absurd (cc wrong), λ wrong. absurd (cc (all, wrong)))
