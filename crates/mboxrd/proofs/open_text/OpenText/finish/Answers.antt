use Rattle.std.proofs.Common.{◌≡◌, ℕ, Bool, true, false, cond, List, [], ◌∷◌, ◌++◌, refl, sym, ap, ◌∙◌}
use Rattle.std.proofs.lemmas.Result.{IfOk-weaker}
use Rattle.mboxrd.specs.Mailbox.{without_last_empty}
use Rattle.mboxrd.proofs.ReadingLemmas.{without_last_empty-push_empty}
use Rattle.mboxrd.proofs.open_text.OpenText.finish.Goals as goal

-- an empty line that is held back is the last
held : (holds : Bool) (lines : List (List ℕ)) → (holds ≡ false → without_last_empty lines ≡ lines) → without_last_empty (cond holds (lines ++ [] ∷ []) lines) ≡ lines
held true lines none = without_last_empty-push_empty lines
held false lines none = none refl

pub returns : goal.returns
returns g c =
    let all = ap without_last_empty (sym c.self.view_is) ∙ held c.self.inside.holds_empty c.self.inside.text.lines c.self.invariant in
    IfOk-weaker c.finish.result _ _ (λ text is. is ∙ sym all) c.finish.ensures
