use Rattle.std.proofs.Common.{◌≡◌, ◌-◌, ◌∙◌, ap, refl, subst, Some, None, ℕ, List, length}
use Rattle.std.specs.List.{slice_get}
use Rattle.std.proofs.lemmas.Option.{slice_get_read, slice_get_past}
use Rattle.ballot.specs.Slots.{at_slot}
use Rattle.replica.proofs.Gapless.{get_front, get_ahead}
use Rattle.replica.proofs.decisions.Decisions.get.Goals as goal

pub returns-in-Some : goal.returns-in-Some
returns-in-Some g c =
    let front : List g.row.C.Denot = c.self.inside.front.items in
    let found : slice_get c.deref.result.now (c.get.result - 1) ≡ Some c.in-Some.command.now =
    slice_get_read c.deref.result.now (length c.deref.result.now) (c.get.result - 1) c.in-Some.command.now refl c.in-Some.ensures.lookup.3.0 c.in-Some.ensures.lookup.1 in
    let here : slice_get front (c.get.result - 1) ≡ Some c.in-Some.command.now = subst (λ (xs : List g.row.C.Denot). slice_get xs (c.get.result - 1) ≡ Some c.in-Some.command.now) c.deref.ensures.value found in
    let at : slice_get front (c.args.slot - 1) ≡ Some c.in-Some.command.now = subst (λ s. slice_get front (s - 1) ≡ Some c.in-Some.command.now) c.get.ensures.value here in
    get_front c.args.slot c.in-Some.command.now front c.self.inside.ahead.entries c.get.ensures.range.0 at
    ∙ ap (λ (es : List (ℕ × g.row.C.Denot)). at_slot c.args.slot es) c.self.view_is

pub returns-in-None : goal.returns-in-None
returns-in-None g c =
    let front : List g.row.C.Denot = c.self.inside.front.items in
    let found : slice_get c.deref.result.now (c.get.result - 1) ≡ None = slice_get_past c.deref.result.now (c.get.result - 1) c.in-None.ensures.lookup.3 in
    let here : slice_get front (c.get.result - 1) ≡ None = subst (λ (xs : List g.row.C.Denot). slice_get xs (c.get.result - 1) ≡ None) c.deref.ensures.value found in
    let at : slice_get front (c.args.slot - 1) ≡ None = subst (λ s. slice_get front (s - 1) ≡ None) c.get.ensures.value here in
    c.get-in-None.ensures.value
    ∙ get_ahead c.args.slot front c.self.inside.ahead.entries c.get.ensures.range.0 at
    ∙ ap (λ (es : List (ℕ × g.row.C.Denot)). at_slot c.args.slot es) c.self.view_is
