use Rattle.std.proofs.Common.{◌≡◌, ◌+◌, ◌∙◌, ap, subst, sym, rules, arith, length, List, [], ◌∷◌, ◌++◌, None}
use Rattle.std.specs.List.{enumerate_from}
use Rattle.replica.specs.Replicas.{IsAhead}
use Rattle.ballot.specs.Slots.{at_slot}
use Rattle.replica.proofs.Gapless.{moves, left_ahead}
use Rattle.replica.proofs.decisions.Decisions.move_first.Goals as goal

pub invariant_of-self-2 : goal.invariant_of-self-2
invariant_of-self-2 g c =
    let front : List g.row.C.Denot = c.self.inside.front.items in
    let number : c.len.result ≡ length front = search rules in
    let at : c.in-Some.slot.now ≡ 1 + length front = omega (arith, number, c.get.ensures.value, c.get.ensures.range.0, c.if-get-len.false) in
    let pushed : c.push_reserved.new.self.items ≡ front ++ c.in-Some-pop_first.command ∷ [] = c.push_reserved.ensures.items ∙ ap (λ xs. xs ++ c.in-Some-pop_first.command ∷ []) c.in_ok-reserve.ensures.items in
    let gone : at_slot c.in-Some-pop_first.field-0-0 c.pop_first.new.self.entries ≡ None = c.in-Some-pop_first.ensures.updates.1 in
    subst (λ xs. IsAhead (length xs) c.pop_first.new.self.entries) (sym pushed)
    (left_ahead (c.in-Some-pop_first.field-0-0, c.in-Some-pop_first.command) c.in-Some.slot.now c.in-Some.field-0-1.now front c.self.inside.ahead.entries c.pop_first.new.self.entries
    c.in-Some-pop_first.ensures.removal c.in-Some.ensures.first at c.self.invariant gone)

pub returns : goal.returns
returns g c =
    let front : List g.row.C.Denot = c.self.inside.front.items in
    let number : c.len.result ≡ length front = search rules in
    let at : c.in-Some.slot.now ≡ 1 + length front = omega (arith, number, c.get.ensures.value, c.get.ensures.range.0, c.if-get-len.false) in
    let pushed : c.push_reserved.new.self.items ≡ front ++ c.in-Some-pop_first.command ∷ [] = c.push_reserved.ensures.items ∙ ap (λ xs. xs ++ c.in-Some-pop_first.command ∷ []) c.in_ok-reserve.ensures.items in
    ap (λ (xs : List g.row.C.Denot). enumerate_from 1 xs ++ c.pop_first.new.self.entries) pushed
    ∙ moves (c.in-Some-pop_first.field-0-0, c.in-Some-pop_first.command) c.in-Some.slot.now c.in-Some.field-0-1.now front c.self.inside.ahead.entries c.pop_first.new.self.entries
    c.in-Some-pop_first.ensures.removal c.in-Some.ensures.first at
    ∙ c.self.view_is
