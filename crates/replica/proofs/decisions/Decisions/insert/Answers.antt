use Rattle.std.proofs.Common.{◌≡◌, ◌+◌, ◌<◌, ◌∙◌, ap, subst, sym, rules, arith, length, ℕ, List, [], ◌∷◌, ◌++◌, false, inl}
use Rattle.std.specs.List.{enumerate_from}
use Rattle.replica.specs.Replicas.{is_decided, IsAhead}
use Rattle.ballot.specs.Slots.{with_slot}
use Rattle.replica.proofs.Gapless.{behind_front, ahead_grows, ahead_is_ahead, front_grows, front_is_ahead, on_ok_of, on_err_of}
use Rattle.replica.proofs.decisions.Decisions.insert.Goals as goal

pub invariant_of-self-then-get-len : goal.invariant_of-self-then-get-len
invariant_of-self-then-get-len g c =
    let front : List g.row.C.Denot = c.self.inside.front.items in
    let free : is_decided c.args.slot (enumerate_from 1 front ++ c.self.inside.ahead.entries) ≡ false = ap (λ (es : List (ℕ × g.row.C.Denot)). is_decided c.args.slot es) c.self.view_is ∙ c.requires in
    let far : length front < c.args.slot = (behind_front c.args.slot front c.self.inside.ahead.entries c.get.ensures.range.0 free).0 in
    subst (λ (es : List (ℕ × g.row.C.Denot)). IsAhead (length front) es) (sym c.in_ok-insert.ensures.entries) (ahead_is_ahead c.args.slot (length front) c.args.command c.self.inside.ahead.entries far c.self.invariant)

pub returns-then-get-len-clause-ok : goal.returns-then-get-len-clause-ok
returns-then-get-len-clause-ok g c =
    let front : List g.row.C.Denot = c.self.inside.front.items in
    let free : is_decided c.args.slot (enumerate_from 1 front ++ c.self.inside.ahead.entries) ≡ false = ap (λ (es : List (ℕ × g.row.C.Denot)). is_decided c.args.slot es) c.self.view_is ∙ c.requires in
    ap (λ (es : List (ℕ × g.row.C.Denot)). enumerate_from 1 front ++ es) c.in_ok-insert.ensures.entries
    ∙ sym (ahead_grows c.args.slot c.args.command front c.self.inside.ahead.entries c.get.ensures.range.0 free)
    ∙ ap (λ (es : List (ℕ × g.row.C.Denot)). with_slot c.args.slot c.args.command es) c.self.view_is

pub invariant_of-self-2 : goal.invariant_of-self-2
invariant_of-self-2 g c =
    let front : List g.row.C.Denot = c.self.inside.front.items in
    let free : is_decided c.args.slot (enumerate_from 1 front ++ c.self.inside.ahead.entries) ≡ false = ap (λ (es : List (ℕ × g.row.C.Denot)). is_decided c.args.slot es) c.self.view_is ∙ c.requires in
    let number : c.len.result ≡ length front = search rules in
    let at : c.args.slot ≡ 1 + length front = omega (arith, number, c.get.ensures.value, c.get.ensures.range.0, c.if-get-len.false) in
    let pushed : c.push.new.self.items ≡ front ++ c.args.command ∷ [] = c.in_ok-push.ensures.items in
    subst (λ (xs : List g.row.C.Denot). IsAhead (length xs) c.self.inside.ahead.entries) (sym pushed) (front_is_ahead c.args.slot c.args.command front c.self.inside.ahead.entries at free c.self.invariant)

pub returns-clause-ok : goal.returns-clause-ok
returns-clause-ok g c =
    let front : List g.row.C.Denot = c.self.inside.front.items in
    let free : is_decided c.args.slot (enumerate_from 1 front ++ c.self.inside.ahead.entries) ≡ false = ap (λ (es : List (ℕ × g.row.C.Denot)). is_decided c.args.slot es) c.self.view_is ∙ c.requires in
    let number : c.len.result ≡ length front = search rules in
    let at : c.args.slot ≡ 1 + length front = omega (arith, number, c.get.ensures.value, c.get.ensures.range.0, c.if-get-len.false) in
    let pushed : c.push.new.self.items ≡ front ++ c.args.command ∷ [] = c.in_ok-push.ensures.items in
    on_ok_of c.close_up.result
    (c.close_up.ensures
    ∙ ap (λ (xs : List g.row.C.Denot). enumerate_from 1 xs ++ c.self.inside.ahead.entries) pushed
    ∙ sym (front_grows c.args.slot c.args.command front c.self.inside.ahead.entries at free c.self.invariant)
    ∙ ap (λ (es : List (ℕ × g.row.C.Denot)). with_slot c.args.slot c.args.command es) c.self.view_is)

pub returns-clause-err : goal.returns-clause-err
returns-clause-err g c =
    let front : List g.row.C.Denot = c.self.inside.front.items in
    let free : is_decided c.args.slot (enumerate_from 1 front ++ c.self.inside.ahead.entries) ≡ false = ap (λ (es : List (ℕ × g.row.C.Denot)). is_decided c.args.slot es) c.self.view_is ∙ c.requires in
    let number : c.len.result ≡ length front = search rules in
    let at : c.args.slot ≡ 1 + length front = omega (arith, number, c.get.ensures.value, c.get.ensures.range.0, c.if-get-len.false) in
    let pushed : c.push.new.self.items ≡ front ++ c.args.command ∷ [] = c.in_ok-push.ensures.items in
    on_err_of c.close_up.result
    (inl (c.close_up.ensures
    ∙ ap (λ (xs : List g.row.C.Denot). enumerate_from 1 xs ++ c.self.inside.ahead.entries) pushed
    ∙ sym (front_grows c.args.slot c.args.command front c.self.inside.ahead.entries at free c.self.invariant)
    ∙ ap (λ (es : List (ℕ × g.row.C.Denot)). with_slot c.args.slot c.args.command es) c.self.view_is))
