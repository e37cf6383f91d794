use Rattle.std.proofs.Common.{◌≡◌, true, false, Option, None, Some, List, ℕ, [], ◌∷◌, ◌++◌, Bor, is_some, sym}
use Rattle.std.specs.Option.{option_copied}
use Rattle.pop3_wire.proofs.WireForms.{read_nothing, read_more, read_all, read_wrong, read_open}
use Rattle.pop3_wire.proofs.unstuffing.split_wire_form.Goals as goal

-- what is found is there, and what is not found is not
none_found : (r : Option (Bor (List ℕ))) (line : Option (List ℕ)) → option_copied r ≡ line → is_some r ≡ false → line ≡ None
none_found None line e unset = sym e
none_found (Some x) line e unset = absurd cc

one_found : (r : Option (Bor (List ℕ))) (line : Option (List ℕ)) → option_copied r ≡ line → is_some r ≡ true → (l : List ℕ) × (line ≡ Some l)
one_found None line e set = absurd cc
one_found (Some x) line e set = (x.now, sym e)

pub loop-line-init : goal.loop-line-init
loop-line-init c = ([], read_nothing c.args.bytes.now)

pub returns-then-line-gt1 : goal.returns-then-line-gt1
returns-then-line-gt1 c =
    let none = none_found _ _ c.unstuffed_line.ensures c.if-is_none.ensures in
    read_wrong (c.loop-line.invariant.0) c.args.bytes.now c.loop-line.left.now c.in-Some.line.now c.in-Some.rest.now c.in-Some.ensures.0 c.in-Some.ensures.1 none c.if-line-gt1.true (c.loop-line.invariant.1)

pub returns-then-is_none : goal.returns-then-is_none
returns-then-is_none c =
    let none = none_found _ _ c.unstuffed_line.ensures c.if-is_none.ensures in
    read_all (c.loop-line.invariant.0) c.args.bytes.now c.loop-line.left.now c.in-Some.line.now c.in-Some.rest.now c.in-Some.ensures.0 c.in-Some.ensures.1 none c.if-line-gt1.false (c.loop-line.invariant.1)

pub loop-line-preserved : goal.loop-line-preserved
loop-line-preserved c =
    let line = one_found _ _ c.unstuffed_line.ensures c.if-is_none.ensures in (
      c.loop-line.invariant.0 ++ line.0 ∷ [],
      read_more (c.loop-line.invariant.0) c.args.bytes.now c.loop-line.left.now c.in-Some.line.now c.in-Some.rest.now line.0 c.in-Some.ensures.0 c.in-Some.ensures.1 line.1 (c.loop-line.invariant.1),
    )

pub returns : goal.returns
returns c = read_open (c.loop-line.invariant.0) c.args.bytes.now c.loop-line.left.now c.in_default.ensures (c.loop-line.invariant.1)
