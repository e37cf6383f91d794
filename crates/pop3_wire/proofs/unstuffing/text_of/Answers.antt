use Rattle.std.proofs.Common.{◌≡◌, ◌∷◌, [], ◌++◌, append-nil, sym, ap, ◌∙◌}
use Rattle.std.specs.List.{flat_map}
use Rattle.std.proofs.lemmas.List.Elements.{All-push}
use Rattle.std.proofs.lemmas.Result.{IfOk-weaker}
use Rattle.maildrop.specs.Text.{IsLine}
use Rattle.pop3_wire.specs.Stuffing.{wire_line}
use Rattle.pop3_wire.proofs.WireForms.{stuffed_next, stuffed_end, wire-next}
use Rattle.pop3_wire.proofs.unstuffing.text_of.Goals as goal

pub push_line-requires : goal.push_line-requires
push_line-requires g c =
    let next = stuffed_next c.loop-line.left.now c.in-Some.line.now c.in-Some.rest.now c.in-Some.ensures.0 c.in-Some.ensures.1 c.loop-line.invariant.more in
    rw (c.without_dot.ensures next.0 (next.1).0) ((next.1).1)

pub loop-line-preserved : goal.loop-line-preserved
loop-line-preserved g c =
    let next = stuffed_next c.loop-line.left.now c.in-Some.line.now c.in-Some.rest.now c.in-Some.ensures.0 c.in-Some.ensures.1 c.loop-line.invariant.more in
    let added : c.push_line.new.self.lines ≡ c.loop-line.text.lines ++ next.0 ∷ [] = c.in_ok-push_line.ensures.ok ∙ ap (λ l. c.loop-line.text.lines ++ l ∷ []) (c.without_dot.ensures next.0 (next.1).0) in
    record {
      are_lines = rw added (All-push IsLine c.loop-line.text.lines next.0 c.loop-line.invariant.are_lines ((next.1).1));
      read = rw added (wire-next c.loop-line.text.lines c.args.stuffed.now c.loop-line.left.now c.in-Some.line.now c.in-Some.rest.now next.0 c.loop-line.invariant.read c.in-Some.ensures.1 ((next.1).0));
      more = (next.1).2;
    }

pub returns-clause-value : goal.returns-clause-value
returns-clause-value g c =
    let none = stuffed_end c.loop-line.left.now c.in_default.ensures c.loop-line.invariant.more in
    let all : c.args.stuffed.now ≡ flat_map wire_line c.loop-line.text.lines = c.loop-line.invariant.read ∙ ap (λ left. flat_map wire_line c.loop-line.text.lines ++ left) none ∙ append-nil _ in
    IfOk-weaker c.finish.result _ _ (λ text same. all ∙ ap (flat_map wire_line) (sym same)) c.finish.ensures
