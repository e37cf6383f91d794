use Rattle.std.proofs.Common.{ap, ◌∙◌}
use Rattle.pop3_wire.specs.Commands.{arguments_in}
use Rattle.pop3_wire.specs.Arguments.{verb_by_parts}
use Rattle.pop3_wire.proofs.ByParts.{by_pass, by_other}
use Rattle.pop3_wire.proofs.parsing.command_of.Goals as goal
use Rattle.pop3_wire.proofs.parsing.command_of.Goals.{in-Pass, in_default}

pub returns : goal.returns
returns c = elim c.match-keyword.branch [
  | in-Pass w ↦ c.ok_or.ensures.value ∙ by_pass c.args.keyword c.args.rest.now c.match-keyword.verb w.in-Pass.is (w.verb-is ∙ w.pass_with-verb.ensures)
  | in_default w ↦
      let same = w.verb_with-verb.ensures ∙ ap (λ bytes. verb_by_parts c.args.keyword (arguments_in bytes)) w.without_trailing_spaces.ensures in
      c.ok_or.ensures.value ∙ by_other c.args.keyword c.args.rest.now c.match-keyword.verb w.in_default.not-Pass (w.verb-is ∙ same)
]
