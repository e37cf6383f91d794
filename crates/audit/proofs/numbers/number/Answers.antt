use Rattle.std.proofs.Common.{◌∙◌, ◌+◌, ap, sym, zero-add}
use Rattle.node.specs.Replay.{counts}
use Rattle.node.specs.Tickets.{tickets_of}
use Rattle.audit.proofs.Numbering.{given_next, nothing_counts, other_next, submit_next}
use Rattle.audit.proofs.numbers.number.Goals as goal

pub returns-in_default : goal.returns-in_default
returns-in_default g c =
    let given = c.args.given.now.entries in
    record {
      given = given_next c.args.log.now c.args.place c.args.input.now given given c.requires.at c.requires.given
          (λ name. sym (ap (λ n. n + tickets_of name given) (nothing_counts c.args.input.now c.in_default.not-Submit name) ∙ zero-add (tickets_of name given)));
      numbered = other_next c.args.log.now c.args.place c.args.input.now _ _ _ c.requires.at c.requires.numbered c.in_default.not-Submit c.in_ok-push.ensures.items;
    }

pub returns-clause-given : goal.returns-clause-given
returns-clause-given g c =
    given_next c.args.log.now c.args.place c.args.input.now c.args.given.now.entries _ c.requires.at c.requires.given
    (λ name. c.in_ok-ticket.ensures.given name ∙ ap (λ i. counts name i + tickets_of name c.args.given.now.entries) (sym c.in-Submit.is))

pub returns-clause-numbered : goal.returns-clause-numbered
returns-clause-numbered g c =
    submit_next c.args.log.now c.args.place c.args.input.now c.in-Submit.user c.in-Submit.field-1 c.in_ok-ticket.ticket c.new.result _ _ _ _ c.args.given.now.entries c.requires.at c.requires.given c.requires.numbered c.in-Submit.is
    c.in_ok-ticket.ensures.ticket c.new.ensures c.in_ok-insert.ensures.updates.0 c.in_ok-push-2.ensures.items
