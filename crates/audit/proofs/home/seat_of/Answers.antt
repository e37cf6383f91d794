use Rattle.std.proofs.Common.{◌∙◌, ap, sym}
use Rattle.audit.specs.Checks.{first_node}
use Rattle.audit.proofs.Sessions.{seat_is}
use Rattle.audit.proofs.home.seat_of.Goals as goal

pub returns-in-Some : goal.returns-in-Some
returns-in-Some g c = λ transcripts.
    c.place_of.ensures ∙ sym (seat_is c.args.logs.now transcripts c.args.transcript.now _ (ap first_node (sym c.get.ensures) ∙ sym c.first_node.ensures ∙ c.in-Some.is))

pub returns-in-None : goal.returns-in-None
returns-in-None g c = λ transcripts. sym (seat_is c.args.logs.now transcripts c.args.transcript.now _ (ap first_node (sym c.get.ensures) ∙ sym c.first_node.ensures ∙ c.in-None.is))
