use Rattle.std.proofs.Common.{◌∙◌, sym}
use Rattle.audit.specs.Records as records
use Rattle.audit.proofs.Finding.{sent_there}
use Rattle.audit.proofs.sources.message_of.Goals as goal

pub returns-clause-sent : goal.returns-clause-sent
returns-clause-sent g c =
    sent_there c.find.result c.args.sent.now c.args.envelope.now (records.place_of c.args.envelope.now.to c.args.logs.now) c.args.node (sym c.place_of.ensures ∙ c.if-place_of-node.false) c.find.ensures.found c.find.ensures.none
