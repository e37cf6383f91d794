use Rattle.std.proofs.Common.{◌∙◌, sym}
use Rattle.world.proofs.Refusing.{connect_known, connect_new}
use Rattle.world.proofs.refusal.of_connect.Goals as goal

pub returns-in-Some : goal.returns-in-Some
returns-in-Some g c = sym (connect_known c.args.hosts.now c.args.connections.now.entries c.args.session c.args.node c.in-Some.field-0.now (sym c.in-Some.ensures.value))

pub returns-in-None : goal.returns-in-None
returns-in-None g c = c.of_node.ensures ∙ sym (connect_new c.args.hosts.now c.args.connections.now.entries c.args.session c.args.node (sym c.in-None.ensures.value))
