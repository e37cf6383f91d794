use Rattle.std.proofs.Common.{sym, subst}
use Rattle.node.specs.declared.input.Input.TheVariants.{Crash}
use Rattle.world.specs.Hosts.{network_of}
use Rattle.world.proofs.Blocks.{Rises, index_rises, takes_rises}
use Rattle.world.proofs.hosts.Hosts.cut.Goals as goal

pub pass_over-requires : goal.pass_over-requires
pass_over-requires g c =
    let old = network_of c.self.inside.nodes in
    let new = network_of c.cut.new.self in
    index_rises old new c.self.inside.index.items (subst (Rises old) (sym c.cut.ensures.network) (takes_rises old c.args.node Crash)) c.self.invariant

pub invariant_of-self-else-was_up : goal.invariant_of-self-else-was_up
invariant_of-self-else-was_up g c =
    let old = network_of c.self.inside.nodes in
    let new = network_of c.cut.new.self in
    index_rises old new c.self.inside.index.items (subst (Rises old) (sym c.cut.ensures.network) (takes_rises old c.args.node Crash)) c.self.invariant
