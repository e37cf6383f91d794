use Rattle.std.proofs.Common.{sym, subst}
use Rattle.std.specs.Prelude.{is_ok}
use Rattle.world.specs.Hosts.{network_of}
use Rattle.world.specs.Scheduling.{AreFewest}
use Rattle.world.proofs.Blocks.{index_pushed}
use Rattle.world.proofs.index.take_in.Goals as goal

pub returns-then-is_err : goal.returns-then-is_err
returns-then-is_err g c =
    subst (AreFewest (network_of c.args.nodes.now)) (sym c.push.ensures.items) (index_pushed (network_of c.args.nodes.now) c.loop-place.index.items (is_ok c.push.result) c.loop-place.invariant)

pub refresh-requires : goal.refresh-requires
refresh-requires g c =
    subst (AreFewest (network_of c.args.nodes.now)) (sym c.push.ensures.items) (index_pushed (network_of c.args.nodes.now) c.loop-place.index.items (is_ok c.push.result) c.loop-place.invariant)
