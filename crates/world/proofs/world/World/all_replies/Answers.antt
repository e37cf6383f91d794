use Rattle.std.proofs.Common.{◌∙◌, ap, sym, arith}
use Rattle.std.proofs.lemmas.Bool.{false≢true}
use Rattle.runs.specs.Settling.{all_replies}
use Rattle.world.specs.Values.{WorldValue}
use Rattle.world.proofs.WholeRuns.{pushed_next, replies_there}
use Rattle.world.proofs.world.World.all_replies.Goals as goal

pub loop-place-preserved : goal.loop-place-preserved
loop-place-preserved g c =
    let w = c.args.self.now.world.service in
    let it = c.in-Some.connection.now in
    let session = c.in-Some.session.now in
    pushed_next _ c.loop-place.replies.items c.push.new.self.items (session, c.in_ok-bytes.bytes) (all_replies w) c.loop-place.place (session, it.replies)
    c.in_ok-push.ensures.items c.loop-place.invariant (ap (λ b. (session, b)) (c.in_ok-bytes.ensures.items ∙ c.get.ensures))
    (replies_there c.self.inside.hosts c.self.inside.connections.entries w c.loop-place.place session it (ap (λ (v : WorldValue g.row.A.Denot). v.world.service) c.self.view_is) (sym c.in-Some.ensures.entry))

pub unreachable-requires : goal.unreachable-requires
unreachable-requires g c = false≢true (rw c.in_default.is at (c.get_index.ensures.found.1 (omega (arith, c.loop-place-test.true, c.len-place-end.ensures.len))))
