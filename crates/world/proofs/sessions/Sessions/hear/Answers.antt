use Rattle.std.proofs.Common.{◌≡◌, ◌≢◌, ◌<◌, ◌∙◌, length, refl, sym, ap, subst, arith, ⊎_elim}
use Rattle.world.specs.Waiting.{Sessions, IsHeard}
use Rattle.world.proofs.Hearing.{all_heard}
use Rattle.world.proofs.Noting.{one_place}
use Rattle.world.proofs.sessions.Sessions.hear.Goals as goal

pub loop-node-init : goal.loop-node-init
loop-node-init g c =
    record {
      entries = refl;
      behind = c.requires;
      heard = λ k low. absurd (omega (arith, low));
    }

pub loop-node-preserved : goal.loop-node-preserved
loop-node-preserved g c =
    let so_far = c.loop-node.invariant in
    let e = c.hear_one.ensures in
    let low : c.loop-node.node < length c.loop-node.self.waiting.heard =
    omega (arith, c.loop-node-test.true, c.nodes-node-end.ensures, ap (λ (s : Sessions g.row.A.Denot). length s.waiting.heard) c.self.view_is, c.requires.nodes, so_far.behind.nodes) in
    record {
      entries = e.entries ∙ so_far.entries;
      behind = e.behind;
      heard = λ k lt.
          ⊎_elim
          (λ (same : k ≡ c.loop-node.node). subst (IsHeard c.args.hosts.now c.hear_one.new.self.waiting) (sym same) (e.own low))
          (λ (apart : k ≡ c.loop-node.node → ⊥). let other : k ≢ c.loop-node.node = λ q. apart q in e.others k apart (so_far.heard k (omega (arith, lt, other))))
          (one_place k c.loop-node.node);
    }

pub returns-clause-current : goal.returns-clause-current
returns-clause-current g c =
    let so_far = c.loop-node.invariant in
    all_heard c.args.hosts.now c.loop-node.self.entries c.loop-node.self.waiting so_far.behind
    (λ k low. so_far.heard k (omega (arith, low, c.loop-node-test.false, c.nodes-node-end.ensures, ap (λ (s : Sessions g.row.A.Denot). length s.waiting.heard) c.self.view_is, c.requires.nodes, so_far.behind.nodes)))
