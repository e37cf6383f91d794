use Rattle.std.proofs.Common.{◌∙◌, ◌+◌, [], ◌∷◌, ◌++◌, IfOk, All, ap, map, subst, sym}
use Rattle.std.proofs.lemmas.List.{length_push, map_push}
use Rattle.std.proofs.lemmas.List.Elements.{All-push}
use Rattle.cluster.specs.Bests.{IsBestOf}
use Rattle.cluster.specs.Ends.{log_of}
use Rattle.cluster.specs.Members.{IsLogOf}
use Rattle.cluster.proofs.ended.end_all.Goals as goal

pub loop-node-preserved : goal.loop-node-preserved
loop-node-preserved g c =
    let so = c.loop-node.invariant in
    let yielded = c.loop-node.yielded in
    let node = c.next_best-next.result.1 in
    record {
      can_next = tt;
      finite = tt;
      count = c.push_reserved.ensures.len ∙ ap (λ n. n + 1) so.count ∙ sym (length_push yielded c.in-Some.node);
      room = c.push_reserved.ensures.capacity ∙ so.room;
      same = ap (map log_of) c.push_reserved.ensures.items ∙ map_push log_of c.loop-node.nodes.items node ∙ ap (λ ls. ls ++ log_of node ∷ []) so.same
          ∙ ap (λ log. yielded ++ log ∷ []) (c.next_best-next.ensures.log ∙ c.into_node.ensures.log);
      own = All-push (λ log. IsLogOf g.D.Deployment.setup log.opening.me log) yielded c.in-Some.node so.own
          (subst (λ log. IsLogOf g.D.Deployment.setup log.opening.me log) c.into_node.ensures.log c.into_node.ensures.own);
      best = subst (λ log. IfOk c.next_best-next.result.0 (IsBestOf (yielded ++ log ∷ []))) c.into_node.ensures.log (c.next_best-next.ensures.best yielded so.best);
    }
