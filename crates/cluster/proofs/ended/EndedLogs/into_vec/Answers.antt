use Rattle.std.proofs.Common.{◌∙◌, ◌+◌, [], ◌∷◌, ◌++◌, map, ap, sym}
use Rattle.std.proofs.lemmas.List.{length_push, map_push}
use Rattle.cluster.specs.Ends.{log_of}
use Rattle.cluster.proofs.ended.EndedLogs.into_vec.Goals as goal

pub loop-node-preserved : goal.loop-node-preserved
loop-node-preserved c =
    let so = c.loop-node.invariant in
    record {
      can_next = tt;
      finite = tt;
      count = c.push_reserved.ensures.len ∙ ap (λ n. n + 1) so.count ∙ sym (length_push c.loop-node.yielded c.in-Some.node);
      room = c.push_reserved.ensures.capacity ∙ so.room;
      same = c.push_reserved.ensures.items ∙ ap (λ ls. ls ++ c.into_log.result ∷ []) so.same
          ∙ ap (λ log. map log_of c.loop-node.yielded ++ log ∷ []) c.into_log.ensures ∙ sym (map_push log_of c.loop-node.yielded c.in-Some.node);
    }
