use Rattle.std.proofs.Common.{◌≡◌, ◌∙◌, ◌++◌, ◌∷◌, [], Ok, IfOk, subst, sym, map-id}
use Rattle.std.proofs.lemmas.Iterator.Adapters.{YieldsList-from_vec}
use Rattle.std.proofs.lemmas.Iterator.Consumers.{YieldsList-end}
use Rattle.std.specs.List.{AllZip}
use Rattle.cluster.proofs.Zips.{zip_push, zip_through, zip_map}
use Rattle.cluster.proofs.cluster.Cluster.start_on.Goals as goal

pub loop-node-preserved : goal.loop-node-preserved
loop-node-preserved g c = record {
  can_next = tt;
  finite = tt;
  so_far = subst (λ nodes. AllZip (λ node me. node ≡ Ok me) (c.loop-node.yielded ++ c.in-Some.node ∷ []) nodes)
      (sym c.in_ok-start_node.ensures)
      (zip_push _ c.loop-node.yielded c.loop-node.cluster c.in-Some.node c.in_ok-node.field-0 c.loop-node.invariant.so_far c.in_ok-node.was);
}

pub returns : goal.returns
returns g c =
    let opened = c.in_ok-node-items.node-items in
    let end = YieldsList-end (YieldsList-from_vec {s = c.into_iter-node-iterator.result} opened.items c.into_iter-node-iterator.ensures.into_iter_gives.0 (c.into_iter-node-iterator.ensures.into_iter_gives.1 ∙ opened.ok.0))
    c.loop-node.yielded c.loop-node.node-iterator c.loop-node.yielded_by _ c.next.new.self c.in-None.is c.next.ensures.steps in
    zip_map _ c.args.links.items c.loop-node.cluster
    (zip_through _ (λ node me. node ≡ Ok me) _ (λ link node me is_opened is. subst (λ node. IfOk node (λ n. n ≡ link.0)) is is_opened)
    c.args.links.items opened.items c.loop-node.cluster c.in_ok-node-items.ensures
    (rw (← end.0, map-id) c.loop-node.invariant.so_far))
