use Rattle.std.proofs.Common.{◌≡◌, ◌∙◌, subst}
use Rattle.std.specs.Prelude.{IfOk, IfSome}
use Rattle.node.specs.Nodes.{opened}
use Rattle.node.specs.declared.log.Opening.{Opening}
use Rattle.node.proofs.node.Node.new.Goals as goal

pub returns-clause-opening : goal.returns-clause-opening
returns-clause-opening g c =
    subst (λ (o : Opening g.row.A.Denot). IfOk c.open.result (λ node. IfSome node (λ n. n ≡ opened o)))
    (λ i. record {
      me = c.args.me;
      cluster = c.args.cluster;
      window = c.args.window;
      names = (c.from_vec.ensures ∙ c.in_ok-from_slice.ensures.items) i;
      limits = c.args.limits;
      kept = (c.in_ok-new.ensures ∙ c.new.ensures) i;
      keys = 0;
    })
    c.open.ensures.opening
