use Rattle.std.proofs.Common.{◌∙◌, sym}
use Rattle.cluster.proofs.Forked.{zip_of_jobs}
use Rattle.cluster.proofs.cluster.open_all.Goals as goal

pub returns : goal.returns
returns g c =
    let nodes = c.in_ok-map_vec.field-0 in
    zip_of_jobs _ _ _ (λ link node said. said.met) c.args.links.items nodes.items
    (sym nodes.ok.0 ∙ c.in_ok-map_vec.ensures.len ∙ c.args.links.ok.0) c.in_ok-map_vec.ensures.each
