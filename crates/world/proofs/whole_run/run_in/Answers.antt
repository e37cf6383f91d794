use Rattle.std.proofs.Common.{◌∙◌, sym, ap, length}
use Rattle.runs.specs.Worlds.{World}
use Rattle.world.proofs.whole_run.run_in.Goals as goal

pub brought-requires : goal.brought-requires
brought-requires g c = c.requires ∙ sym (ap (λ (w : World g.row.A.Denot). length w.service.network.logs) c.in_ok-step_all.ensures.world)
