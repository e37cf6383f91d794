use Rattle.std.proofs.lemmas.Result.{IfErr-weaker, on_ok_weaker}
use Rattle.simulator.proofs.Flushing.{flushed_all}
use Rattle.simulator.proofs.sim.play_and_write.Goals as goal

pub returns-clause-written : goal.returns-clause-written
returns-clause-written g c =
    on_ok_weaker c.play_lines-played.result (λ told bytes known. flushed_all _ _ _ _ _ (told bytes known) c.in_ok-write_out.ensures.written) c.play_lines-played.ensures.told

pub returns-clause-written_before : goal.returns-clause-written_before
returns-clause-written_before g c =
    IfErr-weaker c.play_lines-played.result _ _ (λ fault told bytes number known line. flushed_all _ _ _ _ _ (told bytes number known line) c.in_ok-write_out.ensures.written) c.play_lines-played.ensures.told_before
