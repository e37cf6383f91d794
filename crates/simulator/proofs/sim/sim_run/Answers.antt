use Rattle.std.proofs.Common.{sym, ◌∙◌}
use Rattle.simulator.proofs.Ending.{at_its_line, has_fault}
use Rattle.simulator.proofs.sim.sim_run.Goals as goal

pub returns-in-Err-clause-refused : goal.returns-in-Err-clause-refused
returns-in-Err-clause-refused g c two = has_fault c.in-Err.fault (g.R.Read.remaining c.args.reader.now) (sym c.status.ensures ∙ two) c.in-Err.ensures.line

pub returns-in-Err-clause-written : goal.returns-in-Err-clause-written
returns-in-Err-clause-written g c other = at_its_line c.in-Err.fault (λ one. other (c.status.ensures ∙ one)) c.in-Err.ensures.written_before
