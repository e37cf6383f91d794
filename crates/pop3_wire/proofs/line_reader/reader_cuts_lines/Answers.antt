use Rattle.pop3_wire.proofs.Feeding.{runs_cut_lines}
use Rattle.pop3_wire.proofs.line_reader.reader_cuts_lines.Goals as goal

pub returns : goal.returns
returns c = runs_cut_lines
