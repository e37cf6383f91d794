use Rattle.peer_frames.proofs.Lines.{line_tested}
use Rattle.peer_frames.proofs.command_reading.is_line.Goals as goal

pub returns-clause-test : goal.returns-clause-test
returns-clause-test c = line_tested c.args.bytes.now c.has_no_line_feed.result c.has_no_line_feed.ensures
