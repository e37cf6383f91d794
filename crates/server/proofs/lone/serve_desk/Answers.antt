use Rattle.server.proofs.LoneLemmas.{over_ok, cut_session, written_session}
use Rattle.server.proofs.lone.serve_desk.Goals as goal

pub returns-clause-written : goal.returns-clause-written
returns-clause-written g c =
    over_ok c.ended.result c.ended.ensures.over
    (written_session c.args.accounts.now c.args.stamp c.args.desk.now c.serve-transcript.new.desk (g.R.Read.remaining c.args.reader.now) (g.R.Read.remaining c.serve-transcript.new.reader) (g.W.Write.contents c.args.writer.now) (g.W.Write.contents c.serve-transcript.new.writer) c.serve-transcript.result
    c.serve-transcript.ensures.transcript c.serve-transcript.ensures.bytes c.serve-transcript.ensures.desk)

pub returns-clause-cut : goal.returns-clause-cut
returns-clause-cut g c =
    cut_session c.ended.result c.args.accounts.now c.args.stamp (g.R.Read.remaining c.args.reader.now) (g.R.Read.remaining c.serve-transcript.new.reader) (g.W.Write.contents c.args.writer.now) (g.W.Write.contents c.serve-transcript.new.writer) c.serve-transcript.result
    c.serve-transcript.ensures.transcript c.serve-transcript.ensures.bytes c.ended.ensures.cut
