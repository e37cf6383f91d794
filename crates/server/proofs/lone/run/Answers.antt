use Rattle.std.proofs.Common.{rules}
use Rattle.std.proofs.lemmas.Result.{on_ok_weaker}
use Rattle.server.proofs.Alone.{written_alone}
use Rattle.server.proofs.LoneLemmas.{cut_alone}
use Rattle.server.proofs.lone.run.Goals as goal

pub returns-clause-written : goal.returns-clause-written
returns-clause-written g c =
    on_ok_weaker c.serve_desk.result
    (written_alone c.args.options.now c.in_ok-desk.desk c.in_ok-user.user c.in_ok-user.accounts c.in-Some.stamp (g.R.Read.remaining c.args.reader.now) (g.W.Write.contents c.args.writer.now) (g.W.Write.contents c.serve_desk.new.writer)
    c.in_ok-user.ensures.user c.in_ok-user.ensures.account (search rules) (search rules))
    c.serve_desk.ensures.written

pub returns-clause-cut : goal.returns-clause-cut
returns-clause-cut g c =
    cut_alone c.serve_desk.result c.args.writer.now c.serve_desk.new.writer _ _ _ _ _ _ _ _
    c.in_ok-user.ensures.account (search rules) c.serve_desk.ensures.cut
