use Rattle.std.proofs.Common.{◌+◌, take, drop}
use Rattle.std.proofs.lemmas.List.{take_rest}
use Rattle.std.proofs.lemmas.List.Elements.{All-nil}
use Rattle.std.proofs.Common.{◌≢◌}
use Rattle.maildrop.proofs.TextLemmas.{IsLine-first}
use Rattle.maildrop.proofs.FileLemmas.{no_line_feed, IsLine-from_tests}
use Rattle.mboxrd.proofs.ReaderLemmas.{HasTaken-line, HasTaken-all, cut_at, IsLine-append}
use Rattle.mboxrd.proofs.reader.take_in.Goals as goal

pub loop-end-preserved : goal.loop-end-preserved
loop-end-preserved g c =
    let rest = c.loop-end.rest.now in
    let end = c.in-Some.end in
    record {
      line = rw c.in_ok-end_open_line.ensures.line (All-nil (λ b. b ≢ 10));
      taken =
          rw (take_rest rest (end + 1), c.in_ok-end_open_line.ensures.texts, c.in_ok-end_open_line.ensures.text, c.in_ok-end_open_line.ensures.line)
          (HasTaken-line c.args.piece.now rest (take end rest) (drop (end + 1) rest) _ _ _ _ _ _ (IsLine-first rest end c.in-Some.ensures) (cut_at rest end c.in-Some.ensures) c.loop-end.invariant.taken);
    }

pub returns-clause-line : goal.returns-clause-line
returns-clause-line g c =
    rw c.in_ok-extend_from_slice.ensures.items (IsLine-append c.loop-end.line.items c.loop-end.rest.now c.loop-end.invariant.line (IsLine-from_tests c.loop-end.rest.now (no_line_feed c.loop-end.rest.now c.in_default.ensures)))

pub returns-clause-kept : goal.returns-clause-kept
returns-clause-kept g c bytes kept =
    rw c.in_ok-extend_from_slice.ensures.items (HasTaken-all c.args.piece.now c.loop-end.rest.now _ _ _ _ _ _ (IsLine-from_tests c.loop-end.rest.now (no_line_feed c.loop-end.rest.now c.in_default.ensures)) c.loop-end.invariant.taken bytes kept)
