use Rattle.std.proofs.Common.{◌≡◌, sym}
use Rattle.pop3_wire.specs.Reader.{Open}
use Rattle.pop3_wire.proofs.Feeding.{no_lf, lf_at, first_none, taken-none, fed-none, taken-at, fed-at, lines_from, kept_from}
use Rattle.pop3_wire.proofs.line_reader.LineReader.feed.Goals as goal

open_line : (c : goal.After-keep) → c.args.self.now ≡ Open c.self.inside.bytes.items
open_line c = rw c.if-self.false at (sym c.self.view_is)

open_line-in-Some : (c : goal.After-self-1) → c.args.self.now ≡ Open c.self.inside.bytes.items
open_line-in-Some c = rw c.if-self.false at (sym c.self.view_is)

pub invariant_of-self : goal.invariant_of-self
invariant_of-self c =
    rw c.keep.ensures (first_none c.self.inside.bytes.items c.args.piece.now c.self.invariant (no_lf c.args.piece.now c.in-None.ensures))

pub invariant_of-self-in-Some : goal.invariant_of-self-in-Some
invariant_of-self-in-Some c =
    let cut = lf_at c.args.piece.now c.in-Some.end c.in-Some.ensures.0 c.in-Some.ensures.1 in
    rw c.keep-in-Some.ensures (first_none c.self.inside.bytes.items _ c.self.invariant cut.0)

pub returns-in-None-clause-taken : goal.returns-in-None-clause-taken
returns-in-None-clause-taken c =
    rw (open_line c) (taken-none c.self.inside.bytes.items c.args.piece.now (no_lf c.args.piece.now c.in-None.ensures))

pub returns-in-None-clause-kept : goal.returns-in-None-clause-kept
returns-in-None-clause-kept c =
    rw (open_line c, c.if-self.false, c.keep.ensures) (fed-none c.self.inside.bytes.items c.args.piece.now (no_lf c.args.piece.now c.in-None.ensures))

pub returns-in-None-clause-lines : goal.returns-in-None-clause-lines
returns-in-None-clause-lines c more =
    lines_from c.args.self.now _ c.args.piece.now more _ (rw (open_line c) c.self.invariant) (returns-in-None-clause-taken c) (returns-in-None-clause-kept c)

pub returns-in-None-clause-stream : goal.returns-in-None-clause-stream
returns-in-None-clause-stream c bytes =
    kept_from c.args.self.now _ c.args.piece.now bytes _ (returns-in-None-clause-taken c) (returns-in-None-clause-kept c)

pub returns-in-Some-clause-taken : goal.returns-in-Some-clause-taken
returns-in-Some-clause-taken c =
    rw (open_line-in-Some c) (taken-at c.self.inside.bytes.items c.args.piece.now c.in-Some.end c.in-Some.ensures.0 c.in-Some.ensures.1)

pub returns-in-Some-clause-kept : goal.returns-in-Some-clause-kept
returns-in-Some-clause-kept c =
    rw (open_line-in-Some c, c.keep-in-Some.ensures) (fed-at c.self.inside.bytes.items c.args.piece.now c.in-Some.end c.in-Some.ensures.0 c.in-Some.ensures.1)

pub returns-in-Some-clause-lines : goal.returns-in-Some-clause-lines
returns-in-Some-clause-lines c more =
    lines_from c.args.self.now _ c.args.piece.now more _ (rw (open_line-in-Some c) c.self.invariant) (returns-in-Some-clause-taken c) (returns-in-Some-clause-kept c)

pub returns-in-Some-clause-stream : goal.returns-in-Some-clause-stream
returns-in-Some-clause-stream c bytes =
    kept_from c.args.self.now _ c.args.piece.now bytes _ (returns-in-Some-clause-taken c) (returns-in-Some-clause-kept c)
