use Rattle.std.proofs.Common.{rules, ◌≡◌, false, not, nat_lt, length, arith, sym, subst, ◌∙◌}
use Rattle.std.specs.Io.Buffered.{reader_buffer}
use Rattle.std.specs.List.{list_any}
use Rattle.std.proofs.lemmas.Bool.Decides.{nat_tests}
use Rattle.memchr.specs.Find.{is_byte}
use Rattle.script.specs.Beginnings.{BeginsNoLine}
use Rattle.simulator.proofs.Ending.{handed_on}
use Rattle.simulator.proofs.Parts.{goes_on, ends, ends_unended}
use Rattle.simulator.proofs.Refusing.{refuses}
use Rattle.simulator.proofs.reading.read_line.Goals.{else-not-branch, then-not-branch+in_ok-read_more+then-not-branch-2}
use Rattle.simulator.proofs.reading.read_line.Goals as goal

pub loop-reader-preserved : goal.loop-reader-preserved
loop-reader-preserved g c =
    let unended : c.in_ok-take_held.field-0 ≡ false = search rules in
    record {
      known = λ bytes is.
          let begun = c.loop-reader.invariant.known bytes is in
          let part = c.in_ok-take_held.ensures.known begun.rest begun.known in
          goes_on begun part _ unended (c.in_ok-read_more.ensures.kept part.rest part.known);
      bound = omega (arith, c.loop-reader.invariant.bound, c.in_ok-read_more.ensures.bound);
      held = λ there.
          let none : list_any (is_byte 10) (reader_buffer c.loop-reader.reader) ≡ false = sym c.in_ok-take_held.ensures.whole ∙ unended in
          absurd (cc (none, (c.loop-reader.invariant.held there).1));
    }

pub returns-clause-known : goal.returns-clause-known
returns-clause-known g c bytes is =
    let begun = c.loop-reader.invariant.known bytes is in
    let part = c.in_ok-take_held.ensures.known begun.rest begun.known in
    let more : not c.is_empty.result ≡ nat_lt 0 (length c.take_held.new.line.items) = grind (arith, nat_tests) in
    elim c.if-not-branch.branch [
      | else-not-branch w ↦ rw w.reader-is (ends begun part _ (search rules) more)
      | then-not-branch+in_ok-read_more+then-not-branch-2 w ↦ rw w.reader-is (ends_unended begun part _ _ (search rules) (w.in_ok-read_more.ensures.kept part.rest part.known) (w.in_ok-read_more.ensures.end part.rest part.known w.if-not-branch-2.true) more)
    ]

pub returns-in_err-read_more-clause-none : goal.returns-in_err-read_more-clause-none
returns-in_err-read_more-clause-none g c bytes is =
    handed_on c.from_residual-in_err-read_more.result c.in_err-read_more.field-0.0 _ c.from_residual-in_err-read_more.ensures.1
    (λ here.
    let begun = c.loop-reader.invariant.known bytes is in
    let part = c.in_ok-take_held.ensures.known begun.rest begun.known in
    refuses begun part (search rules) (subst BeginsNoLine c.as_slice.ensures.value (c.in_err-read_more.ensures.none here)))
