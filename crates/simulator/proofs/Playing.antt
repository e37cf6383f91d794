-- How lines that are played leave the first fault where it is, and what is written as it was to be.
use Rattle.std.proofs.Common.{◌≡◌, ◌<◌, ◌⊎◌, inl, inr, ℕ, ◌+◌, Bool, true, false, nat_lt, Option, None, Some, List, [], ◌∷◌, ◌++◌, length, Ok, Err, sym, ap, subst, ◌∙◌, arith}
use Rattle.std.specs.Io.BufRead.{take_through, drop_through}
use Rattle.std.specs.Str.Lines.{lines}
use Rattle.std.proofs.lemmas.Bool.{ltb-true, ltb-false}
use Rattle.std.proofs.lemmas.List.{append-nil, nil_from_length}
use Rattle.script.specs.Scripts.{read_line}
use Rattle.script.specs.declared.command.Command.{Command}
use Rattle.script.specs.declared.fault.ScriptFault.{ScriptFault}
use Rattle.script.specs.declared.fault.ScriptFault.TheVariants.{Memory, NoStatement, LateSetting, NameTwice}
use Rattle.simulator.specs.Reading.{BeginsWithNone, IsFlushed, IsRead, IsPlayed, IsPlayedLine, IsStopAt, left_of}
use Rattle.simulator.specs.Runs.{Run, line_told, lines_told, told_by}
use Rattle.simulator.specs.Statuses.{fault_at, fault_from, fault_by}
use Rattle.simulator.specs.Told.{IsWritten, Told}
use Rattle.simulator.specs.declared.fault.Fault.{Fault}
use Rattle.simulator.specs.declared.fault.Fault.TheVariants.{Line}
use Rattle.simulator.proofs.FirstLine.{one_line, nothing_left}
use Rattle.simulator.proofs.Flushing.{flushed_as, flushed_on}
use Rattle.simulator.proofs.Telling.{further}

-- the lines of bytes are their first one and those of the rest
at_first : (line bytes content more : List ℕ) → line ≡ take_through 10 bytes → 0 < length line → lines line ≡ content ∷ lines more → lines bytes ≡ content ∷ lines (drop_through 10 bytes)
at_first line bytes content more is some found =
    let one = one_line bytes (subst (λ l. 0 < length l) is some) in
    let both : content ∷ lines more ≡ one.line ∷ [] = sym found ∙ ap lines is ∙ one.taken in
    let same : content ≡ one.line = cc both in
    one.all ∙ ap (λ l. l ∷ lines (drop_through 10 bytes)) (sym same)

by_fault : (number told : ℕ) (fault : ScriptFault) → fault_at number fault ≡ Line told → Some number ≡ Some told
by_fault number told Memory is = absurd (cc is)
by_fault number told NoStatement is = cc is
by_fault number told LateSetting is = cc is
by_fault number told NameTwice is = cc is

-- a line was read
pub there_is : (line : List ℕ) (there : Bool) → there ≡ nat_lt 0 (length line) → there ≡ true → 0 < length line
there_is line there tested is = ltb-true 0 (length line) (sym tested ∙ is)

pub empty : (line : List ℕ) → nat_lt 0 (length line) ≡ false → line ≡ []
empty line none = nil_from_length line (omega (arith, ltb-false 0 (length line) none))

module _ {A : Type 0} where
  pub plays_line : (line content more : List ℕ) (number : ℕ) (run later : Run A) (before after : List ℕ) (command : Option Command) → lines line ≡ content ∷ lines more → read_line run.script content ≡ Ok (command, later.script)
      → IsWritten (line_told run.play (command, later.script)) later before after → IsPlayedLine line number run before later after
  plays_line line content more number run later before after command found read written = record {
    same = λ bytes is some.
        ap (λ ls. fault_from ls number run.script) (at_first line bytes content more is some found) ∙ ap (fault_by (fault_from (lines (drop_through 10 bytes)) (number + 1)) number) read;
    told = λ bytes is some.
        ap (λ ls. before ++ (lines_told ls run).text) (at_first line bytes content more is some found)
        ∙ ap (λ r. before ++ (told_by (lines_told (lines (drop_through 10 bytes))) run r).text) read
        ∙ ap (λ (t : Told (Run A)). t.text) (sym (further (line_told run.play (command, later.script)) (lines_told (lines (drop_through 10 bytes))) later before after written));
  }

  -- there is no line without bytes alone
  pub plays_nothing : (line : List ℕ) (number : ℕ) (run : Run A) (report : List ℕ) → lines line ≡ [] → IsPlayedLine line number run report run report
  plays_nothing line number run report none = record {
    same = λ bytes is some. absurd (never bytes is some);
    told = λ bytes is some. absurd (never bytes is some);
  } where
    never : (bytes : List ℕ) → line ≡ take_through 10 bytes → 0 < length line → ⊥
    never bytes is some =
        let one = one_line bytes (subst (λ l. 0 < length l) is some) in
        let both : [] ≡ one.line ∷ [] = sym none ∙ ap lines is ∙ one.taken in
        absurd (cc both)

  -- a line that was refused is at fault
  pub stops_at : (line content more : List ℕ) (number : ℕ) (run : Run A) (before after : List ℕ) (error : ScriptFault) → lines line ≡ content ∷ lines more
      → (error ≡ Memory) ⊎ ((read_line run.script content ≡ Err error) × (after ≡ before)) → IsStopAt line number run before after (fault_at number error)
  stops_at line content more number run before after error found (inl memory) = record {
    here = λ bytes told is some line_told. absurd (cc (sym (ap (fault_at number) memory) ∙ line_told));
    told = λ bytes told is some line_told. absurd (cc (sym (ap (fault_at number) memory) ∙ line_told));
  }
  stops_at line content more number run before after error found (inr refused) = record {
    here = λ bytes told is some line_told.
        ap (λ ls. fault_from ls number run.script) (at_first line bytes content more is some found)
        ∙ ap (fault_by (fault_from (lines (drop_through 10 bytes)) (number + 1)) number) refused.0 ∙ by_fault number told error line_told;
    told = λ bytes told is some line_told.
        ap (λ ls. before ++ (lines_told ls run).text) (at_first line bytes content more is some found)
        ∙ ap (λ r. before ++ (told_by (lines_told (lines (drop_through 10 bytes))) run r).text) refused.0 ∙ append-nil before ∙ sym refused.1;
  }

  -- some of what is reported was written
  pub flushes : {bytes : List ℕ} {number later : ℕ} {run run_now : Run A} {contents contents_now contents_then : Option (List ℕ)} {report report_now report_then : List ℕ} {now : Option (List ℕ)}
      → IsPlayed bytes number run contents report now later run_now contents_now report_now → IsFlushed contents_now contents_then report_now report_then
      → IsPlayed bytes number run contents report now later run_now contents_then report_then
  flushes {run_now = run_now} {contents = contents} {contents_now = contents_now} {contents_then = contents_then} {report_now = report_now} {report_then = report_then} played flushed = record {
    rest = played.rest;
    known = played.known;
    same = played.same;
    told = flushed_on contents contents_now contents_then _ report_now report_then (left_of played.rest run_now) played.told flushed;
  }

  module _ {bytes : List ℕ} {run later : Run A} {contents contents_now : Option (List ℕ)} {report report_now : List ℕ} {now : Option (List ℕ)} {number : ℕ} (played : IsPlayed bytes 1 run contents report now number later contents_now report_now) where
    -- after the last line there is no fault, and all is reported
    pub ends : (line : List ℕ) (new : Option (List ℕ)) (there : Bool) → IsRead played.rest line new there → there ≡ false
        → (fault_from (lines bytes) 1 run.script ≡ None) × IsFlushed contents contents_now (report ++ left_of bytes run) report_now
    ends line new there read is =
        let none : line ≡ [] = empty line (sym read.more ∙ is) in
        let left : played.rest ≡ [] = nothing_left played.rest (sym read.first ∙ none) in (
          played.same ∙ ap (λ bs. fault_from (lines bs) number later.script) left,
          flushed_as contents contents_now (report ++ left_of bytes run) (report_now ++ left_of played.rest later) report_now played.told
              (ap (λ bs. report_now ++ left_of bs later) left ∙ append-nil report_now),
        )

    -- one line more is played
    pub goes_on : (line : List ℕ) (new : Option (List ℕ)) (there : Bool) (last : Run A) (report_last : List ℕ) → IsRead played.rest line new there → there ≡ true → IsPlayedLine line number later report_now last report_last
        → IsPlayed bytes 1 run contents report new (number + 1) last contents_now report_last
    goes_on line new there last report_last read is one = record {
      rest = drop_through 10 played.rest;
      known = read.rest;
      same = played.same ∙ one.same played.rest read.first (there_is line there read.more is);
      told = flushed_as contents contents_now (report ++ left_of bytes run) (report_now ++ left_of played.rest later) (report_last ++ left_of (drop_through 10 played.rest) last) played.told
          (one.told played.rest read.first (there_is line there read.more is));
    }

    -- the first fault is in this line, and all before it is reported
    pub stopped : (line : List ℕ) (new : Option (List ℕ)) (there : Bool) (error : Fault) (report_last : List ℕ) (told : ℕ) → IsRead played.rest line new there → there ≡ true → IsStopAt line number later report_now report_last error → error ≡ Line told
        → (fault_from (lines bytes) 1 run.script ≡ Some told) × IsFlushed contents contents_now (report ++ left_of bytes run) report_last
    stopped line new there error report_last told read is stop line_told = (
      played.same ∙ stop.here played.rest told read.first (there_is line there read.more is) line_told,
      flushed_as contents contents_now (report ++ left_of bytes run) (report_now ++ left_of played.rest later) report_last played.told
          (stop.told played.rest told read.first (there_is line there read.more is) line_told),
    )

    -- the first fault is in the next line, which is none of the language, and all before it is reported
    pub refused : BeginsWithNone played.rest → (fault_from (lines bytes) 1 run.script ≡ Some number) × IsFlushed contents contents_now (report ++ left_of bytes run) report_now
    refused next = (
      played.same ∙ ap (λ ls. fault_from ls number later.script) next.first ∙ ap (fault_by (fault_from next.others (number + 1)) number) (next.none later.script),
      flushed_as contents contents_now (report ++ left_of bytes run) (report_now ++ left_of played.rest later) report_now played.told
          (ap (λ ls. report_now ++ (lines_told ls later).text) next.first ∙ ap (λ r. report_now ++ (told_by (lines_told next.others) later r).text) (next.none later.script) ∙ append-nil report_now),
    )
