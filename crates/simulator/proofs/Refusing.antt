-- A line of which enough was read to tell that it is none of the language.
use Rattle.std.proofs.Common.{◌≡◌, ◌<◌, inl, inr, ℕ, Bool, false, List, [], ◌∷◌, ◌++◌, length, length-append, Option, refl, sym, ap, subst, ◌∙◌, arith}
use Rattle.std.specs.Io.BufRead.{take_through, drop_through}
use Rattle.std.specs.Str.Lines.{lines}
use Rattle.script.specs.Beginnings.{BeginsNoLine}
use Rattle.script.specs.Scripts.{new_script}
use Rattle.simulator.specs.Reading.{BeginsWithNone, IsBegun, IsFaultAt, IsPartTaken}
use Rattle.simulator.specs.declared.fault.Fault.{Fault}
use Rattle.simulator.specs.declared.fault.Fault.TheVariants.{Line}
use Rattle.simulator.proofs.FirstLine.{one_line}
use Rattle.simulator.proofs.Parts.{goes_on}

-- nothing may begin a line
some_bytes : (bytes : List ℕ) → BeginsNoLine bytes → 0 < length bytes
some_bytes [] none = absurd (cc (none new_script [] [] [] refl (inl refl)))
some_bytes (b ∷ bytes) none = omega arith

begins_with_none : (bytes held more : List ℕ) → take_through 10 bytes ≡ held ++ more → BeginsNoLine held → BeginsWithNone bytes
begins_with_none bytes held more taken none =
    let some : 0 < length (take_through 10 bytes) = omega (arith, ap length taken, length-append held more, some_bytes held none) in
    let one = one_line bytes some in
    record {
      line = one.line;
      others = lines (drop_through 10 bytes);
      first = one.all;
      none = λ script. none script more one.line one.end (sym taken ∙ one.whole) one.ended;
    }

-- no line begins with what was read of the first one
pub refuses : {bytes line line_now : List ℕ} {now next : Option (List ℕ)} {whole : Bool} (begun : IsBegun bytes line now) (part : IsPartTaken begun.rest line line_now next whole) → whole ≡ false → BeginsNoLine line_now → BeginsWithNone bytes
refuses {bytes} {line_now = line_now} {next = next} begun part unended none =
    let all = goes_on begun part next unended part.known in
    begins_with_none bytes line_now (take_through 10 all.rest) all.taken none

-- a fault at a line is at that of this number
pub at_number : (P : ℕ → Type 0) (error : Fault) (number told : ℕ) → IsFaultAt number error → error ≡ Line told → (error ≡ Line number → P number) → P told
at_number P error number told (inl memory) line here = absurd (cc (sym memory ∙ line))
at_number P error number told (inr (inl read)) line here = absurd (cc (sym read ∙ line))
at_number P error number told (inr (inr at)) line here =
    let same : number ≡ told = cc (sym at ∙ line) in
    subst P same (here at)
