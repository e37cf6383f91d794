-- How the fault of a script's lines becomes the status of its run.
use Rattle.std.proofs.Common.{◌≡◌, ℕ, true, Option, None, Some, IfSome, IfOk, IfErr, OnOk, IsErrAnd, is_some, Result, Ok, Err, List, [], refl, sym, ap, subst, ◌∙◌, ◌++◌}
use Rattle.std.specs.Io.Buffered.{reader_inner, reader_buffer, reader_capacity, reader_remaining}
use Rattle.std.specs.Io.KnownBytes.{prepend_known}
use Rattle.std.specs.declared.io.buffered.BufReader.{BufReader}
use Rattle.script.specs.Scripts.{new_script}
use Rattle.std.specs.declared.alloc.Global.{Global}
use Rattle.simulator.specs.Reading.{left_of}
use Rattle.simulator.specs.Runs.{new_run, output, run_of}
use Rattle.simulator.specs.Statuses.{first_fault, status_at}
use Rattle.simulator.specs.declared.run.Run as code
use Rattle.simulator.specs.declared.fault.Fault.{Fault}
use Rattle.simulator.specs.declared.fault.Fault.TheVariants as fault

-- what holds of the bytes that are left, if these are known
by_known : (remaining : Option (List ℕ)) (P : List ℕ → Type 0) → ((bytes : List ℕ) → remaining ≡ Some bytes → P bytes) → IfSome remaining P
by_known None P told = tt
by_known (Some bytes) P told = told bytes refl

-- what holds of a part that was known of holds of the whole
pub at_line : {T : Type 0} (result : Result T Fault) (remaining known : Option (List ℕ)) (P Q : List ℕ → ℕ → Type 0) → known ≡ remaining → ((bytes : List ℕ) (number : ℕ) → P bytes number → Q bytes number)
    → IfErr result (λ error. (bytes : List ℕ) (number : ℕ) → known ≡ Some bytes → error ≡ fault.Line number → P bytes number)
    → IfErr result (λ error. (number : ℕ) → error ≡ fault.Line number → IfSome remaining (λ input. Q input number))
at_line (Ok value) remaining known P Q same become told = tt
at_line (Err error) remaining known P Q same become told = λ number line. by_known remaining (λ input. Q input number) (λ bytes is. become bytes number (told bytes number (same ∙ is) line))

pub at_end : {T : Type 0} (result : Result T Fault) (remaining known : Option (List ℕ)) (P Q : List ℕ → Type 0) → known ≡ remaining → ((bytes : List ℕ) → P bytes → Q bytes)
    → OnOk result ((bytes : List ℕ) → known ≡ Some bytes → P bytes)
    → OnOk result (IfSome remaining Q)
at_end (Err error) remaining known P Q same become told = tt
at_end (Ok value) remaining known P Q same become told = by_known remaining Q (λ bytes is. become bytes (told bytes (same ∙ is)))

by_number : (remaining : Option (List ℕ)) (number : ℕ) → IfSome remaining (λ input. first_fault input ≡ Some number) → IfSome remaining (λ input. is_some (first_fault input) ≡ true)
by_number None number told = told
by_number (Some bytes) number told = ap is_some told

-- the status 2 is that of a line
pub has_fault : (error : Fault) (remaining : Option (List ℕ)) → status_at error ≡ 2 → ((number : ℕ) → error ≡ fault.Line number → IfSome remaining (λ input. first_fault input ≡ Some number)) → IfSome remaining (λ input. is_some (first_fault input) ≡ true)
has_fault (fault.Line number) remaining two told = by_number remaining number (told number refl)
has_fault fault.Memory remaining two told = absurd (cc two)
has_fault fault.Read remaining two told = absurd (cc two)
has_fault fault.Write remaining two told = absurd (cc two)

prepended : (bytes : Option (List ℕ)) → prepend_known [] bytes ≡ bytes
prepended None = refl
prepended (Some bytes) = refl

-- a reader that has just begun gives what the reader within it gives
pub as_within : {T A E : Type 0} (remaining : T → Option (List ℕ)) (known : Option (List ℕ)) (result : Result (BufReader T A) E) (r : BufReader T A) (inner : T) → result ≡ Ok r
    → IfOk result (λ r. reader_inner r ≡ inner) → IfOk result (λ r. reader_buffer r ≡ []) → IfOk result (λ r. reader_capacity r ≡ 8192) → remaining inner ≡ known
    → reader_remaining remaining r ≡ known
as_within remaining known result r inner made is empty capacity same = subst (λ it. IfOk it (λ r. reader_inner r ≡ inner) → IfOk it (λ r. reader_buffer r ≡ []) → IfOk it (λ r. reader_capacity r ≡ 8192) → reader_remaining remaining r ≡ known) (sym made)
    (λ is empty capacity. by_parts is empty capacity) is empty capacity where
      by_parts : reader_inner r ≡ inner → reader_buffer r ≡ [] → reader_capacity r ≡ 8192 → reader_remaining remaining r ≡ known
      by_parts is empty capacity = rw (capacity, empty, is) (prepended (remaining inner) ∙ same)

-- a status that isn't 1 is that of a line
pub at_its_line : {P : Type 0} (error : Fault) → (status_at error ≡ 1 → ⊥) → ((number : ℕ) → error ≡ fault.Line number → P) → P
at_its_line (fault.Line number) other told = told number refl
at_its_line fault.Memory other told = absurd (other refl)
at_its_line fault.Read other told = absurd (other refl)
at_its_line fault.Write other told = absurd (other refl)

-- a run of which nothing is read yet writes all
pub begun_run : (run : code.Run) → run.script ≡ new_script → run.play ≡ None → run_of run ≡ new_run
begun_run run script play i = record { script = script i; play = play i }

pub begun_output : (run : code.Run) (bytes : List ℕ) → run.script ≡ new_script → run.play ≡ None → run.report ≡ [] → run.report ++ left_of bytes (run_of run) ≡ output Global bytes
begun_output run bytes script play none = ap (λ r. r ++ left_of bytes (run_of run)) none ∙ ap (left_of bytes) (begun_run run script play)

-- an error that is handed on
pub handed_on : {T E : Type 0} (r : Result T E) (error : E) (P : E → Type 0) → IsErrAnd r (λ e. e ≡ error) → P error → IfErr r P
handed_on (Ok value) error P same told = absurd same
handed_on (Err e) error P same told = subst P (sym same) told
