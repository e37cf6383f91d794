-- Lines that are read from a reader whose bytes are known, and what is written of them. Only private contracts cite this.
use Rattle.std.specs.Prelude.{◌≡◌, ◌⊎◌, ℕ, ◌+◌, ◌<◌, List, ◌∷◌, ◌++◌, length, nat_lt, Bool, if◌then◌else◌, Option, Some, Err}
use Rattle.std.specs.Io.BufRead.{take_through, drop_through}
use Rattle.std.specs.Str.Lines.{lines}
use Rattle.std.specs.Io.KnownBytes.{Appends}
use Rattle.script.specs.Scripts.{Script, read_line}
use Rattle.script.specs.declared.fault.ScriptFault.TheVariants.{NoStatement}
use Rattle.simulator.specs.Runs.{Run, lines_told}
use Rattle.simulator.specs.Statuses.{fault_from}
use Rattle.simulator.specs.declared.fault.Fault.{Fault}
use Rattle.simulator.specs.declared.fault.Fault.TheVariants.{Line, Memory, Read}

-- the first line of the bytes was read, with its line feed, unless no byte was left
pub record IsRead (bytes line : List ℕ) (now : Option (List ℕ)) (there : Bool) : Type 0 where
  pub first : line ≡ take_through 10 bytes
  pub rest : now ≡ Some (drop_through 10 bytes)
  pub more : there ≡ nat_lt 0 (length line)

-- what was read of the first line of the bytes, and what stands after that; the line feed is among it, or it goes on
pub record IsPart (bytes part rest : List ℕ) (whole : Bool) : Type 0 where
  pub taken : take_through 10 bytes ≡ (if whole then part else part ++ take_through 10 rest)
  pub dropped : drop_through 10 bytes ≡ (if whole then rest else drop_through 10 rest)

-- what was read of the first line of the bytes was added to a line
pub record IsPartTaken (bytes line line_now : List ℕ) (now : Option (List ℕ)) (whole : Bool) : Type 0 where
  pub part : List ℕ
  pub rest : List ℕ
  pub added : line_now ≡ line ++ part
  pub known : now ≡ Some rest
  pub is : IsPart bytes part rest whole

-- a line of which a part was read: its bytes are that part, and what the rest begins with
pub record IsBegun (bytes line : List ℕ) (now : Option (List ℕ)) : Type 0 where
  pub rest : List ℕ
  pub known : now ≡ Some rest
  pub taken : take_through 10 bytes ≡ line ++ take_through 10 rest
  pub dropped : drop_through 10 bytes ≡ drop_through 10 rest

-- a fault of memory or of reading, or that of the line of this number
abbrev pub IsFaultAt : ℕ → Fault → Type 0
IsFaultAt number fault = (fault ≡ Memory) ⊎ (fault ≡ Read) ⊎ (fault ≡ Line number)

-- the first line of the bytes is none of the language, whatever stands before it
pub record BeginsWithNone (bytes : List ℕ) : Type 0 where
  pub line : List ℕ
  pub others : List (List ℕ)
  pub first : lines bytes ≡ line ∷ others
  pub none : (script : Script) → read_line script line ≡ Err NoStatement

-- so many bytes were written of a report, and the others are left
pub record IsFlushed (contents contents_now : Option (List ℕ)) (report report_now : List ℕ) : Type 0 where
  pub written : List ℕ
  pub appended : Appends contents contents_now written
  pub all : written ++ report_now ≡ report

module _ {A : Type 0} where
  -- what a run still writes of these lines
  abbrev pub left_of : List ℕ → Run A → List ℕ
  left_of bytes run = (lines_told (lines bytes) run).text

  -- As far as the first fault goes, these bytes, from a line and a run on, are the same as those. What is written and reported,
  -- and what the rest brings, is what the whole brings.
  pub record IsPlayed (bytes : List ℕ) (number : ℕ) (run : Run A) (contents : Option (List ℕ)) (report : List ℕ) (now : Option (List ℕ)) (later : ℕ) (run_now : Run A) (contents_now : Option (List ℕ)) (report_now : List ℕ) : Type 0 where
    pub rest : List ℕ
    pub known : now ≡ Some rest
    pub same : fault_from (lines bytes) number run.script ≡ fault_from (lines rest) later run_now.script
    pub told : IsFlushed contents contents_now (report ++ left_of bytes run) (report_now ++ left_of rest run_now)

  -- if this is the first line of bytes, it has no fault, and what comes of it is reported
  pub record IsPlayedLine (line : List ℕ) (number : ℕ) (run : Run A) (report : List ℕ) (later : Run A) (report_now : List ℕ) : Type 0 where
    pub same : (bytes : List ℕ) → line ≡ take_through 10 bytes → 0 < length line → fault_from (lines bytes) number run.script ≡ fault_from (lines (drop_through 10 bytes)) (number + 1) later.script
    pub told : (bytes : List ℕ) → line ≡ take_through 10 bytes → 0 < length line → report ++ left_of bytes run ≡ report_now ++ left_of (drop_through 10 bytes) later

  -- if this is the first line of bytes, the fault is in it, and nothing comes of it
  pub record IsStopAt (line : List ℕ) (number : ℕ) (run : Run A) (report report_now : List ℕ) (fault : Fault) : Type 0 where
    pub here : (bytes : List ℕ) (told : ℕ) → line ≡ take_through 10 bytes → 0 < length line → fault ≡ Line told → fault_from (lines bytes) number run.script ≡ Some told
    pub told : (bytes : List ℕ) (told : ℕ) → line ≡ take_through 10 bytes → 0 < length line → fault ≡ Line told → report ++ left_of bytes run ≡ report_now
