-- Worked examples of the limits of operators' connections.
use Rattle.std.specs.Prelude.{◌≡◌, refl, true, false}
use Rattle.ports.specs.Budgets.{fits}
use Rattle.ports.specs.Deadlines.{left_ms}
use Rattle.ports.specs.Places.{has_place}
use Rattle.ports.specs.declared.operator_reader.Awaited.TheVariants.{Line, File}

-- the last place, and none
last_place : has_place 1007 ≡ true
last_place = refl

no_place : has_place 1008 ≡ false
no_place = refl

-- a line that is a second late
late_line : left_ms (Line 10000) 11000 8 ≡ 0
late_line = refl

-- a file that has come for 61 s: slowly, and fast enough
slow_file : left_ms File 61000 60500 ≡ 0
slow_file = refl

fast_file : left_ms File 61000 70000 ≡ 9000
fast_file = refl

-- however fast it comes, it doesn't pause for longer
long_pause : left_ms File 61000 9000000 ≡ 60000
long_pause = refl

beside : fits 700 1000 300 ≡ true
beside = refl

too_much : fits 700 1000 301 ≡ false
too_much = refl

-- a file that is larger than all may be comes alone
alone : fits 0 1000 5000 ≡ true
alone = refl
