-- Worked examples of what is reported about a run.
use Rattle.std.specs.Prelude.{◌≡◌, refl, [], ◌∷◌}
use Rattle.service.specs.Transcripts.{numbered}
use Rattle.service.specs.Verdicts.{status_of}
use Rattle.service.specs.declared.verdict.Verdict.TheVariants.{Legal, WrongAnswer, Memory}

all_in_order : status_of Legal ≡ 0
all_in_order = refl

no_memory : status_of Memory ≡ 1
no_memory = refl

-- the third session of those that asked something was the eighth of all
eighth : numbered (0 ∷ 4 ∷ 7 ∷ []) (WrongAnswer 2) ≡ WrongAnswer 7
eighth = refl

in_order : numbered (0 ∷ 4 ∷ 7 ∷ []) Legal ≡ Legal
in_order = refl
