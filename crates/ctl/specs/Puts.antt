-- The exit statuses of the delivery of one message, those of sysexits, and its key.
use Rattle.std.specs.Prelude.{◌≡◌, ℕ, List, ◌⊎◌, Option, None, Some, Result, Ok, Err, if◌then◌else◌}
use Rattle.hex.specs.Hex.{encode_lower}
use Rattle.sha2.specs.Sha256.{sha256}
use Rattle.maildrop.specs.Key.{is_key}
use Rattle.ctl.specs.declared.answer.Answer.{Answer}
use Rattle.ctl.specs.declared.answer.Ending.{Ending}
use Rattle.ctl.specs.declared.answer.Ending.TheVariants.{Broken, Refused, Wrong, Done}
use Rattle.ctl.specs.declared.put.PutOutcome.{PutOutcome}
use Rattle.ctl.specs.declared.put.PutOutcome.TheVariants.{Stored, NoSuchUser, TooLarge, Later}
use Rattle.ports.specs.declared.fault.Fault.{Fault}
use Rattle.ports.specs.declared.fault.Fault.TheVariants.{Value, Read}

-- the message may be sent again
abbrev pub later : ℕ
later = 75

abbrev pub status_of : PutOutcome → ℕ
status_of Stored = 0
status_of NoSuchUser = 67
status_of TooLarge = 65
status_of Later = later

-- after an answer that ends so and says this
abbrev pub status_by : Ending → Option PutOutcome → Result ℕ Fault
status_by Broken outcome = Err Read
status_by Refused outcome = Ok later
status_by Wrong outcome = Ok later
status_by Done None = Ok later
status_by Done (Some outcome) = Ok (status_of outcome)

abbrev pub status_after : Answer → Result ℕ Fault
status_after answer = status_by answer.ending answer.outcome

abbrev pub status_at : Fault → ℕ
status_at Value = 64
status_at fault = later

-- the exit statuses after an answer
abbrev pub IsStatus : ℕ → Type 0
IsStatus status = (status ≡ 0) ⊎ (status ≡ 65) ⊎ (status ≡ 67) ⊎ (status ≡ later)

-- all exit statuses
abbrev pub IsExit : ℕ → Type 0
IsExit status = (status ≡ 64) ⊎ IsStatus status

-- the key of a word: a word that is none is hashed
abbrev pub key_of : List ℕ → List ℕ
key_of word = if is_key word then word else encode_lower (sha256 word)
