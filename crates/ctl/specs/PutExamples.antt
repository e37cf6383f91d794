-- Worked examples of what becomes of a message.
use Rattle.std.specs.Prelude.{◌≡◌, refl, codes, None, Some, Ok, Err}
use Rattle.ctl.specs.Outcomes.{outcome_of}
use Rattle.ctl.specs.Puts as puts
use Rattle.ctl.specs.declared.answer.Ending.TheVariants.{Broken, Refused, Done}
use Rattle.ctl.specs.declared.put.PutOutcome.TheVariants.{Stored, NoSuchUser, TooLarge, Later}
use Rattle.ports.specs.declared.fault.Fault.TheVariants as fault

stored : outcome_of (codes "op alice 1/2 stored 7") ≡ Some Stored
stored = refl

full : outcome_of (codes "op stored 1/2 full") ≡ Some Later
full = refl

too_large : outcome_of (codes "op alice 1/2 too large") ≡ Some TooLarge
too_large = refl

unknown : outcome_of (codes "op zoe 1/2 no such user") ≡ Some NoSuchUser
unknown = refl

-- a line that ends an answer reports nothing of a message
ended : outcome_of (codes "end") ≡ None
ended = refl

status_of_stored : puts.status_by Done (Some Stored) ≡ Ok 0
status_of_stored = refl

status_of_full : puts.status_by Done (Some Later) ≡ Ok 75
status_of_full = refl

status_of_unknown : puts.status_by Done (Some NoSuchUser) ≡ Ok 67
status_of_unknown = refl

status_of_too_large : puts.status_by Done (Some TooLarge) ≡ Ok 65
status_of_too_large = refl

-- the node is down
status_of_down : puts.status_by Refused None ≡ Ok 75
status_of_down = refl

-- the answer breaks off after the line that reports the message as stored
broken_off : puts.status_by Broken (Some Stored) ≡ Err fault.Read
broken_off = refl

status_of_words : puts.status_at fault.Value ≡ 64
status_of_words = refl

status_of_no_service : puts.status_at (fault.Reach 11999) ≡ 75
status_of_no_service = refl

-- a key is taken as it is
key_kept : puts.key_of (codes "monday-7") ≡ codes "monday-7"
key_kept = refl
