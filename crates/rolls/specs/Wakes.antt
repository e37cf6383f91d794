-- What is to be done for the epochs of a service, by how far they have come.
use Rattle.std.specs.Prelude.{◌≡◌, refl, ℕ, ◌+◌, ◌*◌, ◌==◌, ◌&&◌, ◌||◌, not, Bool, true, false, Option, None, Some, min, nat_le, nat_lt, if◌then◌else◌}
use Rattle.std.specs.declared.time.Instant.{Instant}
use Rattle.ports.specs.declared.fault.Fault.{Fault}
use Rattle.ports.specs.declared.fault.Fault.TheVariants.{Memory}
use Rattle.rolls.specs.Rolls.{highest, no_load, has_reached, when_due}
use Rattle.rolls.specs.declared.progress.Progress.{Progress}
use Rattle.rolls.specs.declared.progress.Wake.{Wake}
use Rattle.rolls.specs.declared.progress.Wake.TheVariants.{Stop, Audited, Behind, Roll, Quiet, Look}
use Rattle.rolls.specs.declared.rolls.Due.{Due}
use Rattle.rolls.specs.declared.rolls.Due.TheVariants as due
use Rattle.rolls.specs.declared.rolls.RollLimits.{RollLimits}

abbrev pub next_epoch : ℕ → ℕ
next_epoch epoch = min (epoch + 1) highest

-- the wait until the next try to find a moment without an open session doubles, up to half a minute
abbrev pub next_retry : ℕ → ℕ
next_retry ms = min (min (ms * 2) highest) 30000

-- the epoch has as much as a limit, and no moment without an open session was looked for yet
abbrev pub is_newly_full : Progress → RollLimits → Bool
is_newly_full p limits = not p.has_tried && has_reached p.load limits 1

-- there is something to do at once
abbrev pub is_urgent : Progress → RollLimits → Bool
is_urgent p limits = p.is_stopping || p.has_audited || (p.is_asked && not p.is_auditing) || is_newly_full p limits

-- the next look comes after 2 ms until a node leads, after 10 ms at a limit, else after 100 ms
abbrev pub look_ms : Progress → RollLimits → ℕ
look_ms p limits = if not (p.led == p.epoch) then 2 else if has_reached p.load limits 1 then 10 else 100

-- what is to be done for an epoch that nobody asks to end, and whether it is time for the next try
abbrev pub by_due : Due → Bool → Wake
by_due due.Forced is_time = Roll
by_due due.Quiet is_time = if is_time then Quiet else Look
by_due due.No is_time = Look

-- What is to be done in an epoch of this age, if the last try was so long ago. Unless the service stops, an epoch ends only after
-- the audit of the one before.
abbrev pub wake_at : Progress → RollLimits → (age_ms tried_ms : ℕ) → Wake
wake_at p limits age_ms tried_ms =
    if p.is_stopping then Stop
    else if p.has_audited then Audited
    else if p.is_auditing then (if has_reached p.load limits 1 then Behind else Look)
    else if p.is_asked then Roll
    else by_due (when_due p.load limits age_ms) (nat_le p.retry_ms tried_ms)

-- what is noted of it: the verdict that is reported, or the try, and when it was
abbrev pub after_wake : Wake → Option Instant → Progress → Progress
after_wake Audited tried p = record p { has_audited = false }
after_wake Quiet tried p = record p { has_tried = true; tried = tried; retry_ms = next_retry p.retry_ms }
after_wake _ tried p = p

-- operators ask for the end of this epoch, and a majority isn't wanting
abbrev pub may_refuse : Progress → Bool
may_refuse p = p.is_asked && not p.is_required

abbrev pub after_refusal : Fault → Progress → Progress
after_refusal fault p = record p { is_asked = false; refusals = min (p.refusals + 1) highest; refusal = Some fault; refused = p.epoch }

-- the end of this epoch was refused since there were so many refusals
abbrev pub has_refused : Progress → (epoch refusals : ℕ) → Bool
has_refused p epoch refusals = (p.refused == epoch) && nat_lt refusals p.refusals

abbrev pub before_all : Progress
before_all = record {
  epoch = 0;
  led = 0;
  joined = 0;
  began = None;
  load = no_load;
  has_tried = false;
  tried = None;
  retry_ms = 0;
  is_asked = false;
  is_required = false;
  refusals = 0;
  refusal = None;
  refused = 0;
  is_auditing = false;
  has_audited = false;
  is_stopping = false;
  has_ended = false;
}

module _ where
  abbrev limits : RollLimits
  limits = record { sessions = 10; bytes = 0 }

  -- the third epoch has ten sessions
  abbrev full : Progress
  full = record {
    epoch = 3;
    led = 3;
    joined = 1;
    began = None;
    load = record { sessions = 10; bytes = 0 };
    has_tried = false;
    tried = None;
    retry_ms = 10;
    is_asked = false;
    is_required = false;
    refusals = 0;
    refusal = None;
    refused = 0;
    is_auditing = false;
    has_audited = false;
    is_stopping = false;
    has_ended = false;
  }

  -- it is to end at once if no session is open
  at_once : is_urgent full limits ≡ true
  at_once = refl

  first_try : wake_at full limits 500 18446744073709551615 ≡ Quiet
  first_try = refl

  -- a session was open: after 20 ms it is looked for again, then after 40 ms
  abbrev tried : Progress
  tried = record full { has_tried = true; retry_ms = next_retry full.retry_ms }

  not_again : is_urgent tried limits ≡ false
  not_again = refl

  soon : wake_at tried limits 500 19 ≡ Look
  soon = refl

  second_try : wake_at tried limits 500 20 ≡ Quiet
  second_try = refl

  twice : next_retry tried.retry_ms ≡ 40
  twice = refl

  most : next_retry 16000 ≡ 30000
  most = refl

  -- an operator's roll waits for the audit
  asked_early : wake_at (record full { load = no_load; is_asked = true; is_auditing = true }) limits 500 0 ≡ Look
  asked_early = refl

  asked : wake_at (record full { load = no_load; is_asked = true }) limits 500 0 ≡ Roll
  asked = refl

  -- sessions come faster than they are audited
  behind : wake_at (record full { is_auditing = true }) limits 500 0 ≡ Behind
  behind = refl

  -- an operator's roll may be refused, but not one that want of a majority asks for too
  refused : may_refuse (record full { is_asked = true }) ≡ true
  refused = refl

  told : has_refused (after_refusal Memory full) 3 0 ≡ true
  told = refl

  of_another_epoch : has_refused (after_refusal Memory full) 2 0 ≡ false
  of_another_epoch = refl

  required : may_refuse (record full { is_asked = true; is_required = true }) ≡ false
  required = refl

  quick : look_ms (record full { led = 2 }) limits ≡ 2
  quick = refl
