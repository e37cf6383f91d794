use Rattle.std.proofs.Common.{◌≡◌, drop}
use Rattle.std.specs.List.{list_any}
use Rattle.audit.specs.Same.{same_envelope}
use Rattle.audit.proofs.sent.position_of.Given as goal

-- what is left decides
abbrev pub invariant-loop-place : goal.invariant-loop-place
invariant-loop-place g l = list_any (λ other. same_envelope other l.envelope) (drop l.place l.envelopes) ≡ list_any (λ other. same_envelope other l.envelope) l.envelopes
