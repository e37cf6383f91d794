use Rattle.std.proofs.Common.{◌≡◌, ◌++◌, ◌<◌, ◌^◌, length}
use Rattle.std.specs.List.{flat_map}
use Rattle.ledger.specs.Payloads.{u64_bytes}
use Rattle.ledger.specs.Fitting.{FitAll}
use Rattle.ledger.proofs.payload.Payload.put_numbers.Given as goal

-- what is written, and what is still to be written
abbrev pub invariant-loop-uid : goal.invariant-loop-uid
invariant-loop-uid g l = record {
  written : l.self ++ flat_map u64_bytes l.rest ≡ l.fn.self ++ flat_map u64_bytes l.uids;
  fits : FitAll (λ uid. uid < 2 ^ 64) l.rest → FitAll (λ uid. uid < 2 ^ 64) l.uids;
}

abbrev pub decreases-loop-uid : goal.decreases-loop-uid
decreases-loop-uid g l = length l.rest
