use Rattle.std.proofs.Common.{◌≡◌, ◌++◌, ◌≤◌, ◌<◌, ◌^◌, length}
use Rattle.std.specs.List.{flat_map}
use Rattle.peer_frames.specs.Frames.{u64_bytes}
use Rattle.peer_frames.specs.Fitting.{FitAll}
use Rattle.peer_frames.proofs.content.Content.put_numbers.Given as goal

-- what is written, and what is still to be written
abbrev pub invariant-loop-uid : goal.invariant-loop-uid
invariant-loop-uid g l = record {
  written : l.self ++ flat_map u64_bytes l.rest ≡ l.fn.self ++ flat_map u64_bytes l.uids;
  fits : FitAll (λ uid. uid < 2 ^ 64) l.rest → FitAll (λ uid. uid < 2 ^ 64) l.uids;
  size : length (flat_map u64_bytes l.rest) ≤ length (flat_map u64_bytes l.uids);
}

abbrev pub decreases-loop-uid : goal.decreases-loop-uid
decreases-loop-uid g l = length l.rest
