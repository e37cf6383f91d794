use Rattle.std.proofs.Common.{◌≡◌, ◌++◌, ◌≤◌, length}
use Rattle.std.specs.List.{flat_map}
use Rattle.peer_frames.specs.declared.version.Version.TheVariants.{Second}
use Rattle.peer_frames.specs.Frames.{pvalue_bytes}
use Rattle.peer_frames.specs.Fitting.{FitAll, FitsPValue}
use Rattle.peer_frames.proofs.content.Content.put_pvalues.Given as goal

-- what is written, and what is still to be written
abbrev pub invariant-loop-pvalue : goal.invariant-loop-pvalue
invariant-loop-pvalue g l = record {
  written : l.self ++ flat_map (pvalue_bytes Second) l.rest ≡ l.fn.self ++ flat_map (pvalue_bytes Second) l.pvalues;
  fits : FitAll (FitsPValue Second) l.rest → FitAll (FitsPValue Second) l.pvalues;
  size : length (flat_map (pvalue_bytes Second) l.rest) ≤ length (flat_map (pvalue_bytes Second) l.pvalues);
}

abbrev pub decreases-loop-pvalue : goal.decreases-loop-pvalue
decreases-loop-pvalue g l = length l.rest
