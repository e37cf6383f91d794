use Rattle.std.proofs.Common.{◌≡◌, true, length, drop}
use Rattle.std.specs.Prelude.{◌&&◌}
use Rattle.std.specs.Str.{bytes_eq}
use Rattle.apop.proofs.constant_time.same_bytes.Given as goal

-- what is left decides, unless a place or the lengths have
abbrev pub invariant-loop-place : goal.invariant-loop-place
invariant-loop-place l = record {
  decides : (l.is_same && bytes_eq (drop l.place l.own) (drop l.place l.given)) ≡ bytes_eq l.own l.given;
  lengths : l.is_same ≡ true → length l.own ≡ length l.given;
}
