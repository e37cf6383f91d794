use Rattle.std.proofs.Common.{◌≡◌, ◌++◌, ◌+◌, ◌≤◌, length, length-append, codes, decimal, rules, subst, arith}
use Rattle.script.specs.Keys.{IsKeyPrefix, numbered_key}
use Rattle.script.proofs.Keys.{numbered_is_key, numbered_short}
use Rattle.script.proofs.key_prefix.KeyPrefix.numbered.Goals as goal

pub unwrap-requires-3 : goal.unwrap-requires-3
unwrap-requires-3 c =
    let front : c.try_extend_from_slice-2.new.self.items ≡ c.args.self.now ++ codes "." = search rules in
    let digits : c.as_bytes.result.now ≡ decimal c.args.number = search rules in
    let short = numbered_short c.args.self.now c.args.number (subst IsKeyPrefix c.self.view_is c.self.invariant) c.requires in
    let fits : length (c.args.self.now ++ codes ".") + length (decimal c.args.number) ≤ 64 =
    omega (arith, short, length-append (c.args.self.now ++ codes ".") (decimal c.args.number)) in
    c.try_extend_from_slice-3.ensures.variant.1 (rw (front, digits) fits)

pub unwrap-requires-4 : goal.unwrap-requires-4
unwrap-requires-4 c =
    let whole : c.deref.result.now ≡ numbered_key c.args.self.now c.args.number = search rules in
    c.new.ensures.valid.1 (rw whole (numbered_is_key c.args.self.now c.args.number (subst IsKeyPrefix c.self.view_is c.self.invariant) c.requires))
