use Rattle.std.proofs.Common.{◌≡◌, ◌+◌, ◌≤◌, length, drop, Some, ap, sym, ◌∙◌, refl, arith}
use Rattle.records.specs.declared.place.TheConstants.{FRAME}
use Rattle.records.specs.Reading.{record_at}
use Rattle.records.specs.Files.{AreBytes}
use Rattle.records.proofs.Endings.{run_more, run_fits}
use Rattle.records.proofs.ends.records_end.Goals as goal

are_bytes : (c : goal.In-Some) → AreBytes c.args.bytes.now
are_bytes c i = omega (arith, c.type_inv.bytes i)

stands : (c : goal.In-Some) → record_at c.args.salt (c.args.at + c.loop-payload.end) (drop c.loop-payload.end c.args.bytes.now) ≡ Some (c.in-Some.payload.now, c.in-Some.field-0-1.now)
stands c = ap (record_at c.args.salt (c.args.at + c.loop-payload.end)) (sym c.split_at.ensures.back) ∙ sym c.in-Some.ensures

fits : (c : goal.In-Some) → c.loop-payload.end + (FRAME + length c.in-Some.payload.now) ≤ length c.args.bytes.now
fits c = run_fits c.args.salt c.args.at c.args.bytes.now c.loop-payload.end (c.args.at + c.loop-payload.end) c.in-Some.payload.now c.in-Some.field-0-1.now (are_bytes c) c.loop-payload.invariant.run c.loop-payload.invariant.within (stands c)

pub overflow_add-end-in-Some : goal.overflow_add-end-in-Some
overflow_add-end-in-Some c = omega (arith, fits c)

pub loop-payload-smaller : goal.loop-payload-smaller
loop-payload-smaller c = omega (arith, fits c)

pub loop-payload-preserved : goal.loop-payload-preserved
loop-payload-preserved c = record {
  within = fits c;
  run = run_more c.args.salt c.args.at c.args.bytes.now c.loop-payload.end (c.args.at + c.loop-payload.end) c.in-Some.payload.now c.in-Some.field-0-1.now (are_bytes c) c.loop-payload.invariant.run refl (stands c);
}
