use Rattle.std.proofs.Common.{◌≡◌, ◌++◌, ℕ, List, Result, Ok, Err, subst, sym, arith}
use Rattle.std.specs.Prelude.{OnOk}
use Rattle.records.specs.Readers.{Kept, HasRead, taken_in}
use Rattle.records.proofs.Readers.{piece_read}
use Rattle.records.proofs.reader.Reader.add.Goals as goal

if_ok : {V E : Type 0} (r : Result V E) (bytes : List ℕ) (given : List (List ℕ)) (k new : Kept) → OnOk r (new ≡ k) → HasRead bytes given k → OnOk r (HasRead bytes given new)
if_ok (Ok x) bytes given k new e h = subst (λ (y : Kept). HasRead bytes given y) (sym e) h
if_ok (Err x) bytes given k new e h = tt

pub returns-clause-read : goal.returns-clause-read
returns-clause-read g c = λ bytes given h.
    let k = c.args.self.now in
    if_ok c.take_in.result (bytes ++ c.args.piece.now) given (taken_in k.phase k.place k.bytes c.args.piece.now) c.take_in.new.self c.take_in.ensures.value (piece_read bytes given k c.args.piece.now (λ i. omega (arith, c.type_inv.piece i)) h)
