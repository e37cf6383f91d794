use Rattle.std.proofs.Common.{◌++◌}
use Rattle.store.proofs.Loads.{piece_came}
use Rattle.store.proofs.loading.Loader.take_piece.Goals as goal

pub returns-clause-taken : goal.returns-clause-taken
returns-clause-taken c = λ bytes step.
    c.take_records.ensures.taken (bytes ++ c.args.piece.now) (piece_came bytes c.args.piece.now c.args.reader.now c.add.new.self c.args.self.now c.in_ok-add.ensures step)
