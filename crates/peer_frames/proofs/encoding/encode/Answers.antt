use Rattle.std.proofs.Common.{◌≡◌}
use Rattle.peer_frames.specs.declared.version.Version.TheVariants.{Second}
use Rattle.peer_frames.specs.Frames.{frame}
use Rattle.peer_frames.proofs.Writing.{read_back, not_in_part}
use Rattle.peer_frames.proofs.encoding.encode.Goals as goal

pub returns-clause-read_back : goal.returns-clause-read_back
returns-clause-read_back g c =
    let is : c.append.new.frames.items ≡ frame Second c.args.envelope.now = rw c.new-bytes.ensures.items at c.in_ok-append.ensures.value in
    read_back c.args.envelope.now c.append.new.frames.items is c.in_ok-append.ensures.valid c.in_ok-append.ensures.fits

pub returns-clause-in_part : goal.returns-clause-in_part
returns-clause-in_part g c =
    let is : c.append.new.frames.items ≡ frame Second c.args.envelope.now = rw c.new-bytes.ensures.items at c.in_ok-append.ensures.value in
    not_in_part c.args.envelope.now c.append.new.frames.items is c.in_ok-append.ensures.valid c.in_ok-append.ensures.fits
