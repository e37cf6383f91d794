use Rattle.batches.proofs.Contents.{put_after}
use Rattle.batches.proofs.batch.put_whole.Goals as goal

pub returns-else-is_err-clause-ok : goal.returns-else-is_err-clause-ok
returns-else-is_err-clause-ok g c =
    put_after c.put_payload-written.result c.args.bytes.now.items c.make_room.new.bytes.items c.put_payload-written.new.content.items _ c.in_ok-make_room.ensures.room c.in_ok-make_room.ensures.content c.put_payload-written.ensures.ok
