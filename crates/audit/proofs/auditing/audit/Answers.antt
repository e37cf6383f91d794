use Rattle.std.proofs.Common.{length, [], Some, None, sym, subst}
use Rattle.audit.specs.Audits.{IsWhole}
use Rattle.audit.specs.Left.{IsLeast}
use Rattle.audit.specs.Records.{case_of}
use Rattle.audit.specs.Written.{ArePlaced}
use Rattle.audit.proofs.Complete.{no_order}
use Rattle.audit.proofs.Judging.{is_whole, are_replayed, are_placed, is_stuck_at, whatever}
use Rattle.audit.proofs.RealLaws.{real_laws}
use Rattle.audit.proofs.RunOrders.{found_taken}
use Rattle.audit.proofs.auditing.audit.Goals as goal

pub returns-in-Some-clause-cause : goal.returns-in-Some-clause-cause
returns-in-Some-clause-cause g c =
    let logs = c.args.logs.now in
    let ts = c.args.transcripts.now in
    let placing = c.in_ok-placing.placing in
    let settled = c.in_ok-placing.ensures in
    let least = subst (λ rs. IsLeast logs rs (length logs) (Some c.in-Some.node)) c.deref.ensures.value c.in-Some.ensures in
    let stuck = is_stuck_at logs ts placing settled.placed c.in-Some.node settled least in
    stuck

pub returns-in-Some-clause-never : goal.returns-in-Some-clause-never
returns-in-Some-clause-never g c =
    let logs = c.args.logs.now in
    let ts = c.args.transcripts.now in
    let placing = c.in_ok-placing.placing in
    let settled = c.in_ok-placing.ensures in
    let least = subst (λ rs. IsLeast logs rs (length logs) (Some c.in-Some.node)) c.deref.ensures.value c.in-Some.ensures in
    let stuck = is_stuck_at logs ts placing settled.placed c.in-Some.node settled least in
    no_order (case_of logs ts) (real_laws logs ts) stuck.placed stuck.node stuck.stuck stuck.left

pub judge-requires-clause-whole : goal.judge-requires-clause-whole
judge-requires-clause-whole g c =
    let logs = c.args.logs.now in
    let ts = c.args.transcripts.now in
    let placing = c.in_ok-placing.placing in
    let settled = c.in_ok-placing.ensures in
    let none = subst (λ rs. IsLeast logs rs (length logs) None) c.deref.ensures.value c.in_default.ensures in
    is_whole logs ts placing settled.placed none

pub judge-requires-clause-placed : goal.judge-requires-clause-placed
judge-requires-clause-placed g c =
    let logs = c.args.logs.now in
    let ts = c.args.transcripts.now in
    let placing = c.in_ok-placing.placing in
    let settled = c.in_ok-placing.ensures in
    let none = subst (λ rs. IsLeast logs rs (length logs) None) c.deref.ensures.value c.in_default.ensures in
    subst (λ ps. ArePlaced (case_of logs ts) (λ n. 0) [] ps) (sym c.deref-2.ensures.value) (are_placed logs ts placing settled.placed none)

pub judge-requires-clause-replayed : goal.judge-requires-clause-replayed
judge-requires-clause-replayed g c =
    let logs = c.args.logs.now in
    let ts = c.args.transcripts.now in
    let placing = c.in_ok-placing.placing in
    let settled = c.in_ok-placing.ensures in
    let none = subst (λ rs. IsLeast logs rs (length logs) None) c.deref.ensures.value c.in_default.ensures in
    are_replayed logs ts placing settled.placed none

pub returns-clause-whole : goal.returns-clause-whole
returns-clause-whole g c =
    let logs = c.args.logs.now in
    let ts = c.args.transcripts.now in
    let placing = c.in_ok-placing.placing in
    let settled = c.in_ok-placing.ensures in
    let none = subst (λ rs. IsLeast logs rs (length logs) None) c.deref.ensures.value c.in_default.ensures in
    whatever c.judge.result (IsWhole (case_of logs ts)) (is_whole logs ts placing settled.placed none)

pub returns-clause-taken : goal.returns-clause-taken
returns-clause-taken g c = found_taken c.args.logs.now c.args.transcripts.now (λ events. events.items) c.judge.result c.judge.ensures.order
