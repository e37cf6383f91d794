use Rattle.std.proofs.Common.{◌≡◌, ◌∙◌, ◌<◌, length, refl, sym, ap, subst, ⊎_elim, arith}
use Rattle.std.specs.Prelude.{slice_get}
use Rattle.node.specs.declared.log.NodeLog.{NodeLog}
use Rattle.audit.specs.Answered.{is_answered_by, is_turn}
use Rattle.audit.specs.Names.{named_from}
use Rattle.audit.specs.Nodes.{counts_of, is_plain}
use Rattle.audit.specs.Placings.{IsNext}
use Rattle.audit.specs.Replays.{brought, locks}
use Rattle.audit.proofs.Finding.{got, got_none}
use Rattle.audit.proofs.Nexts.{at_end, is_down, own_comes, last_comes, message_comes, message_waits, session_comes, session_waits, ticket_is, same_key, some_not_none}
use Rattle.audit.proofs.sources.next_source.Goals as goal

pub returns-in_err-input-clause-next : goal.returns-in_err-input-clause-next
returns-in_err-input-clause-next g c =
    let logs = c.args.logs.now in
    let ts = c.args.transcripts.now in
    let rs = c.args.placing.now.replays.items in
    let sent = c.args.placing.now.sent in
    let way = c.requires.placed.replayed in
    let n = c.args.node in
    let replay = c.index-replay.result.now in
    let log = c.index-logs-node.result in
    let within : n < length rs = omega (arith, c.requires.node, way.count) in
    let its = got rs rs n replay refl within c.index-replay.ensures in
    let of_it = got logs logs n log refl c.requires.node c.index-logs-node.is in
    let inputs : c.get.result.now ≡ log.inputs = c.get.ensures ∙ ap (λ (l : NodeLog g.row.A.Denot). l.inputs) (sym c.index-logs-node.is) in
    let none = ap (slice_get log.inputs) (sym c.placed-place.ensures) ∙ got_none c.get.result.now log.inputs c.placed-place.result inputs c.in_err-input.ensures.lookup.3 in
    subst (IsNext logs ts (counts_of rs) sent n) (sym c.from_residual.ensures) (at_end logs ts rs way n replay its log of_it none)

pub returns-then-not-runs-clause-next : goal.returns-then-not-runs-clause-next
returns-then-not-runs-clause-next g c =
    let logs = c.args.logs.now in
    let ts = c.args.transcripts.now in
    let rs = c.args.placing.now.replays.items in
    let sent = c.args.placing.now.sent in
    let way = c.requires.placed.replayed in
    let n = c.args.node in
    let replay = c.index-replay.result.now in
    let log = c.index-logs-node.result in
    let within : n < length rs = omega (arith, c.requires.node, way.count) in
    let its = got rs rs n replay refl within c.index-replay.ensures in
    let of_it = got logs logs n log refl c.requires.node c.index-logs-node.is in
    let inputs : c.get.result.now ≡ log.inputs = c.get.ensures ∙ ap (λ (l : NodeLog g.row.A.Denot). l.inputs) (sym c.index-logs-node.is) in
    let input = c.in_ok-input.input.now in
    let found = c.in_ok-input.ensures.lookup in
    let at = ap (slice_get log.inputs) (sym c.placed-place.ensures) ∙ got c.get.result.now log.inputs c.placed-place.result input inputs found.3.0 found.1 in
    is_down logs ts rs way n replay its log of_it input at (sym c.runs.ensures ∙ c.if-not-runs.true)

pub returns-in-Tick-clause-next : goal.returns-in-Tick-clause-next
returns-in-Tick-clause-next g c =
    let logs = c.args.logs.now in
    let ts = c.args.transcripts.now in
    let rs = c.args.placing.now.replays.items in
    let sent = c.args.placing.now.sent in
    let way = c.requires.placed.replayed in
    let n = c.args.node in
    let replay = c.index-replay.result.now in
    let log = c.index-logs-node.result in
    let within : n < length rs = omega (arith, c.requires.node, way.count) in
    let its = got rs rs n replay refl within c.index-replay.ensures in
    let of_it = got logs logs n log refl c.requires.node c.index-logs-node.is in
    let inputs : c.get.result.now ≡ log.inputs = c.get.ensures ∙ ap (λ (l : NodeLog g.row.A.Denot). l.inputs) (sym c.index-logs-node.is) in
    let input = c.in_ok-input.input.now in
    let found = c.in_ok-input.ensures.lookup in
    let at = ap (slice_get log.inputs) (sym c.placed-place.ensures) ∙ got c.get.result.now log.inputs c.placed-place.result input inputs found.3.0 found.1 in
    let up = sym c.runs.ensures ∙ c.if-not-runs.false in
    ⊎_elim
    (λ is. own_comes logs ts rs way n replay its log of_it sent input at up (ap brought is) (ap locks is) (ap is_plain is))
    (λ is. own_comes logs ts rs way n replay its log of_it sent input at up (ap brought is) (ap locks is) (ap is_plain is))
    c.in-Tick.is

pub returns-in-Tick-2-clause-next : goal.returns-in-Tick-2-clause-next
returns-in-Tick-2-clause-next g c =
    let logs = c.args.logs.now in
    let ts = c.args.transcripts.now in
    let rs = c.args.placing.now.replays.items in
    let sent = c.args.placing.now.sent in
    let way = c.requires.placed.replayed in
    let n = c.args.node in
    let replay = c.index-replay.result.now in
    let log = c.index-logs-node.result in
    let within : n < length rs = omega (arith, c.requires.node, way.count) in
    let its = got rs rs n replay refl within c.index-replay.ensures in
    let of_it = got logs logs n log refl c.requires.node c.index-logs-node.is in
    let inputs : c.get.result.now ≡ log.inputs = c.get.ensures ∙ ap (λ (l : NodeLog g.row.A.Denot). l.inputs) (sym c.index-logs-node.is) in
    let input = c.in_ok-input.input.now in
    let found = c.in_ok-input.ensures.lookup in
    let at = ap (slice_get log.inputs) (sym c.placed-place.ensures) ∙ got c.get.result.now log.inputs c.placed-place.result input inputs found.3.0 found.1 in
    let up = sym c.runs.ensures ∙ c.if-not-runs.false in
    ⊎_elim
    (λ is. own_comes logs ts rs way n replay its log of_it sent input at up (ap brought is) (ap locks is) (ap is_plain is))
    (λ is. own_comes logs ts rs way n replay its log of_it sent input at up (ap brought is) (ap locks is) (ap is_plain is))
    c.in-Tick.is

pub returns-in-Crash-clause-next : goal.returns-in-Crash-clause-next
returns-in-Crash-clause-next g c =
    let logs = c.args.logs.now in
    let ts = c.args.transcripts.now in
    let rs = c.args.placing.now.replays.items in
    let sent = c.args.placing.now.sent in
    let way = c.requires.placed.replayed in
    let n = c.args.node in
    let replay = c.index-replay.result.now in
    let log = c.index-logs-node.result in
    let within : n < length rs = omega (arith, c.requires.node, way.count) in
    let its = got rs rs n replay refl within c.index-replay.ensures in
    let of_it = got logs logs n log refl c.requires.node c.index-logs-node.is in
    let inputs : c.get.result.now ≡ log.inputs = c.get.ensures ∙ ap (λ (l : NodeLog g.row.A.Denot). l.inputs) (sym c.index-logs-node.is) in
    let input = c.in_ok-input.input.now in
    let found = c.in_ok-input.ensures.lookup in
    let at = ap (slice_get log.inputs) (sym c.placed-place.ensures) ∙ got c.get.result.now log.inputs c.placed-place.result input inputs found.3.0 found.1 in
    let up = sym c.runs.ensures ∙ c.if-not-runs.false in
    last_comes logs ts rs way n replay its log of_it sent input at up c.in-Crash.is

pub returns-in_err-number-in-Arrive-clause-next : goal.returns-in_err-number-in-Arrive-clause-next
returns-in_err-number-in-Arrive-clause-next g c =
    let logs = c.args.logs.now in
    let ts = c.args.transcripts.now in
    let rs = c.args.placing.now.replays.items in
    let sent = c.args.placing.now.sent in
    let way = c.requires.placed.replayed in
    let n = c.args.node in
    let replay = c.index-replay.result.now in
    let log = c.index-logs-node.result in
    let within : n < length rs = omega (arith, c.requires.node, way.count) in
    let its = got rs rs n replay refl within c.index-replay.ensures in
    let of_it = got logs logs n log refl c.requires.node c.index-logs-node.is in
    let inputs : c.get.result.now ≡ log.inputs = c.get.ensures ∙ ap (λ (l : NodeLog g.row.A.Denot). l.inputs) (sym c.index-logs-node.is) in
    let input = c.in_ok-input.input.now in
    let found = c.in_ok-input.ensures.lookup in
    let at = ap (slice_get log.inputs) (sym c.placed-place.ensures) ∙ got c.get.result.now log.inputs c.placed-place.result input inputs found.3.0 found.1 in
    let up = sym c.runs.ensures ∙ c.if-not-runs.false in
    subst (IsNext logs ts (counts_of rs) sent n) (sym c.from_residual-in_err-number-in-Arrive.ensures)
    (message_waits logs ts rs way n replay its log of_it sent input at up c.in-Arrive.envelope c.in-Arrive.is c.requires.placed.messages (sym c.in_err-number-in-Arrive.ensures.sent))

pub returns-in_ok-number-in-Arrive-clause-next : goal.returns-in_ok-number-in-Arrive-clause-next
returns-in_ok-number-in-Arrive-clause-next g c =
    let logs = c.args.logs.now in
    let ts = c.args.transcripts.now in
    let rs = c.args.placing.now.replays.items in
    let sent = c.args.placing.now.sent in
    let way = c.requires.placed.replayed in
    let n = c.args.node in
    let replay = c.index-replay.result.now in
    let log = c.index-logs-node.result in
    let within : n < length rs = omega (arith, c.requires.node, way.count) in
    let its = got rs rs n replay refl within c.index-replay.ensures in
    let of_it = got logs logs n log refl c.requires.node c.index-logs-node.is in
    let inputs : c.get.result.now ≡ log.inputs = c.get.ensures ∙ ap (λ (l : NodeLog g.row.A.Denot). l.inputs) (sym c.index-logs-node.is) in
    let input = c.in_ok-input.input.now in
    let found = c.in_ok-input.ensures.lookup in
    let at = ap (slice_get log.inputs) (sym c.placed-place.ensures) ∙ got c.get.result.now log.inputs c.placed-place.result input inputs found.3.0 found.1 in
    let up = sym c.runs.ensures ∙ c.if-not-runs.false in
    message_comes logs ts rs way n replay its log of_it sent input at up c.in-Arrive.envelope c.in-Arrive.is c.requires.placed.messages c.in_ok-number-in-Arrive.number c.in_ok-number-in-Arrive.ensures.number (sym c.in_ok-number-in-Arrive.ensures.sent)

pub returns-then-not-is_of_lock-clause-next : goal.returns-then-not-is_of_lock-clause-next
returns-then-not-is_of_lock-clause-next g c =
    let logs = c.args.logs.now in
    let ts = c.args.transcripts.now in
    let rs = c.args.placing.now.replays.items in
    let sent = c.args.placing.now.sent in
    let way = c.requires.placed.replayed in
    let n = c.args.node in
    let replay = c.index-replay.result.now in
    let log = c.index-logs-node.result in
    let within : n < length rs = omega (arith, c.requires.node, way.count) in
    let its = got rs rs n replay refl within c.index-replay.ensures in
    let of_it = got logs logs n log refl c.requires.node c.index-logs-node.is in
    let inputs : c.get.result.now ≡ log.inputs = c.get.ensures ∙ ap (λ (l : NodeLog g.row.A.Denot). l.inputs) (sym c.index-logs-node.is) in
    let input = c.in_ok-input.input.now in
    let found = c.in_ok-input.ensures.lookup in
    let at = ap (slice_get log.inputs) (sym c.placed-place.ensures) ∙ got c.get.result.now log.inputs c.placed-place.result input inputs found.3.0 found.1 in
    let up = sym c.runs.ensures ∙ c.if-not-runs.false in
    let is = c.in-Submit.is in
    own_comes logs ts rs way n replay its log of_it sent input at up (ap brought is) (ap locks is ∙ sym c.is_of_lock.ensures ∙ c.if-not-is_of_lock.true) (ap is_plain is)

pub index-requires-in-Submit : goal.index-requires-in-Submit
index-requires-in-Submit g c =
    let logs = c.args.logs.now in
    let ts = c.args.transcripts.now in
    let rs = c.args.placing.now.replays.items in
    let sent = c.args.placing.now.sent in
    let way = c.requires.placed.replayed in
    let n = c.args.node in
    let replay = c.index-replay.result.now in
    let log = c.index-logs-node.result in
    let within : n < length rs = omega (arith, c.requires.node, way.count) in
    let its = got rs rs n replay refl within c.index-replay.ensures in
    let of_it = got logs logs n log refl c.requires.node c.index-logs-node.is in
    let inputs : c.get.result.now ≡ log.inputs = c.get.ensures ∙ ap (λ (l : NodeLog g.row.A.Denot). l.inputs) (sym c.index-logs-node.is) in
    let input = c.in_ok-input.input.now in
    let found = c.in_ok-input.ensures.lookup in
    let at = ap (slice_get log.inputs) (sym c.placed-place.ensures) ∙ got c.get.result.now log.inputs c.placed-place.result input inputs found.3.0 found.1 in
    let user = c.in-Submit.user in
    let op = c.in-Submit.op in
    let is = c.in-Submit.is in
    let own = c.index.result.now in
    let all = c.requires.found.numbers in
    let numbers = c.args.findings.now.numbers.items in
    let own_within : n < length numbers = omega (arith, c.requires.node, all.count) in
    let own_is = got numbers numbers n own refl own_within c.index.ensures in
    let place_within : c.placed-place.result < length log.inputs = omega (arith, found.3.0, ap length inputs) in
    omega (arith, place_within, (all.each n log own of_it own_is).count, own.tickets.ok.0)

pub returns-in_err-ticket-in-Submit-clause-next : goal.returns-in_err-ticket-in-Submit-clause-next
returns-in_err-ticket-in-Submit-clause-next g c =
    let logs = c.args.logs.now in
    let ts = c.args.transcripts.now in
    let rs = c.args.placing.now.replays.items in
    let sent = c.args.placing.now.sent in
    let way = c.requires.placed.replayed in
    let n = c.args.node in
    let replay = c.index-replay.result.now in
    let log = c.index-logs-node.result in
    let within : n < length rs = omega (arith, c.requires.node, way.count) in
    let its = got rs rs n replay refl within c.index-replay.ensures in
    let of_it = got logs logs n log refl c.requires.node c.index-logs-node.is in
    let inputs : c.get.result.now ≡ log.inputs = c.get.ensures ∙ ap (λ (l : NodeLog g.row.A.Denot). l.inputs) (sym c.index-logs-node.is) in
    let input = c.in_ok-input.input.now in
    let found = c.in_ok-input.ensures.lookup in
    let at = ap (slice_get log.inputs) (sym c.placed-place.ensures) ∙ got c.get.result.now log.inputs c.placed-place.result input inputs found.3.0 found.1 in
    let up = sym c.runs.ensures ∙ c.if-not-runs.false in
    let user = c.in-Submit.user in
    let op = c.in-Submit.op in
    let is = c.in-Submit.is in
    let own = c.index.result.now in
    let all = c.requires.found.numbers in
    let numbers = c.args.findings.now.numbers.items in
    let own_within : n < length numbers = omega (arith, c.requires.node, all.count) in
    let own_is = got numbers numbers n own refl own_within c.index.ensures in
    let place_within : c.placed-place.result < length log.inputs = omega (arith, found.3.0, ap length inputs) in
    let tickets_within : c.placed-place.result < length own.tickets.items = omega (arith, place_within, (all.each n log own of_it own_is).count) in
    let ticket = c.index-in-Submit.result.now in
    let ticket_found = ap (slice_get own.tickets.items) (sym c.placed-place.ensures) ∙ got own.tickets.items own.tickets.items c.placed-place.result ticket refl tickets_within c.index-in-Submit.ensures in
    let t = ticket_is logs ts rs way n replay its log of_it sent input at up user op is numbers own ticket all own_is ticket_found in
    absurd (some_not_none _ (sym t.0 ∙ c.in_err-ticket-in-Submit.was))

pub returns-in_err-session-in-Submit-clause-next : goal.returns-in_err-session-in-Submit-clause-next
returns-in_err-session-in-Submit-clause-next g c =
    let logs = c.args.logs.now in
    let ts = c.args.transcripts.now in
    let rs = c.args.placing.now.replays.items in
    let sent = c.args.placing.now.sent in
    let way = c.requires.placed.replayed in
    let n = c.args.node in
    let replay = c.index-replay.result.now in
    let log = c.index-logs-node.result in
    let within : n < length rs = omega (arith, c.requires.node, way.count) in
    let its = got rs rs n replay refl within c.index-replay.ensures in
    let of_it = got logs logs n log refl c.requires.node c.index-logs-node.is in
    let inputs : c.get.result.now ≡ log.inputs = c.get.ensures ∙ ap (λ (l : NodeLog g.row.A.Denot). l.inputs) (sym c.index-logs-node.is) in
    let input = c.in_ok-input.input.now in
    let found = c.in_ok-input.ensures.lookup in
    let at = ap (slice_get log.inputs) (sym c.placed-place.ensures) ∙ got c.get.result.now log.inputs c.placed-place.result input inputs found.3.0 found.1 in
    let up = sym c.runs.ensures ∙ c.if-not-runs.false in
    let user = c.in-Submit.user in
    let op = c.in-Submit.op in
    let is = c.in-Submit.is in
    let own = c.index.result.now in
    let all = c.requires.found.numbers in
    let numbers = c.args.findings.now.numbers.items in
    let own_within : n < length numbers = omega (arith, c.requires.node, all.count) in
    let own_is = got numbers numbers n own refl own_within c.index.ensures in
    let place_within : c.placed-place.result < length log.inputs = omega (arith, found.3.0, ap length inputs) in
    let tickets_within : c.placed-place.result < length own.tickets.items = omega (arith, place_within, (all.each n log own of_it own_is).count) in
    let ticket = c.index-in-Submit.result.now in
    let ticket_found = ap (slice_get own.tickets.items) (sym c.placed-place.ensures) ∙ got own.tickets.items own.tickets.items c.placed-place.result ticket refl tickets_within c.index-in-Submit.ensures in
    let t = ticket_is logs ts rs way n replay its log of_it sent input at up user op is numbers own ticket all own_is ticket_found in
    let key = t.1 ∙ same_key user _ c.in_ok-ticket-in-Submit.ticket c.new-id.result (sym t.0 ∙ c.in_ok-ticket-in-Submit.was) c.new-id.ensures in
    let asks = sym c.is_of_lock.ensures ∙ c.if-not-is_of_lock.false in
    subst (IsNext logs ts (counts_of rs) sent n) (sym c.from_residual-in_err-session-in-Submit.ensures)
    (session_waits logs ts rs way n replay its log of_it sent input at up user op is asks c.new-id.result key
    (ap (λ xs. is_turn (is_answered_by logs xs) ts (named_from c.new-id.result 0 ts)) (sym c.deref.ensures.value) ∙ sym c.in_err-session-in-Submit.ensures.turn))

pub returns-in_ok-session-in-Submit-clause-next : goal.returns-in_ok-session-in-Submit-clause-next
returns-in_ok-session-in-Submit-clause-next g c =
    let logs = c.args.logs.now in
    let ts = c.args.transcripts.now in
    let rs = c.args.placing.now.replays.items in
    let sent = c.args.placing.now.sent in
    let way = c.requires.placed.replayed in
    let n = c.args.node in
    let replay = c.index-replay.result.now in
    let log = c.index-logs-node.result in
    let within : n < length rs = omega (arith, c.requires.node, way.count) in
    let its = got rs rs n replay refl within c.index-replay.ensures in
    let of_it = got logs logs n log refl c.requires.node c.index-logs-node.is in
    let inputs : c.get.result.now ≡ log.inputs = c.get.ensures ∙ ap (λ (l : NodeLog g.row.A.Denot). l.inputs) (sym c.index-logs-node.is) in
    let input = c.in_ok-input.input.now in
    let found = c.in_ok-input.ensures.lookup in
    let at = ap (slice_get log.inputs) (sym c.placed-place.ensures) ∙ got c.get.result.now log.inputs c.placed-place.result input inputs found.3.0 found.1 in
    let up = sym c.runs.ensures ∙ c.if-not-runs.false in
    let user = c.in-Submit.user in
    let op = c.in-Submit.op in
    let is = c.in-Submit.is in
    let own = c.index.result.now in
    let all = c.requires.found.numbers in
    let numbers = c.args.findings.now.numbers.items in
    let own_within : n < length numbers = omega (arith, c.requires.node, all.count) in
    let own_is = got numbers numbers n own refl own_within c.index.ensures in
    let place_within : c.placed-place.result < length log.inputs = omega (arith, found.3.0, ap length inputs) in
    let tickets_within : c.placed-place.result < length own.tickets.items = omega (arith, place_within, (all.each n log own of_it own_is).count) in
    let ticket = c.index-in-Submit.result.now in
    let ticket_found = ap (slice_get own.tickets.items) (sym c.placed-place.ensures) ∙ got own.tickets.items own.tickets.items c.placed-place.result ticket refl tickets_within c.index-in-Submit.ensures in
    let t = ticket_is logs ts rs way n replay its log of_it sent input at up user op is numbers own ticket all own_is ticket_found in
    let key = t.1 ∙ same_key user _ c.in_ok-ticket-in-Submit.ticket c.new-id.result (sym t.0 ∙ c.in_ok-ticket-in-Submit.was) c.new-id.ensures in
    let asks = sym c.is_of_lock.ensures ∙ c.if-not-is_of_lock.false in
    let asked_by = c.in_ok-session-in-Submit.ensures.session in
    session_comes logs ts rs way n replay its log of_it sent input at up user op is asks c.new-id.result key c.in_ok-session-in-Submit.session asked_by.0 asked_by.1
    (ap (λ xs. is_turn (is_answered_by logs xs) ts (named_from c.new-id.result 0 ts)) (sym c.deref.ensures.value) ∙ sym c.in_ok-session-in-Submit.ensures.turn)
