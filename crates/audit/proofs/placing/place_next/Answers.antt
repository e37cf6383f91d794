use Rattle.std.proofs.Common.{◌≡◌, ◌∙◌, ◌<◌, length, refl, sym, ap, subst, arith}
use Rattle.std.specs.Prelude.{slice_get}
use Rattle.std.proofs.lemmas.Option.{slice_get_within}
use Rattle.node.specs.declared.log.NodeLog.{NodeLog}
use Rattle.audit.specs.Placings.{HasTaken}
use Rattle.audit.proofs.Finding.{got}
use Rattle.audit.proofs.Nexts.{same_of}
use Rattle.audit.proofs.Stepping.{it_runs, it_is_there, placed_then, answered_then, one_more_placed}
use Rattle.audit.proofs.placing.place_next.Goals as goal

pub offset_bounds-get-placed : goal.offset_bounds-get-placed
offset_bounds-get-placed g c =
    let logs = c.args.logs.now in
    let ts = c.args.transcripts.now in
    let old = c.args.placing.now in
    let rs = old.replays.items in
    let way = c.requires.placed.replayed in
    let n = c.args.node in
    let come = c.in-Some.ensures.next in
    let replay = c.index.result.now in
    let log = c.index-logs-node.result in
    let within : n < length rs = omega (arith, c.requires.node, way.count) in
    let its = got rs rs n replay refl within c.index.ensures in
    let of_it = got logs logs n log refl c.requires.node c.index-logs-node.is in
    let inputs : c.get.result.now ≡ log.inputs = c.get.ensures ∙ ap (λ (l : NodeLog g.row.A.Denot). l.inputs) (sym c.index-logs-node.is) in
    let there = it_is_there logs ts rs way old.sent n c.in-Some.source come replay log its of_it in
    let below : replay.placed < length log.inputs = slice_get_within log.inputs replay.placed come.input there in
    omega (arith, below, c.placed.ensures, ap length inputs)

pub bounds-get-placed : goal.bounds-get-placed
bounds-get-placed g c =
    let logs = c.args.logs.now in
    let ts = c.args.transcripts.now in
    let old = c.args.placing.now in
    let rs = old.replays.items in
    let way = c.requires.placed.replayed in
    let n = c.args.node in
    let come = c.in-Some.ensures.next in
    let replay = c.index.result.now in
    let log = c.index-logs-node.result in
    let within : n < length rs = omega (arith, c.requires.node, way.count) in
    let its = got rs rs n replay refl within c.index.ensures in
    let of_it = got logs logs n log refl c.requires.node c.index-logs-node.is in
    let inputs : c.get.result.now ≡ log.inputs = c.get.ensures ∙ ap (λ (l : NodeLog g.row.A.Denot). l.inputs) (sym c.index-logs-node.is) in
    let there = it_is_there logs ts rs way old.sent n c.in-Some.source come replay log its of_it in
    let below : replay.placed < length log.inputs = slice_get_within log.inputs replay.placed come.input there in
    omega (arith, below, c.placed.ensures, ap length inputs)

pub place-requires-clause-runs : goal.place-requires-clause-runs
place-requires-clause-runs g c =
    let logs = c.args.logs.now in
    let ts = c.args.transcripts.now in
    let old = c.args.placing.now in
    let rs = old.replays.items in
    let way = c.requires.placed.replayed in
    let n = c.args.node in
    let come = c.in-Some.ensures.next in
    it_runs logs ts rs way old.sent n c.in-Some.source come

pub returns-clause-placed : goal.returns-clause-placed
returns-clause-placed g c =
    let logs = c.args.logs.now in
    let ts = c.args.transcripts.now in
    let old = c.args.placing.now in
    let rs = old.replays.items in
    let way = c.requires.placed.replayed in
    let n = c.args.node in
    let come = c.in-Some.ensures.next in
    let replay = c.index.result.now in
    let log = c.index-logs-node.result in
    let within : n < length rs = omega (arith, c.requires.node, way.count) in
    let its = got rs rs n replay refl within c.index.ensures in
    let of_it = got logs logs n log refl c.requires.node c.index-logs-node.is in
    let inputs : c.get.result.now ≡ log.inputs = c.get.ensures ∙ ap (λ (l : NodeLog g.row.A.Denot). l.inputs) (sym c.index-logs-node.is) in
    let there = it_is_there logs ts rs way old.sent n c.in-Some.source come replay log its of_it in
    let below : replay.placed < length log.inputs = slice_get_within log.inputs replay.placed come.input there in
    let below_items : c.placed.result < length c.get.result.now = omega (arith, below, c.placed.ensures, ap length inputs) in
    let input = c.index-get-placed.result in
    let at = ap (slice_get log.inputs) (sym c.placed.ensures) ∙ got c.get.result.now log.inputs c.placed.result input inputs below_items c.index-get-placed.is in
    let new = c.place.new.placing in
    let taken = subst (λ x. HasTaken old new n x c.in-Some.source) (same_of input come.input (sym at ∙ there)) c.in_ok-place.ensures in
    placed_then logs ts old new n c.in-Some.source c.requires.placed come taken

pub returns-clause-answered : goal.returns-clause-answered
returns-clause-answered g c =
    let logs = c.args.logs.now in
    let ts = c.args.transcripts.now in
    let old = c.args.placing.now in
    let rs = old.replays.items in
    let way = c.requires.placed.replayed in
    let n = c.args.node in
    let come = c.in-Some.ensures.next in
    let replay = c.index.result.now in
    let log = c.index-logs-node.result in
    let within : n < length rs = omega (arith, c.requires.node, way.count) in
    let its = got rs rs n replay refl within c.index.ensures in
    let of_it = got logs logs n log refl c.requires.node c.index-logs-node.is in
    let inputs : c.get.result.now ≡ log.inputs = c.get.ensures ∙ ap (λ (l : NodeLog g.row.A.Denot). l.inputs) (sym c.index-logs-node.is) in
    let there = it_is_there logs ts rs way old.sent n c.in-Some.source come replay log its of_it in
    let below : replay.placed < length log.inputs = slice_get_within log.inputs replay.placed come.input there in
    let below_items : c.placed.result < length c.get.result.now = omega (arith, below, c.placed.ensures, ap length inputs) in
    let input = c.index-get-placed.result in
    let at = ap (slice_get log.inputs) (sym c.placed.ensures) ∙ got c.get.result.now log.inputs c.placed.result input inputs below_items c.index-get-placed.is in
    let new = c.place.new.placing in
    let taken = subst (λ x. HasTaken old new n x c.in-Some.source) (same_of input come.input (sym at ∙ there)) c.in_ok-place.ensures in
    answered_then logs ts old new n c.in-Some.source c.requires.placed come taken c.next_source.new.answered.items c.next_source.ensures.answered

pub returns-clause-moved : goal.returns-clause-moved
returns-clause-moved g c =
    let logs = c.args.logs.now in
    let ts = c.args.transcripts.now in
    let old = c.args.placing.now in
    let rs = old.replays.items in
    let way = c.requires.placed.replayed in
    let n = c.args.node in
    let come = c.in-Some.ensures.next in
    let replay = c.index.result.now in
    let log = c.index-logs-node.result in
    let within : n < length rs = omega (arith, c.requires.node, way.count) in
    let its = got rs rs n replay refl within c.index.ensures in
    let of_it = got logs logs n log refl c.requires.node c.index-logs-node.is in
    let inputs : c.get.result.now ≡ log.inputs = c.get.ensures ∙ ap (λ (l : NodeLog g.row.A.Denot). l.inputs) (sym c.index-logs-node.is) in
    let there = it_is_there logs ts rs way old.sent n c.in-Some.source come replay log its of_it in
    let below : replay.placed < length log.inputs = slice_get_within log.inputs replay.placed come.input there in
    let below_items : c.placed.result < length c.get.result.now = omega (arith, below, c.placed.ensures, ap length inputs) in
    let input = c.index-get-placed.result in
    let at = ap (slice_get log.inputs) (sym c.placed.ensures) ∙ got c.get.result.now log.inputs c.placed.result input inputs below_items c.index-get-placed.is in
    let new = c.place.new.placing in
    let taken = subst (λ x. HasTaken old new n x c.in-Some.source) (same_of input come.input (sym at ∙ there)) c.in_ok-place.ensures in
    one_more_placed logs ts old new n c.in-Some.source c.requires.placed come taken
