use Rattle.std.proofs.Common.{◌≡◌, ◌∙◌, ◌==◌, suc, length, refl, sym, ap, add-one, arith}
use Rattle.std.specs.Prelude.{slice_get}
use Rattle.audit.specs.Nodes.{Replayed, begun}
use Rattle.audit.specs.Records.{begun_at}
use Rattle.audit.proofs.Entries.{nothing, pushed_onto}
use Rattle.audit.proofs.Finding.{got}
use Rattle.audit.proofs.Numbering.{length_more}
use Rattle.audit.proofs.placing.replays_of.Goals as goal

pub loop-place-init : goal.loop-place-init
loop-place-init g c = record {
  count = ap length c.in_ok-replays.ensures.items;
  each = nothing (λ n (r : Replayed g.row.A.Denot). (r.state ≡ begun_at c.args.logs.now n (slice_get c.args.logs.now n)) × (r.placed ≡ 0)) c.in_ok-replays.replays.items c.in_ok-replays.ensures.items;
}

pub loop-place-preserved : goal.loop-place-preserved
loop-place-preserved g c =
    let logs = c.args.logs.now in
    let place = c.loop-place.place in
    let log = c.index-logs-place.result in
    let replay = c.in_ok-replay.replay in
    let its = got logs logs place log refl c.loop-place-test.true c.index-logs-place.is in
    record {
      count = ap length c.in_ok-push.ensures.items ∙ length_more c.loop-place.replays.items replay ∙ ap suc c.loop-place.invariant.count ∙ sym (add-one place);
      each = pushed_onto (λ n (r : Replayed g.row.A.Denot). (r.state ≡ begun_at logs n (slice_get logs n)) × (r.placed ≡ 0)) c.loop-place.replays.items c.push.new.self.items replay place c.loop-place.invariant.count c.in_ok-push.ensures.items c.loop-place.invariant.each
          (ap (λ (r : Replayed g.row.A.Denot). r.state) c.in_ok-replay.ensures ∙ ap (λ n. begun (n == place) log.opening) c.place_of.ensures ∙ sym (ap (begun_at logs place) its), ap (λ (r : Replayed g.row.A.Denot). r.placed) c.in_ok-replay.ensures);
    }

pub returns : goal.returns
returns g c = record {
  count = let low = c.loop-place-test.false in let high = c.loop-place.auto.place-end in omega (arith, c.loop-place.invariant.count, low, high);
  each = c.loop-place.invariant.each;
}
