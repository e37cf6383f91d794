use Rattle.std.proofs.Common.{◌⊎◌, ◌<◌, length, suc, inl, refl, sym, subst, add-one, arith}
use Rattle.audit.proofs.Finding.{got}
use Rattle.audit.proofs.Least.{NoneSoFar, OneSoFar, starts_none, least_then, least_is}
use Rattle.audit.proofs.left.least_left.Goals as goal

pub loop-place-init : goal.loop-place-init
loop-place-init g c = inl (starts_none c.args.logs.now c.args.replays.now)

pub loop-place-preserved : goal.loop-place-preserved
loop-place-preserved g c =
    let logs = c.args.logs.now in
    let replays = c.args.replays.now in
    let n = c.loop-place.place in
    let log = c.index-logs-place.result in
    let replay = c.index-replays-place.result in
    let within : n < length replays = omega (arith, c.loop-place-test.true, c.requires) in
    let its = got logs logs n log refl c.loop-place-test.true c.index-logs-place.is in
    let of_it = got replays replays n replay refl within c.index-replays-place.is in
    let more = least_then logs replays n log replay its of_it c.loop-place.least c.number_left.result c.number_left.ensures.number c.number_left.ensures.range c.number_left.ensures.none c.loop-place.invariant in
    rw add-one (subst (λ least. NoneSoFar logs replays (suc n) least ⊎ OneSoFar logs replays (suc n) least) (sym c.min-least.ensures) more)

pub returns : goal.returns
returns g c = least_is c.args.logs.now c.args.replays.now _ c.loop-place.place c.loop-place.least c.new.result c.loop-place-test.false c.loop-place.invariant c.new.ensures.valid c.new.ensures.value
