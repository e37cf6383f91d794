use Rattle.std.proofs.Common.{refl, Some, None}
use Rattle.audit.specs.Checks.{submit_of}
use Rattle.audit.proofs.Checking.{told_at}
use Rattle.audit.proofs.Finding.{got, got_none}
use Rattle.audit.proofs.check.is_submitted.Goals as goal

pub returns-in-Some-get : goal.returns-in-Some-get
returns-in-Some-get g c =
    let x = submit_of c.args.entry.now in
    told_at c.args.log.now c.args.id x c.is_told.result _ c.in-Some.place.now (Some c.in-Some-get.input.now) (c.requires.found c.args.id x) c.in-Some.ensures.value
    (got c.get-2.result.now c.args.log.now.inputs c.in-Some.place.now c.in-Some-get.input.now c.get-2.ensures c.in-Some-get.ensures.lookup.3.0 c.in-Some-get.ensures.lookup.1)
    c.is_told.ensures

pub returns-in-None : goal.returns-in-None
returns-in-None g c =
    let x = submit_of c.args.entry.now in
    told_at c.args.log.now c.args.id x _ _ c.in-Some.place.now None (c.requires.found c.args.id x) c.in-Some.ensures.value
    (got_none c.get-2.result.now c.args.log.now.inputs c.in-Some.place.now c.get-2.ensures c.in-None.ensures.lookup.3)
    refl
