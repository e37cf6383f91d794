use Rattle.std.proofs.Common.{sym, ap, ◌∙◌, subst, inr, refl}
use Rattle.world.specs.Waiting.{Waiting, MayHave, WatchesBut, only_at}
use Rattle.runs.proofs.Logs.{some_same}
use Rattle.world.proofs.Watching.{its_place, put_watches}
use Rattle.world.proofs.waiting.Waiting.watch.Goals as goal

pub returns-in-Ok-Some-clause-own : goal.returns-in-Ok-Some-clause-own
returns-in-Ok-Some-clause-own g c = inr (ap (λ cs. its_place c.args.id (record { commands = cs; places = c.add.new.self.places; is_whole = c.add.new.self.is_whole; heard = c.add.new.self.heard })) c.add.ensures.commands ∙ c.in-Ok-Some.ensures.updates.1)

pub returns-in-Ok-Some-clause-others : goal.returns-in-Ok-Some-clause-others
returns-in-Ok-Some-clause-others g c =
    let inside = c.self.inside in
    let w : Waiting = record { commands = inside.commands.entries; places = inside.places; is_whole = inside.is_whole; heard = inside.heard.items } in
    subst (λ (v : Waiting). WatchesBut (only_at c.args.place) v c.add.new.self) c.self.view_is
    (put_watches (only_at c.args.place) w c.add.new.self c.args.id _
    (λ other. ap (λ cs. its_place other (record w { commands = cs })) c.add.ensures.commands ∙ c.in-Ok-Some.ensures.updates.0 other)
    (λ place apart found. subst (MayHave c.add.new.self) (some_same c.in-Ok-Some.other place (sym c.in-Ok-Some.field-0-is ∙ c.in-Ok-Some.ensures.old ∙ found)) c.add.ensures.own)
    (λ place may. c.add.ensures.others place may)
    c.add.ensures.heard)

pub returns-in-Ok-None-clause-others : goal.returns-in-Ok-None-clause-others
returns-in-Ok-None-clause-others g c =
    let inside = c.self.inside in
    let w : Waiting = record { commands = inside.commands.entries; places = inside.places; is_whole = inside.is_whole; heard = inside.heard.items } in
    let later : Waiting = record { commands = c.insert.new.self.entries; places = inside.places; is_whole = inside.is_whole; heard = inside.heard.items } in
    subst (λ (v : Waiting). WatchesBut (only_at c.args.place) v later) c.self.view_is
    (put_watches (only_at c.args.place) w later c.args.id _
    (λ other. c.in-Ok-None.ensures.updates.0 other)
    (λ place apart found. absurd (cc (c.in-Ok-None.ensures.old ∙ found)))
    (λ place may. may)
    refl)
