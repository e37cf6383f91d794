use Rattle.std.proofs.Common.{◌≡◌, Some, sym, ap, ◌∙◌, subst, arith, ⊎_elim}
use Rattle.maildrop.specs.Ticket.{Ticket}
use Rattle.world.specs.Waiting.{Waiting, MayHave, IsWatched, WatchesBut, nowhere}
use Rattle.runs.proofs.Logs.{some_same}
use Rattle.world.proofs.Watching.{its_place, put_watches}
use Rattle.world.proofs.waiting.Waiting.hear_one.Goals as goal

pub returns-in-Some-clause-own : goal.returns-in-Some-clause-own
returns-in-Some-clause-own g c its place is =
    let inside = c.self.inside in
    let w : Waiting = record { commands = inside.commands.entries; places = inside.places; is_whole = inside.is_whole; heard = inside.heard.items } in
    let was : IsWatched w place c.args.id = subst (λ (v : Waiting). IsWatched v place c.args.id) (sym c.self.view_is) is in
    ⊎_elim
    (λ (may : MayHave w place). c.add.ensures.others place may)
    (λ (found : its_place c.args.id w ≡ Some place). subst (MayHave c.add.new.self) (some_same c.in-Some.place place (c.in-Some.ensures.value ∙ found)) c.add.ensures.own)
    was

pub returns-in-Some-clause-others : goal.returns-in-Some-clause-others
returns-in-Some-clause-others g c =
    let inside = c.self.inside in
    let w : Waiting = record { commands = inside.commands.entries; places = inside.places; is_whole = inside.is_whole; heard = inside.heard.items } in
    subst (λ (v : Waiting). WatchesBut nowhere v c.add.new.self) c.self.view_is
    (put_watches nowhere w c.add.new.self c.args.id _
    (λ other. ap (λ cs. its_place other (record w { commands = cs })) c.add.ensures.commands ∙ c.in-Some.ensures.updates.0 other)
    (λ place apart found. subst (MayHave c.add.new.self) (some_same c.in-Some.place place (c.in-Some.ensures.value ∙ found)) c.add.ensures.own)
    (λ place may. c.add.ensures.others place may)
    c.add.ensures.heard)

pub returns-in_default-clause-own : goal.returns-in_default-clause-own
returns-in_default-clause-own g c its place is =
    let inside = c.self.inside in
    let w : Waiting = record { commands = inside.commands.entries; places = inside.places; is_whole = inside.is_whole; heard = inside.heard.items } in
    let was : IsWatched w place c.args.id = subst (λ (v : Waiting). IsWatched v place c.args.id) (sym c.self.view_is) is in
    ⊎_elim
    (λ (may : MayHave w place). may)
    (λ (found : its_place c.args.id w ≡ Some place). absurd (cc (sym c.in_default.is ∙ c.remove.ensures.value ∙ found)))
    was

pub returns-else-place_of-node-clause-own : goal.returns-else-place_of-node-clause-own
returns-else-place_of-node-clause-own g c its place is =
    let at : c.get-at.result.0 ≡ c.args.id.ticket.node = c.get-at.ensures.node ∙ ap (λ (t : Ticket). t.node) c.get-ticket.ensures.ticket in
    absurd (c.if-place_of-node.false (omega (arith, its, c.place_of.ensures, at)))
