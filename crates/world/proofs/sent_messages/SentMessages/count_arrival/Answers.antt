use Rattle.std.proofs.Common.{◌∙◌, ap, refl, sym}
use Rattle.std.specs.Prelude.{slice_get}
use Rattle.std.proofs.lemmas.Option.{slice_get_read, slice_get_past}
use Rattle.runs.specs.Messages.{with_arrival}
use Rattle.world.proofs.Arrivals.{arrival_none, arrival_set, count_fits}
use Rattle.world.proofs.sent_messages.SentMessages.count_arrival.Goals as goal
use Rattle.world.proofs.sent_messages.SentMessages.count_arrival.Goals.{in-Some, in_default}

pub overflow_add-sent : goal.overflow_add-sent
overflow_add-sent g c =
    let found = slice_get_read c.self.inside.sent.items _ c.args.which c.in-Some.sent.now refl c.in-Some.ensures.item.3.0 c.in-Some.ensures.value in
    count_fits c.in-Some.sent.now (c.requires c.in-Some.sent.now (ap (λ ss. slice_get ss c.args.which) (sym c.self.view_is) ∙ found))

pub returns : goal.returns
returns g c =
    elim c.match-get_mut.branch [
      | in-Some w ↦ ap (λ x. x.sent.items) w.self-inside-is
          ∙ arrival_set c.args.which c.self.inside.sent.items w.in-Some.sent.now (slice_get_read c.self.inside.sent.items _ c.args.which w.in-Some.sent.now refl w.in-Some.ensures.item.3.0 w.in-Some.ensures.value)
          ∙ ap (with_arrival c.args.which) c.self.view_is
      | in_default w ↦ ap (λ x. x.sent.items) w.self-inside-is
          ∙ sym (arrival_none c.args.which c.self.inside.sent.items (slice_get_past c.self.inside.sent.items c.args.which w.in_default.ensures.item.3))
          ∙ ap (with_arrival c.args.which) c.self.view_is
    ]
