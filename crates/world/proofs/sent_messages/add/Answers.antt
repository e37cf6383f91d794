use Rattle.std.proofs.Common.{rules, ◌≡◌, ◌++◌, ◌∙◌, ap, length}
use Rattle.std.specs.Prelude.{vec_len}
use Rattle.std.proofs.lemmas.Iterator.Adapters.{YieldsList-from_vec}
use Rattle.std.proofs.lemmas.Iterator.Consumers.{YieldsList-end}
use Rattle.runs.specs.Messages.{newly_sent}
use Rattle.world.proofs.Arrivals.{sent_all}
use Rattle.world.proofs.sent_messages.add.Goals as goal

pub returns-clause-ok : goal.returns-clause-ok
returns-clause-ok g c =
    let items = c.into_iter-envelope-iterator.ensures.into_iter_gives.0 ∙ c.into_vec-envelope-items.ensures in
    let count : vec_len c.into_vec-envelope-items.result ≡ length c.into_vec-envelope-items.result.items = search rules in
    let len = c.into_iter-envelope-iterator.ensures.into_iter_gives.1 ∙ count ∙ ap length c.into_vec-envelope-items.ensures in
    let seen = YieldsList-end (YieldsList-from_vec {s = c.into_iter-envelope-iterator.result} c.args.envelopes items len) c.loop-envelope.yielded c.loop-envelope.envelope-iterator c.loop-envelope.yielded_by _ c.next.new.self c.in-None.is c.next.ensures.steps in
    c.loop-envelope.invariant.so_far ∙ ap (λ es. c.args.sent.now.items ++ es) (sent_all c.loop-envelope.yielded ∙ ap newly_sent seen.0)
