use Rattle.std.proofs.Common.{◌≡◌, Some, true, drop, sym, ap, ◌∙◌, subst}
use Rattle.std.specs.Prelude.{slice_get}
use Rattle.node.specs.Replay.{mail_rules}
use Rattle.replica.specs.Replicas.{has_identity}
use Rattle.world.specs.Waiting.{Waiting, MayHave, IsWatched}
use Rattle.world.proofs.HostList.{got}
use Rattle.runs.proofs.Logs.{some_same}
use Rattle.world.proofs.waiting.Waiting.hear.Goals as goal

pub returns-clause-own : goal.returns-clause-own
returns-clause-own g c id count its found among place is =
    let inside = c.self.inside in
    let at : slice_get inside.heard.items c.args.node ≡ Some c.in-Some.heard.now =
    got c.deref.result.now inside.heard.items c.args.node c.in-Some.heard.now c.deref.ensures.value c.in-Some.ensures.lookup.3.0 c.in-Some.ensures.lookup.1 in
    let one : c.in-Some.heard.now ≡ count = some_same c.in-Some.heard.now count (sym at ∙ ap (λ (v : Waiting). slice_get v.heard c.args.node) c.self.view_is ∙ found) in
    let told : has_identity mail_rules id c.behind-news.result.now ≡ true =
    ap (has_identity mail_rules id) c.behind-news.ensures ∙ ap (λ n. has_identity mail_rules id (drop n c.args.performed.now)) one ∙ among in
    subst (λ (v : Waiting). MayHave v place) (sym c.count.ensures) (c.hear_all.ensures.own id its told place is)

pub returns-clause-watched : goal.returns-clause-watched
returns-clause-watched g c place id is = subst (λ (v : Waiting). IsWatched v place id) (sym c.count.ensures) (c.hear_all.ensures.others.watched place id (λ no. no) is)
