use Rattle.std.proofs.Common.{◌∙◌, ◌++◌, ◌∷◌, [], ◌+◌, ap, subst, sym, IfSome, IsSomeAnd}
use Rattle.std.proofs.lemmas.List.{length_push}
use Rattle.std.specs.Arc.{arc_value}
use Rattle.std.specs.List.{AllZip}
use Rattle.session.specs.Serve.{IsTranscript}
use Rattle.cluster.proofs.Zips.{zip_push}
use Rattle.cluster.proofs.sessions.join_all.Goals as goal

pub loop-thread-preserved : goal.loop-thread-preserved
loop-thread-preserved g c =
    let so = c.loop-thread.invariant in
    let threads = c.loop-thread.yielded in
    record {
      can_next = tt;
      finite = tt;
      count = c.push_reserved.ensures.len ∙ ap (λ n. n + 1) so.count ∙ sym (length_push threads c.in-Some.thread);
      room = c.push_reserved.ensures.capacity ∙ so.room;
      joined = subst (λ answers. AllZip (λ thread answer. IfSome answer (λ transcript. IsSomeAnd thread (λ thread.
          IsTranscript (arc_value thread.promise.accounts.value) thread.promise.stamp transcript))) (threads ++ c.in-Some.thread ∷ []) answers)
          (sym c.push_reserved.ensures.items)
          (zip_push _ threads c.loop-thread.answers.items c.in-Some.thread c.joined.result so.joined c.joined.ensures);
    }
