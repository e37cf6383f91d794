use Rattle.std.proofs.Common.{◌≡◌, ◌∷◌, ◌++◌, [], true, refl, sym, subst}
use Rattle.std.specs.Prelude.{◌||◌, not}
use Rattle.std.proofs.lemmas.List.Elements.{All-push}
use Rattle.service.specs.Transcripts.{TranscriptsValue, AreEnded, IsServed}
use Rattle.service.proofs.Kept.{IsAdded, added}
use Rattle.service.proofs.transcripts.Transcripts.add.Goals as goal

pub invariant_of-self : goal.invariant_of-self
invariant_of-self g c =
    let inside = c.self.inside in
    let then = c.add_to-is_added.new in
    let is_added = c.add_to-is_added.result in
    let transcript = c.served.inside.transcript in
    let before : TranscriptsValue = record { kept = inside.kept.items; numbers = inside.numbers.items; greeted = inside.greeted; ended = inside.ended; is_short = inside.is_short } in
    let after : TranscriptsValue = record { kept = then.kept.items; numbers = then.numbers.items; greeted = inside.greeted; ended = then.ended; is_short = inside.is_short || not is_added } in
    let so = c.add_to-is_added.ensures in
    let room : is_added ≡ true → IsAdded before after transcript = λ ok. record { silent = so.silent ok; kept = so.kept ok; numbers = so.numbers ok; ended = so.ended ok } in
    let h = c.self.invariant in
    (h.0 ++ transcript ∷ [], added before after transcript is_added room refl h.0 h.1, All-push (IsServed g.D.Service.accounts) h.0 transcript h.2 c.served.invariant)

pub returns-clause-ended : goal.returns-clause-ended
returns-clause-ended g c =
    let inside = c.self.inside in
    let then = c.add_to-is_added.new in
    let is_added = c.add_to-is_added.result in
    let transcript = c.served.inside.transcript in
    let before : TranscriptsValue = record { kept = inside.kept.items; numbers = inside.numbers.items; greeted = inside.greeted; ended = inside.ended; is_short = inside.is_short } in
    let after : TranscriptsValue = record { kept = then.kept.items; numbers = then.numbers.items; greeted = inside.greeted; ended = then.ended; is_short = inside.is_short || not is_added } in
    let so = c.add_to-is_added.ensures in
    let room : is_added ≡ true → IsAdded before after transcript = λ ok. record { silent = so.silent ok; kept = so.kept ok; numbers = so.numbers ok; ended = so.ended ok } in
    λ all h. subst (λ t. AreEnded after (all ++ t ∷ [])) c.served.view_is (added before after transcript is_added room refl all (subst (λ value. AreEnded value all) (sym c.self.view_is) h))
