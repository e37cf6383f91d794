use Rattle.std.proofs.Common.{rules, ◌≡◌, None, Some, ap, sym, subst}
use Rattle.std.specs.Prelude.{◌&&◌}
use Rattle.std.specs.Option.{option_map}
use Rattle.service.specs.Epochs.{HasLedIfGood}
use Rattle.service.proofs.Pasts.{collected}
use Rattle.service.proofs.past.Past.collect.Goals as goal

pub invariant_of-self-2 : goal.invariant_of-self-2
invariant_of-self-2 g c =
    let inside = c.self.inside in
    let there : inside.audit ≡ Some c.in_ok-audit.audit = search (c.in_ok-audit.ensures, rules) in
    let gone : c.take.new.self ≡ None = search (c.take.ensures, rules) in
    let epoch = c.in_ok-audit.audit.promise.0.value in
    subst (λ audit. HasLedIfGood (record { first = inside.first; kept = inside.kept; told = c.count_one-is_counted.new.count; is_good = inside.is_good && c.count_one-is_counted.result && c.is_legal.result; pending = option_map (λ a. a.promise.0.value) audit })) (sym gone)
    (collected inside.first inside.kept inside.told c.count_one-is_counted.new.count inside.is_good c.count_one-is_counted.result c.is_legal.result
    (option_map (λ a. a.promise.0.value) inside.audit) epoch c.join-verdict.result c.self.invariant (ap (option_map (λ a. a.promise.0.value)) there)
    c.count_one-is_counted.ensures c.is_legal.ensures c.join-verdict.ensures)
