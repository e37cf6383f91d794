use Rattle.std.proofs.Common.{rules, subst, sym}
use Rattle.service.specs.Transcripts.{KeepsServed}
use Rattle.service.proofs.epoch.EndedEpoch.new.Goals as goal

pub invariant_of-result : goal.invariant_of-result
invariant_of-result g c = record {
  service = search rules;
  nodes = search rules;
  began = search rules;
  served = subst (λ accounts. KeepsServed accounts c.into_list.result) (sym c.requires.accounts) c.into_list.ensures.served;
}
