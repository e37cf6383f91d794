-- Identities are in a total order.
use Rattle.std.specs.Cmp.{IsTotalOrder, nat_cmp_total}
use Rattle.std.specs.Cmp.Lexicographic.{nat_list_cmp_total}
use Rattle.std.proofs.lemmas.Cmp.{on_total, then_total}
use Rattle.maildrop.specs.CommandId.{CommandId, compare_ids}

pub ids_total : IsTotalOrder compare_ids
ids_total = then_total (on_total (λ (i : CommandId). i.user) nat_list_cmp_total) (then_total (on_total (λ (i : CommandId). i.ticket.node) nat_cmp_total) (on_total (λ (i : CommandId). i.ticket.seq) nat_cmp_total))
