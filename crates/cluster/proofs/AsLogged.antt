-- What a node shows of its users is as its log says.
use Rattle.std.proofs.Common.{◌≡◌, ◌∙◌, refl, sym, ap, ℕ, ◌+◌, List, [], ◌∷◌, ◌++◌, take, slice_get, filter_map, Option, Some, None, inl, inr}
use Rattle.std.specs.declared.alloc.Global.{Global}
use Rattle.std.proofs.lemmas.List.{take_more}
use Rattle.std.proofs.lemmas.List.Elements.{filter_map-append}
use Rattle.std.proofs.lemmas.Option.{get_or_from_slice_get, slice_get_within}
use Rattle.maildrop.specs.Ticket.{Ticket}
use Rattle.maildrop.specs.declared.usage.Usage.{Usage}
use Rattle.node.specs.Nodes.{IsKnown}
use Rattle.node.specs.declared.log.NodeLog.{NodeLog}
use Rattle.node.specs.declared.stopped.Stopped.{Stopped}
use Rattle.node.specs.declared.stopped.Stopped.TheVariants.{Crashed, Memory, TicketsUsed}
use Rattle.cluster.specs.Members.{IsLogOf}
use Rattle.cluster.specs.Users.{locks_in, usages_in, users_by, AreLocksOf, AreUsagesOf}
use Rattle.cluster.specs.declared.setup.Setup.{Setup}

pub locks_as_logged : (setup : Setup) (me : ℕ) (log : NodeLog Global) (stopped : Option Stopped) (locks : List (List ℕ × Ticket))
    → IsLogOf setup me log → (IsKnown stopped → locks ≡ locks_in (users_by log)) → (stopped ≡ Some Memory → locks ≡ []) → AreLocksOf setup me locks
locks_as_logged setup me log None locks opened known unknown = inr (log, opened, known tt)
locks_as_logged setup me log (Some Crashed) locks opened known unknown = inr (log, opened, known tt)
locks_as_logged setup me log (Some TicketsUsed) locks opened known unknown = inr (log, opened, known tt)
locks_as_logged setup me log (Some Memory) locks opened known unknown = inl (unknown refl)

pub usages_as_logged : (setup : Setup) (me : ℕ) (log : NodeLog Global) (stopped : Option Stopped) (usages : List (List ℕ × Usage))
    → IsLogOf setup me log → (IsKnown stopped → usages ≡ usages_in (users_by log)) → (stopped ≡ Some Memory → usages ≡ []) → AreUsagesOf setup me usages
usages_as_logged setup me log None usages opened known unknown = inr (log, opened, known tt)
usages_as_logged setup me log (Some Crashed) usages opened known unknown = inr (log, opened, known tt)
usages_as_logged setup me log (Some TicketsUsed) usages opened known unknown = inr (log, opened, known tt)
usages_as_logged setup me log (Some Memory) usages opened known unknown = inl (unknown refl)

-- one element more of those so far
taken_more : {X : Type 0} (xs : List X) (i : ℕ) (x : X) → slice_get xs i ≡ Some x → take (i + 1) xs ≡ take i xs ++ x ∷ []
taken_more xs i x here =
    take_more xs i x (slice_get_within xs i x here) ∙ ap (λ y. take i xs ++ y ∷ []) (get_or_from_slice_get xs i x x here)

pub found_more : {X Y : Type 0} (h : X → Option Y) (xs : List X) (i : ℕ) (x : X) (found : List Y)
    → slice_get xs i ≡ Some x → found ≡ filter_map h (take i xs) → found ++ filter_map h (x ∷ []) ≡ filter_map h (take (i + 1) xs)
found_more h xs i x found here so_far =
    ap (λ ys. ys ++ filter_map h (x ∷ [])) so_far
    ∙ sym (filter_map-append h (take i xs) (x ∷ []))
    ∙ sym (ap (filter_map h) (taken_more xs i x here))
