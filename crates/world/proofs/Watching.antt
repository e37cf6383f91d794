-- The index of sessions that await an answer, as its parts change.
use Rattle.std.proofs.Common.{◌≡◌, ℕ, ◌+◌, List, [], ◌∷◌, ◌++◌, Bool, true, false, Option, Some, refl, sym, ap, ◌∙◌, subst, inl, inr, ⊎_elim, arith, cond, take, length, get_or, ◌<◌, ◌≤◌, suc}
use Rattle.std.specs.Prelude.{◌||◌}
use Rattle.std.specs.BTreeMap.{is_at}
use Rattle.std.specs.Map.{lookup}
use Rattle.std.specs.Ordering.{is_eq}
use Rattle.maildrop.specs.CommandId.{CommandId, compare_ids}
use Rattle.maildrop.specs.Equality.{id_decides}
use Rattle.maildrop.specs.Same.{identity_of}
use Rattle.maildrop.specs.declared.command.Command.{Command}
use Rattle.maildrop.proofs.IdOrder.{ids_eq}
use Rattle.node.specs.Replay.{mail_rules}
use Rattle.replica.specs.Replicas.{has_identity}
use Rattle.std.proofs.Math.Seq.{take-suc}
use Rattle.std.proofs.lemmas.List.Folds.{list_any-append}
use Rattle.world.specs.Waiting.{Waiting, MayHave, IsWatched, WatchesBut, NoneMay, NoneMayFrom, nowhere}

pub same_id : (id other : CommandId) → is_eq (compare_ids id other) ≡ true → id ≡ other
same_id id other tied = (id_decides id other).0 (sym (ids_eq id other) ∙ tied)

abbrev pub its_place : CommandId → Waiting → Option ℕ
its_place id w = lookup (is_at (compare_ids id)) w.commands

-- what the entry of one command becomes, if whoever awaited it may have its answer then
pub put_watches : (but : ℕ → Type 0) (w later : Waiting) (id : CommandId) (o : Option ℕ)
    → ((other : CommandId) → its_place other later ≡ cond (is_eq (compare_ids id other)) o (its_place other w))
    → ((place : ℕ) → (but place → ⊥) → its_place id w ≡ Some place → MayHave later place)
    → ((place : ℕ) → MayHave w place → MayHave later place) → later.heard ≡ w.heard → WatchesBut but w later
put_watches but w later id o put moved may heard = record { watched = watched; may = λ place apart has. may place has; heard = heard }
  where
    watched : (place : ℕ) (other : CommandId) → (but place → ⊥) → IsWatched w place other → IsWatched later place other
    watched place other apart (inl has) = inl (may place has)
    watched place other apart (inr found) =
        go (is_eq (compare_ids id other)) refl
      where
        go : (t : Bool) → is_eq (compare_ids id other) ≡ t → IsWatched later place other
        go true q = inl (moved place apart (ap (λ i. its_place i w) (same_id id other q) ∙ found))
        go false q = inr (put other ∙ rw q found)

-- what leaves the commands as they were
pub may_watches : (but : ℕ → Type 0) (w later : Waiting) → later.commands ≡ w.commands → ((place : ℕ) → (but place → ⊥) → MayHave w place → MayHave later place) → later.heard ≡ w.heard → WatchesBut but w later
may_watches but w later same may heard =
    record {
      watched = λ place id apart is. ⊎_elim (λ (has : MayHave w place). inl (may place apart has)) (λ (found : its_place id w ≡ Some place). inr (ap (lookup (is_at (compare_ids id))) same ∙ found)) is;
      may = may;
      heard = heard;
    }

pub watches_both : (a b c : Waiting) → WatchesBut nowhere a b → WatchesBut nowhere b c → WatchesBut nowhere a c
watches_both a b c p q =
    record {
      watched = λ place id apart is. q.watched place id apart (p.watched place id apart is);
      may = λ place apart has. q.may place apart (p.may place apart has);
      heard = q.heard ∙ p.heard;
    }

pub none_may_on : (w : Waiting) (from to : ℕ) → NoneMayFrom w from → NoneMay w from to
none_may_on w from to none = record { each = λ k low high. none.each k low }

-- as far as the sessions go
pub none_may_short : (w : Waiting) (from place to : ℕ) → to ≤ place → NoneMay w from place → NoneMay w from to
none_may_short w from place to past none = record { each = λ k low high. none.each k low (omega (arith, high, past)) }

module _ {A : Type 0} where
  -- whoever awaits one of these commands may have the answer
  abbrev pub AreHeard : Waiting → Waiting → ℕ → List (ℕ × Command A) → Type 0
  AreHeard w later node news = (id : CommandId) → id.ticket.node ≡ node + 1 → has_identity mail_rules id news ≡ true → (place : ℕ) → IsWatched w place id → MayHave later place

  pub heard_next : (w now later : Waiting) (node : ℕ) (news : List (ℕ × Command A)) (k : ℕ) (x : ℕ × Command A) (its : CommandId) → k < length news → x ≡ get_or news k x → its ≡ identity_of x.1
      → WatchesBut nowhere w now → AreHeard w now node (take k news) → (its.ticket.node ≡ node + 1 → (place : ℕ) → IsWatched now place its → MayHave later place) → WatchesBut nowhere now later
      → AreHeard w later node (take (k + 1) news)
  heard_next w now later node news k x its low at is so_far heard own others id here has place watched =
      go (has_identity mail_rules id (take k news)) (is_eq (compare_ids (identity_of x.1) id)) refl refl
      (sym (list_any-append (λ (e : ℕ × Command A). is_eq (compare_ids (identity_of e.1) id)) (take k news) (x ∷ [])) ∙ ap (has_identity mail_rules id) (sym (next ∙ take-suc news k x low ∙ ap (λ e. take k news ++ e ∷ []) (sym at))) ∙ has)
    where
      next : take (k + 1) news ≡ take (suc k) news
      next = let same : k + 1 ≡ suc k = omega arith in ap (λ n. take n news) same

      go : (t u : Bool) → has_identity mail_rules id (take k news) ≡ t → is_eq (compare_ids (identity_of x.1) id) ≡ u → (t || (u || false)) ≡ true → MayHave later place
      go true u p q e = others.may place (λ no. no) (heard id here p place watched)
      go false true p q e =
          let same : its ≡ id = is ∙ same_id (identity_of x.1) id q in
          own (ap (λ (i : CommandId). i.ticket.node) same ∙ here) place (so_far_there same)
        where
          so_far_there : its ≡ id → IsWatched now place its
          so_far_there same = subst (λ i. IsWatched now place i) (sym same) (so_far.watched place id (λ no. no) watched)
      go false false p q e = absurd (cc e)
