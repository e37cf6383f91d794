-- The best of logs that are looked at one after another.
use Rattle.std.proofs.Common.{◌≡◌, ◌∙◌, refl, sym, ap, subst, ℕ, ◌≤◌, ◌<◌, List, [], ◌∷◌, ◌++◌, Option, Some, None, true, false, filter, IsTrue, All, append_assoc, arith}
use Rattle.std.specs.declared.alloc.Global.{Global}
use Rattle.std.proofs.lemmas.List.Elements.{All-nil, All-push, All-weaker}
use Rattle.maildrop.specs.Kept.{KeptTable, with_others_of}
use Rattle.maildrop.specs.Name.{are_different}
use Rattle.node.specs.declared.log.NodeLog.{NodeLog}
use Rattle.cluster.specs.Bests.{IsBestOf, IsEndOf, IsMostOf, has_performed_more}
use Rattle.cluster.specs.Ends.{performed_by, IsLeftBy}
use Rattle.cluster.specs.Members.{IsLogOf}
use Rattle.cluster.specs.declared.closed.Left.{Left}
use Rattle.cluster.specs.declared.setup.Setup.{Setup}

-- the names of a log are those of the setup
pub names_of_log : (setup : Setup) (me : ℕ) (log : NodeLog Global) → IsLogOf setup me log → IsTrue (are_different setup.names) → IsTrue (are_different log.opening.names)
names_of_log setup me log opened different = subst (λ o. IsTrue (are_different o.names)) (sym opened) different

-- the log is the first, or performs more than the best so far
pub first_best : (logs : List (NodeLog Global)) (log : NodeLog Global) (left : Left)
    → logs ≡ [] → IsEndOf log left → IsMostOf (logs ++ log ∷ []) left
first_best logs log left none end = subst (λ ls. IsMostOf (ls ++ log ∷ []) left) (sym none) (record {
  before = [];
  log = log;
  after = [];
  order = refl;
  end = end;
  most = All-push (λ other. performed_by other ≤ left.performed) [] log (All-nil (λ other. performed_by other ≤ left.performed)) (omega (arith, end.performed));
})

pub newer_best : (logs : List (NodeLog Global)) (log : NodeLog Global) (best left : Left)
    → IsMostOf logs best → IsEndOf log left → best.performed < left.performed → IsMostOf (logs ++ log ∷ []) left
newer_best logs log best left is end more = record {
  before = logs;
  log = log;
  after = [];
  order = refl;
  end = end;
  most = All-push (λ other. performed_by other ≤ left.performed) logs log
      (All-weaker (λ other. performed_by other ≤ best.performed) (λ other. performed_by other ≤ left.performed) (λ other few. omega (arith, few, more)) logs is.most)
      (omega (arith, end.performed));
}

pub older_best : (logs : List (NodeLog Global)) (log : NodeLog Global) (best : Left)
    → IsMostOf logs best → performed_by log ≤ best.performed → IsMostOf (logs ++ log ∷ []) best
older_best logs log best is few = record {
  before = is.before;
  log = is.log;
  after = is.after ++ log ∷ [];
  order = ap (λ ls. ls ++ log ∷ []) is.order ∙ append_assoc is.before (is.log ∷ is.after) (log ∷ []);
  end = is.end;
  most = All-push (λ other. performed_by other ≤ best.performed) logs log is.most few;
}

-- a log that has performed more than the best so far, and one that hasn't
pub more_best : (logs : List (NodeLog Global)) (log : NodeLog Global) (best : Option Left) (left : Left)
    → IsBestOf logs best → IsEndOf log left → has_performed_more best left.performed ≡ true → IsMostOf (logs ++ log ∷ []) left
more_best logs log None left none end more = first_best logs log left none end
more_best logs log (Some best) left is end more = newer_best logs log best left is end (grind (arith, more))

pub as_best : (logs : List (NodeLog Global)) (log : NodeLog Global) (best : Option Left)
    → IsBestOf logs best → has_performed_more best (performed_by log) ≡ false → IsBestOf (logs ++ log ∷ []) best
as_best logs log None none more = absurd (cc more)
as_best logs log (Some best) is more = older_best logs log best is (grind (arith, more))

-- what is kept by the best of all logs
pub left_by_best : (setup : Setup) (logs : List (NodeLog Global)) (left : Left) → IsMostOf logs left → IsLeftBy setup logs left.kept
left_by_best setup [] left is = absurd (nothing is.before is.order)
  where
    nothing : (before : List (NodeLog Global)) → [] ≡ before ++ is.log ∷ is.after → ⊥
    nothing [] e = cc e
    nothing (first ∷ rest) e = cc e
left_by_best setup (first ∷ logs) left is = record {
  before = is.before;
  log = is.log;
  after = is.after;
  order = is.order;
  its = is.end.kept;
  most = subst (λ n. All (λ other. performed_by other ≤ n) (first ∷ logs)) is.end.performed is.most;
}

pub left_by_none : (setup : Setup) (logs : List (NodeLog Global)) (kept : KeptTable Global) → logs ≡ [] → kept ≡ setup.kept → IsLeftBy setup logs kept
left_by_none setup logs kept none same = subst (λ ls. IsLeftBy setup ls kept) (sym none) same

-- a table that has nothing is filled with all of another one
all_stay : {X : Type 0} (xs : List X) → filter (λ x. true) xs ≡ xs
all_stay [] = refl
all_stay (x ∷ xs) = ap (λ ys. x ∷ ys) (all_stay xs)

pub copied : (old kept : KeptTable Global) → old ≡ [] → with_others_of old kept ≡ kept
copied old kept none = ap (λ t. with_others_of t kept) none ∙ all_stay kept
