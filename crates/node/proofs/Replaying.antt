-- A log with one input more.
use Rattle.std.proofs.Common.{◌≡◌, refl, ap, ◌∙◌, sym, ℕ, ◌+◌, List, [], ◌∷◌, ◌++◌, append_assoc, arith}
use Rattle.std.proofs.lemmas.List.{append-nil}
use Rattle.node.specs.Replay.{NodeState, takes, takes_all, new_node, replayed, counts, submits_of}
use Rattle.node.specs.Nodes.{logged}
use Rattle.node.specs.declared.input.Input.{Input}
use Rattle.node.specs.declared.log.NodeLog.{NodeLog}

module _ {A : Type 0} where
  takes_all-push : (me : ℕ) (before : List (Input A)) (n : NodeState A) (is : List (Input A)) (i : Input A)
      → takes_all me before n (is ++ i ∷ []) ≡ (takes me (before ++ is) (takes_all me before n is) i).after
  takes_all-push me before n [] i = ap (λ (xs : List (Input A)). (takes me xs n i).after) (sym (append-nil before))
  takes_all-push me before n (j ∷ is) i =
      takes_all-push me (before ++ j ∷ []) (takes me before n j).after is i
      ∙ ap (λ (xs : List (Input A)). (takes me xs (takes_all me (before ++ j ∷ []) (takes me before n j).after is) i).after) (append_assoc before (j ∷ []) is)

  -- what a log leads to, and one input more
  pub replayed-push : (log : NodeLog A) (i : Input A) → replayed (logged log i) ≡ (takes log.opening.me log.inputs (replayed log) i).after
  replayed-push log i = takes_all-push log.opening.me [] (new_node log.opening) log.inputs i

  pub submits_of-push : (name : List ℕ) (is : List (Input A)) (i : Input A) → submits_of name (is ++ i ∷ []) ≡ counts name i + submits_of name is
  submits_of-push name [] i = refl
  submits_of-push name (j ∷ is) i = grind (arith, submits_of-push name is i)
