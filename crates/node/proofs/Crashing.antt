-- A crash is for good.
use Rattle.std.proofs.Common.{◌≡◌, ℕ, List, [], ◌∷◌, ◌++◌, Bool, true, false, refl, ap, ◌∙◌}
use Rattle.std.specs.List.{list_any}
use Rattle.std.specs.Prelude.{if◌then◌else◌}
use Rattle.std.proofs.lemmas.List.Folds.{list_any-append}
use Rattle.maildrop.specs.CommandId.{CommandId}
use Rattle.node.specs.Replay.{NodeState, NodeMove, is_crash, takes, takes_all, replayed, sent_from, sends_of}
use Rattle.ballot.specs.Sends.{stays}
use Rattle.node.specs.Nodes.{logged, lengthened, answer_of, answered}
use Rattle.node.specs.declared.input.Input.{Input}
use Rattle.node.specs.declared.input.Input.TheVariants.{Crash}
use Rattle.node.specs.declared.log.NodeLog.{NodeLog}
use Rattle.node.proofs.Replaying.{replayed-push}
use Rattle.node.proofs.Answering.{replayed_more}

module _ {A : Type 0} where
  -- a crash itself changes and sends nothing
  idle : (me : ℕ) (before : List (Input A)) (n : NodeState A) → takes me before n Crash ≡ stays n
  idle me before n =
      go (list_any is_crash before)
    where
      same : NodeMove A
      same = stays n

      go : (t : Bool) → (if t then same else same) ≡ same
      go true = refl
      go false = refl

  pub crash_sends : (log : NodeLog A) → sends_of log Crash ≡ []
  crash_sends log = ap (λ (m : NodeMove A). sent_from log.opening.me m.sends) (idle log.opening.me log.inputs (replayed log))

  pub crash_answers : (log : NodeLog A) (id : CommandId) → answered (logged log Crash) id ≡ answered log id
  crash_answers log id = ap (λ (n : NodeState A). answer_of id n.replica.awaited) (replayed-push log Crash ∙ ap (λ (m : NodeMove A). m.after) (idle log.opening.me log.inputs (replayed log)))

  pub behind : (me : ℕ) (before : List (Input A)) (n : NodeState A) (is : List (Input A)) → list_any is_crash before ≡ true → takes_all me before n is ≡ n
  behind me before n [] h = refl
  behind me before n (i ∷ is) h =
      ap (λ (m : NodeMove A). takes_all me (before ++ i ∷ []) m.after is) unmoved
      ∙ behind me (before ++ i ∷ []) n is (list_any-append is_crash before (i ∷ []) ∙ rw h refl)
    where
      unmoved : takes me before n i ≡ stays n
      unmoved = rw h refl

  pub crash_is_last : (log : NodeLog A) (more : List (Input A)) → list_any is_crash log.inputs ≡ true → replayed (lengthened log more) ≡ replayed log
  crash_is_last log more h = replayed_more log more ∙ behind log.opening.me log.inputs (replayed log) more h

  pub crash_is_silent : (log : NodeLog A) (i : Input A) → list_any is_crash log.inputs ≡ true → sends_of log i ≡ []
  crash_is_silent log i h = rw h refl
