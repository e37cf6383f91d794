-- The answers of nodes whose logs were replayed.
use Rattle.std.proofs.Common.{◌≡◌, ℕ, zero, suc, length, List, [], ◌∷◌, ◌++◌, Bool, true, false, Option, Some, None, refl, sym, ap, ◌∙◌, subst, map}
use Rattle.std.specs.Prelude.{is_some, is_none, slice_get}
use Rattle.std.proofs.lemmas.Bool.{true≢false}
use Rattle.maildrop.specs.CommandId.{CommandId}
use Rattle.node.specs.Nodes.{NodeValue, answer_of}
use Rattle.node.specs.declared.stopped.Stopped.{Stopped}
use Rattle.node.specs.declared.log.NodeLog.{NodeLog}
use Rattle.session.specs.declared.transcript.Transcript.{Transcript}
use Rattle.audit.specs.Checks.{IsLeft, AreReplayed, AreLeft}
use Rattle.audit.specs.Nodes.{Replayed, RunsUnlessStopped, state_shown, log_shown, unless_stopped, answers_left}
use Rattle.audit.specs.Replays.{Replay, answer}
use Rattle.audit.proofs.Replaying.{shown_up, answer_of_log}

pub map_same : {X : Type 0} (xs : List X) → map (λ x. x) xs ≡ xs
map_same [] = refl
map_same (x ∷ xs) = ap (λ ys. x ∷ ys) (map_same xs)

module _ {A : Type 0} where
  pub node_shown : (node : NodeValue A) (crashed : Bool) → is_none node.stopped ≡ is_some (state_shown (Some node) crashed)
  node_shown node crashed =
      go node.stopped
    where
      go : (s : Option Stopped) → is_none s ≡ is_some (unless_stopped s (log_shown crashed node.log))
      go None = refl
      go (Some stop) = refl

  -- a node that hasn't stopped still has all answers
  pub left_shown : (node : Option (NodeValue A)) (crashed : Bool) (state : Replay A) (there : Bool) (id : CommandId) → RunsUnlessStopped node → state_shown node crashed ≡ state → there ≡ is_some state → there ≡ true → answers_left node id ≡ answer state id
  left_shown None crashed state there id run is its up = ap (λ s. answer s id) is
  left_shown (Some node) crashed state there id run is its up =
      go node.stopped refl
    where
      go : (s : Option Stopped) → node.stopped ≡ s → answer_of id node.awaited ≡ answer state id
      go None e = (run e).answers id ∙ answer_of_log node.log crashed id ∙ sym (ap (λ s. answer s id) (shown_up node crashed e)) ∙ ap (λ s. answer s id) is
      go (Some stop) e = absurd (true≢false (sym up ∙ its ∙ ap is_some (sym is) ∙ sym (node_shown node crashed) ∙ ap is_none e))

  pub none_left : (state : Replay A) (there : Bool) (id : CommandId) → there ≡ is_some state → there ≡ false → None ≡ answer state id
  none_left None there id its down = refl
  none_left (Some log) there id its down = absurd (true≢false (sym its ∙ down))

  -- one after another, of nodes that were replayed
  abbrev pub AreOutcomes : List (Replayed A) → List (Option (NodeValue A)) → Type 0
  AreOutcomes [] [] = Unit {0}
  AreOutcomes [] (o ∷ os) = ⊥
  AreOutcomes (r ∷ rs) [] = ⊥
  AreOutcomes (r ∷ rs) (o ∷ os) = IsLeft r.state [] o × AreOutcomes rs os

  pub one_more : (rs : List (Replayed A)) (os : List (Option (NodeValue A))) (r : Replayed A) (o : Option (NodeValue A)) → AreOutcomes rs os → is_some o ≡ is_some r.state → ((id : CommandId) → answers_left o id ≡ answer r.state id) → AreOutcomes (rs ++ r ∷ []) (os ++ o ∷ [])
  one_more [] [] r o h begun left = (record { begun = begun; left = λ id none. left id }, tt)
  one_more [] (p ∷ os) r o h begun left = absurd h
  one_more (q ∷ rs) [] r o h begun left = absurd h
  one_more (q ∷ rs) (p ∷ os) r o h begun left = (h.0, one_more rs os r o h.1 begun left)

  count_of : (rs : List (Replayed A)) (os : List (Option (NodeValue A))) → AreOutcomes rs os → length os ≡ length rs
  count_of [] [] h = refl
  count_of [] (p ∷ os) h = absurd h
  count_of (q ∷ rs) [] h = absurd h
  count_of (q ∷ rs) (p ∷ os) h = ap suc (count_of rs os h.1)

  its_replay : (rs : List (Replayed A)) (os : List (Option (NodeValue A))) → AreOutcomes rs os → (n : ℕ) (o : Option (NodeValue A)) → slice_get os n ≡ Some o → (r : Replayed A) × (slice_get rs n ≡ Some r) × IsLeft r.state [] o
  its_replay [] [] h n o e = absurd (cc)
  its_replay [] (p ∷ os) h n o e = absurd h
  its_replay (q ∷ rs) [] h n o e = absurd h
  its_replay (q ∷ rs) (p ∷ os) h zero o e =
      let same : p ≡ o = cc in
      (q, refl, subst (IsLeft q.state []) same h.0)
  its_replay (q ∷ rs) (p ∷ os) h (suc n) o e = its_replay rs os h.1 n o e

  pub all_left : (logs : List (NodeLog A)) (transcripts : List (Transcript A)) (rs : List (Replayed A)) (os : List (Option (NodeValue A))) → AreReplayed logs transcripts rs → AreOutcomes rs os → AreLeft logs transcripts [] os
  all_left logs transcripts rs os replayed h =
      record {
        count = count_of rs os h ∙ replayed.count;
        each = λ n o e.
            let its = its_replay rs os h n o e in
            subst (λ s. IsLeft s [] o) (replayed.each n its.0 its.1) its.2;
      }
