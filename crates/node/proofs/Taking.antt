-- A node of which an answer is taken.
use Rattle.std.proofs.Common.{◌≡◌, ℕ, List, [], false, Option, Some, None, refl, ap, ◌∙◌, sym}
use Rattle.std.specs.Prelude.{is_some, option_map}
use Rattle.std.specs.Ordering.{is_eq}
use Rattle.maildrop.specs.CommandId.{CommandId, compare_ids}
use Rattle.maildrop.specs.Office.{User}
use Rattle.maildrop.specs.declared.outcome.Outcome.{Outcome}
use Rattle.replica.specs.Replicas.{without_answer, taken}
use Rattle.replica.specs.Calls.{AreAnswers}
use Rattle.replica.proofs.History.{others_stay, gone_for_good}
use Rattle.node.specs.Replay.{NodeState, MailReplica, mail_rules}
use Rattle.node.specs.Nodes.{taken_of, answer_of, awaited_in, IsKept}
use Rattle.node.specs.declared.stopped.Stopped.{Stopped}
use Rattle.node.specs.declared.log.NodeLog.{NodeLog}
use Rattle.node.proofs.Orders.{ids_total}
use Rattle.node.proofs.Alike.{first}
use Rattle.node.proofs.Kept.{taken_current}
use Rattle.node.proofs.Views.{moved_to}

module _ {A : Type 0} where
  gone_from : (users : List (User A)) (id : CommandId) (r : MailReplica A) → AreAnswers mail_rules users r → answer_of id (taken mail_rules id r).awaited ≡ None
  gone_from users id r h =
      go (answer_of id r.awaited) refl
    where
      go : (o : Option (Outcome A)) → answer_of id r.awaited ≡ o → answer_of id (taken mail_rules id r).awaited ≡ None
      go None e = ap (λ (p : Option (Outcome A)). answer_of id (without_answer mail_rules id p r).awaited) e ∙ e
      go (Some a) e = gone_for_good A mail_rules ids_total users id a [] r h e

  module _ (log : NodeLog A) (id : CommandId) (roles roles' : Option (NodeState A)) (given : List (List ℕ × ℕ)) where
    pub taken_kept : (stopped : Option Stopped) → is_some stopped ≡ false → IsKept log roles given stopped → roles' ≡ option_map (taken_of id) roles → IsKept log roles' given stopped
    taken_kept None runs h same = (taken_current log id roles roles' given h.0 (λ n is. moved_to (taken_of id) roles roles' n is same), h.1)
    taken_kept (Some s) runs h same = absurd (cc runs)

    pub taken_gone : (stopped : Option Stopped) → is_some stopped ≡ false → IsKept log roles given stopped → roles' ≡ option_map (taken_of id) roles → answer_of id (awaited_in stopped roles') ≡ None
    taken_gone None runs h same =
        ap (λ (rs : Option (NodeState A)). answer_of id (awaited_in None rs)) (moved_to (taken_of id) roles roles' h.0.node h.0.works same)
        ∙ gone_from (first log.opening) id h.0.node.replica h.0.replay.replica.here
    taken_gone (Some s) runs h same = absurd (cc runs)

    pub taken_others : (stopped : Option Stopped) → is_some stopped ≡ false → IsKept log roles given stopped → roles' ≡ option_map (taken_of id) roles → (other : CommandId) → is_eq (compare_ids id other) ≡ false
        → answer_of other (awaited_in stopped roles') ≡ answer_of other (awaited_in stopped roles)
    taken_others None runs h same other unlike =
        ap (λ (rs : Option (NodeState A)). answer_of other (awaited_in None rs)) (moved_to (taken_of id) roles roles' h.0.node h.0.works same)
        ∙ others_stay A mail_rules ids_total id other h.0.node.replica h.0.replay.replica.here.ordered unlike
        ∙ sym (ap (λ (rs : Option (NodeState A)). answer_of other (awaited_in None rs)) h.0.works)
    taken_others (Some s) runs h same other unlike = absurd (cc runs)
