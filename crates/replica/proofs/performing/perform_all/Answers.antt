use Rattle.std.proofs.Common.{◌≡◌, ◌<◌, ◌≤◌, length, Some, None, sym, ap, ◌∙◌, subst, ⊎_elim, arith}
use Rattle.std.proofs.lemmas.Bool.{cases_lt, true≢false}
use Rattle.ballot.specs.declared.slot.TheConstants.{LAST_SLOT}
use Rattle.replica.specs.Replicas.{ReplicaState}
use Rattle.ballot.specs.Slots.{at_slot}
use Rattle.replica.proofs.Slots.{none_above}
use Rattle.replica.proofs.Seen.{seen}
use Rattle.replica.proofs.Front.{gives_way_alike, turn_on, ended}
use Rattle.replica.proofs.performing.perform_all.Invariants.{the_rules}
use Rattle.replica.proofs.performing.perform_all.Goals as goal

pub returns-in_default : goal.returns-in_default
returns-in_default g c =
    let S = ReplicaState g.row.M-Command.Denot g.row.M-Command-Id.Denot g.row.M-Answer.Denot g.row.M.Denot in
    let here : S = seen c.state-in-loop-turn.inside in
    let turns : c.count-turns.result ≡ length c.args.state.now.decisions = c.count-turns.ensures ∙ ap (λ (r : S). length r.decisions) c.state.view_is in
    let high : LAST_SLOT < here.slot_out =
    ⊎_elim
    (λ (l : LAST_SLOT < here.slot_out). l)
    (λ (l : here.slot_out ≤ LAST_SLOT). absurd (true≢false (sym (c.in_default.ensures.valid.1 (c.state-in-loop-turn.invariant.1, l)))))
    (cases_lt LAST_SLOT here.slot_out) in
    let none : at_slot here.slot_out here.decisions ≡ None = none_above here.slot_out here.decisions c.state-in-loop-turn.invariant.2 high in
    let undecided : at_slot c.loop-turn.state.slot_out c.loop-turn.state.decisions ≡ None = subst (λ (r : S). at_slot r.slot_out r.decisions ≡ None) c.state-in-loop-turn.view_is none in
    ended (the_rules g) c.count-turns.result c.loop-turn.turn (length c.args.state.now.decisions) c.loop-turn.state c.args.state.now undecided c.loop-turn.invariant turns

pub returns-in_default-get : goal.returns-in_default-get
returns-in_default-get g c =
    let S = ReplicaState g.row.M-Command.Denot g.row.M-Command-Id.Denot g.row.M-Answer.Denot g.row.M.Denot in
    let here : S = seen c.state-in-loop-turn.inside in
    let turns : c.count-turns.result ≡ length c.args.state.now.decisions = c.count-turns.ensures ∙ ap (λ (r : S). length r.decisions) c.state.view_is in
    let at : c.in-Some.slot ≡ here.slot_out = c.in-Some.ensures.value in
    let none : at_slot here.slot_out here.decisions ≡ None = subst (λ s. at_slot s here.decisions ≡ None) at (sym c.in_default-get.ensures) in
    let undecided : at_slot c.loop-turn.state.slot_out c.loop-turn.state.decisions ≡ None = subst (λ (r : S). at_slot r.slot_out r.decisions ≡ None) c.state-in-loop-turn.view_is none in
    ended (the_rules g) c.count-turns.result c.loop-turn.turn (length c.args.state.now.decisions) c.loop-turn.state c.args.state.now undecided c.loop-turn.invariant turns

pub perform-requires : goal.perform-requires
perform-requires g c =
    let S = ReplicaState g.row.M-Command.Denot g.row.M-Command-Id.Denot g.row.M-Answer.Denot g.row.M.Denot in
    let at : c.in-Some.slot ≡ c.loop-turn.state.slot_out = c.in-Some.ensures.value ∙ ap (λ (r : S). r.slot_out) c.state-in-loop-turn.view_is in
    let same = gives_way_alike (the_rules g) c.in_ok-command.command (at_slot c.loop-turn.state.slot_out c.loop-turn.state.proposals) c.loop-turn.state in
    at ∙ (sym same.slot_out ∙ ap (λ (r : S). r.slot_out) (sym c.in_ok-give_way.ensures))

pub loop-turn-preserved : goal.loop-turn-preserved
loop-turn-preserved g c =
    let S = ReplicaState g.row.M-Command.Denot g.row.M-Command-Id.Denot g.row.M-Answer.Denot g.row.M.Denot in
    let here : S = seen c.state-in-loop-turn.inside in
    let at : c.in-Some.slot ≡ here.slot_out = c.in-Some.ensures.value in
    let found : at_slot c.in-Some.slot here.decisions ≡ Some c.in_ok-command.command = sym c.in-Some-get.ensures ∙ ap Some (sym c.in_ok-command.ensures) in
    let decided : at_slot c.loop-turn.state.slot_out c.loop-turn.state.decisions ≡ Some c.in_ok-command.command =
    subst (λ (r : S). at_slot r.slot_out r.decisions ≡ Some c.in_ok-command.command) c.state-in-loop-turn.view_is (subst (λ s. at_slot s here.decisions ≡ Some c.in_ok-command.command) at found) in
    turn_on (the_rules g) c.count-turns.result c.loop-turn.turn c.loop-turn.state c.give_way.new.state c.perform.new.state c.in_ok-command.command (omega arith) decided c.in_ok-give_way.ensures c.in_ok-perform.ensures ∙ c.loop-turn.invariant
