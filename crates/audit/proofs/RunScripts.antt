-- The turns of a session that was served are a script.
use Rattle.std.proofs.Common.{◌≡◌, ℕ, ◌+◌, List, [], ◌∷◌, true, Option, Some, None, refl, sym, subst}
use Rattle.std.specs.Prelude.{slice_get}
use Rattle.apop.specs.Stamp.{Stamp}
use Rattle.apop.specs.Accounts.{Account}
use Rattle.maildrop.specs.CommandId.{CommandId}
use Rattle.maildrop.specs.declared.op.Op.{Op}
use Rattle.maildrop.specs.declared.op.Op.TheVariants.{Mail, Take, Commit, Free, Break}
use Rattle.maildrop.specs.Ticket.{Ticket}
use Rattle.maildrop.specs.declared.outcome.Outcome.{Outcome}
use Rattle.node.specs.declared.input.Input.{Input}
use Rattle.node.specs.declared.log.NodeLog.{NodeLog}
use Rattle.pop3_wire.specs.declared.line.Line.{Line}
use Rattle.session.specs.Serve.{IsTranscript}
use Rattle.session.specs.Session.{by_line}
use Rattle.session.specs.declared.state.State.{State}
use Rattle.session.specs.declared.state.Step.TheVariants.{Ask}
use Rattle.session.specs.declared.transcript.Asked.{Asked}
use Rattle.session.specs.declared.transcript.Transcript.{Transcript}
use Rattle.runs.proofs.Fitting.{Fits, StepFits, line_fits}
use Rattle.audit.specs.Case.{EndsIfHangup}
use Rattle.audit.specs.Records.{case_of}
use Rattle.audit.specs.Replays.{is_of_lock}
use Rattle.audit.specs.Turns.{Turns}
use Rattle.audit.specs.Wrong.{IsScript}
use Rattle.audit.proofs.Rests as rests
use Rattle.audit.proofs.Rests.{turns_left, asks_then, IsRest, Next, Says, AsksOn, next}
use Rattle.audit.proofs.RunClients.{Goes, begins}
use Rattle.audit.proofs.RunSteps.{its_transcript}

module _ {A : Type 0} where
  -- a line asks for a lock, or gives one back
  fitting_locks : (op : Op A) (state : State A) → Fits op state → is_of_lock op ≡ true
  fitting_locks Take state fits = refl
  fitting_locks (Commit lock uids) state fits = refl
  fitting_locks (Free lock) state fits = refl
  fitting_locks (Mail text key) state fits = absurd fits
  fitting_locks Break state fits = absurd fits

  asked_locks : (accounts : List Account) (stamp : Stamp) (state : State A) (line : Line) (user : List ℕ) (op : Op A) → (by_line accounts stamp state line).step ≡ Ask user op → is_of_lock op ≡ true
  asked_locks accounts stamp state line user op e =
      fitting_locks op (by_line accounts stamp state line).state (subst (λ step. StepFits step (by_line accounts stamp state line).state) e (line_fits accounts stamp state line))

module _ {A : Type 0} (logs : List (NodeLog A)) (transcripts : List (Transcript A)) where
  abbrev IsItsScript : Turns A → Type 0
  IsItsScript = IsScript (case_of logs transcripts)

  last_asks : (line : Option Line) (user : List ℕ) (op : Op A) (ticket : Ticket) (outcome : Option (Outcome A)) → is_of_lock op ≡ true → EndsIfHangup {I = Input A} {K = CommandId} line outcome [] → IsItsScript (asks_then line user op ticket outcome [])
  last_asks line user op ticket outcome locks ends = (refl, locks, λ none. tt, ends, tt)

  module _ (accounts : List Account) (stamp : Stamp) where
    rest_script : (number : ℕ) (lines : List Line) (entries hangup : List (Asked A)) (state : State A) → IsRest accounts stamp number lines entries hangup state → IsItsScript (turns_left number lines entries hangup)
    rest_script number [] entries hangup state rest =
        go (next accounts stamp number [] entries hangup state rest)
      where
        go : Next accounts stamp number [] entries hangup state → IsItsScript (turns_left number [] entries hangup)
        go (rests.Over o) = subst IsItsScript (sym o.turns) tt
        go (rests.Freed f) = subst IsItsScript (sym f.turns) (last_asks None f.user (Free f.lock) f.ticket None refl (refl, refl))
        go (rests.Said s) = let no : [] ≡ s.line ∷ s.more = s.lines_are in absurd (cc)
        go (rests.AskedLast a) = let no : [] ≡ a.line ∷ [] = a.lines_are in absurd (cc)
        go (rests.AskedOn a) = let no : [] ≡ a.line ∷ a.more = a.lines_are in absurd (cc)
    rest_script number (line ∷ more) entries hangup state rest =
        go (λ behind state rest. rest_script (number + 1) more behind hangup state rest) (next accounts stamp number (line ∷ more) entries hangup state rest)
      where
        said : ((behind : List (Asked A)) (state : State A) → IsRest accounts stamp (number + 1) more behind hangup state → IsItsScript (turns_left (number + 1) more behind hangup))
            → Says accounts stamp number (line ∷ more) entries hangup state → IsItsScript (turns_left number (line ∷ more) entries hangup)
        said later s =
            let all : line ∷ more ≡ s.line ∷ s.more = s.lines_are in
            let same : more ≡ s.more = cc in
            let it : IsItsScript (turns_left (number + 1) s.more entries hangup) = subst (λ ls. IsItsScript (turns_left (number + 1) ls entries hangup)) same (later entries (by_line accounts stamp state s.line).state (subst (λ ls. IsRest accounts stamp (number + 1) ls entries hangup (by_line accounts stamp state s.line).state) (sym same) s.rest)) in
            subst IsItsScript (sym s.turns) it

        asked : ((behind : List (Asked A)) (state : State A) → IsRest accounts stamp (number + 1) more behind hangup state → IsItsScript (turns_left (number + 1) more behind hangup))
            → AsksOn accounts stamp number (line ∷ more) entries hangup state → IsItsScript (turns_left number (line ∷ more) entries hangup)
        asked later a =
            let all : line ∷ more ≡ a.line ∷ a.more = a.lines_are in
            let same : more ≡ a.more = cc in
            let it : IsItsScript (turns_left (number + 1) a.more a.behind hangup) = subst (λ ls. IsItsScript (turns_left (number + 1) ls a.behind hangup)) same (later a.behind a.turn.state (subst (λ ls. IsRest accounts stamp (number + 1) ls a.behind hangup a.turn.state) (sym same) a.rest)) in
            subst IsItsScript (sym a.turns) (refl, asked_locks accounts stamp state a.line a.user a.op a.step, λ none. absurd (some_none a.outcome none), tt, it)
          where
            some_none : (outcome : Outcome A) → Some outcome ≡ None → ⊥
            some_none outcome e = absurd (cc)

        go : ((behind : List (Asked A)) (state : State A) → IsRest accounts stamp (number + 1) more behind hangup state → IsItsScript (turns_left (number + 1) more behind hangup))
            → Next accounts stamp number (line ∷ more) entries hangup state → IsItsScript (turns_left number (line ∷ more) entries hangup)
        go later (rests.Over o) = subst IsItsScript (sym o.turns) tt
        go later (rests.Freed f) = subst IsItsScript (sym f.turns) (last_asks None f.user (Free f.lock) f.ticket None refl (refl, refl))
        go later (rests.Said s) = said later s
        go later (rests.AskedLast a) = subst IsItsScript (sym a.turns) (last_asks (Some a.line) a.user a.op a.ticket a.outcome (asked_locks accounts stamp state a.line a.user a.op a.step) tt)
        go later (rests.AskedOn a) = asked later a

  -- what `serve` promises of a transcript makes its turns a script
  pub served_script : (accounts : List Account) (stamps : ℕ → Stamp) → ((i : ℕ) (t : Transcript A) → slice_get transcripts i ≡ Some t → IsTranscript accounts (stamps i) t)
      → (i : ℕ) (turns : Turns A) → slice_get (case_of logs transcripts).scripts i ≡ Some (Some turns) → IsScript (case_of logs transcripts) turns
  served_script accounts stamps served i turns script =
      let t = its_transcript transcripts i turns script in
      let g : Goes accounts (stamps i) t.0 ⊥ turns _ = begins accounts (stamps i) t.0 (served i t.0 t.1) turns t.2 ⊥ 0 in
      subst IsItsScript (sym g.turns) (rest_script accounts (stamps i) g.number g.lines g.entries g.hangup g.state g.rest)
