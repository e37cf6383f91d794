-- Epochs that had a legal order are one life of services.
use Rattle.std.proofs.Common.{◌≡◌, ℕ, ◌<◌, length, List, [], ◌∷◌, ◌++◌, Some, refl, sym, ap, ◌∙◌, subst, All, arith}
use Rattle.std.specs.Prelude.{slice_get}
use Rattle.std.proofs.lemmas.List.Elements.{All-head, All-tail}
use Rattle.std.specs.declared.alloc.Global.{Global}
use Rattle.apop.specs.Stamp.{Stamp}
use Rattle.maildrop.specs.Kept.{KeptTable, with_others_of}
use Rattle.node.specs.declared.log.NodeLog.{NodeLog}
use Rattle.session.specs.declared.transcript.Transcript.{Transcript}
use Rattle.runs.specs.Lives.{Epoch, IsLife, IsNext, first_of}
use Rattle.runs.specs.Services.{Happening, run_of}
use Rattle.runs.specs.declared.config.Config.{Config}
use Rattle.audit.specs.Order.{IsLegalOrder}
use Rattle.audit.specs.Records.{AreFit, case_of}
use Rattle.audit.specs.Runs.{AreOfService, IsRunOf}
use Rattle.audit.specs.declared.event.Event.{Event}
use Rattle.cluster.specs.Ends.{IsLeftBy, IsLeftByOne}
use Rattle.cluster.specs.declared.setup.Setup.{Setup}
use Rattle.service.specs.Epochs.{EpochValue, IsHandedOn, LeadTo, WasLegalEpoch}
use Rattle.service.specs.Lives.{AreRunsOf, IsRunOfEpoch}
use Rattle.service.specs.Verdicts.{config_of}

-- a legal order of logs and transcripts is a run
abbrev pub RunLaw : Type 0
RunLaw = (config : Config Global) (stamps : ℕ → Stamp) (logs : List (NodeLog Global)) (transcripts : List (Transcript Global))
    → AreFit logs transcripts → AreOfService config stamps logs transcripts
    → (events : List Event) → IsLegalOrder (case_of logs transcripts) events
    → (happenings : List (Happening Global)) × IsRunOf config stamps logs transcripts (run_of config happenings)

got_middle : {X : Type 0} (front : List X) (x : X) (back : List X) → slice_get (front ++ x ∷ back) (length front) ≡ Some x
got_middle [] x back = refl
got_middle (y ∷ front) x back = got_middle front x back

-- there is a log, so that one leads to what was left
left_by_one : (setup : Setup) (logs : List (NodeLog Global)) (left : KeptTable Global) → 0 < length logs → IsLeftBy setup logs left → IsLeftByOne logs left
left_by_one setup [] left some by = absurd (omega (arith, some))
left_by_one setup (log ∷ logs) left some by = by

first_push : (runs : List (Epoch Global)) (run : Epoch Global) (last : Config Global) → first_of (runs ++ run ∷ []) last ≡ first_of runs run.config
first_push [] run last = refl
first_push (first ∷ runs) run last = refl

life_push : (runs : List (Epoch Global)) (run : Epoch Global) (last : Config Global) → IsLife runs run.config → IsNext run last → IsLife (runs ++ run ∷ []) last
life_push [] run last life next = (next, tt)
life_push (first ∷ runs) run last life next =
    (subst (IsNext first) (sym (first_push runs run last)) life.0, life_push runs run last life.1 next)

-- what an epoch that had a legal order ran as, and that the next service opens with what a node of it left
pub record Ran (epoch : EpochValue) (kept : KeptTable Global) : Type 0 where
  pub run : Epoch Global
  pub is_run : IsRunOfEpoch epoch run
  pub leads : (last : Config Global) → last.kept ≡ kept → IsNext run last

ran : RunLaw → (epoch : EpochValue) (next : KeptTable Global) → WasLegalEpoch epoch → IsHandedOn epoch next → Ran epoch next
ran law epoch next was handed =
    let config = config_of epoch.accounts epoch.setup in
    let legal = was.legal in
    let found = law config legal.stamps epoch.logs was.transcripts legal.fit legal.service legal.events legal.order in
    let one = left_by_one epoch.setup epoch.logs handed.left legal.fit.some handed.by_nodes in
    let there : slice_get epoch.logs (length one.before) ≡ Some one.log =
    subst (λ ls. slice_get ls (length one.before) ≡ Some one.log) (sym one.order) (got_middle one.before one.log one.after) in
    let run : Epoch Global = record { config = config; happenings = found.0; node = one.log.opening.me; log = one.log } in
    record {
      run = run;
      is_run = record { begins = refl; stamps = legal.stamps; transcripts = was.transcripts; greeted = was.counted; asking = was.asking; brings = found.1 };
      leads = λ last same. record {
        its_log = found.1.nodes (length one.before) one.log there;
        opens = same ∙ handed.with_others ∙ ap (λ left. with_others_of left epoch.setup.kept) one.its;
      };
    }

pub life_of : RunLaw → (first : KeptTable Global) (before : List EpochValue) (last : Config Global) → LeadTo first before last.kept → All WasLegalEpoch before
    → (runs : List (Epoch Global)) × AreRunsOf before runs × IsLife runs last × ((first_of runs last).kept ≡ first)
life_of law first [] last opens all = ([], refl, tt, opens)
life_of law first (epoch ∷ before) last opens all =
    let its = ran law epoch last.kept (All-head WasLegalEpoch epoch before all) opens.0 in
    let config = config_of epoch.accounts epoch.setup in
    let earlier = life_of law first before its.run.config (subst (λ c. LeadTo first before c.kept) (sym its.is_run.begins) opens.1) (All-tail WasLegalEpoch epoch before all) in
    let runs = earlier.0 in (
      runs ++ its.run ∷ [],
      (runs, its.run, refl, its.is_run, earlier.1),
      life_push runs its.run last earlier.2 (its.leads last refl),
      ap (λ c. c.kept) (first_push runs its.run last) ∙ earlier.3,
    )
