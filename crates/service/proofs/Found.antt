-- A service that ends well has had only epochs in order.
use Rattle.std.proofs.Common.{◌≡◌, ℕ, List, [], Bool, true, false, Option, Some, None, IfSome, refl, sym, ◌∙◌, subst}
use Rattle.std.specs.Io.KnownBytes.{Appends}
use Rattle.session.proofs.Streams.{appends_none}
use Rattle.maildrop.specs.Kept.{KeptTable}
use Rattle.std.specs.Prelude.{is_some}
use Rattle.std.proofs.lemmas.Bool.{true≢false}
use Rattle.std.specs.declared.alloc.Global.{Global}
use Rattle.maildrop.specs.Limits.{Limits}
use Rattle.node.specs.declared.log.NodeLog.{NodeLog}
use Rattle.session.specs.declared.transcript.Transcript.{Transcript}
use Rattle.service.specs.Epochs.{EpochValue, FoundLegal, HasLedIfGood, IsEpochOf, LeadTo, PastValue, TellsOn, WasLegalEpoch, epoch_lines, no_past, with_pending}
use Rattle.service.specs.Verdicts.{WasLegal, config_of}
use Rattle.service.specs.declared.verdict.Verdict.{Verdict}
use Rattle.service.specs.declared.verdict.Verdict.TheVariants.{Legal}

-- what is known of a service that begins stays known
pub told_since : (written now : Option (List ℕ)) (kept : KeptTable Global) (past : PastValue) → TellsOn written now (no_past kept) past → past.is_good ≡ true
    → Appends written now (epoch_lines past.told) × (past.first ≡ kept)
told_since written now kept past told = told (record { written = written; first = kept }) (λ _. (appends_none written, refl))

module _ (nodes window : ℕ) (limits : Limits) (keys : ℕ) (past : PastValue) (verdict : Verdict) (epochs : ℕ) (is_good : Bool) (logs : List (NodeLog Global)) (kept : List (Transcript Global)) (greeted : ℕ) where
  pub found : (has_folder : Bool) → (is_good ≡ true → has_folder ≡ false → past.first ≡ []) → (ended : Option EpochValue) → HasLedIfGood past → past.pending ≡ None → IfSome ended (IsEpochOf nodes window limits keys past.kept)
      → epochs ≡ past.told → is_good ≡ past.is_good → (verdict ≡ Legal → is_some ended ≡ true) → (verdict ≡ Legal → IfSome ended WasLegalEpoch)
      → IfSome ended (λ e. logs ≡ e.logs) → IfSome ended (λ e. kept ≡ e.transcripts.kept) → IfSome ended (λ e. greeted ≡ e.transcripts.greeted)
      → verdict ≡ Legal → is_good ≡ true → FoundLegal nodes window limits keys has_folder epochs logs kept greeted
  found has_folder begins None led none of told good there order its_logs its_kept its_count ok well = absurd (true≢false (sym (there ok)))
  found has_folder begins (Some e) led none of told good there order its_logs its_kept its_count ok well =
      let before = led (sym good ∙ well) in
      let config = config_of e.accounts e.setup in
      record {
        accounts = e.accounts;
        setup = e.setup;
        settings = of.1;
        legal =
            subst (λ ls. WasLegal config ls kept greeted) (sym its_logs)
            (subst (λ ts. WasLegal config e.logs ts greeted) (sym its_kept)
            (subst (λ n. WasLegal config e.logs e.transcripts.kept n) (sym its_count) (order ok)));
        before = before.before;
        count = told ∙ before.count;
        first = past.first;
        begins = begins well;
        opens = subst (LeadTo past.first before.before) (sym of.0) (subst (λ pending. LeadTo past.first (with_pending pending before.before) past.kept) none before.opens);
        all_legal = before.legal;
      }

-- the same of what has other names
pub carried : (nodes window : ℕ) (limits : Limits) (keys : ℕ) (has_folder : Bool) (epochs epochs' : ℕ) (logs logs' : List (NodeLog Global)) (kept kept' : List (Transcript Global)) (greeted greeted' : ℕ)
    → epochs' ≡ epochs → logs' ≡ logs → kept' ≡ kept → greeted' ≡ greeted
    → FoundLegal nodes window limits keys has_folder epochs logs kept greeted → FoundLegal nodes window limits keys has_folder epochs' logs' kept' greeted'
carried nodes window limits keys has_folder epochs epochs' logs logs' kept kept' greeted greeted' same_epochs same_logs same_kept same_greeted legal =
    subst (λ e. FoundLegal nodes window limits keys has_folder e logs' kept' greeted') (sym same_epochs)
    (subst (λ ls. FoundLegal nodes window limits keys has_folder epochs ls kept' greeted') (sym same_logs)
    (subst (λ ts. FoundLegal nodes window limits keys has_folder epochs logs ts greeted') (sym same_kept)
    (subst (λ n. FoundLegal nodes window limits keys has_folder epochs logs kept n) (sym same_greeted) legal)))
