-- What a verdict on an epoch says.
use Rattle.std.proofs.Common.{◌≡◌, ◌⊎◌, List, false, sym, ◌∙◌, subst, inl, inr}
use Rattle.std.specs.declared.alloc.Global.{Global}
use Rattle.node.specs.declared.log.NodeLog.{NodeLog}
use Rattle.session.specs.declared.transcript.Transcript.{Transcript}
use Rattle.service.specs.Epochs.{EpochValue, HasEnded, WasLegalEpoch}
use Rattle.service.specs.Transcripts.{TranscriptsValue, AreEnded, WereServed}
use Rattle.service.specs.Verdicts.{IsFound, IsJudged, IsLegal, IsVerdict, config_of}
use Rattle.service.specs.declared.verdict.Verdict.{Verdict}
use Rattle.service.specs.declared.verdict.Verdict.TheVariants.{Legal, Memory}
use Rattle.service.proofs.Legal.{is_legal, legal_before}

pub judged : (logs : List (NodeLog Global)) (transcripts : TranscriptsValue) (verdict : Verdict) → (verdict ≡ Memory) ⊎ IsFound logs transcripts verdict → IsJudged logs transcripts verdict
judged logs transcripts verdict (inl none) = inl none
judged logs transcripts verdict (inr f) = inr (f.found, f.of_kept, f.named)

pub whole : (logs : List (NodeLog Global)) (transcripts : TranscriptsValue) (verdict : Verdict) → (verdict ≡ Memory) ⊎ IsFound logs transcripts verdict
    → (verdict ≡ Memory) ⊎ ((transcripts.is_short ≡ false) × (transcripts.ended ≡ transcripts.greeted))
whole logs transcripts verdict (inl none) = inl none
whole logs transcripts verdict (inr f) = inr (f.whole, f.all)

no_memory : (verdict : Verdict) → verdict ≡ Memory → verdict ≡ Legal → ⊥
no_memory verdict e f = let same : Memory ≡ Legal = sym e ∙ f in absurd (cc)

pub legal : (e : EpochValue) → HasEnded e → (verdict : Verdict) → (verdict ≡ Memory) ⊎ IsFound e.logs e.transcripts verdict → verdict ≡ Legal
    → (all : List (Transcript Global)) → AreEnded e.transcripts all → WereServed e.accounts all → IsLegal (config_of e.accounts e.setup) e.logs all
legal e h verdict (inl none) ok all ended served = absurd (no_memory verdict none ok)
legal e h verdict (inr f) ok all ended served =
    let found : f.found ≡ Legal = legal_before e.transcripts.numbers f.found (sym f.named ∙ ok) in
    let kept = ended f.whole in
    is_legal e.accounts e.setup e.logs all
    (record { service = h.service; nodes = h.nodes; began = h.began; served = served })
    (subst (λ ts. IsVerdict e.logs ts Legal) kept.kept (subst (IsVerdict e.logs e.transcripts.kept) found f.of_kept))

pub found_legal : (e : EpochValue) → HasEnded e → (verdict : Verdict) → (verdict ≡ Memory) ⊎ IsFound e.logs e.transcripts verdict → verdict ≡ Legal → WasLegalEpoch e
found_legal e h verdict (inl none) ok = absurd (no_memory verdict none ok)
found_legal e h verdict (inr f) ok =
    let served = h.served in
    let kept = served.1 f.whole in
    record {
      transcripts = served.0;
      counted = sym f.all ∙ kept.counted;
      asking = kept.kept;
      legal = legal e h verdict (inr f) ok served.0 served.1 served.2;
    }
