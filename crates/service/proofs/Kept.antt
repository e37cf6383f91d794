-- What is kept once one more session has ended.
use Rattle.std.proofs.Common.{◌≡◌, ℕ, suc, ◌+◌, length, List, [], ◌∷◌, ◌++◌, Bool, true, false, refl, sym, ap, ◌∙◌, cond, arith}
use Rattle.std.specs.Prelude.{◌||◌, not}
use Rattle.std.specs.List.{filter}
use Rattle.std.proofs.lemmas.Bool.{true≢false}
use Rattle.std.proofs.lemmas.List.{append-nil, length_push}
use Rattle.std.proofs.lemmas.List.Elements.{filter-append}
use Rattle.session.specs.declared.transcript.Transcript.{Transcript}
use Rattle.std.specs.declared.alloc.Global.{Global}
use Rattle.service.specs.Transcripts.{TranscriptsValue, AreKept, AreEnded, has_asked, numbers_from}

numbers_push : (number : ℕ) (all : List (Transcript Global)) (t : Transcript Global) → numbers_from number (all ++ t ∷ []) ≡ numbers_from number all ++ cond (has_asked t) ((number + length all) ∷ []) []
numbers_push number [] t =
    let here : number ≡ number + 0 = omega arith in
    ap (λ n. cond (has_asked t) (n ∷ []) []) here
numbers_push number (u ∷ all) t =
    let same : suc number + length all ≡ number + suc (length all) = omega arith in
    go (has_asked u) (numbers_push (suc number) all t ∙ ap (λ n. numbers_from (suc number) all ++ cond (has_asked t) (n ∷ []) []) same)
  where
    go : (asked : Bool) → numbers_from (suc number) (all ++ t ∷ []) ≡ numbers_from (suc number) all ++ cond (has_asked t) ((number + suc (length all)) ∷ []) []
        → cond asked (number ∷ numbers_from (suc number) (all ++ t ∷ [])) (numbers_from (suc number) (all ++ t ∷ [])) ≡ cond asked (number ∷ numbers_from (suc number) all) (numbers_from (suc number) all) ++ cond (has_asked t) ((number + suc (length all)) ∷ []) []
    go true further = ap (λ ns. number ∷ ns) further
    go false further = further

numbers_more : (all : List (Transcript Global)) (t : Transcript Global) → numbers_from 0 (all ++ t ∷ []) ≡ numbers_from 0 all ++ cond (has_asked t) (length all ∷ []) []
numbers_more all t =
    let same : 0 + length all ≡ length all = omega arith in
    numbers_push 0 all t ∙ ap (λ n. numbers_from 0 all ++ cond (has_asked t) (n ∷ []) []) same

-- what is done with a transcript that there is room for
pub record IsAdded (before after : TranscriptsValue) (t : Transcript Global) : Type 0 where
  pub silent : has_asked t ≡ false → (after.kept ≡ before.kept) × (after.numbers ≡ before.numbers)
  pub kept : has_asked t ≡ true → after.kept ≡ before.kept ++ t ∷ []
  pub numbers : has_asked t ≡ true → after.numbers ≡ before.numbers ++ before.ended ∷ []
  pub ended : after.ended ≡ before.ended + 1

pub one_more : (before after : TranscriptsValue) (t : Transcript Global) (all : List (Transcript Global)) → AreKept before all → IsAdded before after t → AreKept after (all ++ t ∷ [])
one_more before after t all h added =
    go (has_asked t) refl
  where
    kept_then : filter has_asked (all ++ t ∷ []) ≡ filter has_asked all ++ cond (has_asked t) (t ∷ []) []
    kept_then = filter-append has_asked all (t ∷ [])

    count : after.ended ≡ length (all ++ t ∷ [])
    count = added.ended ∙ ap (λ n. n + 1) h.counted ∙ sym (length_push all t)

    go : (asked : Bool) → has_asked t ≡ asked → AreKept after (all ++ t ∷ [])
    go true e = record {
      kept = added.kept e ∙ ap (λ ts. ts ++ t ∷ []) h.kept ∙ sym (kept_then ∙ ap (λ b. filter has_asked all ++ cond b (t ∷ []) []) e);
      numbers =
          added.numbers e
          ∙ ap (λ ns. ns ++ before.ended ∷ []) h.numbers
          ∙ ap (λ n. numbers_from 0 all ++ n ∷ []) h.counted
          ∙ sym (numbers_more all t ∙ ap (λ b. numbers_from 0 all ++ cond b (length all ∷ []) []) e);
      counted = count;
    }
    go false e =
        let same = added.silent e in
        record {
          kept = same.0 ∙ h.kept ∙ sym (kept_then ∙ ap (λ b. filter has_asked all ++ cond b (t ∷ []) []) e ∙ append-nil (filter has_asked all));
          numbers = same.1 ∙ h.numbers ∙ sym (numbers_more all t ∙ ap (λ b. numbers_from 0 all ++ cond b (length all ∷ []) []) e ∙ append-nil (numbers_from 0 all));
          counted = count;
        }

-- the same, if there was room for it
pub added : (before after : TranscriptsValue) (t : Transcript Global) (is_added : Bool) → (is_added ≡ true → IsAdded before after t) → after.is_short ≡ (before.is_short || not is_added)
    → (all : List (Transcript Global)) → AreEnded before all → AreEnded after (all ++ t ∷ [])
added before after t is_added room short all h enough =
    go before.is_short is_added refl refl
  where
    go : (s r : Bool) → before.is_short ≡ s → is_added ≡ r → AreKept after (all ++ t ∷ [])
    go true r e f = absurd (true≢false (sym (short ∙ ap (λ b. b || not is_added) e) ∙ enough))
    go false false e f = absurd (true≢false (sym (short ∙ ap (λ b. b || not is_added) e ∙ ap not f) ∙ enough))
    go false true e f = one_more before after t all (h e) (room f)
