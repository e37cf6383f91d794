-- What sessions do, turn by turn.
use Rattle.std.proofs.Common.{◌≡◌, ℕ, zero, suc, ◌≤◌, ◌<◌, length, List, [], ◌∷◌, ◌++◌, Bool, true, false, Option, Some, None, refl, sym, ap, ◌∙◌, cond, drop, append_assoc, arith}
use Rattle.std.specs.Prelude.{slice_get}
use Rattle.std.proofs.Math.ListN.{drop_of_length-le}
use Rattle.std.proofs.lemmas.List.{append-nil}
use Rattle.maildrop.specs.Ticket.{Ticket}
use Rattle.pop3_wire.specs.declared.line.Line.{Line}
use Rattle.session.specs.declared.transcript.Asked.{Asked}
use Rattle.audit.specs.Case.{Plain}
use Rattle.audit.specs.Events.{kinds, behind}
use Rattle.audit.specs.Speakers.{asked_kind}
use Rattle.audit.specs.Turns.{Turns, asks, asks_by, hangups, is_of_line, turn_of, turns_from}
use Rattle.audit.specs.declared.kind.Kind.{Kind}
use Rattle.audit.specs.declared.kind.Kind.TheVariants.{PlainLine, AskingLine, Hangup}
use Rattle.audit.proofs.Naming.{drop_got}

drop_more : {X : Type 0} (xs : List X) (k : ℕ) → k < length xs → (x : X) × (drop k xs ≡ x ∷ drop (suc k) xs)
drop_more [] k h = absurd (omega (arith, h))
drop_more (x ∷ xs) zero h = (x, refl)
drop_more (x ∷ xs) (suc k) h =
    let less : k < length xs = omega (arith, h) in
    drop_more xs k less

pub drop_behind : (kinds : List Kind) (k next : ℕ) → k < length kinds → next ≡ suc k → drop next kinds ≡ behind (drop k kinds)
drop_behind kinds k next h is =
    ap (λ n. drop n kinds) is ∙ sym (ap behind (drop_more kinds k h).1)

module _ {A : Type 0} where
  asking_event : (line : Line) (entry : Asked A) (ticket : Option Ticket) (rest : Turns A) → kinds (asks_by (Some line) entry ticket ++ rest) ≡ asked_kind AskingLine ticket ++ kinds rest
  asking_event line entry None rest = refl
  asking_event line entry (Some ticket) rest = refl

  leaves : (entry : Asked A) (ticket : Option Ticket) (rest : Turns A) → kinds (asks_by None entry ticket ++ rest) ≡ asked_kind Hangup ticket ++ kinds rest
  leaves entry None rest = refl
  leaves entry (Some ticket) rest = refl

  -- a line that asks
  pub line_asks : (number next after : ℕ) (entries : List (Asked A)) (entry : Asked A) (old new : List Kind) (own : Bool) → slice_get entries next ≡ Some entry → after ≡ suc next → own ≡ is_of_line number entry.line → own ≡ true → new ≡ old ++ asked_kind AskingLine entry.ticket
      → (line : Line) (lines : List Line) → old ++ kinds (turns_from number (line ∷ lines) (drop next entries)) ≡ new ++ kinds (turns_from (suc number) lines (drop after entries))
  line_asks number next after entries entry old new own at is its asks_it pushed line lines =
      ap (λ es. old ++ kinds (turn_of number line (turns_from (suc number) lines) es)) (drop_got entries next entry at)
      ∙ ap (λ t. old ++ kinds (cond t (asks (Some line) entry ++ turns_from (suc number) lines (drop (suc next) entries)) (Plain line ∷ turns_from (suc number) lines (entry ∷ drop (suc next) entries)))) (sym its ∙ asks_it)
      ∙ ap (λ ks. old ++ ks) (asking_event line entry entry.ticket (turns_from (suc number) lines (drop (suc next) entries)))
      ∙ sym (append_assoc old (asked_kind AskingLine entry.ticket) (kinds (turns_from (suc number) lines (drop (suc next) entries))))
      ∙ ap (λ ks. ks ++ kinds (turns_from (suc number) lines (drop (suc next) entries))) (sym pushed)
      ∙ ap (λ k. new ++ kinds (turns_from (suc number) lines (drop k entries))) (sym is)

  -- a line that doesn't
  pub line_says : (number next : ℕ) (entries : List (Asked A)) (entry : Asked A) (old new : List Kind) (own : Bool) → slice_get entries next ≡ Some entry → own ≡ is_of_line number entry.line → own ≡ false → new ≡ old ++ PlainLine ∷ []
      → (line : Line) (lines : List Line) → old ++ kinds (turns_from number (line ∷ lines) (drop next entries)) ≡ new ++ kinds (turns_from (suc number) lines (drop next entries))
  line_says number next entries entry old new own at its other pushed line lines =
      ap (λ es. old ++ kinds (turn_of number line (turns_from (suc number) lines) es)) (drop_got entries next entry at)
      ∙ ap (λ t. old ++ kinds (cond t (asks (Some line) entry ++ turns_from (suc number) lines (drop (suc next) entries)) (Plain line ∷ turns_from (suc number) lines (entry ∷ drop (suc next) entries)))) (sym its ∙ other)
      ∙ sym (append_assoc old (PlainLine ∷ []) (kinds (turns_from (suc number) lines (entry ∷ drop (suc next) entries))))
      ∙ ap (λ ks. ks ++ kinds (turns_from (suc number) lines (entry ∷ drop (suc next) entries))) (sym pushed)
      ∙ ap (λ es. new ++ kinds (turns_from (suc number) lines es)) (sym (drop_got entries next entry at))

  pub last_says : (number next : ℕ) (entries : List (Asked A)) (old new : List Kind) → length entries ≤ next → new ≡ old ++ PlainLine ∷ []
      → (line : Line) (lines : List Line) → old ++ kinds (turns_from number (line ∷ lines) (drop next entries)) ≡ new ++ kinds (turns_from (suc number) lines (drop next entries))
  last_says number next entries old new past pushed line lines =
      ap (λ (es : List (Asked A)). old ++ kinds (turn_of number line (turns_from (suc number) lines) es)) (drop_of_length-le entries past)
      ∙ sym (append_assoc old (PlainLine ∷ []) (kinds (turns_from {A = A} (suc number) lines [])))
      ∙ ap (λ ks. ks ++ kinds (turns_from {A = A} (suc number) lines [])) (sym pushed)
      ∙ ap (λ (es : List (Asked A)). new ++ kinds (turns_from (suc number) lines es)) (sym (drop_of_length-le entries past))

  pub lines_next : (number next after : ℕ) (lines : List Line) (entries : List (Asked A)) (start old new : List Kind) (all : List Kind) → number < length lines → start ++ all ≡ old ++ kinds (turns_from number (drop number lines) (drop next entries))
      → ((line : Line) (lines : List Line) → old ++ kinds (turns_from number (line ∷ lines) (drop next entries)) ≡ new ++ kinds (turns_from (suc number) lines (drop after entries)))
      → (on : ℕ) → on ≡ suc number → start ++ all ≡ new ++ kinds (turns_from on (drop on lines) (drop after entries))
  lines_next number next after lines entries start old new all within so_far turn on is =
      let its = drop_more lines number within in
      so_far
      ∙ ap (λ ls. old ++ kinds (turns_from number ls (drop next entries))) its.1
      ∙ turn its.0 (drop (suc number) lines)
      ∙ ap (λ n. new ++ kinds (turns_from n (drop n lines) (drop after entries))) (sym is)

  pub lines_end : (number next : ℕ) (lines : List Line) (entries : List (Asked A)) (start now all : List Kind) → length lines ≤ number → start ++ all ≡ now ++ kinds (turns_from number (drop number lines) (drop next entries)) → start ++ all ≡ now ++ kinds (hangups (drop next entries))
  lines_end number next lines entries start now all past so_far =
      so_far ∙ ap (λ ls. now ++ kinds (turns_from number ls (drop next entries))) (drop_of_length-le lines past)

  pub hangup_next : (number on : ℕ) (entries : List (Asked A)) (entry : Asked A) (old new all : List Kind) → slice_get entries number ≡ Some entry → on ≡ suc number → all ≡ old ++ kinds (hangups (drop number entries)) → new ≡ old ++ asked_kind Hangup entry.ticket
      → all ≡ new ++ kinds (hangups (drop on entries))
  hangup_next number on entries entry old new all at is so_far pushed =
      so_far
      ∙ ap (λ es. old ++ kinds (hangups es)) (drop_got entries number entry at)
      ∙ ap (λ ks. old ++ ks) (leaves entry entry.ticket (hangups (drop (suc number) entries)))
      ∙ sym (append_assoc old (asked_kind Hangup entry.ticket) (kinds (hangups (drop (suc number) entries))))
      ∙ ap (λ ks. ks ++ kinds (hangups (drop (suc number) entries))) (sym pushed)
      ∙ ap (λ n. new ++ kinds (hangups (drop n entries))) (sym is)

  pub hangups_end : (number : ℕ) (entries : List (Asked A)) (now all : List Kind) → length entries ≤ number → all ≡ now ++ kinds (hangups (drop number entries)) → now ≡ all
  hangups_end number entries now all past so_far =
      sym (so_far ∙ ap (λ es. now ++ kinds (hangups es)) (drop_of_length-le entries past) ∙ append-nil now)
