-- Sessions are checked one after another, by their entries.
use Rattle.std.proofs.Common.{◌≡◌, ℕ, suc, List, [], ◌∷◌, ◌++◌, Bool, true, false, Option, Some, None, refl, sym, ap, ◌∙◌, subst, cond}
use Rattle.std.specs.Prelude.{◌&&◌}
use Rattle.std.proofs.lemmas.Bool.{true≢false, and_parts, or_parts}
use Rattle.maildrop.specs.CommandId.{CommandId, same_id}
use Rattle.maildrop.specs.Ticket.{Ticket}
use Rattle.node.specs.declared.log.NodeLog.{NodeLog}
use Rattle.pop3_wire.specs.declared.line.Line.{Line}
use Rattle.session.specs.declared.transcript.Asked.{Asked}
use Rattle.session.specs.declared.transcript.Transcript.{Transcript}
use Rattle.audit.specs.Case.{Plain, turns_of}
use Rattle.audit.specs.Checks.{was_named, submit_of, named_after, node_by, first_node as node_asked}
use Rattle.audit.specs.Names.{key_by, entry_key, with_key}
use Rattle.audit.specs.Records.{place_of, places_from, RealCase, case_of}
use Rattle.audit.specs.Replays.{after}
use Rattle.audit.specs.Turns.{Turns, asks_by, asks, hangups, is_of_line, turns_from, is_empty, is_blank, script_of}
use Rattle.audit.specs.Wrong.{is_good, are_good, seen_after, first_node, node_of}

empty_is : {X : Type 0} (xs : List X) → is_empty xs ≡ true → xs ≡ []
empty_is [] e = refl
empty_is (x ∷ xs) e = absurd (true≢false (sym e))

-- what was named stays named
pub less_named : {A : Type 0} (id : CommandId) (named : List CommandId) (entries : List (Asked A)) → was_named (named_after named entries) id ≡ false → was_named named id ≡ false
less_named id named [] h = h
less_named id named (entry ∷ entries) h =
    go (entry_key entry) (less_named id (with_key (entry_key entry) named) entries h)
  where
    go : (key : Option CommandId) → was_named (with_key key named) id ≡ false → was_named named id ≡ false
    go None e = e
    go (Some key) e = (or_parts (same_id id key) (was_named named id) e).1

module _ {A : Type 0} (logs : List (NodeLog A)) (transcripts : List (Transcript A)) where
  abbrev real : RealCase A
  real = case_of logs transcripts

  -- entries, as their turns are
  abbrev pub entry_good : ℕ → List CommandId → Asked A → Option Ticket → Bool
  entry_good n seen entry None = true
  entry_good n seen entry (Some ticket) = is_good real n seen (submit_of entry) (record { user = entry.name; ticket = ticket }) entry.outcome

  abbrev pub entries_good : ℕ → List CommandId → List (Asked A) → Bool
  entries_good n seen [] = true
  entries_good n seen (entry ∷ entries) = entry_good n seen entry entry.ticket && entries_good n (with_key (entry_key entry) seen) entries

  abbrev pub node_in : Option ℕ → ℕ
  node_in None = first_node real real.nodes
  node_in (Some number) = place_of number logs

  one_good : (n : ℕ) (seen : List CommandId) (line : Option Line) (entry : Asked A) (ticket : Option Ticket) (rest : Turns A) (good : List CommandId → Bool) → ((seen : List CommandId) → are_good real n seen rest ≡ good seen)
      → are_good real n seen (asks_by line entry ticket ++ rest) ≡ (entry_good n seen entry ticket && good (with_key (key_by entry.name ticket) seen))
  one_good n seen line entry None rest good h = h seen
  one_good n seen line entry (Some ticket) rest good h =
      ap (λ t. entry_good n seen entry (Some ticket) && t) (h (record { user = entry.name; ticket = ticket } ∷ seen))

  good_hangups : (n : ℕ) (seen : List CommandId) (entries : List (Asked A)) → are_good real n seen (hangups entries) ≡ entries_good n seen entries
  good_hangups n seen [] = refl
  good_hangups n seen (entry ∷ entries) = one_good n seen None entry entry.ticket (hangups entries) (λ seen. entries_good n seen entries) (λ seen. good_hangups n seen entries)

  good_turns : (n : ℕ) (seen : List CommandId) (number : ℕ) (lines : List Line) (entries : List (Asked A)) → are_good real n seen (turns_from number lines entries) ≡ entries_good n seen entries
  good_turns n seen number [] entries = good_hangups n seen entries
  good_turns n seen number (line ∷ lines) [] = good_turns n seen (suc number) lines []
  good_turns n seen number (line ∷ lines) (entry ∷ entries) =
      go (is_of_line number entry.line) (λ seen. good_turns n seen (suc number) lines entries) (good_turns n seen (suc number) lines (entry ∷ entries))
    where
      go : (t : Bool) → ((seen : List CommandId) → are_good real n seen (turns_from (suc number) lines entries) ≡ entries_good n seen entries) → are_good real n seen (turns_from (suc number) lines (entry ∷ entries)) ≡ entries_good n seen (entry ∷ entries)
          → are_good real n seen (cond t (asks (Some line) entry ++ turns_from (suc number) lines entries) (Plain line ∷ turns_from (suc number) lines (entry ∷ entries))) ≡ entries_good n seen (entry ∷ entries)
      go true asked plain = one_good n seen (Some line) entry entry.ticket (turns_from (suc number) lines entries) (λ seen. entries_good n seen entries) asked
      go false asked plain = plain

  one_seen : (seen : List CommandId) (line : Option Line) (entry : Asked A) (ticket : Option Ticket) (rest : Turns A) (after : List CommandId → List CommandId) → ((seen : List CommandId) → seen_after real seen rest ≡ after seen)
      → seen_after real seen (asks_by line entry ticket ++ rest) ≡ after (with_key (key_by entry.name ticket) seen)
  one_seen seen line entry None rest after h = h seen
  one_seen seen line entry (Some ticket) rest after h = h (record { user = entry.name; ticket = ticket } ∷ seen)

  seen_hangups : (seen : List CommandId) (entries : List (Asked A)) → seen_after real seen (hangups entries) ≡ named_after seen entries
  seen_hangups seen [] = refl
  seen_hangups seen (entry ∷ entries) = one_seen seen None entry entry.ticket (hangups entries) (λ seen. named_after seen entries) (λ seen. seen_hangups seen entries)

  seen_turns : (seen : List CommandId) (number : ℕ) (lines : List Line) (entries : List (Asked A)) → seen_after real seen (turns_from number lines entries) ≡ named_after seen entries
  seen_turns seen number [] entries = seen_hangups seen entries
  seen_turns seen number (line ∷ lines) [] = seen_turns seen (suc number) lines []
  seen_turns seen number (line ∷ lines) (entry ∷ entries) =
      go (is_of_line number entry.line) (λ seen. seen_turns seen (suc number) lines entries) (seen_turns seen (suc number) lines (entry ∷ entries))
    where
      go : (t : Bool) → ((seen : List CommandId) → seen_after real seen (turns_from (suc number) lines entries) ≡ named_after seen entries) → seen_after real seen (turns_from (suc number) lines (entry ∷ entries)) ≡ named_after seen (entry ∷ entries)
          → seen_after real seen (cond t (asks (Some line) entry ++ turns_from (suc number) lines entries) (Plain line ∷ turns_from (suc number) lines (entry ∷ entries))) ≡ named_after seen (entry ∷ entries)
      go true asked plain = one_seen seen (Some line) entry entry.ticket (turns_from (suc number) lines entries) (λ seen. named_after seen entries) asked
      go false asked plain = plain

  one_node : (line : Option Line) (entry : Asked A) (ticket : Option Ticket) (rest : Turns A) (others : Option ℕ) → node_of real rest ≡ node_in others → node_of real (asks_by line entry ticket ++ rest) ≡ node_in (node_by ticket others)
  one_node line entry None rest others h = h
  one_node line entry (Some ticket) rest others h = refl

  node_hangups : (entries : List (Asked A)) → node_of real (hangups entries) ≡ node_in (node_asked entries)
  node_hangups [] = refl
  node_hangups (entry ∷ entries) = one_node None entry entry.ticket (hangups entries) (node_asked entries) (node_hangups entries)

  node_turns : (number : ℕ) (lines : List Line) (entries : List (Asked A)) → node_of real (turns_from number lines entries) ≡ node_in (node_asked entries)
  node_turns number [] entries = node_hangups entries
  node_turns number (line ∷ lines) [] = node_turns (suc number) lines []
  node_turns number (line ∷ lines) (entry ∷ entries) =
      go (is_of_line number entry.line) (node_turns (suc number) lines entries) (node_turns (suc number) lines (entry ∷ entries))
    where
      go : (t : Bool) → node_of real (turns_from (suc number) lines entries) ≡ node_in (node_asked entries) → node_of real (turns_from (suc number) lines (entry ∷ entries)) ≡ node_in (node_asked (entry ∷ entries))
          → node_of real (cond t (asks (Some line) entry ++ turns_from (suc number) lines entries) (Plain line ∷ turns_from (suc number) lines (entry ∷ entries))) ≡ node_in (node_asked (entry ∷ entries))
      go true asked plain = one_node (Some line) entry entry.ticket (turns_from (suc number) lines entries) (node_asked entries) asked
      go false asked plain = plain

  -- a transcript's turns are those of its entries
  pub by_script : (P : Turns A → List (Asked A) → Type 0) (t : Transcript A) → P (turns_from 0 t.lines t.asked) t.asked → P [] [] → P (turns_of real (script_of t)) t.asked
  by_script P t some none =
      go (is_blank t) refl
    where
      go : (b : Bool) → is_blank t ≡ b → P (turns_of real (cond b None (Some (turns_from 0 t.lines t.asked)))) t.asked
      go false e = some
      go true e =
          let p = and_parts (is_empty t.greeting) (is_empty t.lines && is_empty t.asked) e in
          subst (λ entries. P [] entries) (sym (empty_is t.asked (and_parts (is_empty t.lines) (is_empty t.asked) p.1).1)) none

  pub good_script : (n : ℕ) (seen : List CommandId) (t : Transcript A) → are_good real n seen (turns_of real (script_of t)) ≡ entries_good n seen t.asked
  good_script n seen t = by_script (λ turns entries. are_good real n seen turns ≡ entries_good n seen entries) t (good_turns n seen 0 t.lines t.asked) refl

  pub seen_script : (seen : List CommandId) (t : Transcript A) → seen_after real seen (turns_of real (script_of t)) ≡ named_after seen t.asked
  seen_script seen t = by_script (λ turns entries. seen_after real seen turns ≡ named_after seen entries) t (seen_turns seen 0 t.lines t.asked) refl

  pub node_script : (t : Transcript A) → node_of real (turns_of real (script_of t)) ≡ node_in (node_asked t.asked)
  node_script t = by_script (λ turns entries. node_of real turns ≡ node_in (node_asked entries)) t (node_turns 0 t.lines t.asked) refl

  abbrev pub seat_by : Option ℕ → ℕ
  seat_by None = 0
  seat_by (Some number) = place_of number logs

  -- the first log is that of a session without tickets
  pub seat_is : (t : Transcript A) (found : Option ℕ) → node_asked t.asked ≡ found → node_of real (turns_of real (script_of t)) ≡ seat_by found
  seat_is t found e =
      node_script t ∙ ap node_in e ∙ go found
    where
      first : (xs : List (NodeLog A)) → first_node real (places_from 0 xs) ≡ 0
      first [] = refl
      first (x ∷ xs) = refl

      go : (found : Option ℕ) → node_in found ≡ seat_by found
      go None = first logs
      go (Some number) = refl
