-- The last commands of sessions.
use Rattle.std.proofs.Common.{◌≡◌, ℕ, zero, suc, ◌≤◌, ◌<◌, length, List, [], ◌∷◌, ◌++◌, Bool, true, false, Option, Some, None, refl, sym, ap, ◌∙◌, subst, ⊎_elim, cond, take, drop, arith}
use Rattle.std.specs.Prelude.{slice_get, is_some}
use Rattle.std.proofs.lemmas.Bool.{cases_lt}
use Rattle.std.proofs.lemmas.Option.{slice_get_within, slice_get_past}
use Rattle.maildrop.specs.CommandId.{CommandId}
use Rattle.maildrop.specs.Ticket.{Ticket}
use Rattle.node.specs.declared.log.NodeLog.{NodeLog}
use Rattle.pop3_wire.specs.declared.line.Line.{Line}
use Rattle.session.specs.declared.transcript.Asked.{Asked}
use Rattle.session.specs.declared.transcript.Transcript.{Transcript}
use Rattle.audit.specs.Case.{Plain, key_in, turns_of, state_at}
use Rattle.audit.specs.Checks.{AreReplayed, end_state}
use Rattle.audit.specs.Names.{key_by, entry_key, with_key, entry_keys}
use Rattle.audit.specs.Nodes.{Replayed}
use Rattle.audit.specs.Records.{place_of, inputs_in, begun_at, RealCase, case_of}
use Rattle.audit.specs.Replays.{answer}
use Rattle.audit.specs.Speakers.{AreAnswered}
use Rattle.audit.specs.Turns.{Turns, asks, asks_by, hangups, is_of_line, turns_from, script_of}
use Rattle.audit.specs.Written.{last_of, answered_last, script_keys, in_the_end}
use Rattle.audit.proofs.Firsts.{got_mapped}
use Rattle.audit.proofs.Naming.{drop_got}
use Rattle.audit.proofs.Numbering.{got_before, got_last, length_more}
use Rattle.audit.proofs.Sessions.{by_script}

last_behind : {X : Type 0} (xs : List X) (x : X) → last_of (xs ++ x ∷ []) ≡ Some x
last_behind [] x = refl
last_behind (y ∷ []) x = refl
last_behind (y ∷ z ∷ xs) x = last_behind (z ∷ xs) x

module _ {A : Type 0} where
  keys_both : (k : ℕ) (entries : List (Asked A)) → entry_keys entries ≡ entry_keys (take k entries) ++ entry_keys (drop k entries)
  keys_both zero entries = refl
  keys_both (suc k) [] = refl
  keys_both (suc k) (entry ∷ entries) =
      go (entry_key entry) (keys_both k entries)
    where
      go : (key : Option CommandId) → entry_keys entries ≡ entry_keys (take k entries) ++ entry_keys (drop k entries) → with_key key (entry_keys entries) ≡ with_key key (entry_keys (take k entries)) ++ entry_keys (drop k entries)
      go None e = e
      go (Some key) e = ap (λ ks. key ∷ ks) e

  -- after a number no entry has a ticket
  pub last_here : (n number : ℕ) (entries : List (Asked A)) (entry : Asked A) (ticket : Ticket) (id : CommandId) → suc number ≡ n → slice_get entries number ≡ Some entry → entry.ticket ≡ Some ticket → id ≡ record { user = entry.name; ticket = ticket } → entry_keys (drop n entries) ≡ [] → Some id ≡ last_of (entry_keys entries)
  last_here n number entries entry ticket id next at its is none =
      ap (λ i. Some i) is
      ∙ sym (last_behind (entry_keys (take number entries)) (record { user = entry.name; ticket = ticket }))
      ∙ ap (λ ks. last_of (entry_keys (take number entries) ++ ks)) (sym rest)
      ∙ ap last_of (sym (keys_both number entries))
    where
      rest : entry_keys (drop number entries) ≡ record { user = entry.name; ticket = ticket } ∷ []
      rest =
          ap entry_keys (drop_got entries number entry at)
          ∙ ap (λ t. with_key (key_by entry.name t) (entry_keys (drop (suc number) entries))) its
          ∙ ap (λ ks. record { user = entry.name; ticket = ticket } ∷ ks) (ap (λ k. entry_keys (drop k entries)) next ∙ none)

  pub none_here : (n number : ℕ) (entries : List (Asked A)) (entry : Asked A) → suc number ≡ n → slice_get entries number ≡ Some entry → entry.ticket ≡ None → entry_keys (drop n entries) ≡ [] → entry_keys (drop number entries) ≡ []
  none_here n number entries entry next at its none =
      ap entry_keys (drop_got entries number entry at)
      ∙ ap (λ t. with_key (key_by entry.name t) (entry_keys (drop (suc number) entries))) its
      ∙ ap (λ k. entry_keys (drop k entries)) next ∙ none

module _ {A : Type 0} (logs : List (NodeLog A)) (transcripts : List (Transcript A)) where
  abbrev real : RealCase A
  real = case_of logs transcripts

  one_key : (line : Option Line) (entry : Asked A) (ticket : Option Ticket) (rest : Turns A) (keys : List CommandId) → key_in real rest ≡ keys → key_in real (asks_by line entry ticket ++ rest) ≡ with_key (key_by entry.name ticket) keys
  one_key line entry None rest keys h = h
  one_key line entry (Some ticket) rest keys h = ap (λ ks. record { user = entry.name; ticket = ticket } ∷ ks) h

  keys_hangups : (entries : List (Asked A)) → key_in real (hangups entries) ≡ entry_keys entries
  keys_hangups [] = refl
  keys_hangups (entry ∷ entries) = one_key None entry entry.ticket (hangups entries) (entry_keys entries) (keys_hangups entries)

  keys_turns : (number : ℕ) (lines : List Line) (entries : List (Asked A)) → key_in real (turns_from number lines entries) ≡ entry_keys entries
  keys_turns number [] entries = keys_hangups entries
  keys_turns number (line ∷ lines) [] = keys_turns (suc number) lines []
  keys_turns number (line ∷ lines) (entry ∷ entries) =
      go (is_of_line number entry.line) (keys_turns (suc number) lines entries) (keys_turns (suc number) lines (entry ∷ entries))
    where
      go : (t : Bool) → key_in real (turns_from (suc number) lines entries) ≡ entry_keys entries → key_in real (turns_from (suc number) lines (entry ∷ entries)) ≡ entry_keys (entry ∷ entries)
          → key_in real (cond t (asks (Some line) entry ++ turns_from (suc number) lines entries) (Plain line ∷ turns_from (suc number) lines (entry ∷ entries))) ≡ entry_keys (entry ∷ entries)
      go true asked plain = one_key (Some line) entry entry.ticket (turns_from (suc number) lines entries) (entry_keys entries) asked
      go false asked plain = plain

  pub keys_script : (t : Transcript A) → key_in real (turns_of real (script_of t)) ≡ entry_keys t.asked
  keys_script t = by_script logs transcripts (λ turns entries. key_in real turns ≡ entry_keys entries) t (keys_turns 0 t.lines t.asked) refl

  -- a session that asked nothing awaits nothing
  pub none_awaited : (t : Transcript A) (entries : List (Asked A)) (last : Option CommandId) → entries ≡ t.asked → last ≡ last_of (entry_keys entries) → last ≡ None → false ≡ answered_last real (last_of (key_in real (turns_of real (script_of t))))
  none_awaited t entries last is its none =
      sym (ap (λ ks. answered_last real (last_of ks)) (keys_script t) ∙ ap (λ es. answered_last real (last_of (entry_keys es))) (sym is) ∙ ap (answered_last real) (sym its ∙ none))

  last_is : (t : Transcript A) (entries : List (Asked A)) (last : Option CommandId) (id : CommandId) → entries ≡ t.asked → last ≡ last_of (entry_keys entries) → last ≡ Some id → answered_last real (last_of (key_in real (turns_of real (script_of t)))) ≡ is_some (answer (end_state logs transcripts (place_of id.ticket.node logs)) id)
  last_is t entries last id is its some =
      ap (λ ks. answered_last real (last_of ks)) (keys_script t) ∙ ap (λ es. answered_last real (last_of (entry_keys es))) (sym is) ∙ ap (answered_last real) (sym its ∙ some)

  pub answered_here : (t : Transcript A) (entries : List (Asked A)) (last : Option CommandId) (id : CommandId) (home : ℕ) (replay : Replayed A) (replays : List (Replayed A)) (result : Bool) → entries ≡ t.asked → last ≡ last_of (entry_keys entries) → last ≡ Some id → home ≡ place_of id.ticket.node logs
      → AreReplayed logs transcripts replays → slice_get replays home ≡ Some replay → result ≡ is_some (answer replay.state id) → result ≡ answered_last real (last_of (key_in real (turns_of real (script_of t))))
  answered_here t entries last id home replay replays result is its some here all at value =
      value ∙ ap (λ s. is_some (answer s id)) (all.each home replay at ∙ ap (end_state logs transcripts) here) ∙ sym (last_is t entries last id is its some)

  pub answered_nowhere : (t : Transcript A) (entries : List (Asked A)) (last : Option CommandId) (id : CommandId) (home : ℕ) (replays : List (Replayed A)) → entries ≡ t.asked → last ≡ last_of (entry_keys entries) → last ≡ Some id → home ≡ place_of id.ticket.node logs
      → AreReplayed logs transcripts replays → length replays ≤ home → false ≡ answered_last real (last_of (key_in real (turns_of real (script_of t))))
  answered_nowhere t entries last id home replays is its some here all past =
      sym (last_is t entries last id is its some
      ∙ ap (λ n. is_some (answer (end_state logs transcripts n) id)) (sym here)
      ∙ ap (λ o. is_some (answer (state_at real home (length (inputs_in o))) id)) nothing
      ∙ ap (λ o. is_some (answer (begun_at logs home o) id)) nothing)
    where
      count : length replays ≡ length logs
      count = all.count

      nothing : slice_get logs home ≡ None
      nothing = slice_get_past logs home (subst (λ n. n ≤ home) all.count past)

  -- one session after another
  pub record Answered (m : ℕ) (answered : List Bool) : Type 0 where
    pub count : length answered ≡ m
    pub each : (i : ℕ) (b : Bool) → slice_get answered i ≡ Some b → b ≡ in_the_end real i

  pub none_answered : (answered : List Bool) → answered ≡ [] → Answered 0 answered
  none_answered answered e = record { count = ap length e; each = λ i b h. absurd_none (sym (ap (λ bs. slice_get bs i) e) ∙ h) }
    where
      absurd_none : {b : Bool} {T : Type 0} → ◌≡◌ {A = Option Bool} None (Some b) → T
      absurd_none h = absurd (cc)

  pub one_answered : (m next : ℕ) (old new : List Bool) (t : Transcript A) (b : Bool) → Answered m old → next ≡ suc m → slice_get transcripts m ≡ Some t → new ≡ old ++ b ∷ [] → b ≡ answered_last real (last_of (key_in real (turns_of real (script_of t)))) → Answered next new
  one_answered m next old new t b h is at more its =
      subst (λ n. Answered n new) (sym is) (subst (Answered (suc m)) (sym more) (record { count = length_more old b ∙ ap suc h.count; each = each }))
    where
      keys_at : script_keys real (slice_get real.scripts m) ≡ key_in real (turns_of real (script_of t))
      keys_at = ap (script_keys real) (got_mapped script_of transcripts m t at) ∙ go (script_of t)
        where
          go : (s : Option (Turns A)) → script_keys real (Some s) ≡ key_in real (turns_of real s)
          go None = refl
          go (Some turns) = refl

      each : (i : ℕ) (c : Bool) → slice_get (old ++ b ∷ []) i ≡ Some c → c ≡ in_the_end real i
      each i c e =
          ⊎_elim
          (λ (low : i < length old). h.each i c (sym (got_before old b i low) ∙ e))
          (λ (high : length old ≤ i).
          let less = slice_get_within (old ++ b ∷ []) i c e in
          let size = length_more old b in
          let same : length old ≡ i = omega (arith, less, size, high) in
          some_same (sym (got_last old b i same) ∙ e) ∙ its_end (sym h.count ∙ same))
          (cases_lt i (length old))
        where
          some_same : Some b ≡ Some c → c ≡ b
          some_same h = cc

          its_end : m ≡ i → b ≡ in_the_end real i
          its_end same = its ∙ ap (λ ks. answered_last real (last_of ks)) (sym keys_at) ∙ ap (in_the_end real) same

  pub all_answered : (m : ℕ) (answered : List Bool) → Answered m answered → m ≡ length transcripts → AreAnswered logs transcripts answered
  all_answered m answered h same = record { count = h.count ∙ same; each = h.each }
