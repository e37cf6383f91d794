-- The first entry that names a command, and what its session asked before.
use Rattle.std.proofs.Common.{◌≡◌, ◌⊎◌, ◌∙◌, ℕ, zero, suc, ◌+◌, length, List, [], ◌∷◌, ◌++◌, map, Bool, true, false, Option, Some, None, refl, sym, ap, subst, inl, inr, cond, if◌then◌else◌, arith, take, get_or}
use Rattle.std.specs.Prelude.{slice_get, ◌&&◌}
use Rattle.std.proofs.lemmas.Bool.{true≢false, and_parts}
use Rattle.std.proofs.lemmas.Option.{slice_get_within, slice_get_read}
use Rattle.ballot.specs.Lists.{IsIn}
use Rattle.maildrop.specs.CommandId.{CommandId, same_id}
use Rattle.maildrop.specs.Equality.{id_decides}
use Rattle.maildrop.specs.Ticket.{Ticket}
use Rattle.node.specs.declared.log.NodeLog.{NodeLog}
use Rattle.pop3_wire.specs.declared.line.Line.{Line}
use Rattle.session.specs.declared.transcript.Asked.{Asked}
use Rattle.session.specs.declared.transcript.Transcript.{Transcript}
use Rattle.audit.specs.Answered.{are_answered, are_answered_in, is_turn}
use Rattle.audit.specs.Case.{Plain, Asks, key_in, earlier_in, put_before, turns_of, or_else, earlier_among}
use Rattle.audit.specs.Names.{key_by, with_key, names_it, entry_key, entry_keys, named_in, named_from}
use Rattle.audit.specs.Records.{RealCase, case_of}
use Rattle.audit.specs.Turns.{Turns, is_of_line, is_empty, asks_by, asks, hangups, turns_from, is_blank, script_of}
use Rattle.audit.proofs.Numbering.{other_way}

abbrev spot : ℕ → ℕ → Option (ℕ × ℕ)
spot session number = Some (session, number)

same_first : (p : ℕ × ℕ) (i j : ℕ) → Some p ≡ spot i j → p.0 ≡ i
same_first p i j e =
    let same : p ≡ (i, j) = cc in
    ap (λ (q : ℕ × ℕ). q.0) same

same_second : (p : ℕ × ℕ) (i j : ℕ) → Some p ≡ spot i j → p.1 ≡ j
same_second p i j e =
    let same : p ≡ (i, j) = cc in
    ap (λ (q : ℕ × ℕ). q.1) same

some_none : (p : ℕ × ℕ) → Some p ≡ None → ⊥
some_none p e = cc

module _ {A : Type 0} (logs : List (NodeLog A)) (transcripts : List (Transcript A)) where
  abbrev real : RealCase A
  real = case_of logs transcripts

  key_asked : (line : Option Line) (entry : Asked A) (rest : Turns A) (ticket : Option Ticket) → key_in real (asks_by line entry ticket ++ rest) ≡ with_key (key_by entry.name ticket) (key_in real rest)
  key_asked line entry rest None = refl
  key_asked line entry rest (Some ticket) = refl

  keys_hung : (entries : List (Asked A)) → key_in real (hangups entries) ≡ entry_keys entries
  keys_hung [] = refl
  keys_hung (entry ∷ entries) = key_asked None entry (hangups entries) entry.ticket ∙ ap (with_key (entry_key entry)) (keys_hung entries)

  -- the keys of a session's turns are those of its entries
  keys_from : (number : ℕ) (lines : List Line) (entries : List (Asked A)) → key_in real (turns_from number lines entries) ≡ entry_keys entries
  keys_from number [] entries = keys_hung entries
  keys_from number (line ∷ lines) [] = keys_from (suc number) lines []
  keys_from number (line ∷ lines) (entry ∷ entries) =
      go (is_of_line number entry.line) (keys_from (suc number) lines entries) (keys_from (suc number) lines (entry ∷ entries))
    where
      go : (t : Bool) → key_in real (turns_from (suc number) lines entries) ≡ entry_keys entries → key_in real (turns_from (suc number) lines (entry ∷ entries)) ≡ entry_keys (entry ∷ entries)
          → key_in real (cond t (asks (Some line) entry ++ turns_from (suc number) lines entries) (Plain line ∷ turns_from (suc number) lines (entry ∷ entries))) ≡ entry_keys (entry ∷ entries)
      go true both one = key_asked (Some line) entry (turns_from (suc number) lines entries) entry.ticket ∙ ap (with_key (entry_key entry)) both
      go false both one = one

  no_entries : (greeting lines : Bool) (entries : List (Asked A)) → (greeting && (lines && is_empty entries)) ≡ true → entry_keys entries ≡ []
  no_entries greeting lines [] h = refl
  no_entries greeting lines (entry ∷ entries) h =
      absurd (true≢false (sym (and_parts lines false (and_parts greeting (lines && false) h).1).1))

  keys_of_script : (t : Transcript A) → key_in real (turns_of real (script_of t)) ≡ entry_keys t.asked
  keys_of_script t =
      go (is_blank t) refl
    where
      go : (b : Bool) → is_blank t ≡ b → key_in real (turns_of real (cond b None (Some (turns_from 0 t.lines t.asked)))) ≡ entry_keys t.asked
      go true e = sym (no_entries (is_empty t.greeting) (is_empty t.lines) t.asked e)
      go false e = keys_from 0 t.lines t.asked

  -- the keys before the first that is this one
  abbrev keys_before : CommandId → List CommandId → Option (List CommandId)
  keys_before id [] = None
  keys_before id (key ∷ keys) = if same_id id key then Some [] else put_before real key (keys_before id keys)

  by_keys : (id : CommandId) (turns : Turns A) → earlier_in real id turns ≡ keys_before id (key_in real turns)
  by_keys id [] = refl
  by_keys id (Plain line ∷ turns) = by_keys id turns
  by_keys id (Asks line input key outcome ∷ turns) = ap (λ o. cond (same_id id key) (Some []) (put_before real key o)) (by_keys id turns)

  -- an entry of a session that names a command, the first one, or none
  record Here (id : CommandId) (session number : ℕ) (entries : List (Asked A)) (otherwise : Option (ℕ × ℕ)) : Type 0 where
    at : ℕ
    entry : Asked A
    its : slice_get entries at ≡ Some entry
    names : entry_key entry ≡ Some id
    found : named_in id session number entries otherwise ≡ spot session (number + at)
    before : keys_before id (entry_keys entries) ≡ Some (entry_keys (take at entries))

  record Nowhere (id : CommandId) (session number : ℕ) (entries : List (Asked A)) (otherwise : Option (ℕ × ℕ)) : Type 0 where
    found : named_in id session number entries otherwise ≡ otherwise
    before : keys_before id (entry_keys entries) ≡ None

  first_entry : (id : CommandId) (session number : ℕ) (otherwise : Option (ℕ × ℕ)) (entries : List (Asked A)) → Here id session number entries otherwise ⊎ Nowhere id session number entries otherwise
  first_entry id session number otherwise [] = inr (record { found = refl; before = refl })
  first_entry id session number otherwise (entry ∷ entries) =
      go (entry_key entry) refl (names_it id (entry_key entry)) refl (first_entry id session (suc number) otherwise entries)
    where
      found_later : (key : Option CommandId) → entry_key entry ≡ key → names_it id key ≡ false → named_in id session number (entry ∷ entries) otherwise ≡ named_in id session (suc number) entries otherwise
      found_later key e h =
          ap (λ k. cond (names_it id k) (spot session number) (named_in id session (suc number) entries otherwise)) e
          ∙ ap (λ t. cond t (spot session number) (named_in id session (suc number) entries otherwise)) h

      key_first : (key : Option CommandId) → entry_key entry ≡ key → keys_before id (entry_keys (entry ∷ entries)) ≡ keys_before id (with_key key (entry_keys entries))
      key_first key e = ap (λ k. keys_before id (with_key k (entry_keys entries))) e

      taken : (key : Option CommandId) (at : ℕ) → entry_key entry ≡ key → Some (with_key key (entry_keys (take at entries))) ≡ Some (entry_keys (take (suc at) (entry ∷ entries)))
      taken key at e = sym (ap (λ k. Some (with_key k (entry_keys (take at entries)))) e)

      one_on : (at : ℕ) → spot session (suc number + at) ≡ spot session (number + suc at)
      one_on at =
          let same : suc number + at ≡ number + suc at = omega arith in
          ap (λ m. spot session m) same

      go : (key : Option CommandId) → entry_key entry ≡ key → (t : Bool) → names_it id (entry_key entry) ≡ t → Here id session (suc number) entries otherwise ⊎ Nowhere id session (suc number) entries otherwise
          → Here id session number (entry ∷ entries) otherwise ⊎ Nowhere id session number (entry ∷ entries) otherwise
      go None e true h r = absurd (true≢false (sym h ∙ ap (names_it id) e))
      go None e false h (inl r) = inl (record {
        at = suc r.at;
        entry = r.entry;
        its = r.its;
        names = r.names;
        found = found_later None e refl ∙ r.found ∙ one_on r.at;
        before = key_first None e ∙ r.before ∙ taken None r.at e;
      })
      go None e false h (inr r) = inr (record { found = found_later None e refl ∙ r.found; before = key_first None e ∙ r.before })
      go (Some key) e true h r =
          let same : same_id key id ≡ true = ap (names_it id) (sym e) ∙ h in
          let here : number ≡ number + 0 = omega arith in
          inl (record {
            at = 0;
            entry = entry;
            its = refl;
            names = e ∙ ap Some ((id_decides key id).0 same);
            found = ap (λ t. cond t (spot session number) (named_in id session (suc number) entries otherwise)) h ∙ ap (λ m. spot session m) here;
            before = key_first (Some key) e ∙ ap (λ t. cond t (Some []) (put_before real key (keys_before id (entry_keys entries)))) (other_way key id true same);
          })
      go (Some key) e false h (inl r) =
          let other : same_id key id ≡ false = ap (names_it id) (sym e) ∙ h in
          inl (record {
            at = suc r.at;
            entry = r.entry;
            its = r.its;
            names = r.names;
            found = found_later (Some key) e other ∙ r.found ∙ one_on r.at;
            before = key_first (Some key) e
                ∙ ap (λ t. cond t (Some []) (put_before real key (keys_before id (entry_keys entries)))) (other_way key id false other)
                ∙ ap (put_before real key) r.before
                ∙ taken (Some key) r.at e;
          })
      go (Some key) e false h (inr r) =
          let other : same_id key id ≡ false = ap (names_it id) (sym e) ∙ h in
          inr (record {
            found = found_later (Some key) e other ∙ r.found;
            before = key_first (Some key) e
                ∙ ap (λ t. cond t (Some []) (put_before real key (keys_before id (entry_keys entries)))) (other_way key id false other)
                ∙ ap (put_before real key) r.before;
          })

  -- the first session, and its first entry, that names a command, or none
  pub record Named (id : CommandId) (from : ℕ) (ts : List (Transcript A)) : Type 0 where
    pub session : ℕ
    pub number : ℕ
    pub transcript : Transcript A
    pub entry : Asked A
    pub its : slice_get ts session ≡ Some transcript
    pub at : slice_get transcript.asked number ≡ Some entry
    pub names : entry_key entry ≡ Some id
    pub found : named_from id from ts ≡ spot (from + session) number
    pub before : earlier_among real id (map script_of ts) ≡ Some (entry_keys (take number transcript.asked))

  pub record Unnamed (id : CommandId) (from : ℕ) (ts : List (Transcript A)) : Type 0 where
    pub found : named_from id from ts ≡ None
    pub before : earlier_among real id (map script_of ts) ≡ None

  pub first_session : (id : CommandId) (from : ℕ) (ts : List (Transcript A)) → Named id from ts ⊎ Unnamed id from ts
  first_session id from [] = inr (record { found = refl; before = refl })
  first_session id from (t ∷ ts) =
      go (first_entry id from 0 (named_from id (suc from) ts) t.asked) (first_session id (suc from) ts)
    where
      its_keys : (u : Option (List CommandId)) → keys_before id (entry_keys t.asked) ≡ u → earlier_among real id (map script_of (t ∷ ts)) ≡ or_else real u (earlier_among real id (map script_of ts))
      its_keys u e = ap (λ o. or_else real o (earlier_among real id (map script_of ts))) (by_keys id (turns_of real (script_of t)) ∙ ap (keys_before id) (keys_of_script t) ∙ e)

      go : Here id from 0 t.asked (named_from id (suc from) ts) ⊎ Nowhere id from 0 t.asked (named_from id (suc from) ts) → Named id (suc from) ts ⊎ Unnamed id (suc from) ts → Named id from (t ∷ ts) ⊎ Unnamed id from (t ∷ ts)
      go (inl h) r =
          let here : from ≡ from + 0 = omega arith in
          let first : 0 + h.at ≡ h.at = omega arith in
          inl (record {
            session = 0;
            number = h.at;
            transcript = t;
            entry = h.entry;
            its = refl;
            at = h.its;
            names = h.names;
            found = h.found ∙ ap (λ m. spot from m) first ∙ ap (λ m. spot m h.at) here;
            before = its_keys (Some (entry_keys (take h.at t.asked))) h.before;
          })
      go (inr n) (inl r) =
          let same : suc from + r.session ≡ from + suc r.session = omega arith in
          inl (record {
            session = suc r.session;
            number = r.number;
            transcript = r.transcript;
            entry = r.entry;
            its = r.its;
            at = r.at;
            names = r.names;
            found = n.found ∙ r.found ∙ ap (λ m. spot m r.number) same;
            before = its_keys None n.before ∙ r.before;
          })
      go (inr n) (inr r) = inr (record { found = n.found ∙ r.found; before = its_keys None n.before ∙ r.before })

  key_there : (entries : List (Asked A)) (number : ℕ) (entry : Asked A) (id : CommandId) → slice_get entries number ≡ Some entry → entry_key entry ≡ Some id → IsIn id (entry_keys entries)
  key_there [] number entry id at names = absurd (cc)
  key_there (first ∷ entries) zero entry id at names =
      let same : first ≡ entry = cc in
      subst (λ k. IsIn id (with_key k (entry_keys entries))) (sym (ap (λ (e : Asked A). entry_key e) same ∙ names)) (inl refl)
  key_there (first ∷ entries) (suc number) entry id at names =
      more (entry_key first) (key_there entries number entry id at names)
    where
      more : (key : Option CommandId) → IsIn id (entry_keys entries) → IsIn id (with_key key (entry_keys entries))
      more None h = h
      more (Some key) h = inr h

  mapped : (ts : List (Transcript A)) (i : ℕ) (t : Transcript A) → slice_get ts i ≡ Some t → slice_get (map script_of ts) i ≡ Some (script_of t)
  mapped [] i t e = absurd (cc)
  mapped (u ∷ ts) zero t e =
      let same : u ≡ t = cc in
      ap (λ (v : Transcript A). Some (script_of v)) same
  mapped (u ∷ ts) (suc i) t e = mapped ts i t e

  -- a session that names a command has a script, in which its key stands
  pub in_script : (i : ℕ) (t : Transcript A) (number : ℕ) (entry : Asked A) (id : CommandId) → slice_get transcripts i ≡ Some t → slice_get t.asked number ≡ Some entry → entry_key entry ≡ Some id
      → (turns : Turns A) × (slice_get real.scripts i ≡ Some (Some turns)) × IsIn id (key_in real turns)
  in_script i t number entry id its at names =
      go (is_blank t) refl
    where
      there : IsIn id (entry_keys t.asked)
      there = key_there t.asked number entry id at names

      go : (b : Bool) → is_blank t ≡ b → (turns : Turns A) × (slice_get real.scripts i ≡ Some (Some turns)) × IsIn id (key_in real turns)
      go true e = absurd (subst (λ ks. IsIn id ks) (no_entries (is_empty t.greeting) (is_empty t.lines) t.asked e) there)
      go false e = (turns_from 0 t.lines t.asked, mapped transcripts i t its ∙ ap (λ (b : Bool). Some (cond b None (Some (turns_from 0 t.lines t.asked)))) e, subst (λ ks. IsIn id ks) (sym (keys_from 0 t.lines t.asked)) there)

  -- the entry at a place that was found
  pub record IsPlace (id : CommandId) (place : ℕ × ℕ) : Type 0 where
    pub transcript : Transcript A
    pub entry : Asked A
    pub its : slice_get transcripts place.0 ≡ Some transcript
    pub at : slice_get transcript.asked place.1 ≡ Some entry
    pub names : entry_key entry ≡ Some id
    pub before : earlier_among real id (map script_of transcripts) ≡ Some (entry_keys (take place.1 transcript.asked))

  pub place_named : (id : CommandId) (place : ℕ × ℕ) → Some place ≡ named_from id 0 transcripts → IsPlace id place
  place_named id place e =
      go (first_session id 0 transcripts)
    where
      go : Named id 0 transcripts ⊎ Unnamed id 0 transcripts → IsPlace id place
      go (inl r) =
          let first : place.0 ≡ 0 + r.session = same_first place (0 + r.session) r.number (e ∙ r.found) in
          let from : 0 + r.session ≡ r.session = omega arith in
          let second : place.1 ≡ r.number = same_second place (0 + r.session) r.number (e ∙ r.found) in
          record {
            transcript = r.transcript;
            entry = r.entry;
            its = ap (slice_get transcripts) (first ∙ from) ∙ r.its;
            at = ap (slice_get r.transcript.asked) second ∙ r.at;
            names = r.names;
            before = r.before ∙ ap (λ n. Some (entry_keys (take n r.transcript.asked))) (sym second);
          }
      go (inr r) = absurd (some_none place (e ∙ r.found))

  pub unplaced : (id : CommandId) → None ≡ named_from id 0 transcripts → earlier_among real id (map script_of transcripts) ≡ None
  unplaced id e =
      go (first_session id 0 transcripts)
    where
      go : Named id 0 transcripts ⊎ Unnamed id 0 transcripts → earlier_among real id (map script_of transcripts) ≡ None
      go (inl r) = absurd (some_none (0 + r.session, r.number) (sym r.found ∙ sym e))
      go (inr r) = r.before

  -- what a session asked, as it is looked up
  pub looked_up : (id : CommandId) (place : ℕ × ℕ) (p : IsPlace id place) (t : Transcript A) (asked : List (Asked A)) → t ≡ get_or transcripts place.0 t → asked ≡ (get_or transcripts place.0 t).asked → asked ≡ p.transcript.asked
  looked_up id place p t asked read is =
      is ∙ ap (λ (u : Transcript A). u.asked) (sym read ∙ same_some t p.transcript (sym (slice_get_read transcripts (length transcripts) place.0 t refl (slice_get_within transcripts place.0 p.transcript p.its) read) ∙ p.its))
    where
      same_some : (x y : Transcript A) → Some x ≡ Some y → x ≡ y
      same_some x y e = cc

  -- whether it is the turn of an entry that was found
  pub turn_is : (f : CommandId → Bool) (id : CommandId) (place : ℕ × ℕ) (p : IsPlace id place) (asked : List (Asked A)) (t : Bool) → Some place ≡ named_from id 0 transcripts → asked ≡ p.transcript.asked → are_answered f place.1 asked ≡ t → t ≡ is_turn f transcripts (named_from id 0 transcripts)
  turn_is f id place p asked t found is its =
      sym its ∙ ap (are_answered f place.1) is ∙ sym (ap (are_answered_in f place.1) p.its) ∙ ap (is_turn f transcripts) found
