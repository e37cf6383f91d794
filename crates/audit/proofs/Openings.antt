-- Sessions before their first turns, and how they connect.
use Rattle.std.proofs.Common.{◌≡◌, ℕ, zero, suc, ◌≤◌, ◌<◌, length, List, [], ◌∷◌, ◌++◌, Bool, true, false, Option, Some, None, refl, sym, ap, ◌∙◌, subst, ⊎_elim, cond, map, append_assoc, arith}
use Rattle.std.specs.Prelude.{slice_get, ◌&&◌}
use Rattle.std.proofs.lemmas.Bool.{true≢false, and_parts, cases_lt}
use Rattle.std.proofs.lemmas.Option.{slice_get_within}
use Rattle.std.proofs.lemmas.List.{append-nil}
use Rattle.node.specs.declared.log.NodeLog.{NodeLog}
use Rattle.session.specs.declared.transcript.Asked.{Asked}
use Rattle.session.specs.declared.transcript.Transcript.{Transcript}
use Rattle.pop3_wire.specs.declared.line.Line.{Line}
use Rattle.audit.specs.Case.{turns_of, next}
use Rattle.audit.specs.Events.{kinds, events_from}
use Rattle.audit.specs.Placing.{put}
use Rattle.audit.specs.Records.{inputs_in, RealCase, case_of}
use Rattle.audit.specs.Speakers.{Speaker, AreSpeakers, IsKnown, AreKnown, IsKnownSource, AreSeated, AreAnswered}
use Rattle.audit.specs.Turns.{turns_from, is_empty, is_blank, script_of}
use Rattle.audit.specs.Written.{ArePlaced, IsFrom, connect, connects, in_the_end, first_talk, first_talks, written_order}
use Rattle.audit.specs.Wrong.{node_of, turns_at, seat}
use Rattle.audit.specs.declared.event.Event.{Event}
use Rattle.audit.specs.declared.event.Event.TheVariants.{Connect}
use Rattle.audit.specs.declared.kind.Kind.{Kind}
use Rattle.audit.specs.declared.placement.Placement.{Placement}
use Rattle.audit.specs.declared.placement.Source.{Source}
use Rattle.audit.specs.declared.placement.Source.TheVariants.{Own, Last, Message, FromSession}
use Rattle.audit.proofs.Firsts.{got_mapped, mapped_length}
use Rattle.audit.proofs.Numbering.{got_before, got_last, length_more}

got_from_map : {X Y : Type 0} (f : X → Y) (xs : List X) (k : ℕ) (y : Y) → slice_get (map f xs) k ≡ Some y → k < length xs
got_from_map f xs k y e =
    let less = slice_get_within (map f xs) k y e in
    let count = mapped_length f xs in
    omega (arith, less, count)

some_same : {X : Type 0} (x y : X) → Some x ≡ Some y → x ≡ y
some_same x y e = cc

module _ {A : Type 0} (logs : List (NodeLog A)) (transcripts : List (Transcript A)) where
  abbrev real : RealCase A
  real = case_of logs transcripts

  script_at : (i : ℕ) (t : Transcript A) → slice_get transcripts i ≡ Some t → slice_get real.scripts i ≡ Some (script_of t)
  script_at i t e = got_mapped script_of transcripts i t e

  seat_at : (i : ℕ) (t : Transcript A) → slice_get transcripts i ≡ Some t → seat real i ≡ node_of real (turns_of real (script_of t))
  seat_at i t e = ap (λ o. node_of real (turns_at real o)) (script_at i t e)

  -- a session that didn't begin connects to no node
  pub blank_connects : (i : ℕ) (t : Transcript A) (blank : Bool) (old : List Event) → slice_get transcripts i ≡ Some t → blank ≡ is_blank t → blank ≡ true → old ≡ old ++ connect real (seat real) i (slice_get real.scripts i)
  blank_connects i t blank old at is its =
      sym (ap (λ o. old ++ connect real (seat real) i o) (script_at i t at)
      ∙ ap (λ b. old ++ connect real (seat real) i (Some (cond b None (Some (turns_from 0 t.lines t.asked))))) (sym is ∙ its)
      ∙ append-nil old)

  -- others connect to the node of their seat
  pub begun_connects : (i : ℕ) (t : Transcript A) (blank : Bool) (home number : ℕ) (old new : List Event) → slice_get transcripts i ≡ Some t → blank ≡ is_blank t → blank ≡ false → home ≡ node_of real (turns_of real (script_of t)) → number ≡ real.number home
      → new ≡ old ++ Connect i number ∷ [] → new ≡ old ++ connect real (seat real) i (slice_get real.scripts i)
  begun_connects i t blank home number old new at is its here same more =
      more
      ∙ ap (λ n. old ++ Connect i n ∷ []) (same ∙ ap real.number (here ∙ sym (seat_at i t at)))
      ∙ sym (ap (λ o. old ++ connect real (seat real) i o) (script_at i t at)
      ∙ ap (λ b. old ++ connect real (seat real) i (Some (cond b None (Some (turns_from 0 t.lines t.asked))))) (sym is ∙ its))

  pub begun_seated : (i : ℕ) (t : Transcript A) (blank : Bool) (home : ℕ) → slice_get transcripts i ≡ Some t → blank ≡ is_blank t → blank ≡ false → home ≡ node_of real (turns_of real (script_of t)) → AreSeated logs transcripts → home < length logs
  begun_seated i t blank home at is its here seated =
      let began : slice_get real.scripts i ≡ Some (Some (turns_from 0 t.lines t.asked)) = script_at i t at ∙ ap (λ b. Some (cond b None (Some (turns_from 0 t.lines t.asked)))) (sym is ∙ its) in
      let low = seated.each i (turns_from 0 t.lines t.asked) began in
      let same : home ≡ seat real i = here ∙ sym (seat_at i t at) in
      omega (arith, low, same)

  pub connects_next : (m next : ℕ) (start old new : List Event) → next ≡ suc m → old ≡ start ++ connects real (seat real) m → new ≡ old ++ connect real (seat real) m (slice_get real.scripts m) → new ≡ start ++ connects real (seat real) next
  connects_next m next start old new is h more =
      more
      ∙ ap (λ es. es ++ connect real (seat real) m (slice_get real.scripts m)) h
      ∙ append_assoc start (connects real (seat real) m) (connect real (seat real) m (slice_get real.scripts m))
      ∙ ap (λ n. start ++ connects real (seat real) n) (sym is)

  empty_is : {X : Type 0} (xs : List X) → is_empty xs ≡ true → xs ≡ []
  empty_is [] e = refl
  empty_is (x ∷ xs) e = absurd (true≢false (sym e))

  -- at first a session has all its turns left
  pub first_is : (t : Transcript A) (ks : List Kind) → ks ≡ kinds (turns_from 0 t.lines t.asked) → record { left = ks; asked = false } ≡ first_talk real (Some (script_of t))
  first_is t ks is =
      ap (λ (ks : List Kind). record { left = ks; asked = false }) is ∙ go (is_blank t) refl
    where
      abbrev_none : (lines : List Line) (entries : List (Asked A)) → is_empty lines ≡ true → is_empty entries ≡ true → kinds (turns_from 0 lines entries) ≡ []
      abbrev_none [] [] e f = refl
      abbrev_none [] (x ∷ xs) e f = absurd (true≢false (sym f))
      abbrev_none (x ∷ xs) entries e f = absurd (true≢false (sym e))

      go : (b : Bool) → is_blank t ≡ b → record { left = kinds (turns_from 0 t.lines t.asked); asked = false } ≡ first_talk real (Some (cond b None (Some (turns_from 0 t.lines t.asked))))
      go false e = refl
      go true e =
          let p = and_parts (is_empty t.greeting) (is_empty t.lines && is_empty t.asked) e in
          let q = and_parts (is_empty t.lines) (is_empty t.asked) p.1 in
          ap (λ (ks : List Kind). record { left = ks; asked = false }) (abbrev_none t.lines t.asked q.0 q.1)

  -- the speakers of the first sessions
  pub record Made (m : ℕ) (speakers : List Speaker) : Type 0 where
    pub count : length speakers ≡ m
    pub each : (i : ℕ) (s : Speaker) → i < m → slice_get speakers i ≡ Some s → s ≡ record { seat = seat real i; answered = in_the_end real i; talk = first_talks real i }

  pub none_made : (speakers : List Speaker) → speakers ≡ [] → Made 0 speakers
  none_made speakers e = record { count = ap length e; each = λ i s less h. absurd (omega (arith, less)) }

  pub one_made : (m next : ℕ) (old new : List Speaker) (t : Transcript A) (s : Speaker) (answered : List Bool) (told : Bool) → Made m old → next ≡ suc m → slice_get transcripts m ≡ Some t → new ≡ old ++ s ∷ [] → AreAnswered logs transcripts answered → slice_get answered m ≡ Some told
      → s ≡ record { seat = node_of real (turns_of real (script_of t)); answered = told; talk = first_talk real (Some (script_of t)) } → Made next new
  one_made m next old new t s answered told h is at more ends its made =
      subst (λ n. Made n new) (sym is) (subst (Made (suc m)) (sym more) (record { count = length_more old s ∙ ap suc h.count; each = each }))
    where
      new_one : s ≡ record { seat = seat real m; answered = in_the_end real m; talk = first_talks real m }
      new_one =
          made
          ∙ ap (λ (n : ℕ). record { seat = n; answered = told; talk = first_talk real (Some (script_of t)) }) (sym (seat_at m t at))
          ∙ ap (λ (b : Bool). record { seat = seat real m; answered = b; talk = first_talk real (Some (script_of t)) }) (ends.each m told its)
          ∙ ap (λ o. record { seat = seat real m; answered = in_the_end real m; talk = first_talk real o }) (sym (script_at m t at))

      each : (i : ℕ) (z : Speaker) → i < suc m → slice_get (old ++ s ∷ []) i ≡ Some z → z ≡ record { seat = seat real i; answered = in_the_end real i; talk = first_talks real i }
      each i z less e =
          ⊎_elim
          (λ (low : i < m).
          let count = h.count in
          let within : i < length old = omega (arith, low, count) in
          h.each i z low (sym (got_before old s i within) ∙ e))
          (λ (high : m ≤ i).
          let same : m ≡ i = omega (arith, less, high) in
          let here : s ≡ z = some_same s z (sym (got_last old s i (h.count ∙ same)) ∙ e) in
          sym here ∙ new_one ∙ ap (λ (n : ℕ). record { seat = seat real n; answered = in_the_end real n; talk = first_talks real n }) same)
          (cases_lt i m)

  pub all_made : (m : ℕ) (speakers : List Speaker) → Made m speakers → AreSpeakers (seat real) (in_the_end real) (first_talks real) speakers
  all_made m speakers h =
      record {
        each = λ i s e.
            let less = slice_get_within speakers i s e in
            let count = h.count in
            h.each i s (omega (arith, less, count)) e;
      }

  -- inputs that are placed are of logs that are there, and from sessions that are there
  known_source : (source : Source) (q : ℕ → ℕ) (sent : List _) (n : ℕ) (x : _) → IsFrom real q sent n x source → IsKnownSource (length transcripts) source
  known_source Own q sent n x h = tt
  known_source Last q sent n x h = tt
  known_source (Message k) q sent n x h = tt
  known_source (FromSession i) q sent n x h = got_from_map script_of transcripts i (Some h.0) h.2

  pub all_known : (ps : List Placement) (q : ℕ → ℕ) (sent : List _) → ArePlaced real q sent ps → AreKnown (length logs) (length transcripts) ps
  all_known ps q sent h =
      record { each = λ k p e. known ps q sent h k p e }
    where
      there : (o : Option (NodeLog A)) (n k : ℕ) (x : _) → slice_get logs n ≡ o → slice_get (inputs_in o) k ≡ Some x → n < length logs
      there None n k x e h = absurd (cc)
      there (Some log) n k x e h = slice_get_within logs n log e

      known : (ps : List Placement) (q : ℕ → ℕ) (sent : List _) → ArePlaced real q sent ps → (k : ℕ) (p : Placement) → slice_get ps k ≡ Some p → IsKnown (length logs) (length transcripts) p
      known [] q sent h k p e = absurd (cc)
      known (p' ∷ ps) q sent h zero p e =
          let same : p' ≡ p = cc in
          subst (IsKnown (length logs) (length transcripts)) same (record { node = there (slice_get logs p'.node) p'.node (q p'.node) h.0 refl h.1; source = known_source p'.source q sent p'.node h.0 h.3 })
      known (p' ∷ ps) q sent h (suc k) p e = known ps (put q p'.node (suc (q p'.node))) _ h.4 k p e

  -- all together
  pub all_written : (ps : List Placement) (count : ℕ) (empty connected new : List Event) → count ≡ length transcripts → empty ≡ [] → connected ≡ empty ++ connects real (seat real) (length transcripts)
      → new ≡ connected ++ events_from real.number (seat real) (in_the_end real) count (first_talks real) ps → new ≡ written_order real (seat real) ps
  all_written ps count empty connected new same none connect_is more =
      more
      ∙ ap (λ es. es ++ events_from real.number (seat real) (in_the_end real) count (first_talks real) ps) (connect_is ∙ ap (λ es. es ++ connects real (seat real) (length transcripts)) none)
      ∙ ap (λ n. connects real (seat real) (length transcripts) ++ events_from real.number (seat real) (in_the_end real) n (first_talks real) ps) same
      ∙ ap (λ n. connects real (seat real) n ++ events_from real.number (seat real) (in_the_end real) n (first_talks real) ps) (sym (mapped_length script_of transcripts))
