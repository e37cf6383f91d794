-- What brings the next input of a log.
use Rattle.std.proofs.Common.{◌≡◌, ◌⊎◌, ◌∙◌, ℕ, zero, suc, ◌+◌, ◌<◌, ◌≤◌, length, List, [], ◌∷◌, Bool, true, false, Option, Some, None, is_some, refl, sym, ap, subst, inl, inr, cond, arith, take}
use Rattle.std.specs.Prelude.{slice_get, ◌&&◌, ◌||◌, ◌==◌, not}
use Rattle.std.specs.List.{list_all, list_any}
use Rattle.std.proofs.lemmas.Bool.{true≢false}
use Rattle.std.proofs.lemmas.List.Folds.{list_any-append}
use Rattle.std.proofs.lemmas.Option.{slice_get_within, slice_get_past}
use Rattle.ballot.specs.declared.message.Envelope.{Envelope}
use Rattle.maildrop.specs.CommandId.{CommandId}
use Rattle.maildrop.specs.Ticket.{Ticket}
use Rattle.maildrop.specs.declared.command.Command.{Command}
use Rattle.maildrop.specs.declared.op.Op.{Op}
use Rattle.node.specs.Replay.{is_crash, next_ticket}
use Rattle.node.specs.declared.input.Input.{Input}
use Rattle.node.specs.declared.input.Input.TheVariants.{Submit, Arrive, Tick, Campaign, Crash}
use Rattle.node.specs.declared.log.NodeLog.{NodeLog}
use Rattle.session.specs.declared.transcript.Transcript.{Transcript}
use Rattle.audit.specs.Answered.{has_answer_at, is_answered_by, are_answered_in, is_turn}
use Rattle.audit.specs.Case.{next, state_at, after_next, asked}
use Rattle.audit.specs.Checks.{AreAllNumbered}
use Rattle.audit.specs.Names.{entry_keys, named_from}
use Rattle.audit.specs.Nodes.{Replayed, count_at, counts_of, is_plain}
use Rattle.audit.specs.Numbers.{front, AreNumbered}
use Rattle.audit.specs.Placing.{is_answered, all_answered, was_sent, message_there, turn_there, is_met, can_place}
use Rattle.audit.specs.Placings.{AreOnTheWay, AreSent, IsNext}
use Rattle.audit.specs.Records.{RealCase, case_of, is_fit, place_of, inputs_in, begun_at}
use Rattle.audit.specs.Replays.{Replay, after, runs, key_of, answer, brought, is_of_lock, locks}
use Rattle.audit.specs.Same.{same_envelope}
use Rattle.audit.specs.declared.numbers.Numbers.{Numbers}
use Rattle.audit.specs.declared.placement.Source.TheVariants.{Own, Last, Message, FromSession}
use Rattle.audit.proofs.Earliest.{Named, Unnamed, first_session, place_named, in_script}
use Rattle.audit.proofs.Numbering.{take_got, take_none}

all_same : (f g : CommandId → Bool) → ((id : CommandId) → f id ≡ g id) → (ids : List CommandId) → list_all f ids ≡ list_all g ids
all_same f g same [] = refl
all_same f g same (id ∷ ids) = ap (λ t. t && list_all f ids) (same id) ∙ ap (λ t. g id && t) (all_same f g same ids)

pub same_of : {X : Type 0} (x y : X) → Some x ≡ Some y → x ≡ y
same_of x y e = cc

pub some_not_none : {X : Type 0} (x : X) → Some x ≡ None → ⊥
some_not_none x e = cc

abbrev key_with : List ℕ → Ticket → Option CommandId
key_with user ticket = Some (record { user = user; ticket = ticket })

pub same_key : (user : List ℕ) (given ticket : Ticket) (id : CommandId) → Some given ≡ Some ticket → id ≡ record { user = user; ticket = ticket } → ◌≡◌ {A = Option CommandId} (Some (record { user = user; ticket = given })) (Some id)
same_key user given ticket id same is = ap (λ (t : Ticket). key_with user t) (same_of given ticket same) ∙ ap Some (sym is)

take_zero : {X : Type 0} (xs : List X) → [] ≡ take 0 xs
take_zero [] = refl
take_zero (x ∷ xs) = refl

none_past : {X : Type 0} (xs : List X) (k : ℕ) → slice_get xs k ≡ None → length xs ≤ k
none_past [] k e = omega arith
none_past (x ∷ xs) zero e = absurd (cc)
none_past (x ∷ xs) (suc k) e =
    let past = none_past xs k e in
    omega (arith, past)

and_end : (t : Bool) → (t && true) ≡ t
and_end true = refl
and_end false = refl

module _ {A : Type 0} where
  pub runs_on : (s : Replay A) (x : Input A) → runs s ≡ true → is_plain x ≡ true → runs (after s x) ≡ true
  runs_on None x up plain = absurd (true≢false (sym up))
  runs_on (Some log) x up plain =
      ap not (list_any-append is_crash log.inputs (x ∷ []) ∙ both (list_any is_crash log.inputs) (list_any is_crash (x ∷ [])) up (no_crash x plain))
    where
      no_crash : (x : Input A) → is_plain x ≡ true → list_any is_crash (x ∷ []) ≡ false
      no_crash (Submit name op) h = refl
      no_crash (Arrive e) h = refl
      no_crash Tick h = refl
      no_crash Campaign h = refl
      no_crash Crash h = absurd (true≢false (sym h))

      both : (t u : Bool) → not t ≡ true → u ≡ false → (t || u) ≡ false
      both true u h k = absurd (true≢false (sym h))
      both false u h k = k

  crashed : (s : Replay A) → runs (after s Crash) ≡ false
  crashed None = refl
  crashed (Some log) = ap not (list_any-append is_crash log.inputs (Crash ∷ []) ∙ any (list_any is_crash log.inputs))
    where
      any : (t : Bool) → (t || true) ≡ true
      any true = refl
      any false = refl

module _ {A : Type 0} (logs : List (NodeLog A)) (transcripts : List (Transcript A)) where
  abbrev real : RealCase A
  real = case_of logs transcripts

  -- a node that has begun has come as far as its log's first inputs
  front_is : (n : ℕ) (log : NodeLog A) → slice_get logs n ≡ Some log → (k : ℕ) → (state_at real n k ≡ None) ⊎ (state_at real n k ≡ Some (front log k))
  front_is n log its zero =
      begun (is_fit log.opening && place_of log.opening.me logs == n) (ap (begun_at logs n) its)
    where
      begun : (t : Bool) → begun_at logs n (slice_get logs n) ≡ cond t (Some (record { opening = log.opening; inputs = [] })) None → (state_at real n 0 ≡ None) ⊎ (state_at real n 0 ≡ Some (front log 0))
      begun true e = inr (e ∙ ap (λ is. Some (record { opening = log.opening; inputs = is })) (take_zero log.inputs))
      begun false e = inl e
  front_is n log its (suc k) =
      go (front_is n log its k) (next real n k) refl
    where
      there : (o : Option (Input A)) → next real n k ≡ o → slice_get log.inputs k ≡ o
      there o e = sym (ap (λ (u : Option (NodeLog A)). slice_get (inputs_in u) k) its) ∙ e

      stays_none : (o : Option (Input A)) → after_next real None o ≡ None
      stays_none None = refl
      stays_none (Some x) = refl

      go : (state_at real n k ≡ None) ⊎ (state_at real n k ≡ Some (front log k)) → (o : Option (Input A)) → next real n k ≡ o → (after_next real (state_at real n k) (next real n k) ≡ None) ⊎ (after_next real (state_at real n k) (next real n k) ≡ Some (front log (suc k)))
      go (inl none) o e = inl (ap (λ s. after_next real s (next real n k)) none ∙ stays_none (next real n k))
      go (inr some) None e = inr (ap (after_next real (state_at real n k)) e ∙ some ∙ ap (λ is. Some (record { opening = log.opening; inputs = is })) (sym (take_none log.inputs k (there None e))))
      go (inr some) (Some x) e = inr (ap (after_next real (state_at real n k)) e ∙ ap (λ s. after s x) some ∙ ap (λ is. Some (record { opening = log.opening; inputs = is })) (sym (take_got log.inputs k x (there (Some x) e))))

  module _ (rs : List (Replayed A)) (way : AreOnTheWay logs transcripts rs) where
    -- the replays say which commands are answered
    pub answered_same : (id : CommandId) → is_answered real (counts_of rs) id ≡ is_answered_by logs rs id
    answered_same id =
        go (slice_get rs (place_of id.ticket.node logs)) refl
      where
        home : ℕ
        home = place_of id.ticket.node logs

        go : (o : Option (Replayed A)) → slice_get rs (place_of id.ticket.node logs) ≡ o → is_some (answer (state_at real (place_of id.ticket.node logs) (counts_of rs (place_of id.ticket.node logs))) id) ≡ is_answered_by logs rs id
        go (Some r) e =
            ap (λ (m : ℕ). is_some (answer (state_at real (place_of id.ticket.node logs) m) id)) (ap count_at e)
            ∙ ap (λ s. is_some (answer s id)) (sym (way.each (place_of id.ticket.node logs) r e))
            ∙ sym (ap (has_answer_at id) e)
        go None e =
            let past : length logs ≤ place_of id.ticket.node logs = subst (λ m. m ≤ place_of id.ticket.node logs) way.count (none_past rs (place_of id.ticket.node logs) e) in
            ap (λ (m : ℕ). is_some (answer (state_at real (place_of id.ticket.node logs) m) id)) (ap count_at e)
            ∙ ap (λ (o : Option (NodeLog A)). is_some (answer (begun_at logs (place_of id.ticket.node logs) o) id)) (slice_get_past logs (place_of id.ticket.node logs) past)
            ∙ sym (ap (has_answer_at id) e)

    -- it is a session's turn if what it asked before is answered
    turn_same : (id : CommandId) → turn_there real (counts_of rs) (Some id) ≡ is_turn (is_answered_by logs rs) transcripts (named_from id 0 transcripts)
    turn_same id =
        go (first_session logs transcripts id 0 transcripts)
      where
        go : Named logs transcripts id 0 transcripts ⊎ Unnamed logs transcripts id 0 transcripts → turn_there real (counts_of rs) (Some id) ≡ is_turn (is_answered_by logs rs) transcripts (named_from id 0 transcripts)
        go (inl r) =
            let from : 0 + r.session ≡ r.session = omega arith in
            ap (all_answered real (counts_of rs)) r.before
            ∙ all_same (is_answered real (counts_of rs)) (is_answered_by logs rs) answered_same (entry_keys (take r.number r.transcript.asked))
            ∙ sym (ap (are_answered_in (is_answered_by logs rs) r.number) (ap (slice_get transcripts) from ∙ r.its))
            ∙ sym (ap (is_turn (is_answered_by logs rs) transcripts) r.found)
        go (inr r) = ap (all_answered real (counts_of rs)) r.before ∙ sym (ap (is_turn (is_answered_by logs rs) transcripts) r.found)

    module _ (n : ℕ) (r : Replayed A) (its : slice_get rs n ≡ Some r) (log : NodeLog A) (of_it : slice_get logs n ≡ Some log) where
      state_is : state_at real n (counts_of rs n) ≡ r.state
      state_is = ap (state_at real n) (ap count_at its) ∙ sym (way.each n r its)

      next_is : (o : Option (Input A)) → slice_get log.inputs r.placed ≡ o → next real n (counts_of rs n) ≡ o
      next_is o at = ap (next real n) (ap count_at its) ∙ ap (λ (l : Option (NodeLog A)). slice_get (inputs_in l) r.placed) of_it ∙ at

      -- none is left
      pub at_end : slice_get log.inputs r.placed ≡ None → can_place real (counts_of rs) n ≡ false
      at_end at = ap (is_met real (counts_of rs) n) (next_is None at)

      met : (x : Input A) → slice_get log.inputs r.placed ≡ Some x → can_place real (counts_of rs) n ≡ (runs r.state && (message_there real (counts_of rs) n (brought x) && turn_there real (counts_of rs) (asked real r.state x)))
      met x at =
          ap (is_met real (counts_of rs) n) (next_is (Some x) at)
          ∙ ap (λ s. runs s && (message_there real (counts_of rs) n (brought x) && turn_there real (counts_of rs) (asked real s x))) state_is

      -- the node has crashed, or hasn't begun
      pub is_down : (x : Input A) → slice_get log.inputs r.placed ≡ Some x → runs r.state ≡ false → can_place real (counts_of rs) n ≡ false
      is_down x at down = met x at ∙ ap (λ t. t && (message_there real (counts_of rs) n (brought x) && turn_there real (counts_of rs) (asked real r.state x))) down

      module _ (sent : List (Envelope (Command A) A)) (x : Input A) (at : slice_get log.inputs r.placed ≡ Some x) (up : runs r.state ≡ true) where
        met_up : (message : Option (Envelope (Command A) A)) (key : Option CommandId) → brought x ≡ message → asked real r.state x ≡ key → can_place real (counts_of rs) n ≡ (message_there real (counts_of rs) n message && turn_there real (counts_of rs) key)
        met_up message key b k =
            met x at
            ∙ ap (λ t. t && (message_there real (counts_of rs) n (brought x) && turn_there real (counts_of rs) (asked real r.state x))) up
            ∙ ap (λ m. message_there real (counts_of rs) n m && turn_there real (counts_of rs) (asked real r.state x)) b
            ∙ ap (λ u. message_there real (counts_of rs) n message && turn_there real (counts_of rs) u) k

        here : (key : Option CommandId) → asked real r.state x ≡ key → asked real (state_at real n (counts_of rs n)) x ≡ key
        here key k = ap (λ s. asked real s x) state_is ∙ k

        after_it : (t : Bool) → runs (after r.state x) ≡ t → runs (after (state_at real n (counts_of rs n)) x) ≡ t
        after_it t e = ap (λ s. runs (after s x)) state_is ∙ e

        asks_none : locks x ≡ false → asked real r.state x ≡ None
        asks_none none_asked = ap (λ t. cond t (key_of r.state x) None) none_asked

        pub own_comes : brought x ≡ None → locks x ≡ false → is_plain x ≡ true → IsNext logs transcripts (counts_of rs) sent n (Some Own)
        own_comes none none_asked plain = record {
          input = x;
          is = next_is (Some x) at;
          can = met_up None None none (asks_none none_asked);
          by = (none, here None (asks_none none_asked), after_it true (runs_on r.state x up plain));
        }

        pub last_comes : x ≡ Crash → IsNext logs transcripts (counts_of rs) sent n (Some Last)
        last_comes e =
            let none : brought x ≡ None = ap brought e in
            let none_asked : locks x ≡ false = ap locks e in
            record {
              input = x;
              is = next_is (Some x) at;
              can = met_up None None none (asks_none none_asked);
              by = (none, here None (asks_none none_asked), after_it false (ap (λ i. runs (after r.state i)) e ∙ crashed r.state));
            }

        module _ (e : Envelope (Command A) A) (arrives : x ≡ Arrive e) (messages : AreSent logs transcripts (counts_of rs) sent) where
          message_test : can_place real (counts_of rs) n ≡ (place_of e.to logs == n && list_any (λ other. same_envelope other e) sent)
          message_test =
              met_up (Some e) None (ap brought arrives) (asks_none (ap locks arrives))
              ∙ and_end (place_of e.to logs == n && was_sent real (counts_of rs) e)
              ∙ ap (λ t. place_of e.to logs == n && t) (sym (messages.each e))

          pub message_comes : (k : ℕ) → slice_get sent k ≡ Some e → (place_of e.to logs == n && list_any (λ other. same_envelope other e) sent) ≡ true → IsNext logs transcripts (counts_of rs) sent n (Some (Message k))
          message_comes k found test = record {
            input = x;
            is = next_is (Some x) at;
            can = message_test ∙ test;
            by = (e, found, ap brought arrives, after_it true (runs_on r.state x up (ap is_plain arrives)));
          }

          pub message_waits : (place_of e.to logs == n && list_any (λ other. same_envelope other e) sent) ≡ false → can_place real (counts_of rs) n ≡ false
          message_waits test = message_test ∙ test

        module _ (user : List ℕ) (op : Op A) (submits : x ≡ Submit user op) (asks : is_of_lock op ≡ true) (id : CommandId) (key : key_of r.state x ≡ Some id) where
          asks_it : asked real r.state x ≡ Some id
          asks_it = ap (λ t. cond t (key_of r.state x) None) (ap locks submits ∙ asks) ∙ key

          turn_test : can_place real (counts_of rs) n ≡ is_turn (is_answered_by logs rs) transcripts (named_from id 0 transcripts)
          turn_test = met_up None (Some id) (ap brought submits) asks_it ∙ turn_same id

          pub session_comes : (session entry : ℕ) → named_from id 0 transcripts ≡ Some (session, entry) → is_turn (is_answered_by logs rs) transcripts (named_from id 0 transcripts) ≡ true → IsNext logs transcripts (counts_of rs) sent n (Some (FromSession session))
          session_comes session entry named test =
              let p = place_named logs transcripts id (session, entry) (sym named) in
              let script = in_script logs transcripts session p.transcript entry p.entry id p.its p.at p.names in
              record {
                input = x;
                is = next_is (Some x) at;
                can = turn_test ∙ test;
                by = (script.0, id, script.1, here (Some id) asks_it, script.2, after_it true (runs_on r.state x up (ap is_plain submits)));
              }

          pub session_waits : is_turn (is_answered_by logs rs) transcripts (named_from id 0 transcripts) ≡ false → can_place real (counts_of rs) n ≡ false
          session_waits test = turn_test ∙ test

        -- the ticket that the log alone tells is the one that the node gives
        pub ticket_is : (user : List ℕ) (op : Op A) → x ≡ Submit user op → (numbers : List (Numbers A)) (own : Numbers A) (ticket : Option Ticket) → AreAllNumbered logs numbers → slice_get numbers n ≡ Some own → slice_get own.tickets.items r.placed ≡ Some ticket
            → (ticket ≡ Some (next_ticket log.opening.me user (take r.placed log.inputs))) × (key_of r.state x ≡ Some (record { user = user; ticket = next_ticket log.opening.me user (take r.placed log.inputs) }))
        ticket_is user op submits numbers own ticket all own_is found = (
          same_of ticket (Some (next_ticket log.opening.me user (take r.placed log.inputs))) (sym found ∙ numbered.each r.placed (Submit user op) within (at ∙ ap Some submits)),
          go (front_is n log of_it r.placed),
        )
          where
            numbered : AreNumbered log (length log.inputs) own.tickets.items own.places.entries
            numbered = all.each n log own of_it own_is

            within : r.placed < length log.inputs
            within = slice_get_within log.inputs r.placed x at

            go : (state_at real n r.placed ≡ None) ⊎ (state_at real n r.placed ≡ Some (front log r.placed)) → key_of r.state x ≡ Some (record { user = user; ticket = next_ticket log.opening.me user (take r.placed log.inputs) })
            go (inl none) = absurd (true≢false (sym up ∙ ap runs (way.each n r its ∙ none)))
            go (inr some) = ap (λ s. key_of s x) (way.each n r its ∙ some) ∙ ap (key_of (Some (front log r.placed))) submits
