-- The fields of commands and of messages are read as they are written.
use Rattle.std.proofs.Common.{◌≡◌, ℕ, ◌-◌, ◌^◌, ◌<◌, ◌&&◌, true, leb, List, [], ◌∷◌, ◌++◌, length, Ok, subst, arith}
use Rattle.std.specs.Int.{w64}
use Rattle.std.specs.List.{list_all}
use Rattle.std.proofs.lemmas.Bool.{and_parts, leb-true, le-leb}
use Rattle.ballot.specs.Ballots.{BallotNumber}
use Rattle.maildrop.specs.Ticket.{Ticket}
use Rattle.maildrop.specs.Name.{is_name, is_visible}
use Rattle.peer_frames.specs.Numbers.{is_node, is_slot, is_seq, is_name_length}
use Rattle.peer_frames.specs.Frames.{ballot_bytes, counted, long_string, short_string, ticket_bytes, u64_bytes}
use Rattle.peer_frames.specs.Reading.{keeping, number_at, node_at, slot_at, ballot_at, ticket_at, name_at, is_line, line_at, text_at}
use Rattle.peer_frames.specs.Fitting.{FitsBallot, FitsTicket, FitsLine, FitsText}
use Rattle.peer_frames.proofs.Formats.{IsBytes, Takes, Agrees, byte_agrees, u32_agrees, u64_agrees, keeping_agrees, fitting, both_take, both_again, counted_agrees, string_agrees}

small_node : (n : ℕ) → is_node n ≡ true → n < 256
small_node n h = let p = and_parts (leb 1 n) (leb n 9) h in omega (arith, leb-true n 9 p.1)

pub node_agrees : Agrees node_at (λ n. n ∷ []) (λ n. is_node n ≡ true)
unfolding node_at
node_agrees = fitting (λ n. is_node n ≡ true) (λ n h. h.1) (λ n h. (small_node n h, h)) (keeping_agrees is_node byte_agrees)

small_slot : (n : ℕ) → is_slot n ≡ true → n < 2 ^ 64
small_slot n h = let p = and_parts (leb 1 n) (leb n (2 ^ 63 - 1)) h in omega (arith, leb-true n (2 ^ 63 - 1) p.1)

pub slot_agrees : Agrees slot_at u64_bytes (λ n. is_slot n ≡ true)
unfolding slot_at
slot_agrees = fitting (λ n. is_slot n ≡ true) (λ n h. h.1) (λ n h. (small_slot n h, h)) (keeping_agrees is_slot u64_agrees)

abbrev make_ballot : ℕ → ℕ → BallotNumber
make_ballot round leader = record { round = round; leader = leader }

ballot_takes : (bytes : List ℕ) (b : BallotNumber) (rest : List ℕ) → IsBytes bytes → ballot_at bytes ≡ Ok (b, rest) → Takes bytes (ballot_bytes b) rest × FitsBallot b
unfolding ballot_at
ballot_takes bytes b rest fits e =
    let t = both_take u64_agrees node_agrees make_ballot bytes b rest fits e in
    subst (λ (b : BallotNumber). Takes bytes (ballot_bytes b) rest × FitsBallot b) t.made (t.taken, record { round = t.fits; leader = t.fits2 })

ballot_again : (b : BallotNumber) (rest : List ℕ) → FitsBallot b → ballot_at (ballot_bytes b ++ rest) ≡ Ok (b, rest)
unfolding ballot_at
ballot_again b rest h = both_again u64_agrees node_agrees make_ballot b.round b.leader rest h.round h.leader

pub ballot_agrees : Agrees ballot_at ballot_bytes FitsBallot
ballot_agrees = record { takes = ballot_takes; again = ballot_again }

abbrev make_ticket : ℕ → ℕ → Ticket
make_ticket node seq = record { node = node; seq = seq }

count_agrees : Agrees (λ bytes. keeping is_seq (number_at w64 bytes)) u64_bytes (λ n. (n < 2 ^ 64) × (is_seq n ≡ true))
count_agrees = keeping_agrees is_seq u64_agrees

ticket_takes : (bytes : List ℕ) (t : Ticket) (rest : List ℕ) → IsBytes bytes → ticket_at bytes ≡ Ok (t, rest) → Takes bytes (ticket_bytes t) rest × FitsTicket t
unfolding ticket_at
ticket_takes bytes t rest fits e =
    let b = both_take node_agrees count_agrees make_ticket bytes t rest fits e in
    subst (λ (t : Ticket). Takes bytes (ticket_bytes t) rest × FitsTicket t) b.made (b.taken, record { node = b.fits; least = leb-true 1 b.second b.fits2.1; seq = b.fits2.0 })

ticket_again : (t : Ticket) (rest : List ℕ) → FitsTicket t → ticket_at (ticket_bytes t ++ rest) ≡ Ok (t, rest)
unfolding ticket_at
ticket_again t rest h = both_again node_agrees count_agrees make_ticket t.node t.seq rest h.node (h.seq, le-leb 1 t.seq h.least)

pub ticket_agrees : Agrees ticket_at ticket_bytes FitsTicket
ticket_agrees = record { takes = ticket_takes; again = ticket_again }

-- names, keys and lines

name_length : (name : List ℕ) → is_name name ≡ true → is_name_length (length name) ≡ true
name_length name h =
    let p = and_parts (leb 1 (length name) && leb (length name) 40) (list_all is_visible name) (grind arith) in
    p.0

small_length : (n : ℕ) → is_name_length n ≡ true → n < 256
small_length n h = let p = and_parts (leb 1 n) (leb n 40) h in omega (arith, leb-true n 40 p.1)

pub name_agrees : Agrees name_at short_string (λ name. is_name name ≡ true)
unfolding name_at
name_agrees = fitting (λ name. is_name name ≡ true) (λ name h. h.1) (λ name h. ((small_length (length name) (name_length name h), name_length name h), h)) (string_agrees is_name (keeping_agrees is_name_length byte_agrees))

pub line_agrees : Agrees line_at long_string FitsLine
unfolding line_at
line_agrees = fitting FitsLine (λ line h. record { length = h.0; rule = h.1 }) (λ line h. (h.length, h.rule)) (string_agrees is_line u32_agrees)

pub text_agrees : Agrees text_at (counted long_string) FitsText
unfolding text_at
text_agrees = fitting FitsText (λ text h. record { count = h.0; lines = h.1 }) (λ text h. (h.count, h.lines)) (counted_agrees line_agrees)
