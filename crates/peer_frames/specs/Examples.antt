-- Worked examples of the definitions. The bytes were written by hand from the format's table.
use Rattle.std.specs.Prelude.{◌≡◌, refl, ℕ, List, [], ◌∷◌, ◌++◌, replicate, codes, false, Some, None, Ok, Err}
use Rattle.ballot.specs.declared.message.Message.TheVariants.{Propose, P1a, P1b, P2b, Decision, Ask}
use Rattle.ballot.specs.declared.message.Envelope.{Envelope}
use Rattle.maildrop.specs.declared.command.Command.{Command}
use Rattle.maildrop.specs.declared.op.Op.{Op}
use Rattle.maildrop.specs.declared.op.Op.TheVariants.{Mail, Take, Commit}
use Rattle.peer_frames.specs.declared.malformed.Malformed.TheVariants as malformed
use Rattle.peer_frames.specs.declared.version.Version.TheVariants.{First, Second}
use Rattle.peer_frames.specs.Frames.{u32_bytes, u64_bytes, frame}
use Rattle.peer_frames.specs.Reading.{node_at, slot_at, ballot_at, ticket_at, name_at, key_at, many_at, line_at, text_at, uid_at, uids_from, uids_at, header_at, content_at, mail_at, commit_at, op_at, command_at, message_at, envelope_in, framed_in, frame_at, has_commands_at}

-- a number of one digit in four or in eight bytes
abbrev four : ℕ → List ℕ
four n = 0 ∷ 0 ∷ 0 ∷ n ∷ []

abbrev eight : ℕ → List ℕ
eight n = 0 ∷ 0 ∷ 0 ∷ 0 ∷ four n

-- which allocator it is makes no difference
abbrev A : Type 0
A = Unit {0}

-- a leader, node 1, asks acceptor 2 for ballot (0, 1)
abbrev p1a : Envelope (Command A) A
p1a = record { from = 1; to = 2; message = P1a (record { round = 0; leader = 1 }) }

-- version 2, kind 2, from 1 to 2; the round and the leader
p1a_frame : frame Second p1a ≡ four 13 ++ (2 ∷ 2 ∷ 1 ∷ 2 ∷ []) ++ eight 0 ++ 1 ∷ []
unfolding u32_bytes u64_bytes
p1a_frame = refl

p1a_first_frame : frame First p1a ≡ four 13 ++ (1 ∷ 2 ∷ 1 ∷ 2 ∷ []) ++ eight 0 ++ 1 ∷ []
unfolding u32_bytes u64_bytes
p1a_first_frame = refl

-- node 2 asks node 1 for the decision of slot 1
abbrev ask : Envelope (Command A) A
ask = record { from = 2; to = 1; message = Ask 1 }

ask_frame : frame Second ask ≡ four 12 ++ (2 ∷ 7 ∷ 2 ∷ 1 ∷ []) ++ eight 1
unfolding u32_bytes u64_bytes
ask_frame = refl

ask_first_frame : frame First ask ≡ four 12 ++ (1 ∷ 7 ∷ 2 ∷ 1 ∷ []) ++ eight 1
unfolding u32_bytes u64_bytes
ask_first_frame = refl

-- acceptor 2 answers that for slot 3 it accepts nothing below ballot (1, 2)
abbrev p2b : Envelope (Command A) A
p2b = record { from = 2; to = 1; message = P2b (record { asked = record { round = 0; leader = 1 }; slot = 3; ballot = record { round = 1; leader = 2 } }) }

p2b_frame : frame Second p2b ≡ four 30 ++ (2 ∷ 5 ∷ 2 ∷ 1 ∷ []) ++ (eight 0 ++ 1 ∷ []) ++ eight 3 ++ eight 1 ++ 2 ∷ []
unfolding u32_bytes u64_bytes
p2b_frame = refl

-- a delivery of two lines for user al, ticket 1 of node 1, in slot 1
abbrev propose : Op A → Envelope (Command A) A
propose op = record { from = 1; to = 2; message = Propose 1 (record { user = codes "al"; ticket = record { node = 1; seq = 1 }; op = op }) }

-- the slot; the name and the ticket
abbrev propose_bytes : List ℕ
propose_bytes = eight 1 ++ (2 ∷ codes "al") ++ (1 ∷ eight 1)

abbrev lines_bytes : List ℕ
lines_bytes = four 2 ++ (four 2 ++ codes "hi") ++ four 0

keyed_frame : frame Second (propose (Mail (codes "hi" ∷ [] ∷ []) (Some (codes "k1")))) ≡ four 42 ++ (2 ∷ 1 ∷ 1 ∷ 2 ∷ []) ++ propose_bytes ++ (1 ∷ 2 ∷ codes "k1") ++ lines_bytes
unfolding u32_bytes u64_bytes
keyed_frame = refl

keyless_frame : frame Second (propose (Mail (codes "hi" ∷ [] ∷ []) None)) ≡ four 40 ++ (2 ∷ 1 ∷ 1 ∷ 2 ∷ []) ++ propose_bytes ++ (1 ∷ 0 ∷ []) ++ lines_bytes
unfolding u32_bytes u64_bytes
keyless_frame = refl

keyless_first_frame : frame First (propose (Mail (codes "hi" ∷ [] ∷ []) None)) ≡ four 39 ++ (1 ∷ 1 ∷ 1 ∷ 2 ∷ []) ++ propose_bytes ++ (1 ∷ []) ++ lines_bytes
unfolding u32_bytes u64_bytes
keyless_first_frame = refl

-- decided in slot 3: user bob removes messages 7 and 9, with the lock of ticket 4 of node 2
abbrev commit : Envelope (Command A) A
commit = record { from = 1; to = 3; message = Decision 3 (record { user = codes "bob"; ticket = record { node = 2; seq = 5 }; op = Commit (record { node = 2; seq = 4 }) (7 ∷ 9 ∷ []) }) }

-- up to the unique ids: the slot; the name and the ticket; the operation, its lock and the number of unique ids
abbrev commit_bytes : ℕ → List ℕ
commit_bytes count = (2 ∷ 6 ∷ 1 ∷ 3 ∷ []) ++ eight 3 ++ (3 ∷ codes "bob") ++ (2 ∷ eight 5) ++ (3 ∷ 2 ∷ eight 4) ++ four count

commit_frame : frame Second commit ≡ four 55 ++ commit_bytes 2 ++ eight 7 ++ eight 9
unfolding u32_bytes u64_bytes
commit_frame = refl

-- acceptor 3 promises ballot (2, 3) and reports one pvalue, a Take
abbrev p1b : Envelope (Command A) A
p1b = record {
  from = 3;
  to = 2;
  message = P1b (record {
    asked = record { round = 1; leader = 2 };
    ballot = record { round = 2; leader = 3 };
    accepted = record { ballot = record { round = 1; leader = 1 }; slot = 1; command = record { user = codes "al"; ticket = record { node = 1; seq = 1 }; op = Take } } ∷ [];
  });
}

p1b_frame : frame Second p1b ≡ four 56 ++ (2 ∷ 3 ∷ 3 ∷ 2 ∷ []) ++ (eight 1 ++ 2 ∷ []) ++ (eight 2 ++ 3 ∷ []) ++ four 1 ++ (eight 1 ++ 1 ∷ []) ++ propose_bytes ++ 2 ∷ []
unfolding u32_bytes u64_bytes
p1b_frame = refl

-- they are read back; what follows is left
p1a_read : frame_at (four 13 ++ (2 ∷ 2 ∷ 1 ∷ 2 ∷ []) ++ eight 0 ++ 1 ∷ 99 ∷ 99 ∷ []) ≡ Ok (Some (p1a, 17))
unfolding frame_at content_at framed_in envelope_in header_at node_at message_at ballot_at
p1a_read = refl

ask_first_read : frame_at (four 12 ++ (1 ∷ 7 ∷ 2 ∷ 1 ∷ []) ++ eight 1) ≡ Ok (Some (ask, 16))
unfolding frame_at content_at framed_in envelope_in header_at node_at message_at slot_at
ask_first_read = refl

commit_read : frame_at (four 55 ++ commit_bytes 2 ++ eight 7 ++ eight 9) ≡ Ok (Some (commit, 59))
unfolding frame_at content_at framed_in envelope_in header_at node_at message_at slot_at command_at name_at ticket_at op_at commit_at uids_at uids_from uid_at
commit_read = refl

keyless_first_read : frame_at (four 39 ++ (1 ∷ 1 ∷ 1 ∷ 2 ∷ []) ++ propose_bytes ++ (1 ∷ []) ++ lines_bytes) ≡ Ok (Some (propose (Mail (codes "hi" ∷ [] ∷ []) None), 43))
unfolding frame_at content_at framed_in envelope_in header_at node_at message_at slot_at command_at name_at ticket_at op_at mail_at key_at text_at many_at line_at
keyless_first_read = refl

-- the length comes first, and then it is waited for the whole frame
three_bytes : frame_at {A = A} (64 ∷ 0 ∷ 0 ∷ []) ≡ Ok None
unfolding frame_at content_at framed_in
three_bytes = refl

longest_length : frame_at {A = A} (64 ∷ 0 ∷ 0 ∷ 0 ∷ []) ≡ Ok None
unfolding frame_at content_at framed_in
longest_length = refl

length_above : frame_at {A = A} (64 ∷ 0 ∷ 0 ∷ 1 ∷ []) ≡ Err malformed.Length
unfolding frame_at content_at
length_above = refl

length_below : frame_at {A = A} (four 3) ≡ Err malformed.Length
unfolding frame_at content_at
length_below = refl

one_byte_missing : frame_at {A = A} (four 12 ++ (9 ∷ 7 ∷ 2 ∷ 1 ∷ []) ++ replicate 7 0) ≡ Ok None
unfolding frame_at content_at framed_in
one_byte_missing = refl

-- the first fault from left to right is the answer
version_nine : frame_at {A = A} (four 12 ++ (9 ∷ 8 ∷ 0 ∷ 0 ∷ []) ++ eight 0) ≡ Err malformed.Version
unfolding frame_at content_at framed_in envelope_in header_at
version_nine = refl

kind_eight : frame_at {A = A} (four 12 ++ (2 ∷ 8 ∷ 0 ∷ 0 ∷ []) ++ eight 0) ≡ Err malformed.Kind
unfolding frame_at content_at framed_in envelope_in header_at
kind_eight = refl

from_node_zero : frame_at {A = A} (four 12 ++ (2 ∷ 7 ∷ 0 ∷ 1 ∷ []) ++ eight 1) ≡ Err malformed.Field
unfolding frame_at content_at framed_in envelope_in header_at node_at
from_node_zero = refl

to_node_ten : frame_at {A = A} (four 12 ++ (2 ∷ 7 ∷ 2 ∷ 10 ∷ []) ++ eight 1) ≡ Err malformed.Field
unfolding frame_at content_at framed_in envelope_in header_at node_at
to_node_ten = refl

slot_zero : frame_at {A = A} (four 12 ++ (2 ∷ 7 ∷ 2 ∷ 1 ∷ []) ++ eight 0) ≡ Err malformed.Field
unfolding frame_at content_at framed_in envelope_in header_at node_at message_at slot_at
slot_zero = refl

frame_ends_in_a_field : frame_at {A = A} (four 11 ++ (2 ∷ 7 ∷ 2 ∷ 1 ∷ []) ++ replicate 7 0) ≡ Err malformed.Length
unfolding frame_at content_at framed_in envelope_in header_at node_at message_at slot_at
frame_ends_in_a_field = refl

byte_left_over : frame_at {A = A} (four 13 ++ (2 ∷ 7 ∷ 2 ∷ 1 ∷ []) ++ eight 1 ++ 0 ∷ []) ≡ Err malformed.Length
unfolding frame_at content_at framed_in envelope_in header_at node_at message_at slot_at
byte_left_over = refl

-- of three unique ids the second doesn't rise, and the third is cut off
same_ids : frame_at {A = A} (four 55 ++ commit_bytes 3 ++ eight 7 ++ eight 7) ≡ Err malformed.Field
unfolding frame_at content_at framed_in envelope_in header_at node_at message_at slot_at command_at name_at ticket_at op_at commit_at uids_at uids_from uid_at
same_ids = refl

-- only a frame whose kind has commands may take memory
ask_takes_none : has_commands_at (four 12 ++ (2 ∷ 7 ∷ 2 ∷ 1 ∷ []) ++ eight 1) ≡ false
unfolding content_at header_at node_at
ask_takes_none = refl

bad_version_takes_none : has_commands_at (four 55 ++ (9 ∷ 6 ∷ 1 ∷ 3 ∷ []) ++ replicate 51 0) ≡ false
unfolding content_at header_at node_at
bad_version_takes_none = refl
