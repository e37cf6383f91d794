use Rattle.std.proofs.Common.{◌≡◌, List, ℕ, ◌++◌, length, drop, refl, subst, ap, ◌∙◌, arith}
use Rattle.std.specs.Io.KnownBytes.{Consumes}
use Rattle.std.proofs.KnownBytes.{Keeps-refl}
use Rattle.std.proofs.lemmas.List.{length-append, length-drop}
use Rattle.peer_wire.specs.Streams.{StopsAt, IsHandedOn}
use Rattle.peer_wire.proofs.FramesInARow.{nothing_yet, none_read, piece_read, piece_handed, received}
use Rattle.peer_wire.proofs.receiving.receive.Goals as goal

pub loop-init : goal.loop-init
loop-init g c = record {
  few = omega (arith, ap length c.new-bytes.ensures.items);
  part = rw c.new-bytes.ensures.items (nothing_yet {A = g.row.A.Denot}, refl);
  read = rw c.new-bytes.ensures.items (none_read {A = g.row.A.Denot} c.args.inbox.now (g.S.Read.remaining c.args.reader.now));
}

pub returns-in_default : goal.returns-in_default
returns-in_default g c =
    let piece = c.split_at.result.0.now in
    let more : Consumes (g.S.Read.remaining c.loop.reader) (g.S.Read.remaining c.read.new.self) piece = rw c.split_at.ensures.front c.in-Ok.ensures.bytes.0 in
    let read = piece_read {A = g.row.A.Denot} c.args.inbox.now c.loop.inbox (g.S.Read.remaining c.args.reader.now) (g.S.Read.remaining c.loop.reader) (g.S.Read.remaining c.read.new.self) c.loop.bytes.items piece c.loop.count c.loop.invariant.read c.are_bytes.ensures more in
    received {A = g.row.A.Denot} c.args.inbox.now c.loop.inbox (g.S.Read.remaining c.args.reader.now) (g.S.Read.remaining c.read.new.self) (g.S.Read.remaining c.read.new.self) (c.loop.bytes.items ++ piece) _ read (Keeps-refl (g.S.Read.remaining c.read.new.self)) (tt, λ other. absurd (other refl))

pub returns-in-Some : goal.returns-in-Some
returns-in-Some g c =
    let told = c.args.inbox.now in
    let told1 = c.loop.inbox in
    let told2 = c.hand_on-handed.new.inbox in
    let before = g.S.Read.remaining c.args.reader.now in
    let after = g.S.Read.remaining c.read.new.self in
    let piece = c.split_at.result.0.now in
    let bytes = c.loop.bytes.items ++ piece in
    let used = c.hand_on-handed.result.used in
    let all : c.deref.result.now ≡ bytes = c.deref.ensures.value ∙ c.in-Ok-extend_from_slice.ensures.items in
    let more : Consumes (g.S.Read.remaining c.loop.reader) after piece = rw c.split_at.ensures.front c.in-Ok.ensures.bytes.0 in
    let read = piece_read {A = g.row.A.Denot} told told1 before (g.S.Read.remaining c.loop.reader) after c.loop.bytes.items piece c.loop.count c.loop.invariant.read c.are_bytes.ensures more in
    let handed = subst (λ (t : List ℕ). IsHandedOn {A = g.row.A.Denot} c.args.longest g.I.Inbox.hears told1 told2 t (drop used t) c.hand_on-handed.result.count) all c.hand_on-handed.ensures.handed in
    let stops = rw c.in-Some.is at (subst (λ (t : List ℕ). StopsAt g.row.A.Denot c.args.longest c.hand_on-handed.result.end (drop used t)) all c.hand_on-handed.ensures.stops) in
    let both = piece_handed {A = g.row.A.Denot} told told1 told2 before after bytes (drop used bytes) c.loop.count c.hand_on-handed.result.count read handed in
    received {A = g.row.A.Denot} told told2 before after after (drop used bytes) _ both (Keeps-refl after) (stops after)

pub loop-preserved : goal.loop-preserved
loop-preserved g c =
    let told = c.args.inbox.now in
    let told1 = c.loop.inbox in
    let told2 = c.hand_on-handed.new.inbox in
    let before = g.S.Read.remaining c.args.reader.now in
    let after = g.S.Read.remaining c.read.new.self in
    let piece = c.split_at.result.0.now in
    let bytes = c.loop.bytes.items ++ piece in
    let used = c.hand_on-handed.result.used in
    let all : c.deref.result.now ≡ bytes = c.deref.ensures.value ∙ c.in-Ok-extend_from_slice.ensures.items in
    let left : c.cut_front.new.bytes.items ≡ drop used bytes = c.cut_front.ensures ∙ ap (drop used) c.in-Ok-extend_from_slice.ensures.items in
    let more : Consumes (g.S.Read.remaining c.loop.reader) after piece = rw c.split_at.ensures.front c.in-Ok.ensures.bytes.0 in
    let read = piece_read {A = g.row.A.Denot} told told1 before (g.S.Read.remaining c.loop.reader) after c.loop.bytes.items piece c.loop.count c.loop.invariant.read c.are_bytes.ensures more in
    let handed = subst (λ (t : List ℕ). IsHandedOn {A = g.row.A.Denot} c.args.longest g.I.Inbox.hears told1 told2 t (drop used t) c.hand_on-handed.result.count) all c.hand_on-handed.ensures.handed in
    let stops = rw c.in_default-end.is at (subst (λ (t : List ℕ). StopsAt g.row.A.Denot c.args.longest c.hand_on-handed.result.end (drop used t)) all c.hand_on-handed.ensures.stops) in
    record {
      few = omega (arith, c.loop.invariant.few, c.hand_on-handed.ensures.few, c.hand_on-handed.ensures.within, ap length all, ap length left, length-append c.loop.bytes.items piece, length-drop used bytes, c.split_at.ensures.front_len, c.in-Ok.ensures.bound);
      part = rw left stops;
      read = rw left (piece_handed {A = g.row.A.Denot} told told1 told2 before after bytes (drop used bytes) c.loop.count c.hand_on-handed.result.count read handed);
    }
