-- Frames one after another, and what is received of them.
use Rattle.std.specs.Prelude.{◌≡◌, ◌≢◌, ◌≤◌, ℕ, ◌+◌, refl, Bool, true, false, ◌&&◌, nat_lt, nat_le, List, [], ◌∷◌, length, take, drop, Option, Some, None, Ok}
use Rattle.std.specs.Int.{w32, from_be_bytes}
use Rattle.std.specs.Io.KnownBytes.{Consumes, IsAtEnd}
use Rattle.ballot.specs.declared.message.Envelope.{Envelope}
use Rattle.maildrop.specs.declared.command.Command.{Command}
use Rattle.peer_frames.specs.declared.fault.FrameFault.TheVariants as fault
use Rattle.peer_frames.specs.Numbers as frames
use Rattle.peer_wire.specs.declared.received.Received.{Received}
use Rattle.peer_wire.specs.declared.received.End.{End}
use Rattle.peer_wire.specs.declared.received.End.TheVariants as end
use Rattle.peer_frames.specs.Reading.{Fails, frame_at}

-- Whether the first four bytes are a length above the limit. One above 2^30 is a fault of the frame, whatever the limit.
abbrev pub claims : ℕ → List ℕ → Bool
claims longest rest = nat_le 4 (length rest) && nat_lt longest (from_be_bytes w32 (take 4 rest)) && nat_le (from_be_bytes w32 (take 4 rest)) frames.longest

-- what comes next is no whole frame, and isn't above the limit
abbrev pub IsPart : (A : Type 0) → ℕ → List ℕ → Type 0
IsPart A longest rest = (frame_at {A = A} rest ≡ Ok None) × (claims longest rest ≡ false)

-- Why no more is received: what is still to be read, and what is left of what was. Memory can run out at any frame.
abbrev pub EndsAt : (A : Type 0) → ℕ → End → Option (List ℕ) → List ℕ → Type 0
EndsAt A longest end.Ended remaining rest = IsAtEnd remaining × IsPart A longest rest
EndsAt A longest (end.Fault f) remaining rest = Fails f (frame_at {A = A} rest) × (f ≢ fault.Memory → claims longest rest ≡ false)
EndsAt A longest end.TooLong remaining rest = claims longest rest ≡ true
EndsAt A longest end.ReadFault remaining rest = IsPart A longest rest

-- why nothing more is handed on: what comes next is a part of a frame, or it is this end, whatever is still to be read
abbrev pub StopsAt : (A : Type 0) → ℕ → Option End → List ℕ → Type 0
StopsAt A longest None rest = IsPart A longest rest
StopsAt A longest (Some e) rest = (remaining : Option (List ℕ)) → EndsAt A longest e remaining rest

module _ {A : Type 0} where
  -- the bytes are the frames of these envelopes, one after another and none above the limit, and then the rest
  abbrev pub AreFrames : ℕ → List (Envelope (Command A) A) → List ℕ → List ℕ → Type 0
  AreFrames longest [] bytes rest = bytes ≡ rest
  AreFrames longest (e ∷ es) bytes rest = (n : ℕ) × (frame_at bytes ≡ Ok (Some (e, n))) × (n ≤ 4 + longest) × AreFrames longest es (drop n bytes) rest

  -- an inbox took these envelopes, one after another
  abbrev pub AreHeard : {I : Type 0} → (I → Envelope (Command A) A → I → Type 0) → I → List (Envelope (Command A) A) → I → Type 0
  AreHeard hears old [] new = new ≡ old
  AreHeard {I} hears old (e ∷ es) new = (mid : I) × hears old e mid × AreHeard hears mid es new

  -- so many envelopes went from these bytes to the inbox, and the rest is left
  pub record IsHandedOn {I : Type 0} (longest : ℕ) (hears : I → Envelope (Command A) A → I → Type 0) (inbox inbox2 : I) (bytes rest : List ℕ) (count : ℕ) : Type 0 where
    pub envelopes : List (Envelope (Command A) A)
    pub heard : AreHeard hears inbox envelopes inbox2
    pub counted : count ≡ length envelopes
    pub frames : AreFrames longest envelopes bytes rest

  -- What went to the inbox is, in order, the envelopes of the whole frames that were read; then comes the rest.
  pub record IsReceived {I : Type 0} (longest : ℕ) (hears : I → Envelope (Command A) A → I → Type 0) (inbox inbox2 : I) (remaining remaining2 : Option (List ℕ)) (received : Received) : Type 0 where
    pub envelopes : List (Envelope (Command A) A)
    pub read : List ℕ
    pub rest : List ℕ
    pub heard : AreHeard hears inbox envelopes inbox2
    pub counted : received.count ≡ length envelopes
    pub consumed : Consumes remaining remaining2 read
    pub frames : AreFrames longest envelopes read rest
    pub ends : EndsAt A longest received.end remaining2 rest

-- A limit of 1,000: a length of 1,000 isn't above it, one of 1,001 is, and so is 2^30. Of three bytes nothing is said, nor of
-- a length above 2^30.
example_at_the_limit : claims 1000 (0 ∷ 0 ∷ 3 ∷ 232 ∷ 2 ∷ []) ≡ false
example_at_the_limit = refl

example_above_the_limit : claims 1000 (0 ∷ 0 ∷ 3 ∷ 233 ∷ []) ≡ true
example_above_the_limit = refl

example_longest_of_all : claims 1000 (64 ∷ 0 ∷ 0 ∷ 0 ∷ 2 ∷ []) ≡ true
example_longest_of_all = refl

example_three_bytes : claims 1000 (64 ∷ 0 ∷ 0 ∷ []) ≡ false
example_three_bytes = refl

example_above_all : claims 1000 (64 ∷ 0 ∷ 0 ∷ 1 ∷ []) ≡ false
example_above_all = refl
