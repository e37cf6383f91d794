-- Frames one after another, as they come in.
use Rattle.std.proofs.Common.{◌≡◌, ℕ, ◌+◌, ◌-◌, ◌<◌, ◌≤◌, ◌^◌, true, false, List, [], ◌∷◌, ◌++◌, length, take, drop, Option, None, Ok, refl, sym, ap, subst, ◌∙◌, append_assoc, arith, inl, inr}
use Rattle.std.specs.Int.{w32, from_be_bytes}
use Rattle.std.proofs.lemmas.List.{length-append, length-take, take_at, take-append-drop, drop-append-le}
use Rattle.peer_frames.specs.Numbers.{longest}
use Rattle.peer_frames.specs.Reading.{content_at, framed_in, frame_at}
use Rattle.std.specs.Io.KnownBytes.{Consumes, Keeps}
use Rattle.std.proofs.KnownBytes.{Consumes-nil, Consumes-trans, Consumes-kept}
use Rattle.std.proofs.lemmas.Bool.{cases_lt, and_from, le-leb, lt-ltb}
use Rattle.std.proofs.Math.ListN.{get_or-append}
use Rattle.std.proofs.Math.Seq.{get_or-append_right}
use Rattle.peer_wire.specs.declared.received.Received.{Received}
use Rattle.peer_wire.specs.Streams.{claims, AreFrames, AreHeard, IsHandedOn, EndsAt, IsReceived}
use Rattle.peer_frames.specs.Frames.{u32_bytes, content, frame}
use Rattle.peer_frames.specs.Fitting.{BeginsWithFrame}
use Rattle.peer_frames.proofs.Formats.{IsBytes, IsBytes-drop, length_u32_bytes, wide32}
use Rattle.peer_frames.proofs.WholeFrames.{E, found, frame_takes, frame_again}

number_back : (n : ℕ) → n < 2 ^ 32 → from_be_bytes w32 (u32_bytes n) ≡ n
unfolding u32_bytes
number_back n small = wide32.again n small

claims_more : (limit n : ℕ) (bytes : List ℕ) → from_be_bytes w32 (take 4 bytes) ≡ n → 4 ≤ length bytes → limit < n → n ≤ longest → claims limit bytes ≡ true
claims_more limit n bytes is enough above small =
    and_from _ _ (and_from _ _ (le-leb 4 (length bytes) enough) (rw is (lt-ltb limit n above))) (rw is (le-leb n longest small))

module _ {A : Type 0} where
  -- how long a frame is
  pub frame_length : (bytes : List ℕ) (e : E A) (n : ℕ) → (s : BeginsWithFrame bytes e n) → (n ≡ length (frame s.version e)) × (8 ≤ n)
  frame_length bytes e n s =
      let len : n ≡ length (frame s.version e) = omega (arith, ap length s.written, s.within, length-take n bytes) in
      (len, omega (arith, len, length-append (u32_bytes (length (content s.version e))) (content s.version e), length_u32_bytes (length (content s.version e))))

  -- a frame stays one, whatever comes after it
  frame_stays : (bytes more : List ℕ) (e : E A) (n : ℕ) → IsBytes bytes → frame_at bytes ≡ found e n → frame_at (bytes ++ more) ≡ found e n
  frame_stays bytes more e n fits h =
      let s = frame_takes bytes e n fits h in
      let len = frame_length bytes e n s in
      let parts : bytes ++ more ≡ frame s.version e ++ (drop n bytes ++ more) =
      ap (λ (t : List ℕ). t ++ more) (sym (take-append-drop n bytes) ∙ ap (λ (t : List ℕ). t ++ drop n bytes) s.written) ∙ append_assoc (frame s.version e) (drop n bytes) more in
      ap frame_at parts ∙ frame_again s.version e (drop n bytes ++ more) s.fits s.small ∙ ap (found e) (sym len.0)

  -- a frame that isn't above the limit has at most so many bytes
  pub within_limit : (limit n : ℕ) (bytes : List ℕ) (e : E A) → BeginsWithFrame bytes e n → claims limit bytes ≡ false → n ≤ 4 + limit
  within_limit limit n bytes e s small =
      let text = content s.version e in
      let k = length text in
      let size : n ≡ 4 + k = omega (arith, (frame_length bytes e n s).0, length-append (u32_bytes k) text, length_u32_bytes k) in
      let parts : bytes ≡ u32_bytes k ++ (text ++ drop n bytes) = sym (take-append-drop n bytes) ∙ ap (λ (t : List ℕ). t ++ drop n bytes) s.written ∙ append_assoc (u32_bytes k) text (drop n bytes) in
      let front : take 4 bytes ≡ u32_bytes k = ap (take 4) parts ∙ take_at (u32_bytes k) (text ++ drop n bytes) 4 (length_u32_bytes k) in
      let is : from_be_bytes w32 (take 4 bytes) ≡ k = ap (from_be_bytes w32) front ∙ number_back k (omega (arith, s.small)) in
      elim (cases_lt limit k) [
        | inl above ↦ absurd (cc (small, claims_more limit k bytes is (omega (arith, s.within, size)) above s.small))
        | inr below ↦ omega (arith, size, below)
      ]

  -- one frame more
  pub frames_more : (limit : ℕ) (es : List (E A)) (bytes mid : List ℕ) (e : E A) (n : ℕ) → AreFrames limit es bytes mid → frame_at mid ≡ found e n → n ≤ 4 + limit → AreFrames limit (es ++ e ∷ []) bytes (drop n mid)
  frames_more limit [] bytes mid e n h is short = (n, ap frame_at h ∙ is, short, ap (drop n) h)
  frames_more limit (d ∷ es) bytes mid e n h is short = (h.0, h.1, h.2, frames_more limit es (drop h.0 bytes) mid e n h.3 is short)

  -- frames after frames
  pub frames_then : (limit : ℕ) (es fs : List (E A)) (bytes mid rest : List ℕ) → AreFrames limit es bytes mid → AreFrames limit fs mid rest → AreFrames limit (es ++ fs) bytes rest
  frames_then limit [] fs bytes mid rest h k = subst (λ (t : List ℕ). AreFrames limit fs t rest) (sym h) k
  frames_then limit (e ∷ es) fs bytes mid rest h k = (h.0, h.1, h.2, frames_then limit es fs (drop h.0 bytes) mid rest h.3 k)

  -- more bytes at the end
  pub frames_stay : (limit : ℕ) (es : List (E A)) (bytes rest more : List ℕ) → IsBytes bytes → AreFrames limit es bytes rest → AreFrames limit es (bytes ++ more) (rest ++ more)
  frames_stay limit [] bytes rest more fits h = ap (λ (t : List ℕ). t ++ more) h
  frames_stay limit (e ∷ es) bytes rest more fits h =
      let s = frame_takes bytes e h.0 fits h.1 in
      let cut : drop h.0 (bytes ++ more) ≡ drop h.0 bytes ++ more = drop-append-le h.0 bytes more s.within in
      let others = frames_stay limit es (drop h.0 bytes) rest more (IsBytes-drop h.0 bytes fits) h.3 in
      (h.0, frame_stays bytes more e h.0 fits h.1, h.2, subst (λ (t : List ℕ). AreFrames limit es t (rest ++ more)) (sym cut) others)

  pub nothing_yet : frame_at {A = A} [] ≡ Ok None
  unfolding frame_at content_at framed_in
  nothing_yet = refl

  -- what was read so far, and handed on
  pub record IsRead {I : Type 0} (limit : ℕ) (hears : I → E A → I → Type 0) (told told2 : I) (remaining remaining2 : Option (List ℕ)) (rest : List ℕ) (count : ℕ) : Type 0 where
    pub envelopes : List (E A)
    pub read : List ℕ
    pub fits : IsBytes read
    pub heard : AreHeard hears told envelopes told2
    pub counted : count ≡ length envelopes
    pub consumed : Consumes remaining remaining2 read
    pub frames : AreFrames limit envelopes read rest

heard_more : {A I : Type 0} (hears : I → E A → I → Type 0) (es : List (E A)) (told told2 told3 : I) (e : E A) → AreHeard hears told es told2 → hears told2 e told3 → AreHeard hears told (es ++ e ∷ []) told3
heard_more hears [] told told2 told3 e h more = (told3, subst (λ i. hears i e told3) h more, refl)
heard_more hears (d ∷ es) told told2 told3 e h more = (h.0, h.1, heard_more hears es h.0 told2 told3 e h.2 more)

heard_then : {A I : Type 0} (hears : I → E A → I → Type 0) (es fs : List (E A)) (told told2 told3 : I) → AreHeard hears told es told2 → AreHeard hears told2 fs told3 → AreHeard hears told (es ++ fs) told3
heard_then hears [] fs told told2 told3 h k = subst (λ i. AreHeard hears i fs told3) h k
heard_then hears (e ∷ es) fs told told2 told3 h k = (h.0, h.1, heard_then hears es fs h.0 told2 told3 h.2 k)

module _ {A I : Type 0} {limit : ℕ} {hears : I → E A → I → Type 0} where
  -- handing on one envelope more
  pub none_handed : (inbox : I) (bytes : List ℕ) → IsHandedOn limit hears inbox inbox bytes bytes 0
  none_handed inbox bytes = record { envelopes = []; heard = refl; counted = refl; frames = refl }

  pub one_handed : (told told2 told3 : I) (bytes mid : List ℕ) (count : ℕ) (e : E A) (n : ℕ) → IsHandedOn limit hears told told2 bytes mid count → hears told2 e told3 → frame_at mid ≡ found e n → n ≤ 4 + limit
      → IsHandedOn limit hears told told3 bytes (drop n mid) (count + 1)
  one_handed told told2 told3 bytes mid count e n h more is short = record {
    envelopes = h.envelopes ++ e ∷ [];
    heard = heard_more hears h.envelopes told told2 told3 e h.heard more;
    counted = omega (arith, h.counted, length-append h.envelopes (e ∷ []));
    frames = frames_more limit h.envelopes bytes mid e n h.frames is short;
  }

  pub none_read : (told : I) (remaining : Option (List ℕ)) → IsRead limit hears told told remaining remaining [] 0
  none_read told remaining = record { envelopes = []; read = []; fits = λ i. omega arith; heard = refl; counted = refl; consumed = Consumes-nil remaining; frames = refl }

  -- a piece more
  pub piece_read : (told told2 : I) (a b c : Option (List ℕ)) (rest piece : List ℕ) (count : ℕ) → IsRead limit hears told told2 a b rest count → IsBytes piece → Consumes b c piece → IsRead limit hears told told2 a c (rest ++ piece) count
  piece_read told told2 a b c rest piece count h fits more = record {
    envelopes = h.envelopes;
    read = h.read ++ piece;
    fits = λ i. elim (cases_lt i (length h.read)) [
      | inl lt ↦ rw (get_or-append h.read piece 0 i lt) (h.fits i)
      | inr le ↦ rw (get_or-append_right h.read piece i 0 le) (fits (i - length h.read))
    ];
    heard = h.heard;
    counted = h.counted;
    consumed = Consumes-trans a b c h.read piece h.consumed more;
    frames = frames_stay limit h.envelopes h.read rest piece h.fits h.frames;
  }

  -- and what is whole then is handed on
  pub piece_handed : (told told2 told3 : I) (a b : Option (List ℕ)) (bytes rest : List ℕ) (count more : ℕ) → IsRead limit hears told told2 a b bytes count → IsHandedOn limit hears told2 told3 bytes rest more → IsRead limit hears told told3 a b rest (count + more)
  piece_handed told told2 told3 a b bytes rest count more h k = record {
    envelopes = h.envelopes ++ k.envelopes;
    read = h.read;
    fits = h.fits;
    heard = heard_then hears h.envelopes k.envelopes told told2 told3 h.heard k.heard;
    counted = omega (arith, h.counted, k.counted, length-append h.envelopes k.envelopes);
    consumed = h.consumed;
    frames = frames_then limit h.envelopes k.envelopes h.read bytes rest h.frames k.frames;
  }

  pub received : (told told2 : I) (a b c : Option (List ℕ)) (rest : List ℕ) (r : Received) → IsRead limit hears told told2 a b rest r.count → Keeps b c → EndsAt A limit r.end c rest → IsReceived limit hears told told2 a c r
  received told told2 a b c rest r h keeps ends = record {
    envelopes = h.envelopes;
    read = h.read;
    rest = rest;
    heard = h.heard;
    counted = h.counted;
    consumed = Consumes-kept a b c h.read h.consumed keeps;
    frames = h.frames;
    ends = ends;
  }
