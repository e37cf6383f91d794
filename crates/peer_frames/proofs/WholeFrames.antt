-- Frames are read back as they are written.
use Rattle.std.proofs.Common.{◌≡◌, ℕ, ◌+◌, ◌-◌, ◌<◌, ◌≤◌, not, true, false, cond, eqb, ltb, leb, List, [], ◌∷◌, ◌++◌, length, take, drop, Option, Some, None, Result, Ok, Err, refl, sym, ap, subst, ◌∙◌, append_assoc, arith, inl, inr}
use Rattle.std.specs.Prelude.{IfOk, IfSome}
use Rattle.std.specs.Int.{w32}
use Rattle.std.proofs.lemmas.Bool.{cases_lt, not-false, and_parts, and_from, leb-true, le-leb, eqb-true, ltb-false, lt-ltb, le-ltb, cond-true, cond-false}
use Rattle.std.proofs.Math.Seq.{take-append-add}
use Rattle.std.proofs.lemmas.Option.{some_pair_parts}
use Rattle.std.proofs.lemmas.List.{append-nil, nil_from_length, length-append, take_at, take-append-drop, length-take}
use Rattle.ballot.specs.declared.message.Message.{Message}
use Rattle.ballot.specs.declared.message.Envelope.{Envelope}
use Rattle.maildrop.specs.declared.command.Command.{Command}
use Rattle.peer_frames.specs.declared.fault.FrameFault.{FrameFault}
use Rattle.peer_frames.specs.declared.malformed.Malformed.{Malformed}
use Rattle.peer_frames.specs.declared.malformed.Malformed.TheVariants as malformed
use Rattle.peer_frames.specs.declared.version.Version.{Version}
use Rattle.peer_frames.specs.declared.version.Version.TheVariants.{First, Second}
use Rattle.peer_frames.specs.declared.kind.Kind.{Kind}
use Rattle.peer_frames.specs.declared.kind.Kind.TheVariants as kind
use Rattle.peer_frames.specs.declared.header.Header.{Header}
use Rattle.peer_frames.specs.Numbers.{version_number, version_of, kind_number, kind_of, is_length, is_node, longest}
use Rattle.peer_frames.specs.Frames.{u32_bytes, long_string, kind_of_message, message_bytes, content, frame}
use Rattle.peer_frames.specs.Reading.{Reading, ◌>>=◌, Gives, known, byte_at, number_at, node_at, header_at, content_at, message_at, envelope_in, framed_in, frame_at}
use Rattle.peer_frames.specs.Fitting.{FitsEnvelope, BeginsWithFrame}
use Rattle.peer_frames.proofs.Steps.{bind_ok, passed, known_ok, ok_is, gave}
use Rattle.peer_frames.proofs.Formats.{IsBytes, IsBytes-take, Takes, Takes-then, byte_agrees, both_take, u32_agrees, length_u32_bytes}
use Rattle.peer_frames.proofs.Fields.{node_agrees}
use Rattle.peer_frames.proofs.Commands.{chosen}
use Rattle.peer_frames.proofs.Messages.{message_takes, message_again}

version_is : (n : ℕ) (v : Version) → version_of n ≡ Some v → n ≡ version_number v
version_is n v e =
    elim (chosen (eqb n 1) _ _ (Some v) e) [
      | inl h ↦ (let same : First ≡ v = cc (h.1) in subst (λ (v : Version). n ≡ version_number v) same (eqb-true n 1 h.0))
      | inr h ↦ elim (chosen (eqb n 2) _ _ (Some v) h.1) [
        | inl h ↦ (let same : Second ≡ v = cc (h.1) in subst (λ (v : Version). n ≡ version_number v) same (eqb-true n 2 h.0))
        | inr h ↦ absurd (cc (h.1))
      ]
    ]

version_again : (v : Version) → version_of (version_number v) ≡ Some v
version_again First = refl
version_again Second = refl

kind_again : (k : Kind) → kind_of (kind_number k) ≡ Some k
kind_again kind.Propose = refl
kind_again kind.P1a = refl
kind_again kind.P1b = refl
kind_again kind.P2a = refl
kind_again kind.P2b = refl
kind_again kind.Decision = refl
kind_again kind.Ask = refl

one_kind : (n i : ℕ) (at k : Kind) → eqb n i ≡ true → i ≡ kind_number at → Some at ≡ Some k → n ≡ kind_number k
one_kind n i at k e is same = let one : at ≡ k = cc same in subst (λ (k : Kind). n ≡ kind_number k) one (eqb-true n i e ∙ is)

kind_is : (n : ℕ) (k : Kind) → kind_of n ≡ Some k → n ≡ kind_number k
kind_is n k e =
    elim (chosen (eqb n 1) _ _ (Some k) e) [
      | inl h ↦ one_kind n 1 kind.Propose k h.0 refl h.1
      | inr h ↦ elim (chosen (eqb n 2) _ _ (Some k) h.1) [
        | inl h ↦ one_kind n 2 kind.P1a k h.0 refl h.1
        | inr h ↦ elim (chosen (eqb n 3) _ _ (Some k) h.1) [
          | inl h ↦ one_kind n 3 kind.P1b k h.0 refl h.1
          | inr h ↦ elim (chosen (eqb n 4) _ _ (Some k) h.1) [
            | inl h ↦ one_kind n 4 kind.P2a k h.0 refl h.1
            | inr h ↦ elim (chosen (eqb n 5) _ _ (Some k) h.1) [
              | inl h ↦ one_kind n 5 kind.P2b k h.0 refl h.1
              | inr h ↦ elim (chosen (eqb n 6) _ _ (Some k) h.1) [
                | inl h ↦ one_kind n 6 kind.Decision k h.0 refl h.1
                | inr h ↦ elim (chosen (eqb n 7) _ _ (Some k) h.1) [
                  | inl h ↦ one_kind n 7 kind.Ask k h.0 refl h.1
                  | inr h ↦ absurd (cc (h.1))
                ]
              ]
            ]
          ]
        ]
      ]
    ]

-- headers

abbrev header_bytes : Header → List ℕ
header_bytes h = version_number h.version ∷ kind_number h.kind ∷ h.from ∷ h.to ∷ []

abbrev make_header : Version → Kind → ℕ → ℕ → Header
make_header v k from to = record { version = v; kind = k; from = from; to = to }

abbrev after_kind : Version → List ℕ → Kind → Reading Header
after_kind v bytes k = node_at bytes >>= λ from. node_at from.1 >>= λ to. gave (make_header v k from.0 to.0) to.1

abbrev after_version : List ℕ → Version → Reading Header
after_version bytes v = byte_at bytes >>= λ k. known malformed.Kind (kind_of k.0) >>= after_kind v k.1

header_takes : (bytes : List ℕ) (h : Header) (rest : List ℕ) → IsBytes bytes → header_at bytes ≡ Ok (h, rest) → Takes bytes (header_bytes h) rest × (is_node h.from ≡ true) × (is_node h.to ≡ true)
unfolding header_at
header_takes bytes h rest fits e =
    let a = bind_ok (byte_at bytes) (λ v. known malformed.Version (version_of v.0) >>= after_version v.1) (h, rest) e in
    let b = bind_ok (known malformed.Version (version_of a.0.0)) (after_version a.0.1) (h, rest) a.2 in
    let c = bind_ok (byte_at a.0.1) (λ k. known malformed.Kind (kind_of k.0) >>= after_kind b.0 k.1) (h, rest) b.2 in
    let d = bind_ok (known malformed.Kind (kind_of c.0.0)) (after_kind b.0 c.0.1) (h, rest) c.2 in
    let v-taken = byte_agrees.takes bytes a.0.0 a.0.1 fits a.1 in
    let k-taken = byte_agrees.takes a.0.1 c.0.0 c.0.1 v-taken.0.rest_fits c.1 in
    let nodes = both_take node_agrees node_agrees (make_header b.0 d.0) c.0.1 h rest k-taken.0.rest_fits d.2 in
    let v-is : a.0.0 ≡ version_number b.0 = version_is a.0.0 b.0 (known_ok malformed.Version (version_of a.0.0) b.0 b.1) in
    let k-is : c.0.0 ≡ kind_number d.0 = kind_is c.0.0 d.0 (known_ok malformed.Kind (kind_of c.0.0) d.0 d.1) in
    let two : Takes bytes (a.0.0 ∷ c.0.0 ∷ []) c.0.1 = Takes-then bytes (a.0.0 ∷ []) a.0.1 (c.0.0 ∷ []) c.0.1 v-taken.0 k-taken.0 in
    let four : Takes bytes (a.0.0 ∷ c.0.0 ∷ nodes.first ∷ nodes.second ∷ []) rest = Takes-then bytes (a.0.0 ∷ c.0.0 ∷ []) c.0.1 (nodes.first ∷ nodes.second ∷ []) rest two nodes.taken in
    let named : Takes bytes (header_bytes (make_header b.0 d.0 nodes.first nodes.second)) rest =
    subst (λ (n : ℕ). Takes bytes (n ∷ kind_number d.0 ∷ nodes.first ∷ nodes.second ∷ []) rest) v-is (subst (λ (n : ℕ). Takes bytes (a.0.0 ∷ n ∷ nodes.first ∷ nodes.second ∷ []) rest) k-is four) in
    subst (λ (h : Header). Takes bytes (header_bytes h) rest × (is_node h.from ≡ true) × (is_node h.to ≡ true)) nodes.made (named, nodes.fits, nodes.fits2)

header_again : (v : Version) (k : Kind) (from to : ℕ) (rest : List ℕ) → is_node from ≡ true → is_node to ≡ true → header_at (header_bytes (make_header v k from to) ++ rest) ≡ Ok (make_header v k from to, rest)
unfolding header_at
header_again v k from to rest h h2 = rw (version_again v, kind_again k, node_agrees.again from (to ∷ rest) h, node_agrees.again to rest h2) refl

-- the content, by its length

abbrev Cut : Type 0
Cut = Result (Option (List ℕ)) Malformed

abbrev no_cut : Cut
no_cut = Ok None

abbrev cut : List ℕ → Cut
cut c = Ok (Some c)

abbrev sized : ℕ × List ℕ → Cut
sized n = cond (not (is_length n.0)) (Err malformed.Length) (cond (ltb (length n.1) n.0) no_cut (cut (take n.0 n.1)))

some_cut : (c d : List ℕ) → cut c ≡ cut d → c ≡ d
some_cut c d h = cc

-- a content that is at the front after its length
record IsCut (bytes c : List ℕ) : Type 0 where
  parts : take (4 + length c) bytes ≡ long_string c
  within : 4 + length c ≤ length bytes
  small : length c ≤ longest
  fits : IsBytes c

cut_after : (bytes : List ℕ) (n : ℕ) (rest : List ℕ) → Takes bytes (u32_bytes n) rest → is_length n ≡ true → n ≤ length rest → IsCut bytes (take n rest)
cut_after bytes n rest number range enough =
    let c = take n rest in
    let len : length c ≡ n = omega (arith, length-take n rest) in
    let limits = and_parts (leb 4 n) (leb n longest) range in
    let apart : bytes ≡ long_string c ++ drop n rest =
    number.parts ∙ ap (λ (t : List ℕ). u32_bytes n ++ t) (sym (take-append-drop n rest)) ∙ sym (append_assoc (u32_bytes n) c (drop n rest)) ∙ ap (λ (k : ℕ). (u32_bytes k ++ c) ++ drop n rest) (sym len) in
    let long : length (long_string c) ≡ 4 + length c = omega (arith, length_u32_bytes (length c), length-append (u32_bytes (length c)) c) in
    record {
      parts = ap (take (4 + length c)) apart ∙ take_at (long_string c) (drop n rest) (4 + length c) long;
      within = omega (arith, len, enough, ap length number.parts, length_u32_bytes n, length-append (u32_bytes n) rest);
      small = rw len (leb-true n longest limits.1);
      fits = IsBytes-take n rest number.rest_fits;
    }

content_takes : (bytes c : List ℕ) → IsBytes bytes → content_at bytes ≡ cut c → IsCut bytes c
unfolding content_at
content_takes bytes c fits h =
    elim (chosen (ltb (length bytes) 4) no_cut (number_at w32 bytes >>= sized) (cut c) h) [
      | inl short ↦ absurd (cc (short.1))
      | inr long ↦
          let l = bind_ok (number_at w32 bytes) sized (Some c) long.1 in
          let number = u32_agrees.takes bytes l.0.0 l.0.1 fits l.1 in
          elim (chosen (not (is_length l.0.0)) (Err malformed.Length) (cond (ltb (length l.0.1) l.0.0) no_cut (cut (take l.0.0 l.0.1))) (cut c) l.2) [
            | inl bad ↦ absurd (cc (bad.1))
            | inr good ↦ elim (chosen (ltb (length l.0.1) l.0.0) no_cut (cut (take l.0.0 l.0.1)) (cut c) good.1) [
              | inl part ↦ absurd (cc (part.1))
              | inr all ↦ subst (IsCut bytes) (some_cut (take l.0.0 l.0.1) c all.1) (cut_after bytes l.0.0 l.0.1 number.0 (not-false (is_length l.0.0) good.0) (ltb-false (length l.0.1) l.0.0 all.0))
            ]
          ]
    ]

-- a content whose length is good, of which at least the length is there
sized_at : (c rest : List ℕ) → is_length (length c) ≡ true → content_at (u32_bytes (length c) ++ rest) ≡ cond (ltb (length rest) (length c)) no_cut (cut (take (length c) rest))
unfolding content_at
sized_at c rest range =
    let limits = and_parts (leb 4 (length c)) (leb (length c) longest) range in
    let t = u32_bytes (length c) ++ rest in
    let n : ℕ × List ℕ = (length c, rest) in
    let long : ltb (length t) 4 ≡ false = le-ltb _ 4 (omega (arith, length_u32_bytes (length c), length-append (u32_bytes (length c)) rest)) in
    let number : number_at w32 t ≡ Ok n = u32_agrees.again (length c) rest (omega (arith, leb-true (length c) longest limits.1)) in
    let read : content_at t ≡ (number_at w32 t >>= sized) = cond-false (ltb (length t) 4) no_cut (number_at w32 t >>= sized) long in
    let after : (number_at w32 t >>= sized) ≡ sized n = ap (λ (r : Reading ℕ). r >>= sized) number in
    let good : not (is_length (length c)) ≡ false = ap not range in
    read ∙ after ∙ cond-false (not (is_length n.0)) (Err malformed.Length) (cond (ltb (length n.1) n.0) no_cut (cut (take n.0 n.1))) good

content_again : (c rest : List ℕ) → is_length (length c) ≡ true → content_at (long_string c ++ rest) ≡ cut c
content_again c rest range =
    let enough : ltb (length (c ++ rest)) (length c) ≡ false = le-ltb _ _ (omega (arith, length-append c rest)) in
    ap content_at (append_assoc (u32_bytes (length c)) c rest) ∙ sized_at c (c ++ rest) range
    ∙ cond-false (ltb (length (c ++ rest)) (length c)) no_cut (cut (take (length c) (c ++ rest))) enough ∙ ap cut (take_at c rest (length c) refl)

split_at4 : (xs ys : List ℕ) (n : ℕ) → length xs ≡ 4 → take (4 + n) (xs ++ ys) ≡ xs ++ take n ys
split_at4 xs ys n len = ap (λ (k : ℕ). take (k + n) (xs ++ ys)) (sym len) ∙ take-append-add xs ys n

few_bytes : (bytes : List ℕ) → length bytes < 4 → content_at bytes ≡ no_cut
unfolding content_at
few_bytes bytes few = cond-true (ltb (length bytes) 4) no_cut (number_at w32 bytes >>= sized) (lt-ltb (length bytes) 4 few)

content_in_part : (c : List ℕ) (k : ℕ) → is_length (length c) ≡ true → k < 4 + length c → content_at (take k (long_string c)) ≡ no_cut
content_in_part c k range short =
    let all : length (long_string c) ≡ 4 + length c = omega (arith, length_u32_bytes (length c), length-append (u32_bytes (length c)) c) in
    let size : length (take k (long_string c)) ≡ k = omega (arith, length-take k (long_string c)) in
    elim (cases_lt k 4) [
      | inl few ↦ few_bytes (take k (long_string c)) (omega arith)
      | inr some ↦
          let rest = take (k - 4) c in
          let four : k ≡ 4 + (k - 4) = omega arith in
          let split : take k (long_string c) ≡ u32_bytes (length c) ++ rest =
          ap (λ (j : ℕ). take j (long_string c)) four ∙ split_at4 (u32_bytes (length c)) c (k - 4) (length_u32_bytes (length c)) in
          let part : ltb (length rest) (length c) ≡ true = lt-ltb _ _ (omega (arith, length-take (k - 4) c)) in
          ap content_at split ∙ sized_at c rest range ∙ cond-true (ltb (length rest) (length c)) no_cut (cut (take (length c) rest)) part
    ]

-- envelopes

abbrev pub E : Type 0 → Type 0
E A = Envelope (Command A) A

abbrev M : Type 0 → Type 0
M A = Message (Command A) A

module _ {A : Type 0} where
  abbrev make : ℕ → ℕ → M A → E A
  make from to message = record { from = from; to = to; message = message }

  -- the end of the fields
  abbrev closed : Header → M A × List ℕ → Result (E A) Malformed
  closed h m = cond (eqb (length m.1) 0) (Ok (make h.from h.to m.0)) (Err malformed.Length)

  abbrev after_header : Header × List ℕ → Result (E A) Malformed
  after_header h = message_at h.0.version h.0.kind h.1 >>= closed h.0

  -- a content that is an envelope's
  record IsContent (bytes : List ℕ) (e : E A) : Type 0 where
    version : Version
    written : bytes ≡ content version e
    fits : FitsEnvelope version e

  ended : (h : Header) (m : M A) (rest : List ℕ) (e : E A) → closed h (m, rest) ≡ Ok e → (rest ≡ []) × (make h.from h.to m ≡ e)
  ended h m rest e same =
      let p = passed (eqb (length rest) 0) malformed.Length (make h.from h.to m) e same in
      (nil_from_length rest (eqb-true (length rest) 0 p.0), p.1)

  envelope_takes : (bytes : List ℕ) (e : E A) → IsBytes bytes → envelope_in bytes ≡ Ok e → IsContent bytes e
  unfolding envelope_in
  envelope_takes bytes e fits read =
      let h = bind_ok (header_at bytes) after_header e read in
      let header = h.0.0 in
      let m = bind_ok (message_at header.version header.kind h.0.1) (closed header) e h.2 in
      let message = m.0.0 in
      let end = ended header message m.0.1 e m.2 in
      let front = header_takes bytes header h.0.1 fits h.1 in
      let fields = message_takes header.version header.kind h.0.1 message m.0.1 front.0.rest_fits m.1 in
      let body : h.0.1 ≡ message_bytes header.version message = fields.0.parts ∙ ap (λ (t : List ℕ). message_bytes header.version message ++ t) end.0 ∙ append-nil (message_bytes header.version message) in
      let all : bytes ≡ content header.version (make header.from header.to message) =
      front.0.parts ∙ ap (λ (t : List ℕ). header_bytes header ++ t) body
      ∙ ap (λ (k : Kind). version_number header.version ∷ kind_number k ∷ header.from ∷ header.to ∷ message_bytes header.version message) (sym fields.1) in
      subst (IsContent bytes) end.1 (record { version = header.version; written = all; fits = record { from = front.1; to = front.2; message = fields.2 } })

  envelope_again : (v : Version) (e : E A) → FitsEnvelope v e → envelope_in (content v e) ≡ Ok e
  unfolding envelope_in
  envelope_again v e h =
      let header : header_at (content v e) ≡ gave (make_header v (kind_of_message e.message) e.from e.to) (message_bytes v e.message) =
      header_again v (kind_of_message e.message) e.from e.to (message_bytes v e.message) h.from h.to in
      let message : message_at v (kind_of_message e.message) (message_bytes v e.message) ≡ Ok (e.message, []) =
      ap (message_at v (kind_of_message e.message)) (sym (append-nil (message_bytes v e.message))) ∙ message_again v e.message [] h.message in
      rw (header, message) refl

  -- frames

  abbrev pub found : E A → ℕ → Result (Option (E A × ℕ)) Malformed
  found e n = Ok (Some (e, n))

  abbrev none : Result (Option (E A × ℕ)) Malformed
  none = Ok None

  some_found : (e d : E A) (n k : ℕ) → found e n ≡ found d k → (e ≡ d) × (n ≡ k)
  some_found e d n k h = some_pair_parts e d n k (ok_is (Some (e, n)) (Some (d, k)) h)

  framed_takes : (bytes : List ℕ) (c : Option (List ℕ)) (e : E A) (n : ℕ) → IsBytes bytes → content_at bytes ≡ Ok c → framed_in c ≡ found e n → BeginsWithFrame bytes e n
  unfolding framed_in
  framed_takes bytes None e n fits is h = absurd cc
  framed_takes bytes (Some c) e n fits is h =
      let front = content_takes bytes c fits is in
      let d = bind_ok (envelope_in c) (λ e. found e (4 + length c)) (Some (e, n)) h in
      let same = some_found d.0 e (4 + length c) n d.2 in
      let whole = envelope_takes c d.0 front.fits d.1 in
      let written : take (4 + length c) bytes ≡ frame whole.version d.0 = front.parts ∙ ap long_string whole.written in
      subst (λ (e : E A). BeginsWithFrame bytes e n) same.0 (subst (λ (k : ℕ). BeginsWithFrame bytes d.0 k) same.1
      (record { version = whole.version; written = written; within = front.within; small = subst (λ (t : List ℕ). length t ≤ longest) whole.written front.small; fits = whole.fits }))

  pub frame_takes : (bytes : List ℕ) (e : E A) (n : ℕ) → IsBytes bytes → frame_at bytes ≡ found e n → BeginsWithFrame bytes e n
  unfolding frame_at
  frame_takes bytes e n fits h =
      let c = bind_ok (content_at bytes) framed_in (Some (e, n)) h in
      framed_takes bytes c.0 e n fits c.1 c.2

  fits_length : (v : Version) (e : E A) → length (content v e) ≤ longest → is_length (length (content v e)) ≡ true
  fits_length v e h = and_from _ _ (le-leb 4 (length (content v e)) (omega arith)) (le-leb (length (content v e)) longest h)

  pub frame_again : (v : Version) (e : E A) (rest : List ℕ) → FitsEnvelope v e → length (content v e) ≤ longest → frame_at (frame v e ++ rest) ≡ found e (length (frame v e))
  unfolding frame_at framed_in
  frame_again v e rest h small =
      let cut-out = content_again (content v e) rest (fits_length v e small) in
      let len : 4 + length (content v e) ≡ length (frame v e) = omega (arith, length_u32_bytes (length (content v e)), length-append (u32_bytes (length (content v e))) (content v e)) in
      let n = 4 + length (content v e) in
      ap (λ (c : Cut). c >>= framed_in) cut-out ∙ ap (λ (r : Result (E A) Malformed). r >>= λ d. found d n) (envelope_again v e h) ∙ ap (found e) len

  -- a frame that is cut short
  pub prefix_is_none : (v : Version) (e : E A) (k : ℕ) → FitsEnvelope v e → length (content v e) ≤ longest → k < length (frame v e) → frame_at (take k (frame v e)) ≡ none
  unfolding frame_at framed_in
  prefix_is_none v e k h small short =
      let len : length (frame v e) ≡ 4 + length (content v e) = omega (arith, length_u32_bytes (length (content v e)), length-append (u32_bytes (length (content v e))) (content v e)) in
      ap (λ (c : Cut). c >>= framed_in) (content_in_part (content v e) k (fits_length v e small) (omega arith))

  pub begins_with_frame : (bytes : List ℕ) (r : Result (Option (E A × ℕ)) FrameFault) → IsBytes bytes → Gives r (frame_at bytes) → IfOk r (λ found. IfSome found (λ x. BeginsWithFrame bytes x.0 x.1))
  begins_with_frame bytes (Ok (Some x)) fits given = frame_takes bytes x.0 x.1 fits given
  begins_with_frame bytes (Ok None) fits given = tt
  begins_with_frame bytes (Err f) fits given = tt
