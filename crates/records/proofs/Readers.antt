-- What a reader keeps, and what each call makes of it.
use Rattle.std.proofs.Common.{◌≡◌, ℕ, ◌+◌, ◌-◌, ◌<◌, ◌≤◌, Bool, true, cond, List, [], ◌∷◌, ◌++◌, length, drop, get_or, Some, inl, inr, refl, sym, ap, subst, ◌∙◌, append_assoc, append-nil, arith}
use Rattle.std.specs.Prelude.{is_some}
use Rattle.std.proofs.lemmas.Bool.{cases_Bool, cases_lt, lt-ltb, le-ltb}
use Rattle.std.proofs.lemmas.List.{length-append, length-drop, drop_at, drop-drop, drop-append-le, get_or-append-add, get_or_append_left}
use Rattle.records.specs.declared.head.TheConstants.{HEAD}
use Rattle.records.specs.declared.place.TheConstants.{FRAME}
use Rattle.records.specs.declared.phase.Phase.{Phase}
use Rattle.records.specs.declared.phase.Phase.TheVariants.{Head, Records, Search, Damaged, Other}
use Rattle.records.specs.Spelling.{head_of, spell, spelled, size_of, file_of}
use Rattle.records.specs.Heads.{may_begin, salt_of}
use Rattle.records.specs.Reading.{record_at}
use Rattle.records.specs.Search.{StandsAt}
use Rattle.records.specs.Files.{AreBytes, IsBad, Resumes}
use Rattle.records.specs.Readers.{Kept, IsBegun, IsAmong, IsStopped, IsSearching, IsDamaged, IsIn, HasRead, begun, taken_in}
use Rattle.records.proofs.Heads.{agree-false, head_stands, salt_fits}
use Rattle.records.proofs.Places.{record_takes, length-spell}
use Rattle.records.proofs.More.{bad_more, resumes_more}
use Rattle.records.proofs.Files.{spelled_more, payloads_more}

-- ---- bytes

AreBytes-append : (bytes more : List ℕ) → AreBytes bytes → AreBytes more → AreBytes (bytes ++ more)
AreBytes-append bytes more are others i =
    elim (cases_lt i (length bytes)) [
      | inl lt ↦ rw (get_or_append_left bytes more 0 i lt) (are i)
      | inr le ↦
          let at : i ≡ length bytes + (i - length bytes) = omega (arith, le) in
          subst (λ (j : ℕ). get_or (bytes ++ more) j 0 < 256) (sym at) (rw (get_or-append-add bytes more (i - length bytes) 0) (others (i - length bytes)))
    ]

AreBytes-right : (front bytes : List ℕ) → AreBytes (front ++ bytes) → AreBytes bytes
AreBytes-right front bytes fits i = rw (← get_or-append-add front bytes i 0) (fits (length front + i))

pub AreBytes-of : (bytes front rest : List ℕ) → AreBytes bytes → bytes ≡ front ++ rest → AreBytes rest
AreBytes-of bytes front rest fits parts = AreBytes-right front rest (subst AreBytes parts fits)

-- ---- a reader at the start

pub read_nothing : HasRead [] [] (record { phase = Head; place = 0; bytes = [] })
read_nothing = record {
  are_bytes = λ i. omega arith;
  in_phase = record { parts = refl; none_given = refl; place_is = refl; short = omega arith };
}

-- ---- a piece comes

among_more : (salt : ℕ) (bytes : List ℕ) (given : List (List ℕ)) (place : ℕ) (kept piece : List ℕ) → IsAmong salt bytes given place kept → IsAmong salt (bytes ++ piece) given place (kept ++ piece)
among_more salt bytes given place kept piece a = record {
  salt_fits = a.salt_fits;
  parts = ap (λ (x : List ℕ). x ++ piece) a.parts ∙ append_assoc (file_of salt given) kept piece;
  given_fit = a.given_fit;
  place_is = a.place_is;
}

stopped_more : (salt bad : ℕ) (bytes : List ℕ) (given : List (List ℕ)) (tail piece : List ℕ) → IsStopped salt bad bytes given tail → IsStopped salt bad (bytes ++ piece) given (tail ++ piece)
stopped_more salt bad bytes given tail piece s = record {
  among = among_more salt bytes given bad tail piece s.among;
  is_bad = bad_more salt bad tail piece s.is_bad;
}

searching_more : (salt bad : ℕ) (bytes : List ℕ) (given : List (List ℕ)) (place : ℕ) (kept piece : List ℕ) → IsSearching salt bad bytes given place kept → IsSearching salt bad (bytes ++ piece) given place (kept ++ piece)
searching_more salt bad bytes given place kept piece s = record {
  tail = s.tail ++ piece;
  passed = s.passed;
  stopped = stopped_more salt bad bytes given s.tail piece s.stopped;
  within = omega (arith, length-append s.tail piece, s.within);
  place_is = s.place_is;
  kept_is = ap (λ (x : List ℕ). x ++ piece) s.kept_is ∙ sym (drop-append-le s.passed s.tail piece s.within);
  are_bad = λ j lt.
      let le : j ≤ length s.tail = omega (arith, lt, s.within) in
      subst (λ (x : List ℕ). IsBad salt (bad + j) x) (sym (drop-append-le j s.tail piece le)) (bad_more salt (bad + j) (drop j s.tail) piece (s.are_bad j lt));
}

damaged_more : (bad : ℕ) (bytes : List ℕ) (given : List (List ℕ)) (kept piece : List ℕ) → IsDamaged bad bytes given kept → IsDamaged bad (bytes ++ piece) given kept
damaged_more bad bytes given kept piece d = record {
  salt = d.salt;
  tail = d.tail ++ piece;
  stopped = stopped_more d.salt bad bytes given d.tail piece d.stopped;
  resumes = resumes_more d.salt bad d.tail piece d.resumes;
  none_kept = d.none_kept;
}

-- the first bytes are those of a head, or of nothing that is read
begun_read : (all : List ℕ) → AreBytes all → HEAD ≤ length all → HasRead all [] (begun all)
begun_read all are le =
    elim (cases_Bool (may_begin all)) [
      | inl is ↦
          subst (λ (b : Bool). HasRead all [] (record { phase = cond b (Records (salt_of all)) Other; place = HEAD; bytes = cond b (drop HEAD all) [] })) (sym is) (record {
            are_bytes = are;
            in_phase = record {
              salt_fits = salt_fits all are;
              parts = head_stands all are is le ∙ ap (λ (x : List ℕ). x ++ drop HEAD all) (sym (append-nil (head_of (salt_of all))));
              given_fit = tt;
              place_is = refl;
            };
          })
      | inr is ↦
          subst (λ (b : Bool). HasRead all [] (record { phase = cond b (Records (salt_of all)) Other; place = HEAD; bytes = cond b (drop HEAD all) [] })) (sym is) (record {
            are_bytes = are;
            in_phase = record { none_given = refl; none = is; none_kept = refl };
          })
    ]

begun_more : (bytes : List ℕ) (given : List (List ℕ)) (place : ℕ) (kept piece : List ℕ) → AreBytes (bytes ++ piece) → IsBegun bytes given place kept → HasRead (bytes ++ piece) given (taken_in Head place kept piece)
begun_more bytes given place kept piece are b =
    let all : bytes ++ piece ≡ kept ++ piece = ap (λ (x : List ℕ). x ++ piece) b.parts in
    elim (cases_lt (length (kept ++ piece)) HEAD) [
      | inl lt ↦
          rw (lt-ltb (length (kept ++ piece)) HEAD lt) (record {
            are_bytes = are;
            in_phase = record { parts = all; none_given = b.none_given; place_is = b.place_is; short = lt };
          })
      | inr le ↦
          let read = begun_read (kept ++ piece) (subst AreBytes all are) le in
          rw (le-ltb (length (kept ++ piece)) HEAD le, all, b.none_given) read
    ]

in_more : (phase : Phase) (bytes : List ℕ) (given : List (List ℕ)) (place : ℕ) (kept piece : List ℕ) → AreBytes (bytes ++ piece) → IsIn phase bytes given place kept → HasRead (bytes ++ piece) given (taken_in phase place kept piece)
in_more Head bytes given place kept piece are h = begun_more bytes given place kept piece are h
in_more (Records salt) bytes given place kept piece are h = record { are_bytes = are; in_phase = among_more salt bytes given place kept piece h }
in_more (Search salt bad) bytes given place kept piece are h = record { are_bytes = are; in_phase = searching_more salt bad bytes given place kept piece h }
in_more (Damaged bad) bytes given place kept piece are h = record { are_bytes = are; in_phase = damaged_more bad bytes given kept piece h }
in_more Other bytes given place kept piece are h = record { are_bytes = are; in_phase = record { none_given = h.none_given; none = agree-false bytes piece _ h.none; none_kept = h.none_kept } }

pub piece_read : (bytes : List ℕ) (given : List (List ℕ)) (k : Kept) (piece : List ℕ) → AreBytes piece → HasRead bytes given k → HasRead (bytes ++ piece) given (taken_in k.phase k.place k.bytes piece)
piece_read bytes given k piece are h = in_more k.phase bytes given k.place k.bytes piece (AreBytes-append bytes piece h.are_bytes are) h.in_phase

-- ---- a record is handed out

pub size_more : (given : List (List ℕ)) (payload : List ℕ) → size_of (given ++ payload ∷ []) ≡ size_of given + (FRAME + length payload)
size_more [] payload = omega arith
size_more (p ∷ given) payload = omega (arith, size_more given payload)

pub record_read : (bytes : List ℕ) (given : List (List ℕ)) (salt place : ℕ) (kept payload rest : List ℕ) → HasRead bytes given (record { phase = Records salt; place = place; bytes = kept }) → record_at salt place kept ≡ Some (payload, rest)
    → HasRead bytes (given ++ payload ∷ []) (record { phase = Records salt; place = place + (FRAME + length payload); bytes = drop (FRAME + length payload) kept })
record_read bytes given salt place kept payload rest h some =
    let a : IsAmong salt bytes given place kept = h.in_phase in
    let taken = record_takes salt place kept (payload, rest) (AreBytes-of bytes (file_of salt given) kept h.are_bytes a.parts) some in
    let left : drop (FRAME + length payload) kept ≡ rest = ap (drop (FRAME + length payload)) taken.0.parts ∙ drop_at (spell salt place payload) rest (FRAME + length payload) (length-spell salt place payload) in
    let longer : file_of salt (given ++ payload ∷ []) ≡ file_of salt given ++ spell salt place payload =
    ap (λ (x : List ℕ). head_of salt ++ x) (spelled_more salt HEAD given payload place a.place_is) ∙ sym (append_assoc (head_of salt) (spelled salt HEAD given) (spell salt place payload)) in
    record {
      are_bytes = h.are_bytes;
      in_phase = record {
        salt_fits = a.salt_fits;
        parts = a.parts ∙ ap (λ (x : List ℕ). file_of salt given ++ x) (taken.0.parts ∙ ap (λ (x : List ℕ). spell salt place payload ++ x) (sym left))
            ∙ sym (append_assoc (file_of salt given) (spell salt place payload) (drop (FRAME + length payload) kept)) ∙ ap (λ (x : List ℕ). x ++ drop (FRAME + length payload) kept) (sym longer);
        given_fit = payloads_more given payload a.given_fit taken.1;
        place_is = omega (arith, a.place_is, size_more given payload);
      };
    }

-- ---- a bad record, and the search after it

pub bad_read : (bytes : List ℕ) (given : List (List ℕ)) (salt place : ℕ) (kept : List ℕ) → HasRead bytes given (record { phase = Records salt; place = place; bytes = kept }) → IsBad salt place kept
    → HasRead bytes given (record { phase = Search salt place; place = place; bytes = kept })
bad_read bytes given salt place kept h bad = record {
  are_bytes = h.are_bytes;
  in_phase = record {
    tail = kept;
    passed = 0;
    stopped = record { among = h.in_phase; is_bad = bad };
    within = omega arith;
    place_is = omega arith;
    kept_is = refl;
    are_bad = λ j lt. absurd (omega (arith, lt));
  };
}

passed_bad : (salt bad passed place : ℕ) (tail kept : List ℕ) (count : ℕ) → place ≡ bad + passed → kept ≡ drop passed tail → ((j : ℕ) → j < passed → IsBad salt (bad + j) (drop j tail))
    → ((j : ℕ) → j < count → IsBad salt (place + j) (drop j kept)) → (j : ℕ) → j < passed + count → IsBad salt (bad + j) (drop j tail)
passed_bad salt bad passed place tail kept count place_is kept_is before now j lt =
    elim (cases_lt j passed) [
      | inl less ↦ before j less
      | inr le ↦
          let i = j - passed in
          let here : place + i ≡ bad + j = omega (arith, place_is, le) in
          let there : drop i kept ≡ drop j tail = ap (drop i) kept_is ∙ drop-drop i passed tail ∙ ap (λ (n : ℕ). drop n tail) (omega (arith, le)) in
          subst (λ (x : List ℕ). IsBad salt (bad + j) x) there (subst (λ (n : ℕ). IsBad salt n (drop i kept)) here (now i (omega (arith, lt, le))))
    ]

pub passed_read : (bytes : List ℕ) (given : List (List ℕ)) (salt bad place : ℕ) (kept : List ℕ) (count : ℕ) → HasRead bytes given (record { phase = Search salt bad; place = place; bytes = kept }) → count ≤ length kept
    → ((j : ℕ) → j < count → IsBad salt (place + j) (drop j kept)) → HasRead bytes given (record { phase = Search salt bad; place = place + count; bytes = drop count kept })
passed_read bytes given salt bad place kept count h le are_bad =
    let s : IsSearching salt bad bytes given place kept = h.in_phase in
    record {
      are_bytes = h.are_bytes;
      in_phase = record {
        tail = s.tail;
        passed = s.passed + count;
        stopped = s.stopped;
        within = omega (arith, le, ap length s.kept_is, length-drop s.passed s.tail, s.within);
        place_is = omega (arith, s.place_is);
        kept_is = ap (drop count) s.kept_is ∙ drop-drop count s.passed s.tail;
        are_bad = passed_bad salt bad s.passed place s.tail kept count s.place_is s.kept_is s.are_bad are_bad;
      };
    }

pub resumes_before : (salt bad : ℕ) (bytes : List ℕ) (given : List (List ℕ)) (place : ℕ) (kept : List ℕ) (s : IsSearching salt bad bytes given place kept) → Resumes salt place kept → Resumes salt bad s.tail
resumes_before salt bad bytes given place kept s r =
    let here : place + r.0 ≡ bad + (s.passed + r.0) = omega (arith, s.place_is) in
    let there : drop r.0 kept ≡ drop (s.passed + r.0) s.tail = ap (drop r.0) s.kept_is ∙ drop-drop r.0 s.passed s.tail in (
      s.passed + r.0,
      omega (arith, r.1, ap length s.kept_is, length-drop s.passed s.tail, s.within),
      subst (λ (x : List ℕ). is_some (record_at salt (bad + (s.passed + r.0)) x) ≡ true) there (subst (λ (n : ℕ). is_some (record_at salt n (drop r.0 kept)) ≡ true) here r.2),
    )

pub found_read : (bytes : List ℕ) (given : List (List ℕ)) (salt bad place : ℕ) (kept : List ℕ) (count at : ℕ) (left : List ℕ) → HasRead bytes given (record { phase = Search salt bad; place = place; bytes = kept }) → StandsAt salt place count kept → left ≡ []
    → HasRead bytes given (record { phase = Damaged bad; place = at; bytes = left })
found_read bytes given salt bad place kept count at left h found none =
    let s : IsSearching salt bad bytes given place kept = h.in_phase in
    record {
      are_bytes = h.are_bytes;
      in_phase = record {
        salt = salt;
        tail = s.tail;
        stopped = s.stopped;
        resumes = resumes_before salt bad bytes given place kept s (count, found.within, found.stands);
        none_kept = none;
      };
    }

-- ---- the steps of a reader, whose fields are told from what contracts see of it

phase_read : (bytes : List ℕ) (given : List (List ℕ)) (p q : Phase) (place : ℕ) (kept : List ℕ) → p ≡ q → HasRead bytes given (record { phase = p; place = place; bytes = kept }) → HasRead bytes given (record { phase = q; place = place; bytes = kept })
phase_read bytes given p q place kept e h = subst (λ (x : Phase). HasRead bytes given (record { phase = x; place = place; bytes = kept })) e h

seen_read : (bytes : List ℕ) (given : List (List ℕ)) (p q : Phase) (place : ℕ) (kept : List ℕ) (k : Kept) → record { phase = p; place = place; bytes = kept } ≡ k → k.phase ≡ q → HasRead bytes given k → HasRead bytes given (record { phase = q; place = place; bytes = kept })
seen_read bytes given p q place kept k e is h =
    let is_in : p ≡ q = ap (λ (x : Kept). x.phase) e ∙ is in
    phase_read bytes given p q place kept is_in (subst (λ (x : Kept). HasRead bytes given x) (sym e) h)

pub step_passed : (bytes : List ℕ) (given : List (List ℕ)) (p : Phase) (salt bad place : ℕ) (kept left : List ℕ) (k : Kept) (count : ℕ) → record { phase = p; place = place; bytes = kept } ≡ k → k.phase ≡ Search salt bad → left ≡ drop count kept → count ≤ length kept
    → ((j : ℕ) → j < count → IsBad salt (place + j) (drop j kept)) → HasRead bytes given k → HasRead bytes given (record { phase = p; place = place + count; bytes = left })
step_passed bytes given p salt bad place kept left k count e is left_is le are_bad h =
    let is_in : p ≡ Search salt bad = ap (λ (x : Kept). x.phase) e ∙ is in
    let read = passed_read bytes given salt bad place kept count (seen_read bytes given p (Search salt bad) place kept k e is h) le are_bad in
    rw left_is (phase_read bytes given (Search salt bad) p (place + count) (drop count kept) (sym is_in) read)

pub step_found : (bytes : List ℕ) (given : List (List ℕ)) (p : Phase) (salt bad place : ℕ) (kept left : List ℕ) (k : Kept) (count at : ℕ) → record { phase = p; place = place; bytes = kept } ≡ k → k.phase ≡ Search salt bad → StandsAt salt place count kept → left ≡ []
    → HasRead bytes given k → HasRead bytes given (record { phase = Damaged bad; place = at; bytes = left })
step_found bytes given p salt bad place kept left k count at e is found none h =
    found_read bytes given salt bad place kept count at left (seen_read bytes given p (Search salt bad) place kept k e is h) found none

pub step_record : (bytes : List ℕ) (given : List (List ℕ)) (p : Phase) (salt place : ℕ) (kept payload rest out : List ℕ) (k new : Kept) (n : ℕ) → record { phase = p; place = place; bytes = kept } ≡ k → k.phase ≡ Records salt
    → Some (payload, rest) ≡ record_at salt place kept → out ≡ payload → n ≡ length payload → new ≡ record k { place = k.place + (FRAME + n); bytes = drop (FRAME + n) k.bytes } → HasRead bytes given k → HasRead bytes (given ++ out ∷ []) new
step_record bytes given p salt place kept payload rest out k new n e is some out_is n_is new_is h =
    let is_in : p ≡ Records salt = ap (λ (x : Kept). x.phase) e ∙ is in
    let read = record_read bytes given salt place kept payload rest (seen_read bytes given p (Records salt) place kept k e is h) (sym some) in
    let same : record { phase = Records salt; place = place + (FRAME + length payload); bytes = drop (FRAME + length payload) kept } ≡ new =
    ap (λ (j : ℕ). record { phase = Records salt; place = place + (FRAME + j); bytes = drop (FRAME + j) kept }) (sym n_is)
    ∙ ap (λ (x : Phase). record { phase = x; place = place + (FRAME + n); bytes = drop (FRAME + n) kept }) (sym is_in)
    ∙ ap (λ (x : Kept). record x { place = x.place + (FRAME + n); bytes = drop (FRAME + n) x.bytes }) e ∙ sym new_is in
    subst (λ (x : Kept). HasRead bytes (given ++ out ∷ []) x) same (subst (λ (x : List ℕ). HasRead bytes (given ++ x ∷ []) (record { phase = Records salt; place = place + (FRAME + length payload); bytes = drop (FRAME + length payload) kept })) (sym out_is) read)
