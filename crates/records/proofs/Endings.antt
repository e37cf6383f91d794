-- How a file ends whose bytes have all come.
use Rattle.std.proofs.Common.{◌≡◌, ℕ, ◌+◌, ◌-◌, ◌<◌, ◌≤◌, true, false, List, [], ◌∷◌, ◌++◌, length, drop, Option, Some, None, inl, inr, refl, sym, ap, subst, ◌∙◌, append_assoc, append-nil, arith}
use Rattle.std.specs.Prelude.{is_some}
use Rattle.std.proofs.lemmas.Bool.{cases_lt}
use Rattle.std.proofs.lemmas.List.{length-append, length-drop, drop_at, drop-drop}
use Rattle.records.specs.declared.ending.Ending.{Ending}
use Rattle.records.specs.declared.ending.Ending.TheVariants as ending
use Rattle.records.specs.declared.head.TheConstants.{HEAD}
use Rattle.records.specs.declared.place.TheConstants.{FRAME}
use Rattle.records.specs.declared.phase.Phase.{Phase}
use Rattle.records.specs.declared.phase.Phase.TheVariants.{Head, Records, Search, Damaged, Other}
use Rattle.records.specs.Spelling.{head_of, spell, spelled, size_of, file_of, ArePayloads}
use Rattle.records.specs.Heads.{may_begin}
use Rattle.records.specs.Reading.{record_at}
use Rattle.records.specs.Files.{AreBytes, IsBad, Resumes, EndsSo, IsReadAs}
use Rattle.records.specs.Readers.{IsBegun, Kept, IsAmong, IsStopped, IsSearching, IsDamaged, IsOther, HasRead, IsEndOf, IsRun}
use Rattle.records.proofs.Places.{record_takes, length-spell}
use Rattle.records.proofs.Files.{spelled_more, payloads_more, stands, not_none, spelled-append, size-append, both_fit}
use Rattle.records.proofs.Readers.{AreBytes-of, size_more, resumes_before}

-- ---- whole records at the front

pub no_run : (salt at : ℕ) (bytes : List ℕ) → IsRun salt at bytes 0
no_run salt at bytes = record { payloads = []; parts = refl; payloads_fit = tt; size_is = refl }

-- one record more
pub run_more : (salt at : ℕ) (bytes : List ℕ) (n place : ℕ) (payload rest : List ℕ) → AreBytes bytes → IsRun salt at bytes n → place ≡ at + n → record_at salt place (drop n bytes) ≡ Some (payload, rest) → IsRun salt at bytes (n + (FRAME + length payload))
run_more salt at bytes n place payload rest are run here some =
    let taken = record_takes salt place (drop n bytes) (payload, rest) (AreBytes-of bytes (spelled salt at run.payloads) (drop n bytes) are run.parts) some in
    let left : drop (n + (FRAME + length payload)) bytes ≡ rest =
    sym (drop-drop (FRAME + length payload) n bytes) ∙ ap (drop (FRAME + length payload)) taken.0.parts ∙ drop_at (spell salt place payload) rest (FRAME + length payload) (length-spell salt place payload) in
    record {
      payloads = run.payloads ++ payload ∷ [];
      parts = run.parts ∙ ap (λ (x : List ℕ). spelled salt at run.payloads ++ x) (taken.0.parts ∙ ap (λ (x : List ℕ). spell salt place payload ++ x) (sym left))
          ∙ sym (append_assoc (spelled salt at run.payloads) (spell salt place payload) (drop (n + (FRAME + length payload)) bytes))
          ∙ ap (λ (x : List ℕ). x ++ drop (n + (FRAME + length payload)) bytes) (sym (spelled_more salt at run.payloads payload place (omega (arith, here, run.size_is))));
      payloads_fit = payloads_more run.payloads payload run.payloads_fit taken.1;
      size_is = omega (arith, run.size_is, size_more run.payloads payload);
    }

pub run_fits : (salt at : ℕ) (bytes : List ℕ) (n place : ℕ) (payload rest : List ℕ) → AreBytes bytes → IsRun salt at bytes n → n ≤ length bytes → record_at salt place (drop n bytes) ≡ Some (payload, rest) → n + (FRAME + length payload) ≤ length bytes
run_fits salt at bytes n place payload rest are run le some =
    let taken = record_takes salt place (drop n bytes) (payload, rest) (AreBytes-of bytes (spelled salt at run.payloads) (drop n bytes) are run.parts) some in
    omega (arith, le, ap length taken.0.parts, length-drop n bytes, length-append (spell salt place payload) rest, length-spell salt place payload)

-- if no record stands here there are none
none_in : (salt at : ℕ) (bytes : List ℕ) (payloads : List (List ℕ)) (rest : List ℕ) → ArePayloads payloads → bytes ≡ spelled salt at payloads ++ rest → record_at salt at bytes ≡ None → payloads ≡ []
none_in salt at bytes [] rest fit parts none = refl
none_in salt at bytes (p ∷ ps) rest fit parts none =
    let more = spelled salt (at + (FRAME + length p)) ps in
    absurd (not_none (record_at salt at bytes) (p, more ++ rest) (ap (record_at salt at) parts ∙ stands salt at p more rest fit.0) none)

-- ---- the ends

-- nothing more was read
ended : (bytes : List ℕ) (given : List (List ℕ)) (e : Ending) → IsReadAs bytes given e → IsReadAs bytes (given ++ []) e
ended bytes given e is = subst (λ (g : List (List ℕ)). IsReadAs bytes g e) (sym (append-nil given)) is

is_none : (r : Option (List ℕ × List ℕ)) → r ≡ None → is_some r ≡ true → ⊥
is_none None none some = absurd cc
is_none (Some x) none some = absurd cc

-- the reader has stopped at a bad record
stopped_end : (bytes : List ℕ) (given : List (List ℕ)) (k : Kept) (salt bad : ℕ) (tail : List ℕ) (e : Ending) → AreBytes bytes → IsStopped salt bad bytes given tail → ((at : ℕ) → bad ≡ at → EndsSo e salt at tail) → IsEndOf bytes given k e
stopped_end bytes given k salt bad tail e are s ends = record {
  more = [];
  is_read = ended bytes given e (record {
    are_bytes = are;
    parts = inl (record {
      salt = salt;
      rest = tail;
      salt_fits = s.among.salt_fits;
      parts = s.among.parts;
      payloads_fit = s.among.given_fit;
      no_more = subst (λ (n : ℕ). record_at salt n tail ≡ None) s.among.place_is s.is_bad.none;
      ends = ends (HEAD + size_of given) s.among.place_is;
    });
  });
  none_left = λ _. refl;
}

pub end_in_head : (bytes : List ℕ) (given : List (List ℕ)) (place : ℕ) (kept : List ℕ) → HasRead bytes given (record { phase = Head; place = place; bytes = kept }) → may_begin kept ≡ true → IsEndOf bytes given (record { phase = Head; place = place; bytes = kept }) (ending.Cut 0)
end_in_head bytes given place kept h is =
    let b : IsBegun bytes given place kept = h.in_phase in
    record {
      more = [];
      is_read = ended bytes given (ending.Cut 0) (record {
        are_bytes = h.are_bytes;
        parts = inr (record {
          no_payloads = b.none_given;
          ends = (refl, subst (λ (x : List ℕ). length x < HEAD) (sym b.parts) b.short, ap may_begin b.parts ∙ is);
        });
      });
      none_left = λ _. refl;
    }

pub end_not_a_head : (bytes : List ℕ) (given : List (List ℕ)) (place : ℕ) (kept : List ℕ) → HasRead bytes given (record { phase = Head; place = place; bytes = kept }) → may_begin kept ≡ false → IsEndOf bytes given (record { phase = Head; place = place; bytes = kept }) ending.NotASegment
end_not_a_head bytes given place kept h is =
    let b : IsBegun bytes given place kept = h.in_phase in
    record {
      more = [];
      is_read = ended bytes given ending.NotASegment (record {
        are_bytes = h.are_bytes;
        parts = inr (record { no_payloads = b.none_given; ends = ap may_begin b.parts ∙ is });
      });
      none_left = λ _. refl;
    }

pub end_other : (bytes : List ℕ) (given : List (List ℕ)) (place : ℕ) (kept : List ℕ) → HasRead bytes given (record { phase = Other; place = place; bytes = kept }) → IsEndOf bytes given (record { phase = Other; place = place; bytes = kept }) ending.NotASegment
end_other bytes given place kept h =
    let o : IsOther bytes given kept = h.in_phase in
    record {
      more = [];
      is_read = ended bytes given ending.NotASegment (record {
        are_bytes = h.are_bytes;
        parts = inr (record { no_payloads = o.none_given; ends = o.none });
      });
      none_left = λ _. refl;
    }

pub end_damaged : (bytes : List ℕ) (given : List (List ℕ)) (bad place : ℕ) (kept : List ℕ) → HasRead bytes given (record { phase = Damaged bad; place = place; bytes = kept }) → IsEndOf bytes given (record { phase = Damaged bad; place = place; bytes = kept }) (ending.Damaged bad)
end_damaged bytes given bad place kept h =
    let d : IsDamaged bad bytes given kept = h.in_phase in
    stopped_end bytes given (record { phase = Damaged bad; place = place; bytes = kept }) d.salt bad d.tail (ending.Damaged bad) h.are_bytes d.stopped (λ at here. (here, subst (λ (n : ℕ). IsBad d.salt n d.tail) here d.stopped.is_bad, subst (λ (n : ℕ). Resumes d.salt n d.tail) here d.resumes))

pub end_found : (bytes : List ℕ) (given : List (List ℕ)) (salt bad place : ℕ) (kept : List ℕ) → HasRead bytes given (record { phase = Search salt bad; place = place; bytes = kept }) → Resumes salt place kept → IsEndOf bytes given (record { phase = Search salt bad; place = place; bytes = kept }) (ending.Damaged bad)
end_found bytes given salt bad place kept h r =
    let s : IsSearching salt bad bytes given place kept = h.in_phase in
    let resumes = resumes_before salt bad bytes given place kept s r in
    stopped_end bytes given (record { phase = Search salt bad; place = place; bytes = kept }) salt bad s.tail (ending.Damaged bad) h.are_bytes s.stopped (λ at here. (here, subst (λ (n : ℕ). IsBad salt n s.tail) here s.stopped.is_bad, subst (λ (n : ℕ). Resumes salt n s.tail) here resumes))

none_before : (salt bad : ℕ) (bytes : List ℕ) (given : List (List ℕ)) (place : ℕ) (kept : List ℕ) (s : IsSearching salt bad bytes given place kept) → (Resumes salt place kept → ⊥) → Resumes salt bad s.tail → ⊥
none_before salt bad bytes given place kept s none r =
    elim (cases_lt r.0 s.passed) [
      | inl lt ↦ is_none (record_at salt (bad + r.0) (drop r.0 s.tail)) (s.are_bad r.0 lt).none r.2
      | inr le ↦
          let i = r.0 - s.passed in
          let here : bad + r.0 ≡ place + i = omega (arith, s.place_is, le) in
          let there : drop r.0 s.tail ≡ drop i kept = ap (λ (n : ℕ). drop n s.tail) (omega (arith, le)) ∙ sym (ap (drop i) s.kept_is ∙ drop-drop i s.passed s.tail) in
          none (
            i,
            omega (arith, le, r.1, ap length s.kept_is, length-drop s.passed s.tail),
            subst (λ (x : List ℕ). is_some (record_at salt (place + i) x) ≡ true) there (subst (λ (n : ℕ). is_some (record_at salt n (drop r.0 s.tail)) ≡ true) here r.2),
          )
    ]

pub end_torn : (bytes : List ℕ) (given : List (List ℕ)) (salt bad place : ℕ) (kept : List ℕ) → HasRead bytes given (record { phase = Search salt bad; place = place; bytes = kept }) → (Resumes salt place kept → ⊥) → IsEndOf bytes given (record { phase = Search salt bad; place = place; bytes = kept }) (ending.Torn bad)
end_torn bytes given salt bad place kept h none =
    let s : IsSearching salt bad bytes given place kept = h.in_phase in
    stopped_end bytes given (record { phase = Search salt bad; place = place; bytes = kept }) salt bad s.tail (ending.Torn bad) h.are_bytes s.stopped (λ at here. (
      here,
      subst (λ (n : ℕ). IsBad salt n s.tail) here s.stopped.is_bad,
      λ r. none_before salt bad bytes given place kept s none (subst (λ (n : ℕ). Resumes salt n s.tail) (sym here) r),
    ))

file_more : (salt : ℕ) (given others : List (List ℕ)) (place : ℕ) → place ≡ HEAD + size_of given → file_of salt (given ++ others) ≡ file_of salt given ++ spelled salt place others
file_more salt given others place here = ap (λ (x : List ℕ). head_of salt ++ x) (spelled-append salt HEAD given others place here) ∙ sym (append_assoc (head_of salt) (spelled salt HEAD given) (spelled salt place others))

pub end_among : (bytes : List ℕ) (given : List (List ℕ)) (salt place : ℕ) (kept : List ℕ) (n at : ℕ) (e : Ending) → HasRead bytes given (record { phase = Records salt; place = place; bytes = kept }) → IsRun salt place kept n → at ≡ place + n
    → record_at salt at (drop n kept) ≡ None → EndsSo e salt at (drop n kept) → IsEndOf bytes given (record { phase = Records salt; place = place; bytes = kept }) e
end_among bytes given salt place kept n at e h run here none ends =
    let a : IsAmong salt bytes given place kept = h.in_phase in
    let all = given ++ run.payloads in
    let there : at ≡ HEAD + size_of all = omega (arith, here, a.place_is, run.size_is, size-append given run.payloads) in
    record {
      more = run.payloads;
      is_read = record {
        are_bytes = h.are_bytes;
        parts = inl (record {
          salt = salt;
          rest = drop n kept;
          salt_fits = a.salt_fits;
          parts = a.parts ∙ ap (λ (x : List ℕ). file_of salt given ++ x) run.parts ∙ sym (append_assoc (file_of salt given) (spelled salt place run.payloads) (drop n kept))
              ∙ ap (λ (x : List ℕ). x ++ drop n kept) (sym (file_more salt given run.payloads place a.place_is));
          payloads_fit = both_fit given run.payloads a.given_fit run.payloads_fit;
          no_more = subst (λ (k : ℕ). record_at salt k (drop n kept) ≡ None) there none;
          ends = subst (λ (k : ℕ). EndsSo e salt k (drop n kept)) there ends;
        });
      };
      none_left = λ drained. none_in salt place kept run.payloads (drop n kept) run.payloads_fit run.parts drained.none_left;
    }

-- ---- the end of a reader, whose fields are told from what contracts see of it

pub end_seen : (bytes : List ℕ) (given : List (List ℕ)) (p q : Phase) (place : ℕ) (kept : List ℕ) (k : Kept) (e : Ending) → record { phase = p; place = place; bytes = kept } ≡ k → p ≡ q
    → (HasRead bytes given (record { phase = q; place = place; bytes = kept }) → IsEndOf bytes given (record { phase = q; place = place; bytes = kept }) e) → HasRead bytes given k → IsEndOf bytes given k e
end_seen bytes given p q place kept k e seen is f h =
    let same : record { phase = q; place = place; bytes = kept } ≡ k = ap (λ (x : Phase). record { phase = x; place = place; bytes = kept }) (sym is) ∙ seen in
    subst (λ (x : Kept). HasRead bytes given x → IsEndOf bytes given x e) same f h
