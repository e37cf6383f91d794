-- Payloads of all kinds are read as they are written.
use Rattle.std.proofs.Common.{◌≡◌, ℕ, ◌^◌, ◌<◌, cond, eqb, suc, true, List, [], ◌∷◌, ◌++◌, length, Result, Ok, Err, refl, sym, ap, subst, ◌∙◌, inl, inr}
use Rattle.std.specs.Prelude.{IfOk, OnOk}
use Rattle.std.specs.Int.{w64}
use Rattle.std.proofs.lemmas.Bool.{eqb-true}
use Rattle.std.proofs.lemmas.List.{append-nil, nil_from_length}
use Rattle.maildrop.specs.declared.change.Change.{Change}
use Rattle.maildrop.specs.declared.change.Change.TheVariants.{Stored, Removed, Keyed, Next}
use Rattle.ledger.specs.declared.entry.Record.{Record}
use Rattle.ledger.specs.declared.entry.Record.TheVariants as said
use Rattle.ledger.specs.declared.fault.PayloadFault.{PayloadFault}
use Rattle.ledger.specs.declared.malformed.Malformed.{Malformed}
use Rattle.ledger.specs.declared.malformed.Malformed.TheVariants as malformed
use Rattle.ledger.specs.Payloads.{begin_number, opened_number, begin_payload, record_payload, payload, entry, u64_bytes}
use Rattle.ledger.specs.Reading.{◌>>=◌, Gives, number_at, entry_in, begin_in, opened_in, record_in}
use Rattle.ledger.specs.Fitting.{FitsEntry}
use Rattle.ledger.proofs.Steps.{bind_ok, passed, ok_is}
use Rattle.ledger.proofs.Formats.{IsBytes, u64_agrees}
use Rattle.ledger.proofs.Fields.{chosen}
use Rattle.ledger.proofs.Entries.{read_whole, read_again}

module _ {A : Type 0} where
  abbrev begun : ℕ → Result (Record A) Malformed
  begun number = Ok (said.Begin number)

  begin_whole : (fields : List ℕ) (x : Record A) → IsBytes fields → begin_in fields ≡ Ok x → begin_number ∷ fields ≡ record_payload x
  unfolding begin_in
  begin_whole fields x fits e =
      let n = bind_ok (number_at w64 fields) (λ n. cond (eqb (length n.1) 0) (begun n.0) (Err malformed.Length)) x e in
      let p = passed (eqb (length n.0.1) 0) malformed.Length (said.Begin n.0.0) x n.2 in
      let none : n.0.1 ≡ [] = nil_from_length n.0.1 (eqb-true (length n.0.1) 0 p.0) in
      let number = u64_agrees.takes fields n.0.0 n.0.1 fits n.1 in
      let all : fields ≡ u64_bytes n.0.0 = subst (λ (rest : List ℕ). fields ≡ u64_bytes n.0.0 ++ rest) none number.0.parts ∙ append-nil (u64_bytes n.0.0) in
      subst (λ (x : Record A). begin_number ∷ fields ≡ record_payload x) p.1 (ap (λ (fields : List ℕ). begin_number ∷ fields) all)

  opened_whole : (fields : List ℕ) (x : Record A) → opened_in fields ≡ Ok x → opened_number ∷ fields ≡ record_payload x
  unfolding opened_in
  opened_whole fields x e =
      let p = passed (eqb (length fields) 0) malformed.Length said.Opened x e in
      let none : fields ≡ [] = nil_from_length fields (eqb-true (length fields) 0 p.0) in
      subst (λ (x : Record A). opened_number ∷ fields ≡ record_payload x) p.1 (ap (λ (fields : List ℕ). opened_number ∷ fields) none)

  change_whole : (bytes : List ℕ) (x : Record A) → IsBytes bytes → (entry_in bytes >>= λ entry. Ok (said.Entry entry)) ≡ Ok x → bytes ≡ record_payload x
  change_whole bytes x fits e =
      let s = bind_ok (entry_in bytes) (λ entry. Ok (said.Entry entry)) x e in
      subst (λ (x : Record A). bytes ≡ record_payload x) (ok_is (said.Entry s.0) x s.2) (read_whole bytes s.0 fits s.1)

  numbered : (n i : ℕ) (fields : List ℕ) (x : Record A) → eqb n i ≡ true → i ∷ fields ≡ record_payload x → n ∷ fields ≡ record_payload x
  numbered n i fields x e is = subst (λ (k : ℕ). k ∷ fields ≡ record_payload x) (sym (eqb-true n i e)) is

  whole_record : (bytes : List ℕ) (x : Record A) → IsBytes bytes → record_in bytes ≡ Ok x → bytes ≡ record_payload x
  unfolding record_in
  whole_record [] x fits e = absurd cc
  whole_record (n ∷ fields) x fits e =
      elim (chosen (eqb n begin_number) _ _ (Ok x) e) [
        | inl h ↦ numbered n begin_number fields x h.0 (begin_whole fields x (λ i. fits (suc i)) h.1)
        | inr h ↦ elim (chosen (eqb n opened_number) _ _ (Ok x) h.1) [
          | inl h ↦ numbered n opened_number fields x h.0 (opened_whole fields x h.1)
          | inr h ↦ change_whole (n ∷ fields) x fits h.1
        ]
      ]

  pub given_whole : (bytes : List ℕ) (result : Result (Record A) PayloadFault) → IsBytes bytes → Gives result (record_in bytes) → IfOk result (λ said. bytes ≡ record_payload said)
  given_whole bytes (Ok x) fits given = whole_record bytes x fits given
  given_whole bytes (Err f) fits given = tt

  -- what was written

  pub change_again : (slot : ℕ) (name : List ℕ) (change : Change A) → FitsEntry slot name change → record_in (payload slot name change) ≡ Ok (said.Entry (entry slot name change))
  unfolding record_in
  change_again slot name (Stored uid text key) fit = rw (read_again slot name (Stored uid text key) fit) refl
  change_again slot name (Removed uids) fit = rw (read_again slot name (Removed uids) fit) refl
  change_again slot name (Keyed key uid) fit = rw (read_again slot name (Keyed key uid) fit) refl
  change_again slot name (Next uid) fit = rw (read_again slot name (Next uid) fit) refl

  pub begin_again : (number : ℕ) → number < 2 ^ 64 → record_in {A = A} (begin_payload number) ≡ Ok (said.Begin number)
  unfolding record_in begin_in
  begin_again number small =
      let bytes = u64_bytes number in
      let read : number_at w64 bytes ≡ Ok (number, []) = ap (λ (t : List ℕ). number_at w64 t) (sym (append-nil bytes)) ∙ u64_agrees.again number [] small in
      rw read refl

  -- what a call wrote, if it wrote
  pub written_again : {X E : Type 0} (result : Result X E) (slot : ℕ) (name : List ℕ) (change : Change A) → OnOk result (FitsEntry slot name change)
      → OnOk result (record_in (payload slot name change) ≡ Ok (said.Entry (entry slot name change)))
  written_again (Ok x) slot name change fit = change_again slot name change fit
  written_again (Err e) slot name change fit = tt
