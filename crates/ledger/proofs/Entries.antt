-- Payloads of changes are read as they are written.
use Rattle.std.proofs.Common.{◌≡◌, ℕ, cond, eqb, List, [], ◌∷◌, ◌++◌, length, Option, Ok, Err, refl, sym, ap, subst, ◌∙◌, append_assoc}
use Rattle.std.specs.Int.{w64}
use Rattle.std.proofs.lemmas.Bool.{eqb-true}
use Rattle.std.proofs.lemmas.List.{append-nil, nil_from_length}
use Rattle.maildrop.specs.declared.change.Change.{Change}
use Rattle.maildrop.specs.declared.change.Change.TheVariants.{Stored, Removed, Keyed, Next}
use Rattle.ledger.specs.declared.entry.Entry.{Entry}
use Rattle.ledger.specs.declared.kind.Kind.{Kind}
use Rattle.ledger.specs.declared.kind.Kind.TheVariants as kind
use Rattle.ledger.specs.declared.malformed.Malformed.TheVariants as malformed
use Rattle.ledger.specs.Payloads.{kind_number, kind_of_change, change_bytes, payload, short_string, u64_bytes, entry}
use Rattle.ledger.specs.Reading.{◌>>=◌, number_at, kind_at, name_at, uids_at, stored_at, keyed_at, change_at, entry_at, entry_in}
use Rattle.ledger.specs.Fitting.{FitsChange, FitsEntry}
use Rattle.ledger.proofs.Steps.{bind_ok, passed, ok_is, gave}
use Rattle.ledger.proofs.Formats.{IsBytes, Takes, Takes-then, u64_agrees, both_take, both_again, three_take, three_again}
use Rattle.ledger.proofs.Fields.{kind_agrees, name_agrees, text_agrees, optional_key_agrees, key_agrees, uids_agrees}

module _ {A : Type 0} where
  abbrev make_stored : ℕ → List (List ℕ) → Option (List ℕ) → Change A
  make_stored uid text key = Stored uid text key

  abbrev make_keyed : List ℕ → ℕ → Change A
  make_keyed key uid = Keyed key uid

  abbrev Taken : Kind → List ℕ → Change A → List ℕ → Type 0
  Taken k bytes c rest = Takes bytes (change_bytes c) rest × (kind_of_change c ≡ k) × FitsChange c

  change_takes : (k : Kind) (bytes : List ℕ) (c : Change A) (rest : List ℕ) → IsBytes bytes → change_at k bytes ≡ Ok (c, rest) → Taken k bytes c rest
  unfolding change_at stored_at keyed_at
  change_takes kind.Stored bytes c rest fits e =
      let t = three_take u64_agrees text_agrees optional_key_agrees make_stored bytes c rest fits e in
      subst (λ (c : Change A). Taken kind.Stored bytes c rest) t.made (t.taken, refl, record { small = t.fits; lines = t.fits2; rule = t.fits3 })
  change_takes kind.Removed bytes c rest fits e =
      let t = bind_ok (uids_at bytes) (λ u. gave (Removed u.0) u.1) (c, rest) e in
      let u = uids_agrees.takes bytes t.0.0 t.0.1 fits t.1 in
      subst (λ (p : Change A × List ℕ). Taken kind.Removed bytes p.0 p.1) (ok_is (Removed t.0.0, t.0.1) (c, rest) t.2) (u.0, refl, u.1)
  change_takes kind.Keyed bytes c rest fits e =
      let t = both_take key_agrees u64_agrees make_keyed bytes c rest fits e in
      subst (λ (c : Change A). Taken kind.Keyed bytes c rest) t.made (t.taken, refl, (t.fits, t.fits2))
  change_takes kind.Next bytes c rest fits e =
      let t = bind_ok (number_at w64 bytes) (λ u. gave (Next u.0) u.1) (c, rest) e in
      let u = u64_agrees.takes bytes t.0.0 t.0.1 fits t.1 in
      subst (λ (p : Change A × List ℕ). Taken kind.Next bytes p.0 p.1) (ok_is (Next t.0.0, t.0.1) (c, rest) t.2) (u.0, refl, u.1)

  change_again : (c : Change A) (rest : List ℕ) → FitsChange c → change_at (kind_of_change c) (change_bytes c ++ rest) ≡ Ok (c, rest)
  unfolding change_at stored_at keyed_at
  change_again (Stored uid text key) rest h = three_again u64_agrees text_agrees optional_key_agrees make_stored uid text key rest h.small h.lines h.rule
  change_again (Removed uids) rest h = rw (uids_agrees.again uids rest h) refl
  change_again (Keyed key uid) rest h = both_again key_agrees u64_agrees make_keyed key uid rest h.0 h.1
  change_again (Next uid) rest h = rw (u64_agrees.again uid rest h) refl

  abbrev IsTaken : List ℕ → Entry A → List ℕ → Type 0
  IsTaken bytes e rest = bytes ≡ payload e.slot e.name e.change ++ rest

  entry_takes : (bytes : List ℕ) (entry : Entry A) (rest : List ℕ) → IsBytes bytes → entry_at bytes ≡ Ok (entry, rest) → IsTaken bytes entry rest
  unfolding entry_at
  entry_takes bytes x rest fits e =
      let k = bind_ok (kind_at bytes) (λ k. number_at w64 k.1 >>= λ s. name_at s.1 >>= λ n. change_at k.0 n.1 >>= λ c. gave (entry s.0 n.0 c.0) c.1) (x, rest) e in
      let s = bind_ok (number_at w64 k.0.1) (λ s. name_at s.1 >>= λ n. change_at k.0.0 n.1 >>= λ c. gave (entry s.0 n.0 c.0) c.1) (x, rest) k.2 in
      let n = bind_ok (name_at s.0.1) (λ n. change_at k.0.0 n.1 >>= λ c. gave (entry s.0.0 n.0 c.0) c.1) (x, rest) s.2 in
      let c = bind_ok (change_at k.0.0 n.0.1) (λ c. gave (entry s.0.0 n.0.0 c.0) c.1) (x, rest) n.2 in
      let kind-taken = kind_agrees.takes bytes k.0.0 k.0.1 fits k.1 in
      let slot-taken = u64_agrees.takes k.0.1 s.0.0 s.0.1 kind-taken.0.rest_fits s.1 in
      let name-taken = name_agrees.takes s.0.1 n.0.0 n.0.1 slot-taken.0.rest_fits n.1 in
      let change-taken = change_takes k.0.0 n.0.1 c.0.0 c.0.1 name-taken.0.rest_fits c.1 in
      let two = Takes-then k.0.1 (u64_bytes s.0.0) s.0.1 (short_string n.0.0) n.0.1 slot-taken.0 name-taken.0 in
      let three = Takes-then k.0.1 (u64_bytes s.0.0 ++ short_string n.0.0) n.0.1 (change_bytes c.0.0) c.0.1 two change-taken.0 in
      let all = Takes-then bytes (kind_number k.0.0 ∷ []) k.0.1 (u64_bytes s.0.0 ++ short_string n.0.0 ++ change_bytes c.0.0) c.0.1 kind-taken.0 three in
      let named : IsTaken bytes (entry s.0.0 n.0.0 c.0.0) c.0.1 =
      subst (λ (k : Kind). bytes ≡ (kind_number k ∷ u64_bytes s.0.0 ++ short_string n.0.0 ++ change_bytes c.0.0) ++ c.0.1) (sym change-taken.1) all.parts in
      subst (λ (p : Entry A × List ℕ). IsTaken bytes p.0 p.1) (ok_is (entry s.0.0 n.0.0 c.0.0, c.0.1) (x, rest) c.2) named

  entry_again : (slot : ℕ) (name : List ℕ) (change : Change A) (rest : List ℕ) → FitsEntry slot name change → entry_at (payload slot name change ++ rest) ≡ Ok (entry slot name change, rest)
  unfolding entry_at
  entry_again slot name change rest fit =
      let fields = change_bytes change in
      let parts : (u64_bytes slot ++ short_string name ++ fields) ++ rest ≡ u64_bytes slot ++ (short_string name ++ (fields ++ rest)) =
      append_assoc (u64_bytes slot ++ short_string name) fields rest ∙ append_assoc (u64_bytes slot) (short_string name) (fields ++ rest) in
      ap (λ (t : List ℕ). entry_at (kind_number (kind_of_change change) ∷ t)) parts
      ∙ rw (kind_agrees.again (kind_of_change change) (u64_bytes slot ++ (short_string name ++ (fields ++ rest))) tt, u64_agrees.again slot (short_string name ++ (fields ++ rest)) fit.small, name_agrees.again name (fields ++ rest) fit.rule, change_again change rest fit.fields) refl

  pub read_whole : (bytes : List ℕ) (x : Entry A) → IsBytes bytes → entry_in bytes ≡ Ok x → bytes ≡ payload x.slot x.name x.change
  unfolding entry_in
  read_whole bytes x fits e =
      let a = bind_ok (entry_at bytes) (λ entry. cond (eqb (length entry.1) 0) (Ok entry.0) (Err malformed.Length)) x e in
      let p = passed (eqb (length a.0.1) 0) malformed.Length a.0.0 x a.2 in
      let none : a.0.1 ≡ [] = nil_from_length a.0.1 (eqb-true (length a.0.1) 0 p.0) in
      let all : bytes ≡ payload a.0.0.slot a.0.0.name a.0.0.change ++ [] = subst (λ (rest : List ℕ). IsTaken bytes a.0.0 rest) none (entry_takes bytes a.0.0 a.0.1 fits a.1) in
      subst (λ (x : Entry A). bytes ≡ payload x.slot x.name x.change) p.1 (all ∙ append-nil (payload a.0.0.slot a.0.0.name a.0.0.change))

  pub read_again : (slot : ℕ) (name : List ℕ) (change : Change A) → FitsEntry slot name change → entry_in (payload slot name change) ≡ Ok (entry slot name change)
  unfolding entry_in
  read_again slot name change fit =
      let whole = payload slot name change in
      let read : entry_at {A = A} whole ≡ Ok (entry slot name change, []) = ap (λ (t : List ℕ). entry_at {A = A} t) (sym (append-nil whole)) ∙ entry_again slot name change [] fit in
      rw read refl
