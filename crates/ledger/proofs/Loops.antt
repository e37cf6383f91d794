-- Reading items one after another, as a loop does.
use Rattle.std.proofs.Common.{◌≡◌, ℕ, suc, ◌-◌, ◌+◌, ◌≤◌, ◌<◌, List, [], ◌∷◌, ◌++◌, Option, Some, Ok, Err, refl, sym, ap, ◌∙◌, append_assoc, arith}
use Rattle.std.proofs.lemmas.List.{append-nil}
use Rattle.ledger.specs.declared.fault.PayloadFault.{PayloadFault}
use Rattle.ledger.specs.declared.fault.PayloadFault.TheVariants as fault
use Rattle.ledger.specs.declared.malformed.Malformed.{Malformed}
use Rattle.ledger.specs.declared.malformed.Malformed.TheVariants as malformed
use Rattle.ledger.specs.Reading.{Reading, ◌>>=◌, Fails, fault_of, many_at, uid_at, uids_from}

-- what was read before, and what is still read
abbrev pub with_front : {X : Type 0} → List X → Reading (List X) → Reading (List X)
with_front front read = read >>= λ x. Ok (front ++ x.0, x.1)

regroup : {X : Type 0} (front : List X) (x : X) (read : Reading (List X)) → with_front front (read >>= λ xs. Ok (x ∷ xs.0, xs.1)) ≡ with_front (front ++ x ∷ []) read
regroup {X} front x (Ok xs) = ap (λ (ys : List X). Ok (ys, xs.1)) (simp append_assoc)
regroup front x (Err f) = refl

module _ {X : Type 0} (item_at : List ℕ → Reading X) where
  pub goes_on : (front : List X) (count i : ℕ) (bytes : List ℕ) (x : X) (after : List ℕ) (total : Reading (List X)) → i < count → item_at bytes ≡ Ok (x, after)
      → with_front front (many_at item_at (count - i) bytes) ≡ total → with_front (front ++ x ∷ []) (many_at item_at (count - (i + 1)) after) ≡ total
  unfolding many_at
  goes_on front count i bytes x after total lt h so_far =
      let k : count - i ≡ suc (count - (i + 1)) = omega arith in
      let one : with_front front (many_at item_at (count - i) bytes) ≡ with_front (front ++ x ∷ []) (many_at item_at (count - (i + 1)) after) = rw (k, h) (regroup front x (many_at item_at (count - (i + 1)) after)) in
      sym one ∙ so_far

  stops : (f : Malformed) (front : List X) (count i : ℕ) (bytes : List ℕ) (total : Reading (List X)) → i < count → item_at bytes ≡ Err f
      → with_front front (many_at item_at (count - i) bytes) ≡ total → total ≡ Err f
  unfolding many_at
  stops f front count i bytes total lt h so_far =
      let k : count - i ≡ suc (count - (i + 1)) = omega arith in
      let one : with_front front (many_at item_at (count - i) bytes) ≡ Err f = rw (k, h) refl in
      sym so_far ∙ one

  pub ends : (f : PayloadFault) (front : List X) (count i : ℕ) (bytes : List ℕ) (total : Reading (List X)) → i < count → Fails f (item_at bytes)
      → with_front front (many_at item_at (count - i) bytes) ≡ total → Fails f total
  ends fault.Memory front count i bytes total lt h so_far = tt
  ends fault.Kind front count i bytes total lt h so_far = stops malformed.Kind front count i bytes total lt h so_far
  ends fault.Field front count i bytes total lt h so_far = stops malformed.Field front count i bytes total lt h so_far
  ends fault.Length front count i bytes total lt h so_far = stops malformed.Length front count i bytes total lt h so_far

  pub ends_malformed : (m : Malformed) (front : List X) (count i : ℕ) (bytes : List ℕ) (total : Reading (List X)) → i < count → item_at bytes ≡ Err m
      → with_front front (many_at item_at (count - i) bytes) ≡ total → Fails (fault_of m) total
  ends_malformed malformed.Kind front count i bytes total lt h so_far = stops malformed.Kind front count i bytes total lt h so_far
  ends_malformed malformed.Field front count i bytes total lt h so_far = stops malformed.Field front count i bytes total lt h so_far
  ends_malformed malformed.Length front count i bytes total lt h so_far = stops malformed.Length front count i bytes total lt h so_far

  pub is_done : (front : List X) (count i : ℕ) (bytes : List ℕ) (total : Reading (List X)) → count ≤ i → with_front front (many_at item_at (count - i) bytes) ≡ total → total ≡ Ok (front, bytes)
  unfolding many_at
  is_done front count i bytes total le so_far =
      let k : count - i ≡ 0 = omega arith in
      let one : with_front front (many_at item_at (count - i) bytes) ≡ Ok (front, bytes) = rw k (ap (λ (xs : List X). Ok (xs, bytes)) (append-nil front)) in
      sym so_far ∙ one

-- the same of unique ids

pub uid_goes_on : (last : Option ℕ) (front : List ℕ) (count i : ℕ) (bytes : List ℕ) (x : ℕ) (after : List ℕ) (total : Reading (List ℕ)) → i < count → uid_at last bytes ≡ Ok (x, after)
    → with_front front (uids_from last (count - i) bytes) ≡ total → with_front (front ++ x ∷ []) (uids_from (Some x) (count - (i + 1)) after) ≡ total
unfolding uids_from
uid_goes_on last front count i bytes x after total lt h so_far =
    let k : count - i ≡ suc (count - (i + 1)) = omega arith in
    let one : with_front front (uids_from last (count - i) bytes) ≡ with_front (front ++ x ∷ []) (uids_from (Some x) (count - (i + 1)) after) = rw (k, h) (regroup front x (uids_from (Some x) (count - (i + 1)) after)) in
    sym one ∙ so_far

uid_stops : (f : Malformed) (last : Option ℕ) (front : List ℕ) (count i : ℕ) (bytes : List ℕ) (total : Reading (List ℕ)) → i < count → uid_at last bytes ≡ Err f
    → with_front front (uids_from last (count - i) bytes) ≡ total → total ≡ Err f
unfolding uids_from
uid_stops f last front count i bytes total lt h so_far =
    let k : count - i ≡ suc (count - (i + 1)) = omega arith in
    let one : with_front front (uids_from last (count - i) bytes) ≡ Err f = rw (k, h) refl in
    sym so_far ∙ one

pub uid_ends : (m : Malformed) (last : Option ℕ) (front : List ℕ) (count i : ℕ) (bytes : List ℕ) (total : Reading (List ℕ)) → i < count → uid_at last bytes ≡ Err m
    → with_front front (uids_from last (count - i) bytes) ≡ total → Fails (fault_of m) total
uid_ends malformed.Kind last front count i bytes total lt h so_far = uid_stops malformed.Kind last front count i bytes total lt h so_far
uid_ends malformed.Field last front count i bytes total lt h so_far = uid_stops malformed.Field last front count i bytes total lt h so_far
uid_ends malformed.Length last front count i bytes total lt h so_far = uid_stops malformed.Length last front count i bytes total lt h so_far

pub uid_is_done : (last : Option ℕ) (front : List ℕ) (count i : ℕ) (bytes : List ℕ) (total : Reading (List ℕ)) → count ≤ i → with_front front (uids_from last (count - i) bytes) ≡ total → total ≡ Ok (front, bytes)
unfolding uids_from
uid_is_done last front count i bytes total le so_far =
    let k : count - i ≡ 0 = omega arith in
    let one : with_front front (uids_from last (count - i) bytes) ≡ Ok (front, bytes) = rw k (ap (λ (xs : List ℕ). Ok (xs, bytes)) (append-nil front)) in
    sym so_far ∙ one
