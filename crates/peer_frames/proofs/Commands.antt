-- Operations and commands are read as they are written.
use Rattle.std.proofs.Common.{◌≡◌, ℕ, zero, suc, ◌^◌, ◌<◌, ◌≤◌, ◌&&◌, ◌⊎◌, Bool, true, false, cond, eqb, leb, List, [], ◌∷◌, ◌++◌, length, Option, Some, None, Ok, Err, refl, sym, ap, subst, ◌∙◌, append_assoc, arith, inl, inr}
use Rattle.std.specs.Int.{w32}
use Rattle.std.specs.List.{flat_map, AllByRecursion}
use Rattle.std.proofs.lemmas.Bool.{and_parts, leb-true, le-leb, eqb-true, ne_eqb}
use Rattle.std.proofs.lemmas.List.Concat.{flat_map-cons}
use Rattle.maildrop.specs.Ticket.{Ticket}
use Rattle.maildrop.specs.Key.{is_key}
use Rattle.maildrop.specs.declared.command.Command.{Command}
use Rattle.maildrop.specs.declared.op.Op.{Op}
use Rattle.maildrop.specs.declared.op.Op.TheVariants.{Mail, Take, Commit, Free, Break}
use Rattle.peer_frames.specs.declared.malformed.Malformed.TheVariants as malformed
use Rattle.peer_frames.specs.declared.version.Version.{Version}
use Rattle.peer_frames.specs.declared.version.Version.TheVariants.{First, Second}
use Rattle.peer_frames.specs.Numbers.{is_key_length}
use Rattle.peer_frames.specs.Frames.{command_bytes, counted, key_bytes, long_string, op_bytes, short_string, ticket_bytes, u32_bytes, u64_bytes}
use Rattle.peer_frames.specs.Reading.{Reading, ◌>>=◌, keeping, byte_at, bytes_at, number_at, ticket_at, some_key_at, key_at, is_above, uid_at, uids_from, uids_at, mail_at, commit_at, free_at, op_at, command_at}
use Rattle.peer_frames.specs.Fitting.{Rises, FitsKey, FitsUids, FitsOp, FitsCommand}
use Rattle.peer_frames.proofs.Steps.{bind_ok, kept_ok, kept_again, ok_is, gave}
use Rattle.peer_frames.proofs.Formats.{IsBytes, Takes, Takes-none, Takes-then, Agrees, byte_agrees, u32_agrees, u64_agrees, bytes_take, bytes_again, keeping_agrees, both_take, both_again, three_take, three_again}
use Rattle.peer_frames.proofs.Fields.{ticket_agrees, name_agrees, text_agrees}
use Rattle.peer_frames.proofs.Ascending.{uids_rise}

-- keys

length_agrees : Agrees (λ bytes. keeping is_key_length (byte_at bytes)) (λ n. n ∷ []) (λ n. (n < 256) × (is_key_length n ≡ true))
length_agrees = keeping_agrees is_key_length byte_agrees

key_parts : (key : List ℕ) → is_key key ≡ true → (1 ≤ length key) × (length key ≤ 64)
key_parts key h =
    let p : (leb 1 (length key) && leb (length key) 64) ≡ true = (grind arith) in
    let q = and_parts (leb 1 (length key)) (leb (length key) 64) p in
    (leb-true 1 (length key) q.0, leb-true (length key) 64 q.1)

pub chosen : {X : Type 0} (b : Bool) (x y z : X) → cond b x y ≡ z → ((b ≡ true) × (x ≡ z)) ⊎ ((b ≡ false) × (y ≡ z))
chosen true x y z e = inl (refl, e)
chosen false x y z e = inr (refl, e)

second_takes : (bytes : List ℕ) (k : Option (List ℕ)) (rest : List ℕ) → IsBytes bytes → key_at Second bytes ≡ Ok (k, rest) → Takes bytes (key_bytes Second k) rest × FitsKey Second k
unfolding key_at some_key_at
second_takes bytes k rest fits e =
    let n = bind_ok (keeping is_key_length (byte_at bytes)) (λ len. cond (eqb len.0 0) (gave None len.1) (some_key_at len.0 len.1)) (k, rest) e in
    let number = length_agrees.takes bytes n.0.0 n.0.1 fits n.1 in
    elim (chosen (eqb n.0.0 0) (gave None n.0.1) (some_key_at n.0.0 n.0.1) (Ok (k, rest)) n.2) [
      | inl h ↦
          let zero-is : n.0.0 ≡ 0 = eqb-true n.0.0 0 h.0 in
          let none : Takes bytes (0 ∷ []) n.0.1 = subst (λ (j : ℕ). Takes bytes (j ∷ []) n.0.1) zero-is number.0 in
          subst (λ (p : Option (List ℕ) × List ℕ). Takes bytes (key_bytes Second p.0) p.1 × FitsKey Second p.0) (ok_is (None, n.0.1) (k, rest) h.1) (none, tt)
      | inr h ↦
          let s = bind_ok (keeping is_key (bytes_at n.0.0 n.0.1)) (λ key. gave (Some key.0) key.1) (k, rest) h.1 in
          let kept = kept_ok is_key (bytes_at n.0.0 n.0.1) s.0 s.1 in
          let front = bytes_take n.0.0 n.0.1 s.0.0 s.0.1 number.0.rest_fits kept.0 in
          let both = Takes-then bytes (n.0.0 ∷ []) n.0.1 s.0.0 s.0.1 number.0 front.0 in
          let written : Takes bytes (short_string s.0.0) s.0.1 = subst (λ (j : ℕ). Takes bytes (j ∷ s.0.0) s.0.1) (sym front.1) both in
          subst (λ (p : Option (List ℕ) × List ℕ). Takes bytes (key_bytes Second p.0) p.1 × FitsKey Second p.0) (ok_is (Some s.0.0, s.0.1) (k, rest) s.2) (written, kept.1)
    ]

some_again : (key rest : List ℕ) → is_key key ≡ true → key_at Second (short_string key ++ rest) ≡ Ok (Some key, rest)
unfolding key_at some_key_at
some_again key rest h =
    let p = key_parts key h in
    let len = length_agrees.again (length key) (key ++ rest) (omega (arith, p.1), le-leb (length key) 64 p.1) in
    let some : eqb (length key) 0 ≡ false = ne_eqb (length key) 0 (λ z. absurd (omega (arith, p.0, z))) in
    let read = kept_again is_key (bytes_at (length key) (key ++ rest)) (key, rest) (bytes_again key rest) h in
    rw (len, some, read) refl

key_takes : (v : Version) (bytes : List ℕ) (k : Option (List ℕ)) (rest : List ℕ) → IsBytes bytes → key_at v bytes ≡ Ok (k, rest) → Takes bytes (key_bytes v k) rest × FitsKey v k
unfolding key_at
key_takes First bytes k rest fits e =
    subst (λ (p : Option (List ℕ) × List ℕ). Takes bytes [] p.1 × (p.0 ≡ None)) (ok_is (None, bytes) (k, rest) e) (Takes-none bytes fits, refl)
key_takes Second bytes k rest fits e = second_takes bytes k rest fits e

key_again : (v : Version) (k : Option (List ℕ)) (rest : List ℕ) → FitsKey v k → key_at v (key_bytes v k ++ rest) ≡ Ok (k, rest)
unfolding key_at
key_again First k rest h = rw h refl
key_again Second None rest h = refl
key_again Second (Some key) rest h = some_again key rest h

pub key_agrees : (v : Version) → Agrees (key_at v) (key_bytes v) (FitsKey v)
key_agrees v = record { takes = key_takes v; again = key_again v }

-- unique ids

uid_agrees : (last : Option ℕ) → Agrees (uid_at last) u64_bytes (λ uid. (uid < 2 ^ 64) × (is_above last uid ≡ true))
unfolding uid_at
uid_agrees last = keeping_agrees (is_above last) u64_agrees

uids_from_take : (n : ℕ) (last : Option ℕ) (bytes xs rest : List ℕ) → IsBytes bytes → uids_from last n bytes ≡ Ok (xs, rest) → Takes bytes (flat_map u64_bytes xs) rest × (length xs ≡ n) × AllByRecursion (λ uid. uid < 2 ^ 64) xs
unfolding uids_from
uids_from_take zero last bytes xs rest fits e =
    subst (λ (p : List ℕ × List ℕ). Takes bytes (flat_map u64_bytes p.0) p.1 × (length p.0 ≡ 0) × AllByRecursion (λ uid. uid < 2 ^ 64) p.0) (ok_is ([], bytes) (xs, rest) e) (Takes-none bytes fits, refl, tt)
uids_from_take (suc n) last bytes xs rest fits e =
    let f = bind_ok (uid_at last bytes) (λ first. uids_from (Some first.0) n first.1 >>= λ others. gave (first.0 ∷ others.0) others.1) (xs, rest) e in
    let o = bind_ok (uids_from (Some f.0.0) n f.0.1) (λ others. gave (f.0.0 ∷ others.0) others.1) (xs, rest) f.2 in
    let a = uid_agrees last in
    let first = a.takes bytes f.0.0 f.0.1 fits f.1 in
    let others = uids_from_take n (Some f.0.0) f.0.1 o.0.0 o.0.1 first.0.rest_fits o.1 in
    let both : Takes bytes (flat_map u64_bytes (f.0.0 ∷ o.0.0)) o.0.1 = rw (flat_map-cons u64_bytes f.0.0 o.0.0) (Takes-then bytes (u64_bytes f.0.0) f.0.1 (flat_map u64_bytes o.0.0) o.0.1 first.0 others.0) in
    subst (λ (p : List ℕ × List ℕ). Takes bytes (flat_map u64_bytes p.0) p.1 × (length p.0 ≡ suc n) × AllByRecursion (λ uid. uid < 2 ^ 64) p.0) (ok_is (f.0.0 ∷ o.0.0, o.0.1) (xs, rest) o.2)
    (both, ap suc others.1, (first.1.0, others.2))

uids_from_again : (xs : List ℕ) (last : Option ℕ) (rest : List ℕ) → AllByRecursion (λ uid. uid < 2 ^ 64) xs → Rises last xs → uids_from last (length xs) (flat_map u64_bytes xs ++ rest) ≡ Ok (xs, rest)
unfolding uids_from
uids_from_again [] last rest small rise = refl
uids_from_again (x ∷ xs) last rest small rise =
    let parts : flat_map u64_bytes (x ∷ xs) ++ rest ≡ u64_bytes x ++ (flat_map u64_bytes xs ++ rest) = ap (λ (t : List ℕ). t ++ rest) (flat_map-cons u64_bytes x xs) ∙ append_assoc (u64_bytes x) (flat_map u64_bytes xs) rest in
    let a = uid_agrees last in
    let first = a.again x (flat_map u64_bytes xs ++ rest) (small.0, rise.0) in
    let others = uids_from_again xs (Some x) rest small.1 rise.1 in
    ap (uids_from last (suc (length xs))) parts ∙ rw (first, others) refl

uids_takes : (bytes xs rest : List ℕ) → IsBytes bytes → uids_at bytes ≡ Ok (xs, rest) → Takes bytes (counted u64_bytes xs) rest × FitsUids xs
unfolding uids_at
uids_takes bytes xs rest fits e =
    let n = bind_ok (number_at w32 bytes) (λ n. uids_from None n.0 n.1) (xs, rest) e in
    let number = u32_agrees.takes bytes n.0.0 n.0.1 fits n.1 in
    let items = uids_from_take n.0.0 None n.0.1 xs rest number.0.rest_fits n.2 in
    let both = Takes-then bytes (u32_bytes n.0.0) n.0.1 (flat_map u64_bytes xs) rest number.0 items.0 in (
      subst (λ (k : ℕ). Takes bytes (u32_bytes k ++ flat_map u64_bytes xs) rest) (sym items.1) both,
      record { count = omega (arith, number.1, items.1); small = items.2; rise = uids_rise n.0.0 None n.0.1 (xs, rest) n.2 },
    )

uids_again : (xs rest : List ℕ) → FitsUids xs → uids_at (counted u64_bytes xs ++ rest) ≡ Ok (xs, rest)
unfolding uids_at
uids_again xs rest fit =
    ap (λ (t : List ℕ). number_at w32 t >>= λ n. uids_from None n.0 n.1) (append_assoc (u32_bytes (length xs)) (flat_map u64_bytes xs) rest)
    ∙ rw (u32_agrees.again (length xs) (flat_map u64_bytes xs ++ rest) fit.count) (uids_from_again xs None rest fit.small fit.rise)

pub uids_agrees : Agrees uids_at (counted u64_bytes) FitsUids
uids_agrees = record { takes = uids_takes; again = uids_again }

-- operations

module _ {A : Type 0} where
  abbrev make_mail : Option (List ℕ) → List (List ℕ) → Op A
  make_mail key text = Mail text key

  abbrev make_commit : Ticket → List ℕ → Op A
  make_commit lock uids = Commit lock uids

  -- what is written after the operation's number
  abbrev arguments : Version → Op A → List ℕ
  arguments v (Mail text k) = key_bytes v k ++ counted long_string text
  arguments v Take = []
  arguments v (Commit lock uids) = ticket_bytes lock ++ counted u64_bytes uids
  arguments v (Free lock) = ticket_bytes lock
  arguments v Break = []

  abbrev Taken : Version → List ℕ → ℕ → Op A → List ℕ → Type 0
  Taken v bytes n op rest = Takes bytes (arguments v op) rest × (n ∷ arguments v op ≡ op_bytes v op) × FitsOp v op

  mail_takes : (v : Version) (bytes : List ℕ) (op : Op A) (rest : List ℕ) → IsBytes bytes → mail_at v bytes ≡ Ok (op, rest) → Taken v bytes 1 op rest
  unfolding mail_at
  mail_takes v bytes op rest fits e =
      let t = both_take (key_agrees v) text_agrees make_mail bytes op rest fits e in
      subst (λ (op : Op A). Taken v bytes 1 op rest) t.made (t.taken, refl, (t.fits, t.fits2))

  commit_takes : (v : Version) (bytes : List ℕ) (op : Op A) (rest : List ℕ) → IsBytes bytes → commit_at bytes ≡ Ok (op, rest) → Taken v bytes 3 op rest
  unfolding commit_at
  commit_takes v bytes op rest fits e =
      let t = both_take ticket_agrees uids_agrees make_commit bytes op rest fits e in
      subst (λ (op : Op A). Taken v bytes 3 op rest) t.made (t.taken, refl, (t.fits, t.fits2))

  free_takes : (v : Version) (bytes : List ℕ) (op : Op A) (rest : List ℕ) → IsBytes bytes → free_at bytes ≡ Ok (op, rest) → Taken v bytes 4 op rest
  unfolding free_at
  free_takes v bytes op rest fits e =
      let t = bind_ok (ticket_at bytes) (λ lock. gave (Free lock.0) lock.1) (op, rest) e in
      let lock = ticket_agrees.takes bytes t.0.0 t.0.1 fits t.1 in
      subst (λ (p : Op A × List ℕ). Taken v bytes 4 p.0 p.1) (ok_is (Free t.0.0, t.0.1) (op, rest) t.2) (lock.0, refl, lock.1)

  plain_takes : (v : Version) (bytes : List ℕ) (n : ℕ) (plain op : Op A) (rest : List ℕ) → IsBytes bytes → arguments v plain ≡ [] → n ∷ [] ≡ op_bytes v plain → FitsOp v plain → gave plain bytes ≡ Ok (op, rest) → Taken v bytes n op rest
  plain_takes v bytes n plain op rest fits none written fit e =
      subst (λ (p : Op A × List ℕ). Taken v bytes n p.0 p.1) (ok_is (plain, bytes) (op, rest) e) (rw none (Takes-none bytes fits), ap (λ (t : List ℕ). n ∷ t) none ∙ written, fit)

  -- by the operation's number
  abbrev behind : Version → ℕ → List ℕ → Reading (Op A)
  behind v n bytes =
      cond (eqb n 1) (mail_at v bytes)
      (cond (eqb n 2) (gave Take bytes)
      (cond (eqb n 3) (commit_at bytes)
      (cond (eqb n 4) (free_at bytes)
      (cond (eqb n 5) (gave Break bytes) (Err malformed.Field)))))

  renumbered : (v : Version) (bytes : List ℕ) (m n : ℕ) (op : Op A) (rest : List ℕ) → eqb n m ≡ true → Taken v bytes m op rest → Taken v bytes n op rest
  renumbered v bytes m n op rest e t = subst (λ (k : ℕ). Taken v bytes k op rest) (sym (eqb-true n m e)) t

  behind_takes : (v : Version) (n : ℕ) (bytes : List ℕ) (op : Op A) (rest : List ℕ) → IsBytes bytes → behind v n bytes ≡ Ok (op, rest) → Taken v bytes n op rest
  behind_takes v n bytes op rest fits e =
      elim (chosen (eqb n 1) _ _ (Ok (op, rest)) e) [
        | inl h ↦ renumbered v bytes 1 n op rest h.0 (mail_takes v bytes op rest fits h.1)
        | inr h ↦ elim (chosen (eqb n 2) _ _ (Ok (op, rest)) h.1) [
          | inl h ↦ renumbered v bytes 2 n op rest h.0 (plain_takes v bytes 2 Take op rest fits refl refl tt h.1)
          | inr h ↦ elim (chosen (eqb n 3) _ _ (Ok (op, rest)) h.1) [
            | inl h ↦ renumbered v bytes 3 n op rest h.0 (commit_takes v bytes op rest fits h.1)
            | inr h ↦ elim (chosen (eqb n 4) _ _ (Ok (op, rest)) h.1) [
              | inl h ↦ renumbered v bytes 4 n op rest h.0 (free_takes v bytes op rest fits h.1)
              | inr h ↦ elim (chosen (eqb n 5) _ _ (Ok (op, rest)) h.1) [
                | inl h ↦ renumbered v bytes 5 n op rest h.0 (plain_takes v bytes 5 Break op rest fits refl refl tt h.1)
                | inr h ↦ absurd (cc (h.1))
              ]
            ]
          ]
        ]
      ]

  op_takes : (v : Version) (bytes : List ℕ) (op : Op A) (rest : List ℕ) → IsBytes bytes → op_at v bytes ≡ Ok (op, rest) → Takes bytes (op_bytes v op) rest × FitsOp v op
  unfolding op_at
  op_takes v bytes op rest fits e =
      let n = bind_ok (byte_at bytes) (λ n. behind v n.0 n.1) (op, rest) e in
      let number = byte_agrees.takes bytes n.0.0 n.0.1 fits n.1 in
      let after = behind_takes v n.0.0 n.0.1 op rest number.0.rest_fits n.2 in
      (subst (λ (t : List ℕ). Takes bytes t rest) after.1 (Takes-then bytes (n.0.0 ∷ []) n.0.1 (arguments v op) rest number.0 after.0), after.2)

  op_again : (v : Version) (op : Op A) (rest : List ℕ) → FitsOp v op → op_at v (op_bytes v op ++ rest) ≡ Ok (op, rest)
  unfolding op_at mail_at commit_at free_at
  op_again v (Mail text key) rest h = both_again (key_agrees v) text_agrees make_mail key text rest h.0 h.1
  op_again v Take rest h = refl
  op_again v (Commit lock uids) rest h = both_again ticket_agrees uids_agrees make_commit lock uids rest h.0 h.1
  op_again v (Free lock) rest h = rw (ticket_agrees.again lock rest h) refl
  op_again v Break rest h = refl

  pub op_agrees : (v : Version) → Agrees (op_at {A = A} v) (op_bytes v) (FitsOp v)
  op_agrees v = record { takes = op_takes v; again = op_again v }

  -- commands

  abbrev make_command : List ℕ → Ticket → Op A → Command A
  make_command user ticket op = record { user = user; ticket = ticket; op = op }

  command_takes : (v : Version) (bytes : List ℕ) (c : Command A) (rest : List ℕ) → IsBytes bytes → command_at v bytes ≡ Ok (c, rest) → Takes bytes (command_bytes v c) rest × FitsCommand v c
  unfolding command_at
  command_takes v bytes c rest fits e =
      let t = three_take name_agrees ticket_agrees (op_agrees v) make_command bytes c rest fits e in
      subst (λ (c : Command A). Takes bytes (command_bytes v c) rest × FitsCommand v c) t.made (t.taken, record { user = t.fits; ticket = t.fits2; op = t.fits3 })

  command_again : (v : Version) (c : Command A) (rest : List ℕ) → FitsCommand v c → command_at v (command_bytes v c ++ rest) ≡ Ok (c, rest)
  unfolding command_at
  command_again v c rest h = three_again name_agrees ticket_agrees (op_agrees v) make_command c.user c.ticket c.op rest h.user h.ticket h.op

  pub command_agrees : (v : Version) → Agrees (command_at {A = A} v) (command_bytes v) (FitsCommand v)
  command_agrees v = record { takes = command_takes v; again = command_again v }
