-- What transcripts name, entered from the last to the first.
use Rattle.std.proofs.Common.{◌≡◌, ℕ, zero, suc, ◌≤◌, List, [], ◌∷◌, Option, Some, None, sym, ap, ◌∙◌, subst, cond, drop, arith}
use Rattle.std.specs.Prelude.{slice_get}
use Rattle.maildrop.specs.CommandId.{CommandId, same_id}
use Rattle.session.specs.declared.transcript.Asked.{Asked}
use Rattle.session.specs.declared.transcript.Transcript.{Transcript}
use Rattle.audit.specs.Names.{entry_key, names_it, named_in, named_from}

pub drop_got : {X : Type 0} (xs : List X) (j : ℕ) (x : X) → slice_get xs j ≡ Some x → drop j xs ≡ x ∷ drop (suc j) xs
drop_got [] j x e = absurd (cc)
drop_got (y ∷ ys) zero x e =
    let same : y ≡ x = cc in
    ap (λ z. z ∷ ys) same
drop_got (y ∷ ys) (suc j) x e = drop_got ys j x e

pub at_least : (P : ℕ → Type 0) (n : ℕ) → n ≤ 0 → P n → P 0
at_least P n h p =
    let same : n ≡ 0 = omega (arith, h) in
    subst P same p

module _ {A : Type 0} where
  pub entered : (id : CommandId) (session j n : ℕ) (entries : List (Asked A)) (entry : Asked A) (key : CommandId) (otherwise new old : Option (ℕ × ℕ)) → suc j ≡ n → slice_get entries j ≡ Some entry → entry_key entry ≡ Some key
      → new ≡ cond (same_id key id) (Some (session, j)) old → old ≡ named_in id session n (drop n entries) otherwise → new ≡ named_in id session j (drop j entries) otherwise
  entered id session j n entries entry key otherwise new old next at its is was =
      is
      ∙ ap (cond (same_id key id) (Some (session, j))) (was ∙ ap (λ m. named_in id session m (drop m entries) otherwise) (sym next))
      ∙ ap (λ k. cond (names_it id k) (Some (session, j)) (named_in id session (suc j) (drop (suc j) entries) otherwise)) (sym its)
      ∙ ap (λ es. named_in id session j es otherwise) (sym (drop_got entries j entry at))

  pub passed_over : (id : CommandId) (session j n : ℕ) (entries : List (Asked A)) (entry : Asked A) (otherwise old : Option (ℕ × ℕ)) → suc j ≡ n → slice_get entries j ≡ Some entry → entry_key entry ≡ None
      → old ≡ named_in id session n (drop n entries) otherwise → old ≡ named_in id session j (drop j entries) otherwise
  passed_over id session j n entries entry otherwise old next at its was =
      was ∙ ap (λ m. named_in id session m (drop m entries) otherwise) (sym next)
      ∙ ap (λ k. cond (names_it id k) (Some (session, j)) (named_in id session (suc j) (drop (suc j) entries) otherwise)) (sym its)
      ∙ ap (λ es. named_in id session j es otherwise) (sym (drop_got entries j entry at))

  pub entered_all : (id : CommandId) (j n : ℕ) (ts : List (Transcript A)) (t : Transcript A) (entries : List (Asked A)) (new old : Option (ℕ × ℕ)) → suc j ≡ n → slice_get ts j ≡ Some t → entries ≡ t.asked
      → new ≡ named_in id j 0 entries old → old ≡ named_from id n (drop n ts) → new ≡ named_from id j (drop j ts)
  entered_all id j n ts t entries new old next at its is was =
      is
      ∙ ap (λ es. named_in id j 0 es old) its
      ∙ ap (named_in id j 0 t.asked) (was ∙ ap (λ m. named_from id m (drop m ts)) (sym next))
      ∙ ap (named_from id j) (sym (drop_got ts j t at))
