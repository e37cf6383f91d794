-- Fronts of lists, and lists that are written out.
use Rattle.std.proofs.Common.{◌≡◌, ℕ, List, [], ◌∷◌, ◌++◌, refl, sym, ap, ◌∙◌, inl, inr, ⊎_elim, append_assoc}
use Rattle.std.specs.List.{concat}
use Rattle.std.proofs.lemmas.List.{append-nil}
use Rattle.session.specs.Prefix.{IsPrefix}
use Rattle.runs.specs.Projection.{AreComparable}

pub all_of : {X : Type 0} (xs : List X) → IsPrefix xs xs
all_of xs = ([], append-nil xs)

pub front_of : {X : Type 0} (xs more : List X) → IsPrefix xs (xs ++ more)
front_of xs more = (more, refl)

pub prefix_on : {X : Type 0} (xs ys zs : List X) → IsPrefix xs ys → IsPrefix ys zs → IsPrefix xs zs
prefix_on {X} xs ys zs a b = (a.0 ++ b.0, sym (append_assoc xs a.0 b.0) ∙ (ap (λ (q : List X). q ++ b.0) a.1 ∙ b.1))

-- of two fronts of one list one is a front of the other
pub shorter : {X : Type 0} (xs ys ps qs : List X) → xs ++ ps ≡ ys ++ qs → AreComparable xs ys
shorter [] ys ps qs e = inl (ys, refl)
shorter (x ∷ xs) [] ps qs e = inr (x ∷ xs, refl)
shorter {X} (x ∷ xs) (y ∷ ys) ps qs e =
    let first : x ≡ y = cc in
    let rest : xs ++ ps ≡ ys ++ qs = cc in
    ⊎_elim
    (λ (p : IsPrefix xs ys). inl (p.0, ap (λ z. z ∷ (xs ++ p.0)) first ∙ ap (λ (zs : List X). y ∷ zs) p.1))
    (λ (p : IsPrefix ys xs). inr (p.0, ap (λ z. z ∷ (ys ++ p.0)) (sym first) ∙ ap (λ (zs : List X). x ∷ zs) p.1))
    (shorter xs ys ps qs rest)

-- the longer of two comparable lists
pub common : {X : Type 0} (xs ys : List X) → AreComparable xs ys → (zs : List X) × IsPrefix xs zs × IsPrefix ys zs
common {X} xs ys h = ⊎_elim (λ (p : IsPrefix xs ys). (ys, p, ([], append-nil ys))) (λ (p : IsPrefix ys xs). (xs, ([], append-nil xs), p)) h

pub concat_append : (xs ys : List (List ℕ)) → concat (xs ++ ys) ≡ concat xs ++ concat ys
concat_append [] ys = refl
concat_append (x ∷ xs) ys = ap (λ zs. x ++ zs) (concat_append xs ys) ∙ sym (append_assoc x (concat xs) (concat ys))

pub concat_push : (xs : List (List ℕ)) (x : List ℕ) → concat (xs ++ x ∷ []) ≡ concat xs ++ x
concat_push xs x = concat_append xs (x ∷ []) ∙ ap (λ zs. concat xs ++ zs) (append-nil x)

pub concat_prefix : (xs ys : List (List ℕ)) → IsPrefix xs ys → IsPrefix (concat xs) (concat ys)
concat_prefix xs ys p = (concat p.0, sym (concat_append xs p.0) ∙ ap concat p.1)
