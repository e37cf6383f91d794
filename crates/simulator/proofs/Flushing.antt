-- What is written of a report, piece by piece.
use Rattle.std.proofs.Common.{◌≡◌, ℕ, List, [], ◌++◌, Option, Some, None, refl, sym, ap, subst, ◌∙◌, append_assoc}
use Rattle.std.specs.Io.KnownBytes.{Appends}
use Rattle.std.proofs.lemmas.List.{append-nil}
use Rattle.simulator.specs.Reading.{IsFlushed}

appends_none : (a : Option (List ℕ)) → Appends a a []
appends_none None = tt
appends_none (Some xs) = sym (append-nil xs)

appends_on : (a b c : Option (List ℕ)) (x y : List ℕ) → Appends a b x → Appends b c y → Appends a c (x ++ y)
appends_on None b c x y p q = tt
appends_on (Some a) None c x y p q = absurd p
appends_on (Some a) (Some b) None x y p q = absurd q
appends_on (Some a) (Some b) (Some c) x y p q = q ∙ ap (λ bs. bs ++ y) p ∙ append_assoc a x y

-- all of it, and nothing
pub flushed_whole : (a b : Option (List ℕ)) (report later : List ℕ) → Appends a b report → later ≡ [] → IsFlushed a b report later
flushed_whole a b report later appended none = record { written = report; appended = appended; all = ap (λ r. report ++ r) none ∙ append-nil report }

pub flushed_nothing : (a : Option (List ℕ)) (report : List ℕ) → IsFlushed a a report report
flushed_nothing a report = record { written = []; appended = appends_none a; all = refl }

-- some more of it, if something comes after
pub flushed_on : (a b c : Option (List ℕ)) (whole report later behind : List ℕ) → IsFlushed a b whole (report ++ behind) → IsFlushed b c report later → IsFlushed a c whole (later ++ behind)
flushed_on a b c whole report later behind p q = record {
  written = p.written ++ q.written;
  appended = appends_on a b c p.written q.written p.appended q.appended;
  all =
      append_assoc p.written q.written (later ++ behind) ∙ ap (λ bs. p.written ++ bs) (sym (append_assoc q.written later behind) ∙ ap (λ bs. bs ++ behind) q.all)
      ∙ p.all;
}

-- the rest of it
pub flushed_all : (a b c : Option (List ℕ)) (whole report : List ℕ) → IsFlushed a b whole report → Appends b c report → Appends a c whole
flushed_all a b c whole report p rest = subst (Appends a c) p.all (appends_on a b c p.written report p.appended rest)

-- it is known as another
pub flushed_as : (a b : Option (List ℕ)) (whole report other : List ℕ) → IsFlushed a b whole report → report ≡ other → IsFlushed a b whole other
flushed_as a b whole report other p same = record { written = p.written; appended = p.appended; all = ap (λ bs. p.written ++ bs) (sym same) ∙ p.all }
