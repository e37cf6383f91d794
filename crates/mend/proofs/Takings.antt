-- What is taken of payloads and of records, one after another.
use Rattle.std.proofs.Common.{◌≡◌, ℕ, ◌<◌, ◌≤◌, Bool, true, false, List, [], ◌∷◌, ◌++◌, length, inl, inr, refl, sym, ◌∙◌, ap, subst, append_assoc, arith}
use Rattle.std.proofs.lemmas.List.{append-nil}
use Rattle.std.specs.Prelude.{OnOk, Result, Ok, Err}
use Rattle.std.specs.declared.alloc.Global.{Global}
use Rattle.maildrop.specs.Kept.{KeptMaildrop, KeptTable, kept_for}
use Rattle.ledger.specs.declared.entry.Entry.{Entry}
use Rattle.records.specs.Spelling.{IsPayload}
use Rattle.batches.specs.Batches.{content_of}
use Rattle.batches.specs.Contents.{IsContent, IsContentOf, IsNext}
use Rattle.mend.specs.Taking.{taken_by, taken_step, HasTaken, HasTakenRecord, said_in, said_in_all}

taken_by-append : (name : List ℕ) (kept : KeptMaildrop Global) (entries others : List (Entry Global)) → taken_by name kept (entries ++ others) ≡ taken_by name (taken_by name kept entries) others
taken_by-append name kept [] others = refl
taken_by-append name kept (entry ∷ entries) others = taken_by-append name (taken_step name kept entry) entries others

said-append : (payloads others : List (List ℕ)) → said_in_all (payloads ++ others) ≡ said_in_all payloads ++ said_in_all others
said-append [] others = refl
said-append (payload ∷ payloads) others =
    ap (λ es. said_in payload ++ es) (said-append payloads others) ∙ sym (append_assoc (said_in payload) (said_in_all payloads) (said_in_all others))

-- some entries, and then others
pub taken_both : (entries others : List (Entry Global)) (old mid new : KeptTable Global) → HasTaken entries old mid → HasTaken others mid new → HasTaken (entries ++ others) old new
taken_both entries others old mid new first second = λ name.
    second name ∙ ap (λ k. taken_by name k others) (first name) ∙ sym (taken_by-append name (kept_for name old) entries others)

-- of a batch's content all but the rest was taken
pub record IsPart (content rest : List ℕ) (old new : KeptTable Global) : Type 0 where
  pub front : List (List ℕ)
  pub others : List (List ℕ)
  pub is : IsContentOf (front ++ others) content
  pub fits : IsPayload content
  pub rest_is : IsContentOf others rest
  pub short : length rest ≤ length content
  pub taken : HasTaken (said_in_all front) old new

pub no_part : (content : List ℕ) (kept : KeptTable Global) → IsContent content → IsPart content content kept kept
no_part content kept c = record {
  front = [];
  others = c.payloads;
  is = c.is;
  fits = c.fits;
  rest_is = c.is;
  short = omega arith;
  taken = λ name. refl;
}

pub rest_fits : (content rest : List ℕ) (old new : KeptTable Global) → IsPart content rest old new → IsPayload rest
rest_fits content rest old new p = omega (arith, p.fits, p.short)

pub one_more : (content rest payload others : List ℕ) (old mid new : KeptTable Global) (p : IsPart content rest old mid) → IsNext p.others payload others → length others < length rest
    → HasTaken (said_in payload) mid new → IsPart content others old new
one_more content rest payload others old mid new p next shorter step = record {
  front = p.front ++ payload ∷ [];
  others = next.others;
  is = p.is ∙ ap (λ (ps : List (List ℕ)). content_of (p.front ++ ps)) next.payloads_are ∙ ap content_of (sym (append_assoc p.front (payload ∷ []) next.others));
  fits = p.fits;
  rest_is = next.content_is;
  short = omega (arith, shorter, p.short);
  taken = subst (λ es. HasTaken es old new) (sym (said-append p.front (payload ∷ []) ∙ ap (λ es. said_in_all p.front ++ es) (append-nil (said_in payload))))
      (taken_both (said_in_all p.front) (said_in payload) old mid new p.taken step);
}

pub all_taken : (content rest : List ℕ) (old new : KeptTable Global) (p : IsPart content rest old new) → p.others ≡ [] → HasTakenRecord true content old new
all_taken content rest old new p none = record {
  entries = said_in_all p.front;
  are = (p.front, inl (p.is ∙ ap (λ (ps : List (List ℕ)). content_of (p.front ++ ps)) none ∙ ap content_of (append-nil p.front), p.fits), refl);
  taken = p.taken;
}

-- the payload of a record of the first version
pub single_taken : (batched : Bool) (payload : List ℕ) (old new : KeptTable Global) → batched ≡ false → HasTaken (said_in payload) old new → HasTakenRecord batched payload old new
single_taken true payload old new is step = absurd (cc)
single_taken false payload old new is step = record { entries = said_in payload; are = refl; taken = step }

pub on_ok : {X E : Type 0} {P Q : Type 0} (r : Result X E) → (P → Q) → OnOk r P → OnOk r Q
on_ok (Ok x) f p = f p
on_ok (Err e) f p = tt
