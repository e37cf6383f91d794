-- A line that is read in parts.
use Rattle.std.proofs.Common.{◌≡◌, ℕ, zero, suc, ◌+◌, ◌<◌, Bool, true, false, if◌then◌else◌, ◌==◌, List, [], ◌∷◌, ◌++◌, length, take, drop, get_or, nat_lt, Option, Some, refl, sym, ap, ◌∙◌, arith, append-nil, append_assoc}
use Rattle.std.specs.List.{All}
use Rattle.std.specs.Io.BufRead.{take_through, drop_through}
use Rattle.memchr.specs.Find.{is_byte}
use Rattle.simulator.specs.Reading.{IsPart, IsPartTaken, IsBegun, IsRead}

-- the first line feed stands at this place
pub whole_part : (bytes behind : List ℕ) (end : ℕ) → end < length bytes → ((k : ℕ) → k < end → is_byte 10 (get_or bytes k 0) ≡ false) → is_byte 10 (get_or bytes end 0) ≡ true
    → IsPart (bytes ++ behind) (take (end + 1) bytes) (drop (end + 1) bytes ++ behind) true
whole_part [] behind end inside before here = absurd (omega (arith, inside))
whole_part (b ∷ bytes) behind zero inside before here = record {
  taken = ap (λ t. if t then b ∷ [] else b ∷ take_through 10 (bytes ++ behind)) here;
  dropped = ap (λ t. if t then bytes ++ behind else drop_through 10 (bytes ++ behind)) here;
}
whole_part (b ∷ bytes) behind (suc end) inside before here =
    let other : (b == 10) ≡ false = before 0 (omega arith) in
    let later = whole_part bytes behind end (omega (arith, inside)) (λ k below. before (suc k) (omega (arith, below))) here in
    let one_more : suc (end + 1) ≡ suc end + 1 = omega arith in
    record {
      taken = ap (λ t. if t then b ∷ [] else b ∷ take_through 10 (bytes ++ behind)) other ∙ ap (λ bs. b ∷ bs) later.taken ∙ ap (λ n. take n (b ∷ bytes)) one_more;
      dropped = ap (λ t. if t then bytes ++ behind else drop_through 10 (bytes ++ behind)) other ∙ later.dropped ∙ ap (λ n. drop n (b ∷ bytes) ++ behind) one_more;
    }

-- no line feed stands in the bytes
pub open_part : (bytes behind : List ℕ) → All (λ b. is_byte 10 b ≡ false) bytes → IsPart (bytes ++ behind) (take (length bytes) bytes) (drop (length bytes) bytes ++ behind) false
open_part [] behind none = record { taken = refl; dropped = refl }
open_part (b ∷ bytes) behind none =
    let other : (b == 10) ≡ false = none 0 0 (omega arith) in
    let later = open_part bytes behind (λ k d below. none (suc k) d (omega (arith, below))) in
    record {
      taken = ap (λ t. if t then b ∷ [] else b ∷ take_through 10 (bytes ++ behind)) other ∙ ap (λ bs. b ∷ bs) later.taken;
      dropped = ap (λ t. if t then bytes ++ behind else drop_through 10 (bytes ++ behind)) other ∙ later.dropped;
    }

module _ {bytes line line_now : List ℕ} {now next : Option (List ℕ)} {whole : Bool} (begun : IsBegun bytes line now) (part : IsPartTaken begun.rest line line_now next whole) where
  -- a part without the line feed, and what is left then
  pub goes_on : (later : Option (List ℕ)) → whole ≡ false → later ≡ Some part.rest → IsBegun bytes line_now later
  goes_on later unended known = record {
    rest = part.rest;
    known = known;
    taken =
        let more : take_through 10 begun.rest ≡ part.part ++ take_through 10 part.rest = part.is.taken ∙ ap (λ t. if t then part.part else part.part ++ take_through 10 part.rest) unended in
        begun.taken ∙ ap (λ bs. line ++ bs) more ∙ sym (append_assoc line part.part (take_through 10 part.rest)) ∙ ap (λ bs. bs ++ take_through 10 part.rest) (sym part.added);
    dropped = begun.dropped ∙ part.is.dropped ∙ ap (λ t. if t then part.rest else drop_through 10 part.rest) unended;
  }

  -- the part with the line feed
  pub ends : (there : Bool) → whole ≡ true → there ≡ nat_lt 0 (length line_now) → IsRead bytes line_now next there
  ends there ended more = record {
    first =
        let last : take_through 10 begun.rest ≡ part.part = part.is.taken ∙ ap (λ t. if t then part.part else part.part ++ take_through 10 part.rest) ended in
        part.added ∙ sym (begun.taken ∙ ap (λ bs. line ++ bs) last);
    rest = part.known ∙ ap Some (sym (begun.dropped ∙ part.is.dropped ∙ ap (λ t. if t then part.rest else drop_through 10 part.rest) ended));
    more = more;
  }

  -- a part without the line feed, with nothing after it
  pub ends_unended : (there : Bool) (later : Option (List ℕ)) → whole ≡ false → later ≡ Some part.rest → part.rest ≡ [] → there ≡ nat_lt 0 (length line_now) → IsRead bytes line_now later there
  unfolding goes_on
  ends_unended there later unended known none more =
      let all = goes_on later unended known in
      record {
        first = sym (all.taken ∙ ap (λ bs. line_now ++ take_through 10 bs) none ∙ append-nil line_now);
        rest = known ∙ ap Some (none ∙ sym (all.dropped ∙ ap (drop_through 10) none));
        more = more;
      }
