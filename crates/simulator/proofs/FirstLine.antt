-- The first line of bytes, as it is read up to its line feed.
use Rattle.std.proofs.Common.{◌≡◌, inl, inr, ℕ, ◌+◌, ◌-◌, Bool, true, false, if◌then◌else◌, ◌==◌, ◌<◌, List, [], ◌∷◌, ◌++◌, length, take, get_or, slice_index, append-nil, append_assoc, take_all, refl, sym, ap, subst, ◌∙◌, arith}
use Rattle.std.specs.List.{All}
use Rattle.std.specs.Io.BufRead.{take_through, drop_through}
use Rattle.std.specs.Str.Lines.{lines, strip_carriage_return}
use Rattle.std.proofs.lemmas.Bool.{eqb-true}
use Rattle.std.proofs.lemmas.List.{take_more}
use Rattle.std.proofs.lemmas.List.Elements.{All-nil, All-cons}
use Rattle.maildrop.proofs.FileLemmas.{lines-last, lines-more}
use Rattle.script.specs.Beginnings.{IsLineEnd}

-- no byte is a line feed
pub record IsLast (bytes : List ℕ) : Type 0 where
  pub none : All (λ b. (b == 10) ≡ false) bytes
  pub taken : take_through 10 bytes ≡ bytes
  pub dropped : drop_through 10 bytes ≡ []

-- a line stands before the first line feed, and something after it
pub record IsFirst (bytes : List ℕ) : Type 0 where
  pub line : List ℕ
  pub rest : List ℕ
  pub none : All (λ b. (b == 10) ≡ false) line
  pub whole : bytes ≡ line ++ 10 ∷ rest
  pub taken : take_through 10 bytes ≡ line ++ 10 ∷ []
  pub dropped : drop_through 10 bytes ≡ rest

data Cut (bytes : List ℕ) : Type 0 where
  last : IsLast bytes → Cut bytes
  first : IsFirst bytes → Cut bytes

by_rest : (b : ℕ) (bytes : List ℕ) → (b == 10) ≡ false → Cut bytes → Cut (b ∷ bytes)
by_rest b bytes other (last it) = last (record {
  none = All-cons (λ b. (b == 10) ≡ false) b bytes other it.none;
  taken = ap (λ t. if t then b ∷ [] else b ∷ take_through 10 bytes) other ∙ ap (λ bs. b ∷ bs) it.taken;
  dropped = ap (λ t. if t then bytes else drop_through 10 bytes) other ∙ it.dropped;
})
by_rest b bytes other (first it) = first (record {
  line = b ∷ it.line;
  rest = it.rest;
  none = All-cons (λ b. (b == 10) ≡ false) b it.line other it.none;
  whole = ap (λ bs. b ∷ bs) it.whole;
  taken = ap (λ t. if t then b ∷ [] else b ∷ take_through 10 bytes) other ∙ ap (λ bs. b ∷ bs) it.taken;
  dropped = ap (λ t. if t then bytes else drop_through 10 bytes) other ∙ it.dropped;
})

at_line_feed : (b : ℕ) (bytes : List ℕ) → (b == 10) ≡ true → IsFirst (b ∷ bytes)
at_line_feed b bytes same = record {
  line = [];
  rest = bytes;
  none = All-nil (λ b. (b == 10) ≡ false);
  whole = ap (λ x. x ∷ bytes) (eqb-true b 10 same);
  taken = ap (λ t. if t then b ∷ [] else b ∷ take_through 10 bytes) same ∙ ap (λ x. x ∷ []) (eqb-true b 10 same);
  dropped = ap (λ t. if t then bytes else drop_through 10 bytes) same;
}

by_byte : (b : ℕ) (bytes : List ℕ) (t : Bool) → (b == 10) ≡ t → Cut bytes → Cut (b ∷ bytes)
by_byte b bytes true same rest = first (at_line_feed b bytes same)
by_byte b bytes false same rest = by_rest b bytes same rest

cut : (bytes : List ℕ) → Cut bytes
cut [] = last (record { none = All-nil (λ b. (b == 10) ≡ false); taken = refl; dropped = refl })
cut (b ∷ bytes) = by_byte b bytes (b == 10) refl (cut bytes)

-- a line with its line feed is the line and its end
record IsEnded (line : List ℕ) : Type 0 where
  pub end : List ℕ
  pub whole : line ++ 10 ∷ [] ≡ strip_carriage_return line ++ end
  pub ended : IsLineEnd end

some_byte : (line : List ℕ) → get_or line (length line - 1) 0 ≡ 13 → 0 < length line
some_byte [] is = absurd (omega (arith, is))
some_byte (b ∷ line) is = omega arith

by_return : (line : List ℕ) (t : Bool) → (slice_index line (length line - 1) == 13) ≡ t → IsEnded line
by_return line true is =
    let last : get_or line (length line - 1) 0 ≡ 13 = eqb-true _ 13 is in
    let some = some_byte line last in
    let count : length line ≡ length line - 1 + 1 = omega (arith, some) in
    let whole : line ≡ take (length line - 1) line ++ 13 ∷ [] =
    sym (take_all (length line) line (omega arith)) ∙ ap (λ n. take n line) count ∙ take_more line (length line - 1) 0 (omega (arith, some))
    ∙ ap (λ b. take (length line - 1) line ++ b ∷ []) last in
    record {
      end = 13 ∷ 10 ∷ [];
      whole =
          ap (λ l. l ++ 10 ∷ []) whole ∙ append_assoc (take (length line - 1) line) (13 ∷ []) (10 ∷ [])
          ∙ ap (λ t. (if t then take (length line - 1) line else line) ++ 13 ∷ 10 ∷ []) (sym is);
      ended = inr (inr refl);
    }
by_return line false is = record {
  end = 10 ∷ [];
  whole = ap (λ t. (if t then take (length line - 1) line else line) ++ 10 ∷ []) (sym is);
  ended = inr (inl refl);
}

-- what is taken is one line and its end, and the lines of all are this one and those of the rest
pub record IsOneLine (bytes : List ℕ) : Type 0 where
  pub line : List ℕ
  pub end : List ℕ
  pub whole : take_through 10 bytes ≡ line ++ end
  pub ended : IsLineEnd end
  pub taken : lines (take_through 10 bytes) ≡ line ∷ []
  pub all : lines bytes ≡ line ∷ lines (drop_through 10 bytes)

by_cut : (bytes : List ℕ) → 0 < length (take_through 10 bytes) → Cut bytes → IsOneLine bytes
by_cut bytes some (last it) =
    let there : 0 < length bytes = subst (λ bs. 0 < length bs) it.taken some in
    record {
      line = bytes;
      end = [];
      whole = it.taken ∙ sym (append-nil bytes);
      ended = inl refl;
      taken = ap lines it.taken ∙ lines-last bytes there it.none;
      all = lines-last bytes there it.none ∙ ap (λ bs. bytes ∷ lines bs) (sym it.dropped);
    }
by_cut bytes some (first it) =
    let ended = by_return it.line (slice_index it.line (length it.line - 1) == 13) refl in
    record {
      line = strip_carriage_return it.line;
      end = ended.end;
      whole = it.taken ∙ ended.whole;
      ended = ended.ended;
      taken = ap lines it.taken ∙ lines-more it.line [] it.none;
      all = ap lines it.whole ∙ lines-more it.line it.rest it.none ∙ ap (λ bs. strip_carriage_return it.line ∷ lines bs) (sym it.dropped);
    }

pub one_line : (bytes : List ℕ) → 0 < length (take_through 10 bytes) → IsOneLine bytes
one_line bytes some = by_cut bytes some (cut bytes)

append_some : (line : List ℕ) → line ++ 10 ∷ [] ≡ [] → ⊥
append_some [] none = absurd (cc none)
append_some (b ∷ line) none = absurd (cc none)

-- nothing is taken of nothing alone
by_last : (bytes : List ℕ) → take_through 10 bytes ≡ [] → Cut bytes → bytes ≡ []
by_last bytes none (last it) = sym it.taken ∙ none
by_last bytes none (first it) = absurd (append_some it.line (sym it.taken ∙ none))

pub nothing_left : (bytes : List ℕ) → take_through 10 bytes ≡ [] → bytes ≡ []
nothing_left bytes none = by_last bytes none (cut bytes)
