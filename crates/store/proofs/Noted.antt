-- What was read of a segment under a note, and without one.
use Rattle.std.proofs.Common.{◌≡◌, ℕ, List, None, Ok, Err, sym, subst}
use Rattle.std.specs.Prelude.{IfOk, Result}
use Rattle.store.specs.Loading.{IsSegment}
use Rattle.store.specs.declared.loading.Loaded.{Loaded}

pub if_ok : {X E : Type 0} {P Q : X → Type 0} (r : Result X E) → ((x : X) → P x → Q x) → IfOk r P → IfOk r Q
if_ok (Ok x) f h = f x h
if_ok (Err e) f h = tt

pub if_both : {X E : Type 0} {P Q R : X → Type 0} (r : Result X E) → ((x : X) → P x → Q x → R x) → IfOk r P → IfOk r Q → IfOk r R
if_both (Ok x) f p q = f x p q
if_both (Err e) f p q = tt

-- no epoch goes on in it, and it is the same segment
pub unnoted_segment : (number : ℕ) (bytes : List ℕ) (l other : Loaded) → other ≡ record l { clean = None } → IsSegment number bytes l → IsSegment number bytes other
unnoted_segment number bytes l other is s = subst (IsSegment number bytes) (sym is) (record {
  payloads = s.payloads;
  read = s.read;
  undamaged = s.undamaged;
  dropped_is = s.dropped_is;
  within = s.within;
  taken = s.taken;
  number_is = s.number_is;
})
