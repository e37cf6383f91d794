-- Writing items one after another, and what is written.
use Rattle.std.proofs.Common.{◌≡◌, ℕ, ◌<◌, ◌≤◌, List, ◌∷◌, ◌++◌, length, take, Some, None, Ok, sym, ap, ◌∙◌, append_assoc, arith}
use Rattle.std.specs.List.{flat_map}
use Rattle.std.proofs.lemmas.List.{length-append}
use Rattle.std.proofs.lemmas.List.Concat.{flat_map-cons}
use Rattle.peer_frames.specs.declared.version.Version.TheVariants.{Second}
use Rattle.peer_frames.specs.Numbers.{longest}
use Rattle.peer_frames.specs.Frames.{content, frame}
use Rattle.peer_frames.specs.Reading.{frame_at}
use Rattle.peer_frames.specs.Fitting.{FitsEnvelope}
use Rattle.peer_frames.proofs.WholeFrames.{E, frame_again, prefix_is_none}

pub next_written : {X : Type 0} (f : X → List ℕ) (done : List ℕ) (x : X) (rest items : List X) (total : List ℕ) → items ≡ x ∷ rest → done ++ flat_map f items ≡ total → (done ++ f x) ++ flat_map f rest ≡ total
next_written f done x rest items total is so_far =
    append_assoc done (f x) (flat_map f rest) ∙ ap (λ (t : List ℕ). done ++ t) (sym (flat_map-cons f x rest) ∙ ap (flat_map f) (sym is)) ∙ so_far

pub next_size : {X : Type 0} (f : X → List ℕ) (x : X) (rest items : List X) (total : ℕ) → items ≡ x ∷ rest → length (flat_map f items) ≤ total → length (flat_map f rest) ≤ total
next_size f x rest items total is so_far =
    omega (arith, ap (λ xs. length (flat_map f xs)) is, ap length (flat_map-cons f x rest), length-append (f x) (flat_map f rest))

pub read_back : {A : Type 0} (e : E A) (bytes : List ℕ) → bytes ≡ frame Second e → FitsEnvelope Second e → length (content Second e) ≤ longest → (rest : List ℕ) → frame_at (bytes ++ rest) ≡ Ok (Some (e, length bytes))
read_back e bytes is fits small rest = rw is (frame_again Second e rest fits small)

pub not_in_part : {A : Type 0} (e : E A) (bytes : List ℕ) → bytes ≡ frame Second e → FitsEnvelope Second e → length (content Second e) ≤ longest → (k : ℕ) → k < length bytes → frame_at {A = A} (take k bytes) ≡ Ok None
not_in_part e bytes is fits small k short = rw is (prefix_is_none Second e k fits small (rw is at short))
