-- A replica whose answers were taken, beside one that keeps them.
use Rattle.std.specs.Prelude.{◌≡◌, [], Option, Some, None, ◌⊎◌}
use Rattle.replica.specs.Replicas.{Rules, ReplicaState}
use Rattle.replica.specs.Calls.{awaited_for, AreAnswers}

-- what is awaited here is what is awaited there, or an answer that was taken here
abbrev pub IsLeft : {R : Type 0} → Option (Option R) → Option (Option R) → Type 0
IsLeft here None = here ≡ None
IsLeft here (Some None) = here ≡ Some None
IsLeft here (Some (Some answer)) = (here ≡ Some (Some answer)) ⊎ (here ≡ None)

module _ {C I R M : Type 0} where
  abbrev pub but_awaited : ReplicaState C I R M → ReplicaState C I R M
  but_awaited r = record r { awaited = [] }

-- r is as s, but for the answers that were taken of r; both began with the machine `first`
pub record IsButTaken {C I R M : Type 0} (rules : Rules C I R M) (first : M) (r s : ReplicaState C I R M) : Type 0 where
  pub here : AreAnswers rules first r
  pub there : AreAnswers rules first s
  pub same : but_awaited r ≡ but_awaited s
  pub left : (i : I) → IsLeft (awaited_for rules i r) (awaited_for rules i s)
