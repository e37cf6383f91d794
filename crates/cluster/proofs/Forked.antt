-- What `map_vec` makes of each job, in the order of the jobs.
use Rattle.std.proofs.Common.{◌≡◌, refl, ℕ, suc, ◌<◌, List, [], ◌∷◌, length, subst, slice_index_or}
use Rattle.std.specs.List.{AllZip}
use Rattle.std.specs.Fork.{GivesJobs}
use Rattle.std.specs.Fn.{FnReturns}
use denote.Param.Members.{Shared}
use native.Mathlib.Omega.{arith}

module _ {F J R : Type 0} (g : Shared F (J × Unit {0}) R) (f : F) (P : J → R → Type 0) (said : (j : J) (r : R) → FnReturns g f (j, tt) r → P j r) where
  pub zip_of_jobs : (js : List J) (rs : List R) → length rs ≡ length js → GivesJobs g f js rs → AllZip P js rs
  zip_of_jobs [] [] len gives = tt
  zip_of_jobs [] (r ∷ rs) len gives = absurd (omega (arith, len))
  zip_of_jobs (j ∷ js) [] len gives = absurd (omega (arith, len))
  zip_of_jobs (j ∷ js) (r ∷ rs) len gives =
      let first = (gives 0 r (omega arith)).1 in (
        subst (λ x. P x r) first.job_read (said first.job r first.call),
        zip_of_jobs js rs (omega (arith, len)) (λ i d below. let next = (gives (suc i) d (omega arith)).1 in
            (refl, record { job = next.job; job_read = next.job_read; job_is = next.job_is; call = next.call })),
      )
