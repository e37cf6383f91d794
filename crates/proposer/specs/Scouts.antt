-- Scouts. Commands are compared by eq.
use Rattle.std.specs.Prelude.{◌≡◌, refl, ℕ, List, [], ◌∷◌, Bool, true, false, Some}
use Rattle.std.specs.Option.{option_map_or}
use Rattle.ballot.specs.Ballots.{BallotNumber, same_ballot}
use Rattle.ballot.specs.Lists.{IsIn}
use Rattle.ballot.specs.Nodes.{in_cluster, is_among, AreDistinct, IsMajority}
use Rattle.ballot.specs.PValues.{joined}
use Rattle.ballot.specs.declared.pvalue.PValue.{PValue}
use Rattle.ballot.specs.declared.message.Promise.{Promise}
use Rattle.proposer.specs.declared.scout.Progress.{Progress}
use Rattle.proposer.specs.declared.scout.Progress.TheVariants.{Waiting, Adopted, Preempted, Stale}
use Rattle.proposer.specs.Quorums.{Pending, Step, Waits, Wins, Yields, Ignores, left_by, counted_if_due}

-- a scout that waits: its ballot, the acceptors counted, the last first, and the union of what they have accepted
pub record ScoutState (C : Type 0) : Type 0 where
  pub ballot : BallotNumber
  pub heard : List ℕ
  pub pvalues : List (PValue C)

module _ {C : Type 0} where
  -- it has counted none
  abbrev pub new_scout : BallotNumber → ScoutState C
  new_scout b = record { ballot = b; heard = []; pvalues = [] }

module _ {C A : Type 0} where
  -- a scout that waits hears a promise
  abbrev pub scout_hears : (C → C → Bool) → ℕ → ScoutState C → ℕ → Promise C A → Step (ScoutState C) (List (PValue C))
  scout_hears eq size s from p =
      let now : ScoutState C = record s { heard = from ∷ s.heard; pvalues = joined eq s.pvalues p.accepted } in
      counted_if_due size s.ballot s.heard from (same_ballot p.asked s.ballot) p.ballot now now.pvalues

  -- a promise that comes after the end changes nothing
  abbrev pub scout_step : (C → C → Bool) → Pending (ScoutState C) → ℕ → Promise C A → Step (ScoutState C) (List (PValue C))
  scout_step eq scout from p = option_map_or (λ s. scout_hears eq scout.size s from p) scout.state Ignores

  -- what the scout answers
  abbrev pub progress_of : Step (ScoutState C) (List (PValue C)) → Progress C A
  progress_of (Waits s) = Waiting
  progress_of (Wins ps) = Adopted ps
  progress_of (Yields b) = Preempted b
  progress_of Ignores = Stale

  abbrev pub is_adopted : Progress C A → Bool
  is_adopted (Adopted ps) = true
  is_adopted _ = false

  -- the answer is counted: an acceptor of the cluster that wasn't counted answers the scout's ballot
  abbrev pub IsCounted : ℕ → ScoutState C → ℕ → Promise C A → Type 0
  IsCounted size s from p =
      (in_cluster size from ≡ true) × (p.asked ≡ s.ballot) × (p.ballot ≡ s.ballot) × (is_among from s.heard ≡ false)

  -- the scout after these answers, each with its sender
  abbrev pub scout_after : (C → C → Bool) → Pending (ScoutState C) → List (ℕ × Promise C A) → Pending (ScoutState C)
  scout_after eq scout [] = scout
  scout_after eq scout (a ∷ answers) = scout_after eq (record { size = scout.size; state = left_by scout.state (scout_step eq scout a.0 a.1) }) answers

  -- these answers of the acceptors that s counts: each is of the cluster, none is counted twice, each promised b in one of them, and s holds what
  -- those promises told and nothing else
  pub record HasPromises (answers : List (ℕ × Promise C A)) (size : ℕ) (b : BallotNumber) (s : ScoutState C) : Type 0 where
    pub mine : s.ballot ≡ b
    pub distinct : AreDistinct size s.heard
    pub promised : (node : ℕ) → is_among node s.heard ≡ true →
        (p : Promise C A) × IsIn (node, p) answers × (p.asked ≡ b) × (p.ballot ≡ b) × ((x : PValue C) → IsIn x p.accepted → IsIn x s.pvalues)
    pub told : (x : PValue C) → IsIn x s.pvalues →
        (node : ℕ) × (p : Promise C A) × IsIn (node, p) answers × (is_among node s.heard ≡ true) × (p.asked ≡ b) × (p.ballot ≡ b) × IsIn x p.accepted

  -- a majority has promised b in these answers, and the pvalues are those that it told
  abbrev pub IsAdoption : List (ℕ × Promise C A) → ℕ → BallotNumber → List (PValue C) → Type 0
  IsAdoption answers size b ps = (s : ScoutState C) × (s.pvalues ≡ ps) × HasPromises answers size b s × IsMajority size (λ node. is_among node s.heard)

-- a worked example: the scout for (0, 1) yields to (0, 2)
yields : {C A : Type 0} (eq : C → C → Bool) →
    progress_of {A = A} (scout_step eq (record { size = 3; state = Some (new_scout (record { round = 0; leader = 1 })) }) 2
    (let p : Promise C A = record { asked = record { round = 0; leader = 1 }; ballot = record { round = 0; leader = 2 }; accepted = [] } in p))
    ≡ Preempted (record { round = 0; leader = 2 })
yields eq = refl
