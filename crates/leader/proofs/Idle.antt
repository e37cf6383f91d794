-- Calls of a leader, by what its fields say.
use Rattle.std.proofs.Common.{◌≡◌, ℕ, List, [], Bool, false, true, Option, Some, None, Ok, is_some, refl, sym, ap, ◌∙◌, if◌then◌else◌, option_map}
use Rattle.std.proofs.lemmas.Bool.{true≢false}
use Rattle.ballot.specs.declared.message.Vote.{Vote}
use Rattle.ballot.specs.declared.outgoing.Outgoing.{Outgoing}
use Rattle.leader.specs.declared.state.State.{State}
use Rattle.leader.specs.declared.state.Phase as rust
use Rattle.leader.specs.declared.state.Phase.TheVariants as doing
use Rattle.ballot.specs.Slots.{at_slot}
use Rattle.ballot.specs.Sends.{Move, stays}
use Rattle.leader.proofs.Parts.{with_proposal, proposed_at, hears_vote_in}
use Rattle.leader.specs.Leaders.{IsMoved, LeaderState, keeps_proposal, proposed, hears_vote}
use Rattle.leader.specs.States.{phase_of, state_of}

-- a leader that isn't spent is its state
pub unspent : {S : Type 0} (spent : Bool) (s l : S) (now : Option S) → spent ≡ false → (if spent then None else Some s) ≡ now → now ≡ Some l → s ≡ l
unspent true s l now e view is = absurd (true≢false e)
unspent false s l now e view is = cc

fresh : {S : Type 0} (spent : Bool) (s : S) (now : Option S) → spent ≡ false → (if spent then None else Some s) ≡ now → now ≡ Some s
fresh true s now e view = absurd (true≢false e)
fresh false s now e view = sym view

it_is : {S : Type 0} (s r : S) (now : Option S) → now ≡ Some s → now ≡ Some r → s ≡ r
it_is s r now is was = let same : Some s ≡ Some r = sym is ∙ was in cc

-- a call of a leader that isn't spent is its move
module _ {C A : Type 0} where
  pub moved : (move : LeaderState C → Move (LeaderState C) C A) (spent : Bool) (l new : LeaderState C) (now : Option (LeaderState C)) (sends : List (Outgoing C A))
      → spent ≡ false → (if spent then None else Some l) ≡ now → new ≡ (move l).after → sends ≡ (move l).sends → IsMoved move now (Some new) (Ok sends)
  moved move spent l new now sends e view after sent =
      let is : now ≡ Some l = fresh spent l now e view in
      record {
        leader = ap Some after ∙ sym (ap (option_map (λ x. (move x).after)) is);
        sends = λ x was. sent ∙ ap (λ y. (move y).sends) (it_is l x now is was);
        spent = λ none. absurd (let no : None ≡ Some l = sym none ∙ is in cc);
        err = tt;
      }

module _ {C A : Type 0} where
  -- no commander waits
  abbrev pub IsIdle : rust.Phase C A → Type 0
  IsIdle (doing.Active ks) = ⊥
  IsIdle _ = Unit {0}

  pub vote_idle : (s : State C A) (from : ℕ) (v : Vote) → IsIdle s.phase → hears_vote {A = A} (state_of s) from v ≡ stays (state_of s)
  vote_idle s from v =
      go s.phase
    where
      go : (phase : rust.Phase C A) → IsIdle phase → hears_vote_in {A = A} (state_of s) from v (phase_of phase) ≡ stays (state_of s)
      go doing.Passive h = refl
      go (doing.Scouting scout) h = refl
      go (doing.Active ks) h = absurd h
      go doing.Over h = refl

  free : (s : State C A) (slot : ℕ) (c : C) → is_some (at_slot slot s.proposals.entries) ≡ false → proposed {A = A} (state_of s) slot c ≡ keeps_proposal (state_of s) slot c (phase_of s.phase)
  free s slot c =
      go (at_slot slot s.proposals.entries)
    where
      go : (o : Option C) → is_some o ≡ false → proposed_at {A = A} (state_of s) slot c o ≡ keeps_proposal (state_of s) slot c (phase_of s.phase)
      go None e = refl
      go (Some d) e = absurd (true≢false e)

  pub proposed_idle : (s : State C A) (slot : ℕ) (c : C) → is_some (at_slot slot s.proposals.entries) ≡ false → IsIdle s.phase →
      proposed {A = A} (state_of s) slot c ≡ record { after = with_proposal (state_of s) slot c (phase_of s.phase); sends = [] }
  proposed_idle s slot c none idle =
      free s slot c none ∙ go s.phase idle
    where
      go : (phase : rust.Phase C A) → IsIdle phase →
          keeps_proposal {A = A} (state_of s) slot c (phase_of phase) ≡ record { after = with_proposal (state_of s) slot c (phase_of phase); sends = [] }
      go doing.Passive h = refl
      go (doing.Scouting scout) h = refl
      go (doing.Active ks) h = absurd h
      go doing.Over h = refl

  pub not_active : (phase : rust.Phase C A) → ((ks : _) → phase ≡ doing.Active ks → ⊥) → IsIdle phase
  not_active doing.Passive h = tt
  not_active (doing.Scouting scout) h = tt
  not_active (doing.Active ks) h = h ks refl
  not_active doing.Over h = tt
