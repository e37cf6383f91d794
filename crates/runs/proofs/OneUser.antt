-- All that a client's lines ask for is for one user, whatever is answered.
use Rattle.std.proofs.Common.{◌≡◌, ◌⊎◌, ℕ, ◌+◌, Bool, true, false, List, [], ◌∷◌, refl, sym, ap, ◌∙◌, subst, inl, inr, ⊎_elim}
use Rattle.std.specs.Prelude.{is_some}
use Rattle.apop.specs.Accounts.{Account}
use Rattle.apop.specs.Login.{account_named}
use Rattle.apop.specs.Stamp.{Stamp}
use Rattle.pop3_wire.specs.declared.line.Line.{Line}
use Rattle.session.specs.Asking.{AreFor, AreForOneUser}
use Rattle.session.specs.Conversation.{Answer, Request, Rest, after_asked, after_heard, conversation_from}
use Rattle.session.specs.Session.{opening, takes_line, by_line}
use Rattle.session.specs.declared.state.State.{State}
use Rattle.session.specs.declared.state.Step.{Step}
use Rattle.session.specs.declared.state.Step.TheVariants.{Say, Ask, SayAndClose}
use Rattle.session.specs.declared.state.Turn.{Turn}
use Rattle.session.proofs.Users.{user_asked}
use Rattle.runs.specs.Clients.{Client}
use Rattle.runs.specs.Projection.{asked_by, HasOneUser}
use Rattle.runs.specs.declared.config.Config.{Config}

module _ {A : Type 0} where
  -- whatever the answers, nothing is asked, or this is asked first
  abbrev BeginsAlike : (List (Answer A) → List (Request A)) → Type 0
  BeginsAlike asked =
      ((answers : List (Answer A)) → asked answers ≡ [])
      ⊎ ((request : Request A) × ((answers : List (Answer A)) → (more : List (Request A)) × (asked answers ≡ request ∷ more)))

  line_begins : (rest : Rest A) (number : ℕ) (state : State A) → BeginsAlike (λ answers. (rest state answers).asked) → (step : Step A) → BeginsAlike (λ answers. (after_heard rest number state answers step).asked)
  line_begins rest number state begins (Say bytes) = begins
  line_begins rest number state begins (SayAndClose bytes) = begins
  line_begins rest number state begins (Ask user op) = inr (record { line = number; user = user; op = op }, λ answers. ((after_asked rest state answers).asked, refl))

  begins : (accounts : List Account) (stamp : Stamp) (number : ℕ) (lines : List Line) (state : State A) → BeginsAlike (λ answers. (conversation_from accounts stamp number lines state answers).asked)
  begins accounts stamp number [] state = inl (λ answers. refl)
  begins accounts stamp number (line ∷ lines) state =
      let turn : Turn A = by_line accounts stamp state line in
      go (takes_line state) refl (line_begins (conversation_from accounts stamp (number + 1) lines) number turn.state (begins accounts stamp (number + 1) lines turn.state) turn.step)
    where
      go : (t : Bool) → takes_line state ≡ t →
          BeginsAlike (λ answers. (after_heard (conversation_from accounts stamp (number + 1) lines) number (by_line accounts stamp state line).state answers (by_line accounts stamp state line).step).asked) →
          BeginsAlike (λ answers. (conversation_from accounts stamp number (line ∷ lines) state answers).asked)
      go true e h = rw e h
      go false e h = rw e (inl (λ answers. refl))

  pub one_user : (cfg : Config A) (c : Client A) → HasOneUser cfg c
  one_user cfg c =
      ⊎_elim
      (λ none. inl none)
      (λ first. inr (known first))
      (begins cfg.accounts c.stamp 0 c.lines opening)
    where
      -- of requests for one user the first tells the user
      told_first : (request : Request A) (more xs : List (Request A)) → xs ≡ request ∷ more → AreForOneUser cfg.accounts xs → (is_some (account_named cfg.accounts request.user) ≡ true) × AreFor request.user xs
      told_first request more [] e h = absurd (cc)
      told_first request more (x ∷ xs) e h =
          let same : x ≡ request = cc in
          ⊎_elim
          (λ none. absurd (cc))
          (λ found.
          let user : found.0 ≡ request.user = sym found.2.0 ∙ ap (λ r. r.user) same in
          (subst (λ u. is_some (account_named cfg.accounts u) ≡ true) user found.1, subst (λ u. AreFor u (x ∷ xs)) user found.2))
          h

      known : ((request : Request A) × ((answers : List (Answer A)) → (more : List (Request A)) × (asked_by cfg c answers ≡ request ∷ more))) →
          (user : List ℕ) × (is_some (account_named cfg.accounts user) ≡ true) × ((answers : List (Answer A)) → AreFor user (asked_by cfg c answers))
      known first =
          let at = λ (answers : List (Answer A)). told_first first.0 (first.1 answers).0 (asked_by cfg c answers) (first.1 answers).1 (user_asked cfg.accounts c.stamp c.lines answers) in
          (first.0.user, (at []).0, λ answers. (at answers).1)
