-- What an office of one user answers is what the user's maildrop alone answers.
use Rattle.std.proofs.Common.{◌≡◌, ℕ, ◌+◌, ◌<◌, Bool, true, false, List, [], ◌∷◌, ◌++◌, length, Option, Some, None, refl, ap, sym, ◌∙◌, append_assoc, arith, inl, inr, subst, length-append}
use Rattle.std.specs.Prelude.{IfSome, is_some, ⊤}
use Rattle.std.specs.List.{concat}
use Rattle.std.specs.Str.{bytes_eq}
use Rattle.std.specs.Io.KnownBytes.{Appends}
use Rattle.std.specs.declared.alloc.Global.{Global}
use Rattle.std.proofs.lemmas.Slice.Eq.{bytes_eq-Decides}
use Rattle.std.proofs.lemmas.Bool.Decides.{nat_tests}
use Rattle.maildrop.specs.Limits.{Limits}
use Rattle.maildrop.specs.Ticket.{same_ticket}
use Rattle.maildrop.specs.Maildrop.{Maildrop, empty_maildrop}
use Rattle.maildrop.specs.Office.{User, new_user, maildrop_of, maildrop_after, maildrop_after_all, outcome_at, outcome_in, users_after}
use Rattle.maildrop.specs.declared.command.Command.{Command}
use Rattle.maildrop.proofs.Isolation.{maildrop_of-own}
use Rattle.apop.specs.Stamp.{Stamp}
use Rattle.apop.specs.Accounts.{Account}
use Rattle.apop.specs.Login.{account_named}
use Rattle.pop3_wire.specs.Lines.{lines_of}
use Rattle.session.specs.Conversation.{Request, conversation}
use Rattle.session.specs.Asking.{AreFor, AreForOneUser}
use Rattle.session.specs.Alone.{outcome_of, answers_for}
use Rattle.session.proofs.Users.{user_asked}
use Rattle.server.specs.Tickets.{ticket_of}
use Rattle.server.specs.Options.{account_of, stamp_of, lone_limits}
use Rattle.server.specs.Lone.{commands_from, mails_from, tickets_of, lone_maildrop, IsLoneSession}
use Rattle.server.specs.Served.{answers_in, users_after_all, IsSessionOf, IsMailed}
use Rattle.server.specs.declared.lone_desk.LoneDesk.{LoneDesk}
use Rattle.server.specs.declared.options.LoneOptions.{LoneOptions}

-- tickets of different numbers differ
other-ticket : (a b : ℕ) → a < b → same_ticket (ticket_of a) (ticket_of b) ≡ false
other-ticket a b below = grind (arith, nat_tests, below)

own-ticket : (a : ℕ) → same_ticket (ticket_of a) (ticket_of a) ≡ true
own-ticket a = grind (arith, nat_tests)

-- an account of another name is not found
unknown : (account : Account) (name : List ℕ) → bytes_eq account.name name ≡ false → is_some (account_named (account ∷ []) name) ≡ true → ⊥
unknown account name other known = let none = rw other at known in absurd (cc)

pub same_bytes : (bytes : List ℕ) → bytes_eq bytes bytes ≡ true
same_bytes bytes = (bytes_eq-Decides bytes bytes).1 refl

-- a table of one user has that user's maildrop
pub new_maildrop : {A : Type 0} (limits : Limits) (user : List ℕ) → maildrop_of {A = A} user (new_user limits user ∷ []) ≡ Some (empty_maildrop limits)
new_maildrop limits user = rw (same_bytes user) refl

module _ {A : Type 0} where
  -- the user's commands under the tickets from a number on
  abbrev AreNumbered : List ℕ → ℕ → List (Command A) → Type 0
  AreNumbered user number [] = ⊤
  AreNumbered user number (c ∷ cs) = (c.user ≡ user) × (c.ticket ≡ ticket_of number) × AreNumbered user (number + 1) cs

  numbered-join : (user : List ℕ) (number : ℕ) (xs ys : List (Command A)) → AreNumbered user number xs → AreNumbered user (number + length xs) ys → AreNumbered user number (xs ++ ys)
  numbered-join user number [] ys first second = let same : number + 0 ≡ number = omega arith in subst (λ n. AreNumbered user n ys) same second
  numbered-join user number (x ∷ xs) ys first second =
      let same : number + length (x ∷ xs) ≡ (number + 1) + length xs = omega arith in
      (first.0, first.1, numbered-join user (number + 1) xs ys first.2 (subst (λ n. AreNumbered user n ys) same second))

  numbered-asked : (user : List ℕ) (number : ℕ) (requests : List (Request A)) → AreFor user requests → AreNumbered user number (commands_from number requests)
  numbered-asked user number [] for = tt
  numbered-asked user number (request ∷ requests) for = (for.0, refl, numbered-asked user (number + 1) requests for.1)

  -- the user's maildrop after the user's commands
  own-after : (user : List ℕ) (users : List (User A)) (number : ℕ) (front : List (Command A)) → AreNumbered user number front → maildrop_of user (users_after_all users front) ≡ maildrop_after_all (maildrop_of user users) front
  own-after user users number [] numbered = refl
  own-after user users number (c ∷ cs) numbered =
      let one : maildrop_of user (users_after users c) ≡ maildrop_after (maildrop_of user users) c = subst (λ u. maildrop_of u (users_after users c) ≡ maildrop_after (maildrop_of u users) c) numbered.0 (maildrop_of-own users c) in
      own-after user (users_after users c) (number + 1) cs numbered.2 ∙ ap (λ maildrop. maildrop_after_all maildrop cs) one

  -- a command is found by its ticket after others of lower numbers
  outcome-there : (user : List ℕ) (maildrop : Option (Maildrop A)) (number : ℕ) (front rest : List (Command A)) (c : Command A) → AreNumbered user number front → c.ticket ≡ ticket_of (number + length front)
      → outcome_of maildrop c.ticket (front ++ c ∷ rest) ≡ Some (outcome_at (maildrop_after_all maildrop front) c)
  outcome-there user maildrop number [] rest c numbered ticketed =
      let same : same_ticket c.ticket c.ticket ≡ true = subst (λ t. same_ticket t t ≡ true) (sym ticketed) (own-ticket (number + 0)) in
      rw same refl
  outcome-there user maildrop number (d ∷ ds) rest c numbered ticketed =
      let place : number + length (d ∷ ds) ≡ (number + 1) + length ds = omega arith in
      let later : number < number + length (d ∷ ds) = omega arith in
      let other : same_ticket d.ticket c.ticket ≡ false = rw (numbered.1, ticketed) (other-ticket number (number + length (d ∷ ds)) later) in
      rw other (outcome-there user (maildrop_after maildrop d) (number + 1) ds rest c numbered.2 (ticketed ∙ ap ticket_of place))

  users-append : (users : List (User A)) (front more : List (Command A)) → users_after_all users (front ++ more) ≡ users_after_all (users_after_all users front) more
  users-append users [] more = refl
  users-append users (c ∷ cs) more = users-append (users_after users c) cs more

  -- what the office answers is what the maildrop alone answers
  answers-alone : (user : List ℕ) (users : List (User A)) (number : ℕ) (front cs : List (Command A)) → AreNumbered user number front → AreNumbered user (number + length front) cs
      → answers_in (users_after_all users front) cs ≡ answers_for (maildrop_of user users) (front ++ cs) (tickets_of cs)
  answers-alone user users number front [] numbered more = refl
  answers-alone user users number front (c ∷ cs) numbered more =
      let after = users_after_all users front in
      let alone = maildrop_of user users in
      let first : outcome_in after c ≡ outcome_at (maildrop_after_all alone front) c =
      ap (λ u. outcome_at (maildrop_of u after) c) more.0 ∙ ap (λ maildrop. outcome_at maildrop c) (own-after user users number front numbered) in
      let found = outcome-there user alone number front cs c numbered more.1 in
      let one : AreNumbered user (number + length front) (c ∷ []) = (more.0, more.1, tt) in
      let place : (number + length front) + 1 ≡ number + length (front ++ c ∷ []) = omega (arith, length-append front (c ∷ [])) in
      let rest = answers-alone user users number (front ++ c ∷ []) cs (numbered-join user number front (c ∷ []) numbered one) (subst (λ n. AreNumbered user n cs) place more.2) in
      let moved : users_after_all users (front ++ c ∷ []) ≡ users_after after c = users-append users front (c ∷ []) in
      let behind : answers_in (users_after after c) cs ≡ answers_for alone (front ++ c ∷ cs) (tickets_of cs) =
      ap (λ us. answers_in us cs) (sym moved) ∙ rest ∙ ap (λ own. answers_for alone own (tickets_of cs)) (append_assoc front (c ∷ []) cs) in
      rw (found, first, behind) refl

  -- of one account all is asked for its user
  for-its-user : (account : Account) (requests : List (Request A)) → AreForOneUser (account ∷ []) requests → AreFor account.name requests
  for-its-user account requests (inl none) = rw none tt
  for-its-user account requests (inr one) =
      let go : (test : Bool) → bytes_eq account.name one.0 ≡ test → account.name ≡ one.0 = λ test. elim test as (λ t. bytes_eq account.name one.0 ≡ t → account.name ≡ one.0) [
        | true ↦ λ same. (bytes_eq-Decides account.name one.0).0 same
        | false ↦ λ other. let known = one.1 in absurd (unknown account one.0 other known)
      ] in
      subst (λ u. AreFor u requests) (sym (go (bytes_eq account.name one.0) refl)) one.2

numbered-mails : (A : Type 0) (user : List ℕ) (number : ℕ) (texts : List (List (List ℕ))) → AreNumbered {A = A} user number (mails_from number user texts)
numbered-mails A user number [] = tt
numbered-mails A user number (text ∷ texts) = (refl, refl, numbered-mails A user (number + 1) texts)

length-mails : (A : Type 0) (user : List ℕ) (number : ℕ) (texts : List (List (List ℕ))) → length (mails_from {A = A} number user texts) ≡ length texts
length-mails A user number [] = refl
length-mails A user number (text ∷ texts) = let rest = length-mails A user (number + 1) texts in omega (arith, rest)

-- the session of a lone run is that of a server that has the user's maildrop alone
pub lone_session : (options : LoneOptions) (desk : LoneDesk Global) (user : List ℕ) (accounts : List Account) (stamp : Stamp) (input written : List ℕ)
    → user ≡ options.user.now → accounts ≡ account_of options ∷ [] → stamp ≡ stamp_of options → IsMailed user options desk → IsSessionOf {A = Global} accounts stamp desk.next desk.office input written
    → IsLoneSession Global options input written
lone_session options desk user accounts stamp input written named known stamped mailed session =
    let texts = mailed.texts in
    let name = options.user.now in
    let mails : List (Command Global) = mails_from 1 name texts in
    let users : List (User Global) = new_user lone_limits name ∷ [] in
    let account = account_of options in
    let own = session.own in
    let asked = (conversation accounts stamp (lines_of input) (answers_in desk.office own)).asked in
    let next : desk.next ≡ 1 + length texts = mailed.next in
    let commanded : own ≡ commands_from (1 + length texts) asked = session.asked ∙ ap (λ n. commands_from n asked) next in
    let office : desk.office ≡ users_after_all users mails = mailed.office ∙ ap (λ u. users_after_all {A = Global} (new_user lone_limits u ∷ []) (mails_from 1 u texts)) named in
    let asks_for : AreFor account.name asked = for-its-user account asked (subst (λ accounts. AreForOneUser accounts asked) known (user_asked accounts stamp (lines_of input) (answers_in desk.office own))) in
    let size : 1 + length texts ≡ 1 + length mails = ap (λ n. 1 + n) (sym (length-mails Global name 1 texts)) in
    let numbered : AreNumbered name (1 + length mails) own = subst (λ commands. AreNumbered name (1 + length mails) commands) (sym commanded) (subst (λ n. AreNumbered name n (commands_from (1 + length texts) asked)) size (numbered-asked name (1 + length texts) asked asks_for)) in
    let answers : answers_in desk.office own ≡ answers_for (lone_maildrop Global) (mails ++ own) (tickets_of own) =
    ap (λ users. answers_in users own) office ∙ answers-alone name users 1 mails own (numbered-mails Global name 1 texts) numbered
    ∙ ap (λ maildrop. answers_for maildrop (mails ++ own) (tickets_of own)) (new_maildrop lone_limits name) in
    let whole : conversation accounts stamp (lines_of input) (answers_in desk.office own) ≡ conversation (account ∷ []) (stamp_of options) (lines_of input) (answers_for (lone_maildrop Global) (mails ++ own) (tickets_of own)) =
    rw (answers, known, stamped) refl in
    record {
      texts = texts;
      stored = mailed.stored;
      asked = asked;
      mails = mails;
      mailed = refl;
      own = own;
      commanded = commanded;
      asks = ap (λ c. c.asked) whole;
      replied = session.replied ∙ ap (λ c. concat c.replies) whole;
    }

pub written_alone : (options : LoneOptions) (desk : LoneDesk Global) (user : List ℕ) (accounts : List Account) (stamp : Stamp) (remaining contents contents2 : Option (List ℕ))
    → user ≡ options.user.now → accounts ≡ account_of options ∷ [] → stamp ≡ stamp_of options → IsMailed user options desk
    → IfSome remaining (λ input. (written : List ℕ) × IsSessionOf {A = Global} accounts stamp desk.next desk.office input written × Appends contents contents2 written)
    → IfSome remaining (λ input. (written : List ℕ) × IsLoneSession Global options input written × Appends contents contents2 written)
written_alone options desk user accounts stamp None contents contents2 named known stamped mailed written = tt
written_alone options desk user accounts stamp (Some input) contents contents2 named known stamped mailed written =
    (written.0, lone_session options desk user accounts stamp input written.0 named known stamped mailed written.1, written.2)
