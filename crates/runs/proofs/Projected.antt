-- What a served client was told is a prefix of what a lone server says.
use Rattle.std.proofs.Common.{◌≡◌, ℕ, List, [], ◌∷◌, ◌++◌, Some, refl, sym, ap, ◌∙◌, subst}
use Rattle.std.specs.List.{concat}
use Rattle.std.specs.Option.{option_map_or}
use Rattle.maildrop.specs.declared.command.Command.{Command}
use Rattle.apop.specs.Accounts.{Account}
use Rattle.apop.specs.Stamp.{Stamp}
use Rattle.node.specs.declared.log.NodeLog.{NodeLog}
use Rattle.session.specs.Alone.{answers_for, replies_alone}
use Rattle.session.specs.Asking.{AreFor}
use Rattle.session.specs.Conversation.{Answer, conversation}
use Rattle.session.specs.Prefix.{IsPrefix}
use Rattle.session.proofs.Calls.{talk_conversation}
use Rattle.session.proofs.Longer.{replies_longer}
use Rattle.runs.specs.Clients.{Client, client_of}
use Rattle.runs.specs.Messages.{log_of}
use Rattle.runs.specs.Projection.{AreComparable, decided, own_commands, alone_bytes, IsProjected, Agree, asked_by, AreSubmitted, AreDecidedAsAsked, HasTickets}
use Rattle.node.specs.Outcomes.{first_maildrop, own_of}
use Rattle.runs.specs.Services.{Service, Happening, opening_of, run_of}
use Rattle.runs.specs.declared.config.Config.{Config}
use Rattle.runs.proofs.Prefixes.{prefix_on, concat_prefix, shorter, common}
use Rattle.runs.proofs.Sessions.{IsServed, AreOwn, tickets_in, tickets_front}
use Rattle.runs.proofs.AsAsked.{as_asked}
use Rattle.runs.proofs.ServiceRuns.{AreOfRun}
use Rattle.runs.proofs.Serving.{every_service}

-- prefixes
same_bytes : {M : Type 0} (accounts accounts2 : List Account) (maildrop maildrop2 : M) (stamp stamp2 : Stamp) → accounts ≡ accounts2 → maildrop ≡ maildrop2 → stamp ≡ stamp2 →
    (f : List Account → M → Stamp → List ℕ) → f accounts maildrop stamp ≡ f accounts2 maildrop2 stamp2
same_bytes accounts accounts2 maildrop maildrop2 stamp stamp2 a l s f =
    ap (λ x. f x maildrop stamp) a ∙ ap (λ x. f accounts2 x stamp) l ∙ ap (λ x. f accounts2 maildrop2 x) s

module _ {A : Type 0} where
  -- the answers that a client took are those of the lone server
  own_answers : (cfg : Config A) (order : List (ℕ × Command A)) (user : List ℕ) (answers : List (Answer A)) → AreOwn cfg order user answers →
      answers_for (first_maildrop (opening_of cfg) user) (own_of user order) (tickets_in answers) ≡ answers
  own_answers cfg order user [] h = refl
  own_answers cfg order user (a ∷ answers) h =
      ap (λ found. option_map_or (λ outcome. record { ticket = a.ticket; outcome = outcome } ∷ answers_for (first_maildrop (opening_of cfg) user) (own_of user order) (tickets_in answers)) found []) h.0
      ∙ ap (λ rest. a ∷ rest) (own_answers cfg order user answers h.1)

  module _ (cfg : Config A) (w : Service A) (log : NodeLog A) (c : Client A) (s : IsServed cfg (decided cfg w) log c) where
    -- the conversation of its lines and of the answers that it took
    talked : conversation cfg.accounts c.stamp c.lines s.talk.answers ≡ record { replies = s.talk.replies; asked = s.talk.asked; state = s.talk.state }
    talked = ap (λ lines. conversation cfg.accounts c.stamp lines s.talk.answers) (sym s.lines) ∙ talk_conversation cfg.accounts c.stamp s.talk s.is

    pub projected : IsProjected cfg w c
    projected user lines tickets own its l t o =
        let maildrop = first_maildrop (opening_of cfg) user in
        let asks : AreFor user s.talk.asked = subst (AreFor user) (ap (λ q. q.asked) talked) (its s.talk.answers) in
        let answers = own_answers cfg (decided cfg w) user s.talk.answers (s.own user asks) in
        let first = prefix_on (tickets_in s.talk.answers) c.tickets tickets (tickets_front cfg (decided cfg w) log c s) t in
        let same : replies_alone cfg.accounts c.stamp maildrop c.lines (tickets_in s.talk.answers) (own_commands cfg w user) ≡ s.talk.replies =
        ap (λ (taken : List (Answer A)). (conversation cfg.accounts c.stamp c.lines taken).replies) answers ∙ ap (λ q. q.replies) talked in
        let longer : IsPrefix (replies_alone cfg.accounts c.stamp maildrop c.lines (tickets_in s.talk.answers) (own_commands cfg w user)) (replies_alone cfg.accounts c.stamp maildrop lines tickets own) =
        subst (λ ls. IsPrefix (replies_alone cfg.accounts c.stamp maildrop c.lines (tickets_in s.talk.answers) (own_commands cfg w user)) (replies_alone cfg.accounts c.stamp maildrop ls tickets own)) l.1
        (subst (λ ts. IsPrefix (replies_alone cfg.accounts c.stamp maildrop c.lines (tickets_in s.talk.answers) (own_commands cfg w user)) (replies_alone cfg.accounts c.stamp maildrop (c.lines ++ l.0) ts own)) first.1
        (subst (λ cs. IsPrefix (replies_alone cfg.accounts c.stamp maildrop c.lines (tickets_in s.talk.answers) (own_commands cfg w user)) (replies_alone cfg.accounts c.stamp maildrop (c.lines ++ l.0) (tickets_in s.talk.answers ++ first.0) cs)) o.1
        (replies_longer cfg.accounts c.stamp maildrop c.lines l.0 (tickets_in s.talk.answers) first.0 (own_commands cfg w user) o.0))) in
        subst (λ bytes. IsPrefix bytes (alone_bytes cfg c user lines tickets own)) (ap concat same ∙ sym s.replies)
        (concat_prefix (replies_alone cfg.accounts c.stamp maildrop c.lines (tickets_in s.talk.answers) (own_commands cfg w user)) (replies_alone cfg.accounts c.stamp maildrop lines tickets own) longer)

    submitted : AreSubmitted log (asked_by cfg c s.talk.answers) c.tickets
    submitted = subst (λ asked. AreSubmitted log asked c.tickets) (sym (ap (λ q. q.asked) talked)) s.submitted

    pub has_tickets : AreOfRun cfg w → log_of c.node w.network.logs ≡ Some log → HasTickets cfg w c
    has_tickets run at = record {
      log = log;
      its_node = at;
      answers = s.talk.answers;
      answered = tickets_front cfg (decided cfg w) log c s;
      replied = s.replies ∙ sym (ap (λ q. concat q.replies) talked);
      submitted = submitted;
      decided_as_asked = subst (λ n. AreDecidedAsAsked (decided cfg (record { network = n; clients = [] })) (asked_by cfg c s.talk.answers) c.tickets) (sym run.1)
          (as_asked (opening_of cfg) run.0 c.node log (ap (λ n. log_of c.node n.logs) (sym run.1) ∙ at) (asked_by cfg c s.talk.answers) c.tickets submitted);
    }

  pub every_projected : (cfg : Config A) (happenings : List (Happening A)) (session : ℕ) (c : Client A) → client_of session (run_of cfg happenings).clients ≡ Some c → IsProjected cfg (run_of cfg happenings) c
  every_projected cfg happenings session c at = let x = (every_service cfg happenings).clients session c at in projected cfg (run_of cfg happenings) x.0 c x.2

  pub every_ticket : (cfg : Config A) (happenings : List (Happening A)) (session : ℕ) (c : Client A) → client_of session (run_of cfg happenings).clients ≡ Some c → HasTickets cfg (run_of cfg happenings) c
  every_ticket cfg happenings session c at = let x = (every_service cfg happenings).clients session c at in has_tickets cfg (run_of cfg happenings) x.0 c x.2 (every_service cfg happenings).nodes x.1

  -- two services
  pub comparable : (cfg cfg2 : Config A) (w w2 : Service A) (c c2 : Client A) (user : List ℕ) → IsProjected cfg w c → IsProjected cfg2 w2 c2 → Agree cfg cfg2 w w2 c c2 user → AreComparable c.replies c2.replies
  comparable cfg cfg2 w w2 c c2 user h h2 a =
      let lines = common c.lines c2.lines a.lines in
      let tickets = common c.tickets c2.tickets a.tickets in
      let own = common (own_commands cfg w user) (own_commands cfg2 w2 user) a.commands in
      let one = h user lines.0 tickets.0 own.0 a.its_user lines.1 tickets.1 own.1 in
      let two = h2 user lines.0 tickets.0 own.0 a.same_user lines.2 tickets.2 own.2 in
      let same : alone_bytes cfg c user lines.0 tickets.0 own.0 ≡ alone_bytes cfg2 c2 user lines.0 tickets.0 own.0 =
      same_bytes cfg.accounts cfg2.accounts (first_maildrop (opening_of cfg) user) (first_maildrop (opening_of cfg2) user) c.stamp c2.stamp a.accounts a.maildrops a.greetings
      (λ accounts maildrop stamp. concat (replies_alone accounts stamp maildrop lines.0 tickets.0 own.0)) in
      shorter c.replies c2.replies one.0 two.0 (one.1 ∙ same ∙ sym two.1)

  pub comparable_runs : (cfg cfg2 : Config A) (happenings happenings2 : List (Happening A)) (session session2 : ℕ) (c c2 : Client A) (user : List ℕ) →
      client_of session (run_of cfg happenings).clients ≡ Some c → client_of session2 (run_of cfg2 happenings2).clients ≡ Some c2 →
      Agree cfg cfg2 (run_of cfg happenings) (run_of cfg2 happenings2) c c2 user → AreComparable c.replies c2.replies
  comparable_runs cfg cfg2 happenings happenings2 session session2 c c2 user at at2 a =
      comparable cfg cfg2 (run_of cfg happenings) (run_of cfg2 happenings2) c c2 user (every_projected cfg happenings session c at) (every_projected cfg2 happenings2 session2 c2 at2) a
