-- Worked scripts of a service with one user.
use Rattle.std.specs.Prelude.{◌≡◌, refl, ℕ, List, [], ◌∷◌, ◌++◌, codes, None}
use Rattle.std.specs.List.{concat, flat_map}
use Rattle.std.specs.Fmt.{digits}
use Rattle.apop.specs.declared.method.Method.TheVariants.{Pass}
use Rattle.pop3_wire.specs.declared.line.Line.TheVariants.{Whole}
use Rattle.script.specs.Scripts.{Settings, default_limits}
use Rattle.script.specs.declared.command.Command.{Command}
use Rattle.script.specs.declared.command.Command.TheVariants as command
use Rattle.script.specs.declared.message_kind.MessageKind.TheVariants.{P1a}
use Rattle.simulator.specs.Plays.{Play, happened, delivered, new_play}
use Rattle.simulator.specs.Runs.{output}
use Rattle.simulator.specs.Told.{Told, silent, followed}

module _ (A : Type 0) where
  abbrev host : List ℕ
  host = codes "localhost"

  abbrev settings : Settings
  settings = record { cluster = 1; limits = default_limits; window = 10; host = host; accounts = record { name = codes "alice"; method = Pass; secret = codes "s3" } ∷ [] }

  -- commands that are events, one after another
  abbrev happen : List Command → Play A → Told (Play A)
  happen [] p = silent p
  happen (it ∷ more) p = followed (happened host it p) (happen more)

  abbrev text_of : List Command → List ℕ
  text_of commands = (happen commands (new_play settings)).text

  abbrev says : List ℕ → Command
  says line = command.Line 1 (Whole line)

  -- a greeting, and then what each line is answered: nothing is told twice
  a_session : text_of (command.Connect 1 1 (codes "n.1") ∷ says (codes "USER alice") ∷ says (codes "NOOP") ∷ says (codes "QUIT") ∷ says (codes "NOOP") ∷ [])
      ≡ concat (codes "s1|+OK POP3 server ready <n.1@localhost>\n" ∷ codes "s1|+OK send PASS\n" ∷ codes "s1|-ERR not in this state\n" ∷ codes "s1|+OK signing off\n" ∷ codes "refused 3 NoSession\n" ∷ [])
  unfolding digits
  a_session = refl

  -- each refusal has its line
  down : text_of (command.Crash 1 ∷ command.Tick 1 ∷ command.Mail 1 (codes "alice") None (codes "hi") ∷ []) ≡ codes "refused 2 Down\n" ++ codes "refused 2 Down\n"
  unfolding digits
  down = refl

  no_such_user : text_of (command.Break 1 (codes "bob") ∷ []) ≡ codes "refused 5 NoSuchUser\n"
  unfolding digits
  no_such_user = refl

  exists : text_of (command.Connect 1 1 (codes "n.1") ∷ command.Connect 1 1 (codes "n.2") ∷ []) ≡ codes "s1|+OK POP3 server ready <n.1@localhost>\n" ++ codes "refused 6 SessionExists\n"
  unfolding digits
  exists = refl

  busy : text_of (command.Connect 1 1 (codes "n.1") ∷ says (codes "USER alice") ∷ says (codes "PASS s3") ∷ says (codes "NOOP") ∷ [])
      ≡ concat (codes "s1|+OK POP3 server ready <n.1@localhost>\n" ∷ codes "s1|+OK send PASS\n" ∷ codes "refused 4 Busy\n" ∷ [])
  unfolding digits
  busy = refl

  not_sent : (delivered (new_play {A = A} settings) (record { from = 1; to = 1; kind = P1a })).text ≡ codes "refused 1 NotSent\n"
  unfolding digits
  not_sent = refl

  -- Whole scripts, of one node and alice

  abbrev script_lines : List (List ℕ) → List ℕ
  script_lines all = flat_map (λ line. line ++ codes "\n") (codes "account alice pass s3" ∷ all)

  abbrev answers : List (List ℕ) → List ℕ
  answers all = flat_map (λ line. line ++ codes "\n") all

  nothing_said : output A (codes "nodes 3\n\naccount alice pass s3\n") ≡ []
  nothing_said = refl

  -- mail, once the node has performed it; and that again once it has crashed
  mail_stored : output A (script_lines (codes "mail 1 alice hi" ∷ codes "campaign 1" ∷ codes "settle 9" ∷ codes "crash 1" ∷ codes "order 1" ∷ codes "order 2" ∷ []))
      ≡ answers (codes "op alice 1/1 stored 1" ∷ codes "node 1 performed 1" ∷ codes "slot 1 alice 1/1 mail" ∷ codes "refused 2 Down" ∷ [])
  unfolding digits
  mail_stored = refl

  -- outcomes come in the order of their commands, and each once
  two_outcomes : output A (script_lines (codes "campaign 1" ∷ codes "settle 9" ∷ codes "mail 1 alice hi" ∷ codes "break 1 alice" ∷ codes "settle 99" ∷ codes "settle 9" ∷ []))
      ≡ answers (codes "op alice 1/1 stored 1" ∷ codes "op alice 1/2 done" ∷ [])
  unfolding digits
  two_outcomes = refl

  -- none of a node that has crashed before it has performed the command
  no_outcome : output A (script_lines (codes "mail 1 alice hi" ∷ codes "campaign 1" ∷ codes "crash 1" ∷ codes "settle 99" ∷ [])) ≡ []
  no_outcome = refl

  -- a session, whose answer is taken by the way
  logs_in : output A (script_lines (codes "connect s1 1 n.1" ∷ codes "line s1 USER alice" ∷ codes "campaign 1" ∷ codes "settle 9" ∷ codes "line s1 PASS s3" ∷ codes "settle 99" ∷ []))
      ≡ answers (codes "s1|+OK POP3 server ready <n.1@localhost>" ∷ codes "s1|+OK send PASS" ∷ codes "s1|+OK maildrop has 0 messages (0 octets)" ∷ [])
  unfolding digits
  logs_in = refl

  -- nothing comes of a line at fault, and of those after it
  up_to_the_fault : output A (script_lines (codes "connect s1 1 n.1" ∷ codes "tick" ∷ codes "line s1 USER alice" ∷ [])) ≡ answers (codes "s1|+OK POP3 server ready <n.1@localhost>" ∷ [])
  unfolding digits
  up_to_the_fault = refl
