-- How what is told of parts is told of the whole.
use Rattle.std.proofs.Common.{◌≡◌, ℕ, suc, ◌+◌, ◌-◌, ◌<◌, ◌≤◌, true, false, List, ◌++◌, length, position, Option, Some, None, refl, sym, ap, subst, ◌∙◌, append_assoc, arith, cond}
use Rattle.std.specs.Option.{option_or, option_map}
use Rattle.std.proofs.lemmas.List.{append-nil, drop_all}
use Rattle.maildrop.specs.declared.command.Command as maildrop
use Rattle.script.specs.declared.command.Command.{Command}
use Rattle.script.specs.declared.command.Command.TheVariants as command
use Rattle.simulator.specs.Plays.{Play, collected, collected_by, done_to_the_end, given, happened, outcomes, performed, performed_at, settled, settled_by}
use Rattle.simulator.specs.Told.{IsWritten, Told, followed, silent}
use Rattle.runs.specs.Services.{Service}
use Rattle.runs.specs.Worlds.{next_answer, next_oldest, may_arrive, performed_by}
use Rattle.runs.specs.declared.event.Event.{Event}
use Rattle.runs.specs.declared.event.Event.TheVariants as event
use Rattle.world.specs.Values.{WorldValue, is_known_at}

module _ {S : Type 0} where
  -- what was written before it, and what is told
  abbrev pub text_before : List ℕ → Told S → Told S
  text_before text t = record { state = t.state; text = text ++ t.text }

  -- one more, and then the rest
  pub further : (t : Told S) (next : S → Told S) (now : S) (before after : List ℕ) → IsWritten t now before after → text_before after (next now) ≡ text_before before (followed t next)
  further t next now before after written =
      ap (λ s. text_before after (next s)) written.0 ∙ ap (λ text. text_before text (next t.state)) written.1
      ∙ ap (λ text. record { state = (next t.state).state; text = text }) (append_assoc before t.text (next t.state).text)

  -- what is written last is the rest of the whole
  pub ended : (t all : Told S) (now : S) (first before after : List ℕ) → IsWritten t now before after → text_before before t ≡ text_before first all → IsWritten all now first after
  ended t all now first before after written same =
      (written.0 ∙ ap (λ (u : Told S). u.state) same, written.1 ∙ ap (λ (u : Told S). u.text) same)

  -- the rest is nothing
  pub ended_so : (all : Told S) (now : S) (first after : List ℕ) → text_before after (silent now) ≡ text_before first all → IsWritten all now first after
  ended_so all now first after same = ended (silent now) all now first after after (refl, sym (append-nil after)) same

  -- one after the other
  pub both_written : (t : Told S) (next : S → Told S) (between now : S) (first second third : List ℕ) → IsWritten t between first second → IsWritten (next between) now second third → IsWritten (followed t next) now first third
  both_written t next between now first second third one two = ended (next between) (followed t next) now first second third two (further t next between first second one)

module _ {A : Type 0} where
  -- no message stands after the last one
  pub answers_alone : (w : Service A) (behind : ℕ) → behind ≡ length w.network.sent → next_oldest w behind ≡ next_answer w
  answers_alone w behind is =
      ap (λ sent. option_or (next_answer w) (option_map (λ k. event.Arrive (behind + k)) (position (may_arrive w 1) sent)))
      (drop_all behind w.network.sent (subst (λ n. length w.network.sent ≤ n) (sym is) (omega arith)))
      ∙ or_none (next_answer w)
    where
      or_none : (o : Option (Event A)) → option_or o None ≡ o
      or_none None = refl
      or_none (Some event) = refl

  -- one session more takes its answer
  pub collects_more : (n k : ℕ) (start p now : Play A) (event : Event A) (first before after : List ℕ)
      → k < n
      → text_before before (collected (n - k) p) ≡ text_before first (collected n start)
      → next_answer p.world.service ≡ Some event
      → IsWritten (given p event) now before after
      → text_before after (collected (n - (k + 1)) now) ≡ text_before first (collected n start)
  collects_more n k start p now event first before after more so next written =
      let count : suc (n - (k + 1)) ≡ n - k = omega (arith, more) in
      further (given p event) (collected (n - (k + 1))) now before after written
      ∙ ap (λ o. text_before before (collected_by (collected (n - (k + 1))) p o)) (sym next)
      ∙ ap (λ m. text_before before (collected m p)) count
      ∙ so

  -- no session is left whose answer is there
  pub collects_none : (n k : ℕ) (start p : Play A) (first before : List ℕ)
      → k < n
      → text_before before (collected (n - k) p) ≡ text_before first (collected n start)
      → next_answer p.world.service ≡ None
      → IsWritten (collected n start) p first before
  collects_none n k start p first before more so none =
      let count : n - k ≡ suc (n - (k + 1)) = omega (arith, more) in
      ended_so (collected n start) p first before
      (ap (λ o. text_before before (collected_by (collected (n - (k + 1))) p o)) (sym none) ∙ ap (λ m. text_before before (collected m p)) (sym count) ∙ so)

  -- one event more happens
  pub settles_more : (next : Play A → Option (Event A)) (n k : ℕ) (start p told now : Play A) (event : Event A) (first before between after : List ℕ)
      → k < n
      → text_before before (settled next (n - k) p) ≡ text_before first (settled next n start)
      → IsWritten (outcomes p) told before between
      → next told ≡ Some event
      → IsWritten (given told event) now between after
      → text_before after (settled next (n - (k + 1)) now) ≡ text_before first (settled next n start)
  settles_more next n k start p told now event first before between after more so written comes happened =
      let count : suc (n - (k + 1)) ≡ n - k = omega (arith, more) in
      let rest : Play A → Told (Play A) = settled next (n - (k + 1)) in
      let here : next (outcomes p).state ≡ Some event = subst (λ q. next q ≡ Some event) written.0 comes in
      further (given told event) rest now between after happened
      ∙ further (outcomes p) (λ q. followed (given q event) rest) told before between written
      ∙ ap (λ o. text_before before (settled_by rest (outcomes p) o)) (sym here)
      ∙ ap (λ m. text_before before (settled next m p)) count
      ∙ so

  -- nothing comes next
  pub settles_none : (next : Play A → Option (Event A)) (n k : ℕ) (start p told : Play A) (first before after : List ℕ)
      → k < n
      → text_before before (settled next (n - k) p) ≡ text_before first (settled next n start)
      → IsWritten (outcomes p) told before after
      → next told ≡ None
      → IsWritten (settled next n start) told first after
  settles_none next n k start p told first before after more so written none =
      let count : n - k ≡ suc (n - (k + 1)) = omega (arith, more) in
      let rest : Play A → Told (Play A) = settled next (n - (k + 1)) in
      let here : next (outcomes p).state ≡ None = subst (λ q. next q ≡ None) written.0 none in
      ended (outcomes p) (settled next n start) told first before after written
      (ap (λ o. text_before before (settled_by rest (outcomes p) o)) (sym here) ∙ ap (λ m. text_before before (settled next m p)) (sym count) ∙ so)

  -- as many events have happened as may
  pub settles_all : (next : Play A → Option (Event A)) (n k : ℕ) (start p told : Play A) (first before after : List ℕ)
      → n ≤ k
      → text_before before (settled next (n - k) p) ≡ text_before first (settled next n start)
      → IsWritten (outcomes p) told before after
      → IsWritten (settled next n start) told first after
  settles_all next n k start p told first before after most so written =
      let none : n - k ≡ 0 = omega (arith, most) in
      ended (outcomes p) (settled next n start) told first before after written (ap (λ m. text_before before (settled next m p)) (sym none) ∙ so)

  -- what a node has performed, by what a world says
  same_performed : (node : ℕ) (v : WorldValue A) (p : Play A) → v.world ≡ p.world → v.crashed ≡ p.crashed → performed_at node p ≡ cond (is_known_at v node) (performed_by v.world.service node) None
  same_performed node v p world crashed =
      ap (λ w. cond (is_known_at (record { world = w; crashed = p.crashed }) node) (performed_by w.service node) None) (sym world)
      ∙ ap (λ c. cond (is_known_at (record { world = v.world; crashed = c }) node) (performed_by v.world.service node) None) (sym crashed)

  pub order_known : (node : ℕ) (v : WorldValue A) (p : Play A) (performed : List (ℕ × maildrop.Command A)) → v.world ≡ p.world → v.crashed ≡ p.crashed → performed_by v.world.service node ≡ Some performed
      → true ≡ is_known_at v node → performed_at node p ≡ Some performed
  order_known node v p performed world crashed there known =
      same_performed node v p world crashed ∙ ap (λ t. cond t (performed_by v.world.service node) None) (sym known) ∙ there

  pub order_unknown : (node : ℕ) (v : WorldValue A) (p : Play A) → v.world ≡ p.world → v.crashed ≡ p.crashed → false ≡ is_known_at v node → performed_at node p ≡ None
  order_unknown node v p world crashed unknown = same_performed node v p world crashed ∙ ap (λ t. cond t (performed_by v.world.service node) None) (sym unknown)

  -- a command that is neither of these
  pub performs_other : (host : List ℕ) (it : Command) (p : Play A) → ((limit : ℕ) → it ≡ command.Settle limit → ⊥) → ((copies limit : ℕ) → it ≡ command.Storm copies limit → ⊥) → done_to_the_end host it p ≡ performed host it p
  performs_other host (command.Mail node user key written) p settle storm = refl
  performs_other host (command.Break node user) p settle storm = refl
  performs_other host (command.Connect session node nonce) p settle storm = refl
  performs_other host (command.Line session line) p settle storm = refl
  performs_other host (command.Hangup session) p settle storm = refl
  performs_other host (command.Tick node) p settle storm = refl
  performs_other host (command.Campaign node) p settle storm = refl
  performs_other host (command.Crash node) p settle storm = refl
  performs_other host (command.Deliver from to kind) p settle storm = refl
  performs_other host (command.Settle limit) p settle storm = absurd (settle limit refl)
  performs_other host (command.Storm copies limit) p settle storm = absurd (storm copies limit refl)
  performs_other host command.Lose p settle storm = refl
  performs_other host (command.Order node) p settle storm = refl
