-- An audit that finds all in order has found a legal order of a whole service.
use Rattle.std.proofs.Common.{◌≡◌, ◌⊎◌, ℕ, zero, suc, ◌<◌, length, List, [], ◌∷◌, ◌++◌, Bool, true, false, Option, Some, None, refl, sym, ap, ◌∙◌, subst, inl, inr, ⊎_elim, map, All, arith}
use Rattle.std.specs.Prelude.{slice_get, ◌&&◌}
use Rattle.std.specs.List.{filter}
use Rattle.std.specs.Option.{option_map}
use Rattle.std.specs.declared.alloc.Global.{Global}
use Rattle.std.proofs.lemmas.Bool.{true≢false}
use Rattle.std.proofs.lemmas.List.{length_push, length-map}
use Rattle.std.proofs.lemmas.Option.{slice_get-map, slice_get_within, get_or_from_slice_get}
use Rattle.apop.specs.Accounts.{Account}
use Rattle.apop.specs.Stamp.{Stamp}
use Rattle.maildrop.specs.Name.{are_different}
use Rattle.node.specs.declared.log.NodeLog.{NodeLog}
use Rattle.session.specs.Serve.{IsTranscript, IsWritten}
use Rattle.session.specs.declared.transcript.Transcript.{Transcript}
use Rattle.runs.specs.Services as runs
use Rattle.runs.specs.declared.config.Config.{Config}
use Rattle.audit.specs.Records.{is_fit, AreFit}
use Rattle.audit.specs.Runs.{AreInOrder, AreOfService}
use Rattle.audit.proofs.RunFit.{service_fit}
use Rattle.cluster.specs.Members.{opening_of, IsLogOf}
use Rattle.cluster.specs.Starts.{all_nodes}
use Rattle.cluster.specs.declared.setup.Setup.{Setup}
use Rattle.service.specs.Transcripts.{IsServed, WereServed, has_asked, numbered}
use Rattle.service.specs.Verdicts.{IsVerdict, IsLegal, CanServe, config_of}
use Rattle.service.specs.declared.verdict.Verdict.TheVariants.{Legal, NoOrder, WrongAnswer, Memory}
use Rattle.service.specs.declared.verdict.Verdict.{Verdict}
use Rattle.service.proofs.Silent.{order_of_all}

pub each : {X : Type 0} (P : X → Type 0) (xs : List X) (n : ℕ) (x : X) → All P xs → slice_get xs n ≡ Some x → P x
each P xs n x all e = subst P (get_or_from_slice_get xs n x x e) (all n x (slice_get_within xs n x e))

got_push : {X : Type 0} (xs : List X) (y : X) (n : ℕ) (x : X) → slice_get (xs ++ y ∷ []) n ≡ Some x → (slice_get xs n ≡ Some x) ⊎ ((n ≡ length xs) × (y ≡ x))
got_push [] y zero x e = inr (refl, cc)
got_push [] y (suc n) x e = absurd (cc)
got_push (z ∷ xs) y zero x e = inl e
got_push (z ∷ xs) y (suc n) x e = ⊎_elim (λ h. inl h) (λ h. inr (ap suc h.0, h.1)) (got_push xs y n x e)

how_many : (size : ℕ) → length (all_nodes size) ≡ size
how_many zero = refl
how_many (suc n) =
    let rest = how_many n in
    let more = length_push (all_nodes n) (suc n) in
    omega (arith, rest, more)

-- the nodes of a cluster are 1, 2, ..
number_at : (size n number : ℕ) → slice_get (all_nodes size) n ≡ Some number → number ≡ suc n
number_at zero n number e = absurd (cc)
number_at (suc size) n number e =
    ⊎_elim (λ h. number_at size n number h) (λ h. let count = how_many size in let at = h.0 in let same = h.1 in omega (arith, count, at, same)) (got_push (all_nodes size) (suc size) n number e)

module _ (accounts : List Account) (transcripts : List (Transcript Global)) (served : WereServed accounts transcripts) where
  -- it was served after the greeting of this stamp
  abbrev pub IsServedAt : Transcript Global → Stamp → Type 0
  IsServedAt t stamp = IsTranscript accounts stamp t × ((written : List ℕ) × (t.count ≡ length written) × IsWritten accounts stamp t written)

  abbrev pub no_stamp : Stamp
  no_stamp = record { nonce = []; host = [] }

  abbrev pub stamp_of : (i : ℕ) (o : Option (Transcript Global)) → slice_get transcripts i ≡ o → Stamp
  stamp_of i None e = no_stamp
  stamp_of i (Some t) e = (each (IsServed accounts) transcripts i t served e).stamp

  abbrev pub stamps : ℕ → Stamp
  stamps i = stamp_of i (slice_get transcripts i) refl

  its_stamp : (i : ℕ) (t : Transcript Global) → slice_get transcripts i ≡ Some t → (o : Option (Transcript Global)) (q : slice_get transcripts i ≡ o) → IsServedAt t (stamp_of i o q)
  its_stamp i t e None q = let no : None ≡ Some t = sym q ∙ e in absurd (cc)
  its_stamp i t e (Some u) q =
      let same : Some u ≡ Some t = sym q ∙ e in
      let one : u ≡ t = cc in
      let s = each (IsServed accounts) transcripts i u served q in
      subst (λ v. IsServedAt v s.stamp) one (s.transcribed, (s.written, s.counted, s.said))

  pub stamped : (i : ℕ) (t : Transcript Global) → slice_get transcripts i ≡ Some t → IsServedAt t (stamps i)
  stamped i t e = its_stamp i t e (slice_get transcripts i) refl

module _ (accounts : List Account) (setup : Setup) (logs : List (NodeLog Global)) (transcripts : List (Transcript Global)) where
  abbrev config : Config Global
  config = config_of accounts setup

  -- all that is known of them before the audit
  pub record AreOf : Type 0 where
    pub service : CanServe accounts setup
    pub nodes : map (λ log. log.opening.me) logs ≡ all_nodes setup.cluster
    pub began : All (λ log. IsLogOf setup log.opening.me log) logs
    pub served : WereServed accounts transcripts

  module _ (h : AreOf) where
    count : length logs ≡ setup.cluster
    count =
        let mapped : length (map (λ (log : NodeLog Global). log.opening.me) logs) ≡ length logs = length-map logs (λ (log : NodeLog Global). log.opening.me) in
        sym mapped ∙ ap length h.nodes ∙ how_many setup.cluster

    in_order : AreInOrder logs
    in_order n log e =
        number_at setup.cluster n log.opening.me
        (ap (λ ns. slice_get ns n) (sym h.nodes) ∙ slice_get-map (λ (l : NodeLog Global). l.opening.me) logs n ∙ ap (option_map (λ (l : NodeLog Global). l.opening.me)) e)

    of_service : AreOfService config (stamps accounts transcripts h.served) logs transcripts
    of_service = record {
      openings = λ n log e.
          each (λ l. IsLogOf setup l.opening.me l) logs n log h.began e
          ∙ ap (λ names. record (opening_of setup log.opening.me) { names = names }) h.service.names;
      served = λ i t e. (stamped accounts transcripts h.served i t e).0;
    }

    fits : is_fit (runs.opening_of config) ≡ true
    fits = subst (λ names. is_fit (record (opening_of setup 1) { names = names }) ≡ true) h.service.names h.service.fit

    some : (c : ℕ) → is_fit (record (opening_of setup 1) { cluster = c }) ≡ true → 0 < c
    some zero e = absurd (true≢false (sym e ∙ none (are_different setup.names)))
      where
        none : (t : Bool) → (t && false) ≡ false
        none true = refl
        none false = refl
    some (suc c) e = omega arith

    fit : AreFit logs transcripts
    fit =
        let enough = some setup.cluster h.service.fit in
        service_fit config (stamps accounts transcripts h.served) logs transcripts fits (omega (arith, count, enough)) (omega (arith, count)) in_order of_service

    pub is_legal : IsVerdict logs (filter has_asked transcripts) Legal → IsLegal config logs transcripts
    is_legal verdict =
        let order = order_of_all logs transcripts fit verdict.0 verdict.1 in
        record {
          nodes = h.nodes;
          stamps = stamps accounts transcripts h.served;
          service = of_service;
          fit = fit;
          counted = λ i t e. let s = (stamped accounts transcripts h.served i t e).1 in (s.0, record { count = s.1; said = s.2 });
          events = order.0;
          order = order.1;
        }

-- naming a session by its number makes no verdict legal
pub legal_before : (numbers : List ℕ) (verdict : Verdict) → numbered numbers verdict ≡ Legal → verdict ≡ Legal
legal_before numbers Legal e = refl
legal_before numbers (NoOrder node) e = absurd (cc)
legal_before numbers (WrongAnswer place) e = absurd (cc)
legal_before numbers Memory e = absurd (cc)
