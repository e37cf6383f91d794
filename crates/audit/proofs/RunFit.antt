-- Logs and transcripts of a service are fit for an audit.
use Rattle.std.proofs.Common.{◌≡◌, ℕ, zero, suc, ◌+◌, ◌<◌, ◌≤◌, length, List, [], ◌∷◌, true, Some, refl, sym, ap, ◌∙◌, subst, arith}
use Rattle.std.specs.Prelude.{slice_get, nat_lt, nat_le, ◌&&◌}
use Rattle.std.proofs.lemmas.Bool.{and_parts, and_from, eq-eqb, ne_eqb, le-leb}
use Rattle.std.proofs.lemmas.Option.{slice_get_within}
use Rattle.apop.specs.Stamp.{Stamp}
use Rattle.ballot.specs.Nodes.{in_cluster}
use Rattle.maildrop.specs.Name.{are_different}
use Rattle.node.specs.Nodes.{can_begin}
use Rattle.node.specs.declared.log.NodeLog.{NodeLog}
use Rattle.session.specs.declared.transcript.Transcript.{Transcript}
use Rattle.runs.specs.Services.{opening_of}
use Rattle.runs.specs.declared.config.Config.{Config}
use Rattle.audit.specs.Records.{is_fit, place_of, AreFit}
use Rattle.audit.specs.Runs.{opening_at, AreInOrder, AreOfService}
use Rattle.audit.proofs.RunScripts.{served_script}

-- the place of a node, if the logs are in order
place_in_order : {A : Type 0} (xs : List (NodeLog A)) (from : ℕ) → ((n : ℕ) (log : NodeLog A) → slice_get xs n ≡ Some log → log.opening.me ≡ suc (from + n))
    → (n : ℕ) (log : NodeLog A) → slice_get xs n ≡ Some log → place_of (suc (from + n)) xs ≡ n
place_in_order [] from order n log e = absurd (cc)
place_in_order (x ∷ xs) from order zero log e =
    let here : x.opening.me ≡ suc (from + 0) = order 0 x refl in
    rw (eq-eqb x.opening.me (suc (from + 0)) here) refl
place_in_order (x ∷ xs) from order (suc n) log e =
    let here : x.opening.me ≡ suc (from + 0) = order 0 x refl in
    let other : x.opening.me ≡ suc (from + suc n) → ⊥ = λ q. omega (arith, here, q) in
    let same : suc from + n ≡ from + suc n = omega arith in
    let rest : place_of (suc (suc from + n)) xs ≡ n = place_in_order xs (suc from) (λ m l h. let at : l.opening.me ≡ suc (from + suc m) = order (suc m) l h in omega (arith, at)) n log e in
    rw (ne_eqb x.opening.me (suc (from + suc n)) other) (ap suc (subst (λ k. place_of (suc k) xs ≡ n) same rest))

module _ {A : Type 0} (cfg : Config A) (stamps : ℕ → Stamp) (logs : List (NodeLog A)) (transcripts : List (Transcript A)) where
  -- a node of another number can begin so too
  begins_so : (number : ℕ) → 0 < number → number ≤ cfg.cluster → is_fit (opening_of cfg) ≡ true → is_fit (opening_at cfg number) ≡ true
  begins_so number some most fit =
      let o = opening_of cfg in
      let both = and_parts (are_different o.names) (can_begin o.me o.cluster o.window) fit in
      let wide = and_parts (in_cluster o.cluster o.me && nat_le 1 o.window) _ both.1 in
      let narrow = and_parts (in_cluster o.cluster o.me) (nat_le 1 o.window) wide.0 in
      let member : in_cluster o.cluster number ≡ true = and_from (nat_lt 0 number) (nat_le number o.cluster) (le-leb 1 number some) (le-leb number o.cluster most) in
      and_from (are_different o.names) (can_begin number o.cluster o.window) both.0
      (and_from (in_cluster o.cluster number && nat_le 1 o.window) _ (and_from (in_cluster o.cluster number) (nat_le 1 o.window) member narrow.1) wide.1)

  pub service_fit : is_fit (opening_of cfg) ≡ true → 0 < length logs → length logs ≤ cfg.cluster → AreInOrder logs → AreOfService cfg stamps logs transcripts → AreFit logs transcripts
  service_fit fit some most order service =
      record {
        some = some;
        openings = λ n log e. (subst (λ o. is_fit o ≡ true) (sym (service.openings n log e)) (begins n log e), its_place n log e);
        scripts = served_script logs transcripts cfg.accounts stamps service.served;
      }
    where
      begins : (n : ℕ) (log : NodeLog A) → slice_get logs n ≡ Some log → is_fit (opening_at cfg log.opening.me) ≡ true
      begins n log e =
          let below : n < length logs = slice_get_within logs n log e in
          let number : log.opening.me ≡ suc n = order n log e in
          begins_so log.opening.me (omega (arith, number)) (omega (arith, number, below, most)) fit

      its_place : (n : ℕ) (log : NodeLog A) → slice_get logs n ≡ Some log → place_of log.opening.me logs ≡ n
      its_place n log e =
          let same : 0 + n ≡ n = omega arith in
          let at : place_of (suc (0 + n)) logs ≡ n = place_in_order logs 0 (λ m l h. let number : l.opening.me ≡ suc m = order m l h in omega (arith, number)) n log e in
          ap (λ k. place_of k logs) (order n log e ∙ ap suc (sym same)) ∙ at
