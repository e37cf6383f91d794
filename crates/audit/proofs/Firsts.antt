-- Transcripts are checked, the first first.
use Rattle.std.proofs.Common.{◌≡◌, ℕ, zero, suc, ◌≤◌, length, List, [], ◌∷◌, Bool, true, false, Option, Some, None, refl, sym, ap, ◌∙◌, subst, cond, map, drop, arith}
use Rattle.std.specs.Prelude.{slice_get, ◌&&◌, not}
use Rattle.std.specs.List.{list_any}
use Rattle.std.proofs.Math.ListN.{drop_of_length-le}
use Rattle.maildrop.specs.CommandId.{CommandId}
use Rattle.node.specs.Nodes.{NodeValue}
use Rattle.node.specs.declared.log.NodeLog.{NodeLog}
use Rattle.session.specs.declared.transcript.Transcript.{Transcript}
use Rattle.audit.specs.Case.{turns_of}
use Rattle.audit.specs.Checks.{AreFound, AreLeft}
use Rattle.audit.specs.Names.{named_in, named_from}
use Rattle.audit.specs.Records.{RealCase, case_of}
use Rattle.audit.specs.Turns.{script_of, is_untold, is_loose}
use Rattle.audit.specs.Wrong.{are_good, seen_after, node_of, first_wrong}
use Rattle.audit.proofs.Checking.{found_on}
use Rattle.audit.proofs.Naming.{drop_got}
use Rattle.audit.proofs.Sessions.{seen_script}

pub got_mapped : {X Y : Type 0} (f : X → Y) (xs : List X) (k : ℕ) (x : X) → slice_get xs k ≡ Some x → slice_get (map f xs) k ≡ Some (f x)
got_mapped f [] k x e = absurd (cc)
got_mapped f (y ∷ ys) zero x e =
    let same : y ≡ x = cc in
    ap (λ z. Some (f z)) same
got_mapped f (y ∷ ys) (suc k) x e = got_mapped f ys k x e

pub mapped_length : {X Y : Type 0} (f : X → Y) (xs : List X) → length (map f xs) ≡ length xs
mapped_length f [] = refl
mapped_length f (x ∷ xs) = ap suc (mapped_length f xs)

and_none : (x : Bool) → (x && false) ≡ false
and_none true = refl
and_none false = refl

module _ {A : Type 0} (logs : List (NodeLog A)) (transcripts : List (Transcript A)) (found : CommandId → Option (ℕ × ℕ)) where
  abbrev real : RealCase A
  real = case_of logs transcripts

  -- the sessions before this one are right, and the others aren't checked
  pub record Onward (session : ℕ) (outcomes : List (Option (NodeValue A))) : Type 0 where
    pub named : List CommandId
    pub left : AreLeft logs transcripts named outcomes
    pub others : AreFound session 0 named (λ id. named_from id session (drop session transcripts)) found
    pub rest : first_wrong real 0 [] real.scripts ≡ first_wrong real session named (drop session real.scripts)

  pub starts : (outcomes : List (Option (NodeValue A))) → AreLeft logs transcripts [] outcomes → ((id : CommandId) → found id ≡ named_from id 0 transcripts) → Onward 0 outcomes
  starts outcomes left names = record { named = []; left = left; others = record { old = λ id e. absurd (cc); new = λ id e. names id }; rest = refl }

  module _ (session : ℕ) (outcomes : List (Option (NodeValue A))) (t : Transcript A) (at : slice_get transcripts session ≡ Some t) (m : Onward session outcomes) where
    -- what is said of the session
    abbrev Said : Bool → List (Option (NodeValue A)) → Type 0
    Said result after = (named : List CommandId) (rest : CommandId → Option (ℕ × ℕ)) → AreLeft logs transcripts named outcomes → AreFound session 0 named (λ id. named_in id session 0 t.asked (rest id)) found
        → (result ≡ are_good real (node_of real (turns_of real (script_of t))) named (turns_of real (script_of t))) × (result ≡ true → AreLeft logs transcripts (seen_after real named (turns_of real (script_of t))) after)

    turn : AreFound session 0 m.named (λ id. named_in id session 0 t.asked (named_from id (suc session) (drop (suc session) transcripts))) found
    turn = subst (λ ts. AreFound session 0 m.named (λ id. named_from id session ts) found) (drop_got transcripts session t at) m.others

    by_test : first_wrong real 0 [] real.scripts
        ≡ cond (not (list_any is_untold t.asked) && are_good real (node_of real (turns_of real (script_of t))) m.named (turns_of real (script_of t))) (first_wrong real (suc session) (seen_after real m.named (turns_of real (script_of t))) (drop (suc session) real.scripts)) (Some session)
    by_test =
        m.rest
        ∙ ap (first_wrong real session m.named) (drop_got real.scripts session (script_of t) (got_mapped script_of transcripts session t at))
        ∙ ap (λ o. cond (not (is_loose o) && are_good real (node_of real (turns_of real (script_of t))) m.named (turns_of real (script_of t))) (first_wrong real (suc session) (seen_after real m.named (turns_of real (script_of t))) (drop (suc session) real.scripts)) (Some session)) at

    pub untold_here : list_any is_untold t.asked ≡ true → Some session ≡ first_wrong real 0 [] real.scripts
    untold_here e =
        sym (by_test ∙ ap (λ b. cond (not b && are_good real (node_of real (turns_of real (script_of t))) m.named (turns_of real (script_of t))) (first_wrong real (suc session) (seen_after real m.named (turns_of real (script_of t))) (drop (suc session) real.scripts)) (Some session)) e)

    pub wrong_here : (result : Bool) (after : List (Option (NodeValue A))) → Said result after → result ≡ false → Some session ≡ first_wrong real 0 [] real.scripts
    wrong_here result after said e =
        let its = said m.named (λ id. named_from id (suc session) (drop (suc session) transcripts)) m.left turn in
        sym (by_test ∙ ap (λ b. cond b (first_wrong real (suc session) (seen_after real m.named (turns_of real (script_of t))) (drop (suc session) real.scripts)) (Some session)) (ap (λ b. not (list_any is_untold t.asked) && b) (sym its.0 ∙ e) ∙ and_none (not (list_any is_untold t.asked))))

    pub right_here : (next : ℕ) (result : Bool) (after : List (Option (NodeValue A))) → next ≡ suc session → list_any is_untold t.asked ≡ false → Said result after → result ≡ true → Onward next after
    right_here next result after is told said e =
        let its = said m.named (λ id. named_from id (suc session) (drop (suc session) transcripts)) m.left turn in
        subst (λ n. Onward n after) (sym is)
        (record {
          named = seen_after real m.named (turns_of real (script_of t));
          left = its.1 e;
          others = subst (λ named. AreFound (suc session) 0 named (λ id. named_from id (suc session) (drop (suc session) transcripts)) found) (sym (seen_script logs transcripts m.named t)) (found_on session 0 m.named (λ id. named_from id (suc session) (drop (suc session) transcripts)) found t.asked turn);
          rest = by_test ∙ ap (λ b. cond b (first_wrong real (suc session) (seen_after real m.named (turns_of real (script_of t))) (drop (suc session) real.scripts)) (Some session)) (ap (λ b. not b && are_good real (node_of real (turns_of real (script_of t))) m.named (turns_of real (script_of t))) told ∙ sym its.0 ∙ e);
        })

  pub none_wrong_left : (session : ℕ) (outcomes : List (Option (NodeValue A))) → length transcripts ≤ session → Onward session outcomes → None ≡ first_wrong real 0 [] real.scripts
  none_wrong_left session outcomes past m =
      let count = mapped_length script_of transcripts in
      let all : length (map script_of transcripts) ≤ session = omega (arith, count, past) in
      sym (m.rest ∙ ap (first_wrong real session m.named) (drop_of_length-le (map script_of transcripts) all))
