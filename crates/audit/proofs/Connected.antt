-- At first each session connects.
use Rattle.std.proofs.Common.{◌≡◌, ℕ, zero, suc, ◌<◌, ◌≤◌, List, [], ◌∷◌, ◌++◌, Option, Some, None, refl, sym, ap, ◌∙◌, subst, ⊎_elim, arith}
use Rattle.std.specs.Prelude.{slice_get}
use Rattle.std.proofs.lemmas.List.{append-nil}
use Rattle.std.proofs.lemmas.Bool.{cases_eq}
use Rattle.audit.specs.Case.{Turn, Case}
use Rattle.audit.specs.Laws.{AllBegin}
use Rattle.audit.specs.Order.{Session, opening, Leads}
use Rattle.audit.specs.Placing.{put}
use Rattle.audit.specs.Right.{NoneWrong}
use Rattle.audit.specs.Written.{connect, connects}
use Rattle.audit.specs.declared.event.Event.TheVariants.{Connect}
use Rattle.audit.proofs.Sweep.{blank, same_script}
use Rattle.audit.proofs.Walk.{put_apart, the_world, the_session, leads_on}

module _ {S I E K O L : Type 0} (a : Case S I E K O L) (begins : AllBegin a) (at : ℕ → ℕ) (right : NoneWrong a at) where
  pub record Connected (m : ℕ) : Type 0 where
    pub sessions : ℕ → Session I K O L
    pub leads : Leads a (opening a) (connects a at m) (the_world a (λ n. 0) [] sessions)
    pub new : (i : ℕ) → m ≤ i → sessions i ≡ blank a
    pub begun : (i : ℕ) → i < m → (ts : List (Turn I K O L)) → slice_get a.scripts i ≡ Some (Some ts) → sessions i ≡ the_session a (at i) [] ts

  more_connected : (m : ℕ) → Connected m → (o : Option (Option (List (Turn I K O L)))) → slice_get a.scripts m ≡ o → Connected (suc m)
  more_connected m r o e =
      go o e
    where
      within : (i : ℕ) → i < suc m → (i ≡ m → ⊥) → i < m
      within i h ne = grind (arith, h, ne)

      none : (o : Option (Option (List (Turn I K O L)))) → slice_get a.scripts m ≡ o → connect a at m o ≡ [] → ((ts : List (Turn I K O L)) → o ≡ Some (Some ts) → ⊥) → Connected (suc m)
      none o e nothing not_there = record {
        sessions = r.sessions;
        leads = subst (λ es. Leads a (opening a) (connects a at m ++ es) (the_world a (λ n. 0) [] r.sessions)) (sym (ap (connect a at m) e ∙ nothing)) (subst (λ es. Leads a (opening a) es (the_world a (λ n. 0) [] r.sessions)) (sym (append-nil (connects a at m))) r.leads);
        new = λ i h. r.new i (omega (arith, h));
        begun = λ i h ts s. ⊎_elim (λ (same : i ≡ m). absurd (not_there ts (sym e ∙ subst (λ j. slice_get a.scripts j ≡ Some (Some ts)) same s))) (λ (ne : i ≡ m → ⊥). r.begun i (within i h ne) ts s) (cases_eq i m);
      }

      go : (o : Option (Option (List (Turn I K O L)))) → slice_get a.scripts m ≡ o → Connected (suc m)
      go None e = none None e refl (λ ts f. absurd (cc))
      go (Some None) e = none (Some None) e refl (λ ts f. absurd (cc))
      go (Some (Some ts)) e =
          let s = the_session a (at m) [] ts in
          let fresh : (r.sessions m).node ≡ None = ap (λ (z : Session I K O L). z.node) (r.new m (omega arith)) in
          record {
            sessions = put r.sessions m s;
            leads = subst (λ es. Leads a (opening a) (connects a at m ++ es) (the_world a (λ n. 0) [] (put r.sessions m s))) (sym (ap (connect a at m) e))
                (leads_on a (connects a at m) (Connect m (a.number (at m)) ∷ []) _ _ _ r.leads (the_world a (λ n. 0) [] (put r.sessions m s), (at m, refl, ts, e, (right m ts e).0, fresh, begins (at m) (right m ts e).0, refl), refl));
            new = λ i h. put_apart (λ j z. i ≡ j → z ≡ blank a) r.sessions m s (λ same. absurd (apart i h same)) (λ j ne same. ap r.sessions (sym same) ∙ r.new i (omega (arith, h))) i refl;
            begun = λ i h us f. put_apart (λ j z. i ≡ j → z ≡ the_session a (at i) [] us) r.sessions m s
                (λ same. subst (λ j. (vs : List (Turn I K O L)) → slice_get a.scripts j ≡ Some (Some vs) → s ≡ the_session a (at j) [] vs) (sym same) (λ vs g. ap (λ ws. the_session a (at m) [] ws) (same_script a (slice_get a.scripts m) ts vs e g)) us f)
                (λ j ne same. ap r.sessions (sym same) ∙ r.begun i (within i h (λ q. ne (sym same ∙ q))) us f)
                i refl;
          }
        where
          apart : (i : ℕ) → suc m ≤ i → i ≡ m → ⊥
          apart i h e = absurd (omega (arith, h, e))

  pub connected : (m : ℕ) → Connected m
  connected zero = record { sessions = λ i. blank a; leads = refl; new = λ i h. refl; begun = λ i h. absurd (omega (arith, h)) }
  connected (suc m) = more_connected m (connected m) (slice_get a.scripts m) refl
