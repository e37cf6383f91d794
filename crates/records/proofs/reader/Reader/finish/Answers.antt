use Rattle.std.proofs.Common.{◌≡◌, ◌+◌, ℕ, List, drop, None, false, true, ap, subst, sym, ◌∙◌, refl}
use Rattle.records.specs.declared.phase.Phase.TheVariants.{Head, Records, Search, Damaged, Other}
use Rattle.records.specs.declared.ending.Ending.TheVariants as ending
use Rattle.records.specs.Heads.{may_begin}
use Rattle.records.specs.Reading.{record_at}
use Rattle.records.specs.Files.{Resumes, EndsSo}
use Rattle.records.specs.Readers.{IsRun}
use Rattle.records.proofs.Endings.{end_seen, end_in_head, end_not_a_head, end_other, end_damaged, end_found, end_torn, end_among}
use Rattle.records.proofs.reader.Reader.finish.Goals as goal

pub returns-then-may_begin : goal.returns-then-may_begin
returns-then-may_begin g c = λ bytes given h.
    let is : may_begin c.self.inside.unread ≡ true = ap may_begin (sym c.get-unread.ensures) ∙ sym c.may_begin.ensures ∙ c.if-may_begin.true in
    end_seen bytes given c.self.inside.phase Head c.self.inside.place c.self.inside.unread c.args.self (ending.Cut 0) c.self.view_is c.in-Head.is (λ r. end_in_head bytes given c.self.inside.place c.self.inside.unread r is) h

pub returns-in-Head : goal.returns-in-Head
returns-in-Head g c = λ bytes given h.
    let is : may_begin c.self.inside.unread ≡ false = ap may_begin (sym c.get-unread.ensures) ∙ sym c.may_begin.ensures ∙ c.if-may_begin.false in
    end_seen bytes given c.self.inside.phase Head c.self.inside.place c.self.inside.unread c.args.self ending.NotASegment c.self.view_is c.in-Head.is (λ r. end_not_a_head bytes given c.self.inside.place c.self.inside.unread r is) h

pub returns-in-Records : goal.returns-in-Records
returns-in-Records g c = λ bytes given h.
    let salt = c.in-Records.salt in
    let n = c.records_end-count.result in
    let at = c.self.inside.place + n in
    let unread = c.self.inside.unread in
    let run : IsRun salt c.self.inside.place unread n = subst (λ (x : List ℕ). IsRun salt c.self.inside.place x n) c.get-unread.ensures c.records_end-count.ensures.run in
    let none : record_at salt at (drop n unread) ≡ None = subst (λ (x : List ℕ). record_at salt at (drop n x) ≡ None) c.get-unread.ensures c.records_end-count.ensures.none in
    let ends : EndsSo c.ending_of.result salt at (drop n unread) = subst (λ (x : List ℕ). EndsSo c.ending_of.result salt at x) (c.split_at.ensures.back ∙ ap (drop n) c.get-unread.ensures) c.ending_of.ensures in
    end_seen bytes given c.self.inside.phase (Records salt) c.self.inside.place unread c.args.self c.ending_of.result c.self.view_is c.in-Records.is (λ r. end_among bytes given salt c.self.inside.place unread n at c.ending_of.result r run refl none ends) h

pub returns-then-resumes : goal.returns-then-resumes
returns-then-resumes g c = λ bytes given h.
    let salt = c.in-Search.salt in
    let bad = c.in-Search.bad in
    let found : Resumes salt c.self.inside.place c.self.inside.unread = subst (λ (x : List ℕ). Resumes salt c.self.inside.place x) c.get-unread.ensures (c.resumes.ensures.found c.if-resumes.true) in
    end_seen bytes given c.self.inside.phase (Search salt bad) c.self.inside.place c.self.inside.unread c.args.self (ending.Damaged bad) c.self.view_is c.in-Search.is (λ r. end_found bytes given salt bad c.self.inside.place c.self.inside.unread r found) h

pub returns-in-Search : goal.returns-in-Search
returns-in-Search g c = λ bytes given h.
    let salt = c.in-Search.salt in
    let bad = c.in-Search.bad in
    let none : Resumes salt c.self.inside.place c.self.inside.unread → ⊥ = subst (λ (x : List ℕ). Resumes salt c.self.inside.place x → ⊥) c.get-unread.ensures (c.resumes.ensures.none c.if-resumes.false) in
    end_seen bytes given c.self.inside.phase (Search salt bad) c.self.inside.place c.self.inside.unread c.args.self (ending.Torn bad) c.self.view_is c.in-Search.is (λ r. end_torn bytes given salt bad c.self.inside.place c.self.inside.unread r none) h

pub returns-in-Damaged : goal.returns-in-Damaged
returns-in-Damaged g c = λ bytes given h.
    end_seen bytes given c.self.inside.phase (Damaged c.in-Damaged.bad) c.self.inside.place c.self.inside.unread c.args.self (ending.Damaged c.in-Damaged.bad) c.self.view_is c.in-Damaged.is (λ r. end_damaged bytes given c.in-Damaged.bad c.self.inside.place c.self.inside.unread r) h

pub returns : goal.returns
returns g c = λ bytes given h.
    end_seen bytes given c.self.inside.phase Other c.self.inside.place c.self.inside.unread c.args.self ending.NotASegment c.self.view_is c.in-Other.is (λ r. end_other bytes given c.self.inside.place c.self.inside.unread r) h
