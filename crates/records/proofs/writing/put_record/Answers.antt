use Rattle.std.proofs.Common.{◌≡◌, ◌++◌, ℕ, List, length, append_assoc, refl, ap, ◌∙◌}
use Rattle.std.specs.Int.{w32, w64, to_be_bytes}
use Rattle.records.specs.Spelling.{sum_of, spell}
use Rattle.records.proofs.writing.put_record.Goals as goal

joined : (o s m t k a b d e : List ℕ) → a ≡ o ++ s → b ≡ a ++ m → d ≡ b ++ t → e ≡ d ++ k → e ≡ o ++ (s ++ (m ++ (t ++ k)))
joined o s m t k a b d e h i j l = l ∙ ap (λ (x : List ℕ). x ++ k) (j ∙ ap (λ (x : List ℕ). x ++ t) (i ∙ ap (λ (x : List ℕ). x ++ m) h)) ∙ simp append_assoc refl

pub returns-clause-ok : goal.returns-clause-ok
unfolding spell
returns-clause-ok g c =
    let s : c.to_be_bytes-size.result ≡ to_be_bytes w32 (length c.args.payload.now) = c.to_be_bytes-size.ensures in
    let m : c.to_be_bytes.result ≡ to_be_bytes w64 (sum_of c.args.salt c.args.place (to_be_bytes w32 (length c.args.payload.now))) = c.to_be_bytes.ensures ∙ ap (to_be_bytes w64) (c.sum_of.ensures ∙ ap (sum_of c.args.salt c.args.place) s) in
    let k : c.to_be_bytes-2.result ≡ to_be_bytes w64 (sum_of c.args.salt c.args.place c.args.payload.now) = c.to_be_bytes-2.ensures ∙ ap (to_be_bytes w64) c.sum_of-2.ensures in
    let a = c.in_ok-extend_from_slice.ensures.items ∙ ap (λ (x : List ℕ). c.args.out.now.items ++ x) s in
    let b = c.in_ok-extend_from_slice-2.ensures.items ∙ ap (λ (x : List ℕ). c.extend_from_slice.new.self.items ++ x) m in
    let d = c.in_ok-extend_from_slice-3.ensures.items in
    let e = c.in_ok-extend_from_slice-4.ensures.items ∙ ap (λ (x : List ℕ). c.extend_from_slice-3.new.self.items ++ x) k in
    joined c.args.out.now.items (to_be_bytes w32 (length c.args.payload.now)) (to_be_bytes w64 (sum_of c.args.salt c.args.place (to_be_bytes w32 (length c.args.payload.now)))) c.args.payload.now (to_be_bytes w64 (sum_of c.args.salt c.args.place c.args.payload.now))
    c.extend_from_slice.new.self.items c.extend_from_slice-2.new.self.items c.extend_from_slice-3.new.self.items c.extend_from_slice-4.new.self.items a b d e
