use Rattle.std.proofs.Common.{◌≡◌, ◌++◌, List, ℕ, Err, take, drop, append_assoc, sym, ap, ◌∙◌}
use Rattle.std.proofs.lemmas.List.{take-append-drop}
use Rattle.mboxrd.specs.Reader.{kept_after}
use Rattle.mboxrd.specs.declared.error.MboxError.TheVariants.{NoFromLine}
use Rattle.mboxrd.proofs.ReaderLemmas.{still_refused, failed_reads_none}
use Rattle.server.proofs.mail.texts_in.Goals as goal

-- a file is what was read, the next piece, and the rest
cut_again : (file front rest piece behind : List ℕ) (size : ℕ) → file ≡ front ++ rest → piece ≡ take size rest → behind ≡ drop size rest → file ≡ (front ++ piece) ++ behind
cut_again file front rest piece behind size whole first last =
    whole ∙ ap (λ r. front ++ r) (rw (first, last) (sym (take-append-drop size rest))) ∙ sym (append_assoc front piece behind)

pub returns-in-Err-clause-refused : goal.returns-in-Err-clause-refused
returns-in-Err-clause-refused c wrong =
    let taken = c.loop-rest.invariant in
    let piece = c.split_at.result.0.now in
    let behind = c.split_at.result.1.now in
    let same : c.in-Err.error ≡ NoFromLine = cc wrong in
    let refused = (c.in-Err.ensures.refused taken.0 taken.2).0 (ap (λ e. Err e) same) in
    let cut = cut_again c.args.file.now taken.0 c.loop-rest.rest.now piece behind c.min.result taken.1 c.split_at.ensures.front c.split_at.ensures.back in
    failed_reads_none c.args.file.now NoFromLine (ap kept_after cut ∙ still_refused (taken.0 ++ piece) behind NoFromLine (sym refused))

pub loop-rest-preserved : goal.loop-rest-preserved
loop-rest-preserved c =
    let taken = c.loop-rest.invariant in
    let piece = c.split_at.result.0.now in
    let behind = c.split_at.result.1.now in
    let cut = cut_again c.args.file.now taken.0 c.loop-rest.rest.now piece behind c.min.result taken.1 c.split_at.ensures.front c.split_at.ensures.back in
    (taken.0 ++ piece, cut, c.in_default.ensures.kept taken.0 taken.2)
