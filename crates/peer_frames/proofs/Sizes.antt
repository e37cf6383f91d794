-- Many items take many bytes.
use Rattle.std.proofs.Common.{ℕ, ◌<◌, ◌≤◌, ◌^◌, List, [], ◌∷◌, ◌++◌, length, arith}
use Rattle.std.specs.List.{flat_map}
use Rattle.std.proofs.lemmas.List.{length-append}
use Rattle.std.proofs.lemmas.List.Concat.{flat_map-cons}
use Rattle.ballot.specs.declared.message.Promise.{Promise}
use Rattle.ballot.specs.declared.pvalue.PValue.{PValue}
use Rattle.maildrop.specs.declared.command.Command.{Command}
use Rattle.peer_frames.specs.declared.version.Version.{Version}
use Rattle.peer_frames.specs.Numbers.{longest}
use Rattle.peer_frames.specs.Frames.{ballot_bytes, command_bytes, counted, long_string, promise_bytes, pvalue_bytes, u32_bytes, u64_bytes}
use Rattle.peer_frames.proofs.Formats.{length_u32_bytes, length_u64_bytes}

-- items that each take a byte at least
long_list : {X : Type 0} (f : X → List ℕ) → ((x : X) → 1 ≤ length (f x)) → (xs : List X) → length xs ≤ length (flat_map f xs)
long_list f some [] = omega arith
long_list f some (x ∷ xs) =
    let rest = long_list f some xs in
    rw (flat_map-cons f x xs) (omega (arith, rest, some x, length-append (f x) (flat_map f xs)))

pub many_lines : (text : List (List ℕ)) → 2 ^ 32 ≤ length text → longest < length (counted long_string text)
many_lines text many =
    let all = long_list long_string (λ line. omega (arith, length_u32_bytes (length line), length-append (u32_bytes (length line)) line)) text in
    omega (arith, all, length-append (u32_bytes (length text)) (flat_map long_string text))

pub many_numbers : (uids : List ℕ) → 2 ^ 32 ≤ length uids → longest < length (counted u64_bytes uids)
many_numbers uids many =
    let all = long_list u64_bytes (λ n. omega (arith, length_u64_bytes n)) uids in
    omega (arith, all, length-append (u32_bytes (length uids)) (flat_map u64_bytes uids))

pub many_pvalues : {A : Type 0} (v : Version) (ps : List (PValue (Command A))) → 2 ^ 32 ≤ length ps → longest < length (counted (pvalue_bytes v) ps)
many_pvalues v ps many =
    let all = long_list (pvalue_bytes v) (λ p. omega (arith, length_u64_bytes p.ballot.round, length-append (u64_bytes p.ballot.round) (p.ballot.leader ∷ []), length-append (ballot_bytes p.ballot) (u64_bytes p.slot), length-append (ballot_bytes p.ballot ++ u64_bytes p.slot) (command_bytes v p.command))) ps in
    omega (arith, all, length-append (u32_bytes (length ps)) (flat_map (pvalue_bytes v) ps))

pub many_promised : {A : Type 0} (v : Version) (p : Promise (Command A) A) → 2 ^ 32 ≤ length p.accepted → longest < length (promise_bytes v p)
many_promised v p many =
    omega (arith, many_pvalues v p.accepted many, length-append (ballot_bytes p.asked ++ ballot_bytes p.ballot) (counted (pvalue_bytes v) p.accepted))
