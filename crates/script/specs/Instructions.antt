-- What an operator writes on the command line.
use Rattle.std.specs.Prelude.{ℕ, true, false, List, [], ◌∷◌, codes, if◌then◌else◌, Option, None, Some, Result, Ok, Err}
use Rattle.std.specs.Option.{option_map}
use Rattle.std.specs.Str.{bytes_eq}
use Rattle.script.specs.Names.{name_of}
use Rattle.script.specs.Commands.{both_of}
use Rattle.script.specs.Keys.{prefix_of}
use Rattle.script.specs.Requests.{single_word}
use Rattle.script.specs.Words.{node_of, node_or_any}
use Rattle.script.specs.declared.instruction.Instruction.{Instruction}
use Rattle.script.specs.declared.instruction.Instruction.TheVariants as instruction
use Rattle.script.specs.declared.instruction.WordsFault.{WordsFault}
use Rattle.script.specs.declared.instruction.WordsFault.TheVariants as fault
use Rattle.script.specs.declared.request.Request.{Request}
use Rattle.script.specs.declared.request.Request.TheVariants as request

abbrev pub ask_of : Option Request → Result Instruction WordsFault
ask_of None = Err fault.Value
ask_of (Some it) = Ok (instruction.Ask it)

-- crash NODE, kick USER or stop now
abbrev pub two_words : List ℕ → List ℕ → Option Request
two_words word second =
    if bytes_eq word (codes "crash") then option_map request.Crash (node_of second)
    else if bytes_eq word (codes "kick") then option_map request.Kick (name_of second)
    else if bytes_eq word (codes "stop") then (if bytes_eq second (codes "now") then Some (request.Stop true false) else None)
    else None

abbrev pub break_with : List ℕ → List ℕ → List ℕ → Option Request
break_with word at user =
    if bytes_eq word (codes "break") then option_map (λ both. request.Break both.0 both.1) (both_of (node_of at) (name_of user)) else None

abbrev pub put_of : Option (Option ℕ × List ℕ) → Option (List ℕ) → Result Instruction WordsFault
put_of None key = Err fault.Value
put_of (Some to) key = Ok (instruction.Put to.0 to.1 key)

-- NODE USER, whose NODE may be 0, and the word of a key, which may be any bytes
abbrev pub put_with : List ℕ → List ℕ → Option (List ℕ) → Result Instruction WordsFault
put_with at user key = put_of (both_of (node_or_any at) (name_of user)) key

-- put NODE USER or break NODE USER
abbrev pub three_words : List ℕ → List ℕ → List ℕ → Result Instruction WordsFault
three_words word at user = if bytes_eq word (codes "put") then put_with at user None else ask_of (break_with word at user)

-- where mail is delivered, and to whom
abbrev pub addressee_of : List ℕ → List ℕ → List ℕ → Option (ℕ × List ℕ)
addressee_of word at user = if bytes_eq word (codes "deliver") then both_of (node_of at) (name_of user) else None

abbrev pub deliver_with : Option (ℕ × List ℕ) → List ℕ → Result Instruction WordsFault
deliver_with None file = Err fault.Value
deliver_with (Some to) file = Ok (instruction.Deliver to.0 to.1 file None)

abbrev pub with_key : (ℕ × List ℕ) → List ℕ → Option (List ℕ) → Result Instruction WordsFault
with_key to file None = Err fault.Key
with_key to file (Some key) = Ok (instruction.Deliver to.0 to.1 file (Some key))

abbrev pub keyed_with : Option (ℕ × List ℕ) → List ℕ → List ℕ → Result Instruction WordsFault
keyed_with None file key = Err fault.Value
keyed_with (Some to) file key = with_key to file (prefix_of key)

-- put NODE USER KEY or deliver NODE USER FILE
abbrev pub four_words : List ℕ → List ℕ → List ℕ → List ℕ → Result Instruction WordsFault
four_words word at user last =
    if bytes_eq word (codes "put") then put_with at user (Some last) else deliver_with (addressee_of word at user) last

-- the instruction of the words of a command line
abbrev pub instruction_of : List (List ℕ) → Result Instruction WordsFault
instruction_of (word ∷ []) = ask_of (single_word word)
instruction_of (word ∷ second ∷ []) = ask_of (two_words word second)
instruction_of (word ∷ at ∷ user ∷ []) = three_words word at user
instruction_of (word ∷ at ∷ user ∷ last ∷ []) = four_words word at user last
instruction_of (word ∷ at ∷ user ∷ file ∷ key ∷ []) = keyed_with (addressee_of word at user) file key
instruction_of words = Err fault.Value
