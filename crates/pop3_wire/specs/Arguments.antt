-- Arguments as the code takes them apart. Only private contracts cite this.
use Rattle.std.specs.Prelude.{ℕ, ◌&&◌, Bool, true, false, List, [], ◌∷◌, if◌then◌else◌, Option, None, Some}
use Rattle.std.specs.Option.{option_map, option_and_then}
use Rattle.maildrop.specs.Name.{is_name}
use Rattle.pop3_wire.specs.Commands.{number_of}
use Rattle.pop3_wire.specs.declared.verb.Verb.{Verb}
use Rattle.pop3_wire.specs.declared.verb.Verb.TheVariants as verb
use Rattle.pop3_wire.specs.declared.verb.Keyword.{Keyword}
use Rattle.pop3_wire.specs.declared.verb.Keyword.TheVariants as keyword

abbrev pub is_nothing : List (List ℕ) → Bool
is_nothing [] = true
is_nothing (argument ∷ arguments) = false

abbrev pub only_argument : List (List ℕ) → Option (List ℕ)
only_argument (argument ∷ []) = Some argument
only_argument arguments = None

abbrev pub two_arguments : List (List ℕ) → Option (List ℕ × List ℕ)
two_arguments (first ∷ second ∷ []) = Some (first, second)
two_arguments arguments = None

-- the one argument, which is a name
abbrev pub name_in : List (List ℕ) → Option (List ℕ)
name_in arguments = option_and_then (λ name. if is_name name then Some name else None) (only_argument arguments)

-- the one argument, which is a number
abbrev pub number_in : List (List ℕ) → Option ℕ
number_in arguments = option_and_then number_of (only_argument arguments)

-- two numbers, if both are there
abbrev pub both_of : Option ℕ → Option ℕ → Option (ℕ × ℕ)
both_of (Some first) (Some second) = Some (first, second)
both_of first second = None

-- the two arguments, which are numbers
abbrev pub numbers_in : List (List ℕ) → Option (ℕ × ℕ)
numbers_in arguments = option_and_then (λ both. both_of (number_of both.0) (number_of both.1)) (two_arguments arguments)

abbrev pub apop_of : List ℕ → List ℕ → Option Verb
apop_of name digest = if is_name name && is_name digest then Some (verb.Apop name digest) else None

-- the two arguments, which are a name and a digest
abbrev pub apop_in : List (List ℕ) → Option Verb
apop_in arguments = option_and_then (λ both. apop_of both.0 both.1) (two_arguments arguments)

-- what `verb_with` gives
abbrev pub verb_by_parts : Keyword → List (List ℕ) → Option Verb
verb_by_parts keyword.User arguments = option_map verb.User (name_in arguments)
verb_by_parts keyword.Apop arguments = apop_in arguments
verb_by_parts keyword.Stat arguments = if is_nothing arguments then Some verb.Stat else None
verb_by_parts keyword.List arguments = if is_nothing arguments then Some (verb.List None) else option_map (λ n. verb.List (Some n)) (number_in arguments)
verb_by_parts keyword.Retr arguments = option_map verb.Retr (number_in arguments)
verb_by_parts keyword.Dele arguments = option_map verb.Dele (number_in arguments)
verb_by_parts keyword.Noop arguments = if is_nothing arguments then Some verb.Noop else None
verb_by_parts keyword.Rset arguments = if is_nothing arguments then Some verb.Rset else None
verb_by_parts keyword.Top arguments = option_map (λ n. verb.Top n.0 n.1) (numbers_in arguments)
verb_by_parts keyword.Uidl arguments = if is_nothing arguments then Some (verb.Uidl None) else option_map (λ n. verb.Uidl (Some n)) (number_in arguments)
verb_by_parts keyword.Capa arguments = if is_nothing arguments then Some verb.Capa else None
verb_by_parts keyword.Quit arguments = if is_nothing arguments then Some verb.Quit else None
verb_by_parts keyword.Pass arguments = None
