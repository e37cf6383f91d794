-- The code's way to take arguments apart gives the command of the definition.
use Rattle.std.proofs.Common.{◌≡◌, ◌≢◌, ◌∙◌, ap, ℕ, Bool, true, false, cond, List, [], ◌∷◌, Option, None, Some, refl}
use Rattle.std.specs.Option.{option_map, option_and_then, ok_or}
use Rattle.maildrop.specs.Name.{is_name}
use Rattle.pop3_wire.specs.Commands.{number_of, verb_with, arguments_in, without_trailing_spaces, command_of, pass_with}
use Rattle.pop3_wire.specs.Arguments.{both_of, verb_by_parts}
use Rattle.pop3_wire.specs.declared.verb.Verb.{Verb}
use Rattle.pop3_wire.specs.declared.verb.Verb.TheVariants as verb
use Rattle.pop3_wire.specs.declared.verb.LineFault.TheVariants.{Arguments}
use Rattle.pop3_wire.specs.declared.verb.Keyword.{Keyword}
use Rattle.pop3_wire.specs.declared.verb.Keyword.TheVariants as keyword

named : (is : Bool) (name : List ℕ) → option_map verb.User (cond is (Some name) None) ≡ cond is (Some (verb.User name)) None
named true name = refl
named false name = refl

two : (a b : Option ℕ) → option_map (λ n. verb.Top n.0 n.1) (both_of a b) ≡ option_and_then (λ n. option_map (λ l. verb.Top n l) b) a
two None None = refl
two None (Some b) = refl
two (Some a) None = refl
two (Some a) (Some b) = refl

pub by_parts : (word : Keyword) (arguments : List (List ℕ)) → verb_by_parts word arguments ≡ verb_with word arguments
by_parts keyword.User (name ∷ []) = named (is_name name) name
by_parts keyword.Top (number ∷ lines ∷ []) = two (number_of number) (number_of lines)
by_parts keyword.User [] = refl
by_parts word [] = refl
by_parts word (first ∷ []) = refl
by_parts word (first ∷ second ∷ []) = refl
by_parts keyword.User (first ∷ second ∷ third ∷ more) = refl
by_parts word (first ∷ second ∷ third ∷ more) = refl

-- the command of every keyword but PASS
pub by_other : (word : Keyword) (bytes : List ℕ) (found : Option Verb) → word ≢ keyword.Pass → found ≡ verb_by_parts word (arguments_in (without_trailing_spaces bytes)) → ok_or found (Arguments word) ≡ command_of (Some word) bytes
by_other keyword.Pass bytes found other same = absurd (other refl)
by_other word bytes found other same = ap (λ v. ok_or v (Arguments word)) (same ∙ by_parts word (arguments_in (without_trailing_spaces bytes)))

pub by_pass : (word : Keyword) (bytes : List ℕ) (found : Option Verb) → word ≡ keyword.Pass → found ≡ pass_with bytes → ok_or found (Arguments word) ≡ command_of (Some word) bytes
by_pass word bytes found is same = rw (is, same) refl
