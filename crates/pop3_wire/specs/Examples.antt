-- Worked examples of the definitions.
use Rattle.std.specs.Prelude.{◌≡◌, List, ℕ, [], ◌∷◌, ◌++◌, replicate, refl, codes, None, Some, Ok, Err}
use Rattle.std.specs.Fmt.{digits}
use Rattle.pop3_wire.specs.declared.line.Line.TheVariants.{Whole, TooLong}
use Rattle.pop3_wire.specs.declared.verb.Verb.TheVariants as verb
use Rattle.pop3_wire.specs.declared.verb.Keyword.TheVariants as keyword
use Rattle.pop3_wire.specs.declared.verb.LineFault.TheVariants.{Unknown, Arguments}
use Rattle.pop3_wire.specs.Lines.{lines_of}
use Rattle.pop3_wire.specs.Reader.{Open, Finished, Feed, NextLine, kept_after, run_of}
use Rattle.pop3_wire.specs.Commands.{verb_of}
use Rattle.pop3_wire.specs.Stuffing.{wire_form, top_lines, unstuffed_line}
use Rattle.pop3_wire.specs.Reply.{message_text, message_top, maildrop_has, scan_listings, drop_listing, unique_id_listings}

-- a line end may be LF alone, and only one CR before it goes
two_lines : lines_of (codes "QUIT\r\nNOOP\nleft") ≡ Whole (codes "QUIT") ∷ Whole (codes "NOOP") ∷ []
two_lines = refl

carriage_returns : lines_of (codes "a\rb\r\r\n\r\n\n") ≡ Whole (codes "a\rb\r") ∷ Whole [] ∷ Whole [] ∷ []
carriage_returns = refl

-- with its end a line has at most 512 octets
longest_line : lines_of (replicate 510 65 ++ codes "\r\n") ≡ Whole (replicate 510 65) ∷ []
longest_line = refl

longest_bare_line : lines_of (replicate 511 65 ++ codes "\n") ≡ Whole (replicate 511 65) ∷ []
longest_bare_line = refl

too_long_line : lines_of (replicate 511 65 ++ codes "\r\nNOOP\n") ≡ TooLong ∷ Whole (codes "NOOP") ∷ []
too_long_line = refl

-- what is left of a stream
open_line : kept_after (codes "NOOP\nQU") ≡ Open (codes "QU")
open_line = refl

ended_line : kept_after (codes "NOOP\nQUIT\r\n") ≡ Finished (Whole (codes "QUIT"))
ended_line = refl

-- a line that comes in two pieces
two_pieces : (run_of (Feed (codes "NO") ∷ Feed (codes "OP\r\nQ") ∷ NextLine ∷ Feed (codes "Q") ∷ [])).lines ≡ Whole (codes "NOOP") ∷ []
two_pieces = refl

unknown_keyword : verb_of (codes "XYZZY 1") ≡ Err Unknown
unknown_keyword = refl

no_keyword : verb_of [] ≡ Err Unknown
no_keyword = refl

-- a keyword in any case, and spaces at the end
lower_case : verb_of (codes "quit  ") ≡ Ok verb.Quit
lower_case = refl

name_missing : verb_of (codes "USER") ≡ Err (Arguments keyword.User)
name_missing = refl

secret_with_space : verb_of (codes "PASS s ") ≡ Ok (verb.Pass (codes "s "))
secret_with_space = refl

argument_too_many : verb_of (codes "QUIT x") ≡ Err (Arguments keyword.Quit)
argument_too_many = refl

leading_zeros : verb_of (codes "UIDL 002") ≡ Ok (verb.Uidl (Some 2))
leading_zeros = refl

ten_digits : verb_of (codes "RETR 1234567890") ≡ Err (Arguments keyword.Retr)
ten_digits = refl

nine_digits : verb_of (codes "RETR 123456789") ≡ Ok (verb.Retr 123456789)
nine_digits = refl

one_number : verb_of (codes "TOP 1") ≡ Err (Arguments keyword.Top)
one_number = refl

two_spaces : verb_of (codes "TOP 1  2") ≡ Err (Arguments keyword.Top)
two_spaces = refl

abbrev message : List (List ℕ)
message = codes "Subject: x" ∷ [] ∷ codes "hi" ∷ codes "." ∷ codes "From me" ∷ []

-- a line that is a dot gets one more
dot_line : message_text 30 message ≡ codes "+OK 30 octets\r\nSubject: x\r\n\r\nhi\r\n..\r\nFrom me\r\n.\r\n"
unfolding digits
dot_line = refl

-- a line may end in CR
line_with_cr : wire_form (codes "a\r" ∷ []) ≡ codes "a\r\r\n.\r\n"
line_with_cr = refl

no_lines : message_text 0 [] ≡ codes "+OK 0 octets\r\n.\r\n"
unfolding digits
no_lines = refl

headers_alone : message_top message 0 ≡ codes "+OK\r\nSubject: x\r\n\r\n.\r\n"
headers_alone = refl

one_line_more : message_top message 1 ≡ codes "+OK\r\nSubject: x\r\n\r\nhi\r\n.\r\n"
one_line_more = refl

every_line : top_lines 99 message ≡ message
every_line = refl

one_message : maildrop_has 1 21 ≡ codes "+OK maildrop has 1 messages (21 octets)\r\n"
unfolding digits
one_message = refl

two_messages : drop_listing 2 41 ≡ codes "+OK 2 41\r\n"
unfolding digits
two_messages = refl

one_listed : scan_listings 21 (record { number = 2; octets = 21 } ∷ []) ≡ codes "+OK 1 messages (21 octets)\r\n2 21\r\n.\r\n"
unfolding digits
one_listed = refl

two_identified : unique_id_listings (record { number = 1; uid = 1 } ∷ record { number = 2; uid = 2 } ∷ []) ≡ codes "+OK\r\n1 1\r\n2 2\r\n.\r\n"
unfolding digits
two_identified = refl

-- a dot in front of another byte than a dot was never sent
lone_dot : unstuffed_line (codes ".x") ≡ None
lone_dot = refl

two_dots : unstuffed_line (codes "..x") ≡ Some (codes ".x")
two_dots = refl

capabilities_asked : verb_of (codes "CAPA") ≡ Ok verb.Capa
capabilities_asked = refl

capabilities_with_argument : verb_of (codes "capa x") ≡ Err (Arguments keyword.Capa)
capabilities_with_argument = refl
