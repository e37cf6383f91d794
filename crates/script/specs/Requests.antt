-- What an operator asks: a word and then others, with one space between.
use Rattle.std.specs.Prelude.{ℕ, ◌≤◌, ◌++◌, ◌^◌, nat_lt, Bool, true, false, List, [], length, codes, decimal, if◌then◌else◌, Option, None, Some, option_and_then}
use Rattle.std.specs.Option.{option_map}
use Rattle.std.specs.Str.{bytes_eq}
use Rattle.apop.specs.Accounts.{cut_at_space}
use Rattle.maildrop.specs.Key.{IsKey}
use Rattle.maildrop.specs.Name.{IsName}
use Rattle.script.specs.Names.{name_of}
use Rattle.script.specs.Commands.{both_of, node_and_user}
use Rattle.script.specs.Keys.{IsKeyPrefix, prefix_of}
use Rattle.script.specs.Words.{last_node, number_between, key_of, node_of, node_or_any}
use Rattle.script.specs.declared.request.Request.{Request}
use Rattle.script.specs.declared.request.Request.TheVariants as request

-- the most bytes of a file that is delivered, and of a message that is put
abbrev pub largest_file : ℕ
largest_file = 2 ^ 30

abbrev pub count_of : List ℕ → Option ℕ
count_of bytes = number_between 0 largest_file bytes

abbrev pub count_and_key_of : Option (List ℕ × List ℕ) → List ℕ → Option (ℕ × Option (List ℕ))
count_and_key_of None rest = option_map (λ count. (count, None)) (count_of rest)
count_and_key_of (Some parts) rest = option_map (λ both. (both.0, Some both.1)) (both_of (count_of parts.0) (prefix_of parts.1))

-- COUNT or COUNT KEY
abbrev pub count_and_key : List ℕ → Option (ℕ × Option (List ℕ))
count_and_key rest = count_and_key_of (cut_at_space rest) rest

abbrev pub deliver_of : Option ℕ → Option (List ℕ) → Option (ℕ × Option (List ℕ)) → Option Request
deliver_of (Some at) (Some user) (Some both) = Some (request.Deliver at user both.0 both.1)
deliver_of at user both = None

-- NODE USER COUNT or NODE USER COUNT KEY
abbrev pub deliver_in : List ℕ → Option Request
deliver_in rest =
    option_and_then (λ (node, behind). option_and_then (λ (user, more). deliver_of (node_of node) (name_of user) (count_and_key more)) (cut_at_space behind)) (cut_at_space rest)

abbrev pub count_and_message_key_of : Option (List ℕ × List ℕ) → List ℕ → Option (ℕ × Option (List ℕ))
count_and_message_key_of None rest = option_map (λ count. (count, None)) (count_of rest)
count_and_message_key_of (Some parts) rest = option_map (λ both. (both.0, Some both.1)) (both_of (count_of parts.0) (key_of parts.1))

-- COUNT or COUNT KEY, whose KEY is the key of the one message
abbrev pub count_and_message_key : List ℕ → Option (ℕ × Option (List ℕ))
count_and_message_key rest = count_and_message_key_of (cut_at_space rest) rest

abbrev pub put_of : Option (Option ℕ) → Option (List ℕ) → Option (ℕ × Option (List ℕ)) → Option Request
put_of (Some at) (Some user) (Some both) = Some (request.Put at user both.0 both.1)
put_of at user both = None

-- NODE USER COUNT or NODE USER COUNT KEY, whose NODE may be 0
abbrev pub put_in : List ℕ → Option Request
put_in rest =
    option_and_then (λ (node, behind). option_and_then (λ (user, more). put_of (node_or_any node) (name_of user) (count_and_message_key more)) (cut_at_space behind)) (cut_at_space rest)

-- now, wait or now wait
abbrev pub stop_in : List ℕ → Option Request
stop_in rest =
    if bytes_eq rest (codes "now") then Some (request.Stop true false)
    else if bytes_eq rest (codes "wait") then Some (request.Stop false true)
    else if bytes_eq rest (codes "now wait") then Some (request.Stop true true)
    else None

-- the request of a first word and what stands after its space
abbrev pub request_with : List ℕ → List ℕ → Option Request
request_with word rest =
    if bytes_eq word (codes "deliver") then deliver_in rest
    else if bytes_eq word (codes "break") then option_map (λ both. request.Break both.0 both.1) (node_and_user rest)
    else if bytes_eq word (codes "crash") then option_map request.Crash (node_of rest)
    else if bytes_eq word (codes "put") then put_in rest
    else if bytes_eq word (codes "kick") then option_map request.Kick (name_of rest)
    else if bytes_eq word (codes "stop") then stop_in rest
    else None

abbrev pub single_word : List ℕ → Option Request
single_word line =
    if bytes_eq line (codes "status") then Some request.Status
    else if bytes_eq line (codes "stop") then Some (request.Stop false false)
    else if bytes_eq line (codes "sessions") then Some request.Sessions
    else if bytes_eq line (codes "stats") then Some request.Stats
    else if bytes_eq line (codes "locks") then Some request.Locks
    else if bytes_eq line (codes "users") then Some request.Users
    else if bytes_eq line (codes "roll") then Some request.Roll
    else if bytes_eq line (codes "reopen") then Some request.Reopen
    else None

abbrev pub request_cut : Option (List ℕ × List ℕ) → List ℕ → Option Request
request_cut None line = single_word line
request_cut (Some parts) line = request_with parts.0 parts.1

-- the most bytes of a request's line without its line feed
abbrev pub longest_request : ℕ
longest_request = 511

-- the request of a line without its line feed
abbrev pub request_of : List ℕ → Option Request
request_of line = if nat_lt longest_request (length line) then None else request_cut (cut_at_space line) line

-- a space and a key or its prefix, if there is one
abbrev pub key_text : Option (List ℕ) → List ℕ
key_text None = []
key_text (Some key) = codes " " ++ key

-- the number of a node, or 0 for any node
abbrev pub node_number : Option ℕ → ℕ
node_number None = 0
node_number (Some at) = at

-- the line of a stop: `now` and `wait` in this order
abbrev pub stop_text : Bool → Bool → List ℕ
stop_text false false = codes "stop"
stop_text true false = codes "stop now"
stop_text false true = codes "stop wait"
stop_text true true = codes "stop now wait"

-- the line of a request without its line feed
abbrev pub request_text : Request → List ℕ
request_text (request.Deliver at user count key) = codes "deliver " ++ decimal at ++ codes " " ++ user ++ codes " " ++ decimal count ++ key_text key
request_text (request.Put at user count key) = codes "put " ++ decimal (node_number at) ++ codes " " ++ user ++ codes " " ++ decimal count ++ key_text key
request_text (request.Break at user) = codes "break " ++ decimal at ++ codes " " ++ user
request_text (request.Kick user) = codes "kick " ++ user
request_text (request.Crash at) = codes "crash " ++ decimal at
request_text request.Status = codes "status"
request_text request.Sessions = codes "sessions"
request_text request.Stats = codes "stats"
request_text request.Locks = codes "locks"
request_text request.Users = codes "users"
request_text request.Roll = codes "roll"
request_text request.Reopen = codes "reopen"
request_text (request.Stop now wait) = stop_text now wait

abbrev pub HasKeyPrefix : Option (List ℕ) → Type 0
HasKeyPrefix None = Unit {0}
HasKeyPrefix (Some prefix) = IsKeyPrefix prefix

abbrev pub HasKey : Option (List ℕ) → Type 0
HasKey None = Unit {0}
HasKey (Some key) = IsKey key

-- any node, or one of them
abbrev pub IsNodeOrAny : Option ℕ → Type 0
IsNodeOrAny None = Unit {0}
IsNodeOrAny (Some at) = (1 ≤ at) × (at ≤ last_node)

-- the parts of a request are in their ranges
abbrev pub IsRequest : Request → Type 0
IsRequest (request.Deliver at user count key) = (1 ≤ at) × (at ≤ last_node) × IsName user × (count ≤ largest_file) × HasKeyPrefix key
IsRequest (request.Put at user count key) = IsNodeOrAny at × IsName user × (count ≤ largest_file) × HasKey key
IsRequest (request.Break at user) = (1 ≤ at) × (at ≤ last_node) × IsName user
IsRequest (request.Kick user) = IsName user
IsRequest (request.Crash at) = (1 ≤ at) × (at ≤ last_node)
IsRequest request.Status = Unit {0}
IsRequest request.Sessions = Unit {0}
IsRequest request.Stats = Unit {0}
IsRequest request.Locks = Unit {0}
IsRequest request.Users = Unit {0}
IsRequest request.Roll = Unit {0}
IsRequest request.Reopen = Unit {0}
IsRequest (request.Stop now wait) = Unit {0}
