-- Worked examples of the definitions.
use Rattle.std.specs.Prelude.{◌≡◌, ◌++◌, ℕ, List, [], ◌∷◌, refl, codes, true, false, Some, None, Ok, Err, map}
use Rattle.md5.specs.Md5.{block_words, rounds, compress, hash_after, digest_bytes, md5}
use Rattle.hex.specs.Hex.{encode_with}
use Rattle.apop.specs.Stamp.{Stamp, are_runs, timestamp}
use Rattle.apop.specs.Accounts.{Account, row_of, accounts_of, name_of}
use Rattle.apop.specs.Login.{passes, passes_apop}
use Rattle.apop.specs.declared.method.Method.TheVariants.{Pass, Apop}
use Rattle.apop.specs.declared.error.AccountsError.TheVariants.{Line, Twice}

-- the parts of a timestamp
nonce : are_runs false (codes "1896.697170952") ≡ true
nonce = refl

nonce-empty : are_runs false [] ≡ false
nonce-empty = refl

nonce-two_dots : are_runs false (codes "a..b") ≡ false
nonce-two_dots = refl

nonce-dot_first : are_runs false (codes ".a") ≡ false
nonce-dot_first = refl

nonce-dot_last : are_runs false (codes "a.") ≡ false
nonce-dot_last = refl

nonce-hyphen : are_runs false (codes "a-b") ≡ false
nonce-hyphen = refl

nonce-space : are_runs false (codes "a b") ≡ false
nonce-space = refl

host-hyphens : are_runs true (codes "a-b.c--d") ≡ true
host-hyphens = refl

host-hyphen_first : are_runs true (codes "-a") ≡ false
host-hyphen_first = refl

host-hyphen_last : are_runs true (codes "a-") ≡ false
host-hyphen_last = refl

host-hyphen_begins_a_run : are_runs true (codes "a.-b") ≡ false
host-hyphen_begins_a_run = refl

host-hyphen_ends_a_run : are_runs true (codes "a-.b") ≡ false
host-hyphen_ends_a_run = refl

abbrev greeting : Stamp
greeting = record { nonce = codes "1896.697170952"; host = codes "dbc.mtview.ca.us" }

greeting-text : timestamp greeting ≡ codes "<1896.697170952@dbc.mtview.ca.us>"
greeting-text = refl

-- rows of a file
abbrev line_feed : List ℕ
line_feed = 10 ∷ []

abbrev two_accounts : List Account
two_accounts =
    record { name = codes "alice"; method = Pass; secret = codes "s3" }
    ∷ record { name = codes "bob"; method = Apop; secret = codes "a b" } ∷ []

two_rows : accounts_of (codes "alice pass s3" ++ line_feed ++ codes "bob apop a b") ≡ Ok two_accounts
two_rows = refl

carriage_returns : accounts_of (codes "alice pass s3" ++ 13 ∷ line_feed ++ 13 ∷ line_feed ++ codes "bob apop a b" ++ line_feed) ≡ Ok two_accounts
carriage_returns = refl

names : map name_of two_accounts ≡ codes "alice" ∷ codes "bob" ∷ []
names = refl

no_accounts : accounts_of [] ≡ Ok []
no_accounts = refl

no_secret : accounts_of (codes "alice pass") ≡ Err (Line 1)
no_secret = refl

empty_secret : accounts_of (codes "alice pass ") ≡ Err (Line 1)
empty_secret = refl

name_twice : accounts_of (codes "alice pass a" ++ line_feed ++ line_feed ++ codes "alice apop b") ≡ Err (Twice 3)
name_twice = refl

-- the first line at fault is told, and of one line that it is no row
first_fault_first : accounts_of (codes "a pass b" ++ line_feed ++ codes "a pass" ++ line_feed ++ codes "a pass c") ≡ Err (Line 2)
first_fault_first = refl

-- one space between, and the secret is the rest of the line
secret_of_spaces : row_of (codes "a pass  b ") ≡ Some (record { name = codes "a"; method = Pass; secret = codes " b " })
secret_of_spaces = refl

two_spaces : row_of (codes "a  pass b") ≡ None
two_spaces = refl

other_method : row_of (codes "a PASS b") ≡ None
other_method = refl

-- logins
passes-same : passes two_accounts (codes "alice") (codes "s3") ≡ true
passes-same = refl

passes-longer : passes two_accounts (codes "alice") (codes "s3 ") ≡ false
passes-longer = refl

passes-other_method : passes two_accounts (codes "bob") (codes "a b") ≡ false
passes-other_method = refl

passes-unknown : passes two_accounts (codes "zoe") (codes "s3") ≡ false
passes-unknown = refl

-- the example of RFC 1939 section 7
abbrev mrose : List Account
mrose = record { name = codes "mrose"; method = Apop; secret = codes "tanstaaf" } ∷ []

digest-lower : passes_apop mrose (codes "mrose") greeting (codes "c4c9334bac560ecc979e58001b3e22fb") ≡ true
unfolding block_words rounds compress hash_after digest_bytes md5 encode_with
digest-lower = refl

digest-upper : passes_apop mrose (codes "mrose") greeting (codes "C4C9334BAC560ECC979E58001B3E22FB") ≡ false
unfolding block_words rounds compress hash_after digest_bytes md5 encode_with
digest-upper = refl

digest-no_pass : passes mrose (codes "mrose") (codes "tanstaaf") ≡ false
digest-no_pass = refl
