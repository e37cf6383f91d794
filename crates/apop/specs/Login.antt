-- Who may log in, by PASS and by APOP (RFC 1939 section 7).
use Rattle.std.specs.Prelude.{ℕ, ◌++◌, List, Bool, false, Option, find}
use Rattle.std.specs.Option.{option_map_or}
use Rattle.std.specs.Str.{bytes_eq}
use Rattle.hex.specs.Hex.{encode_lower}
use Rattle.md5.specs.Md5.{md5}
use Rattle.apop.specs.Stamp.{Stamp, timestamp}
use Rattle.apop.specs.Accounts.{Account}
use Rattle.apop.specs.declared.method.Method.{Method}
use Rattle.apop.specs.declared.method.Method.TheVariants.{Pass, Apop}

-- the MD5 of the timestamp and the secret after it, as 32 lower-case hexadecimal digits
abbrev pub digest_of : Stamp → List ℕ → List ℕ
digest_of stamp secret = encode_lower (md5 (timestamp stamp ++ secret))

-- whether an account of this method and secret lets in by a secret, and by a digest after a greeting
abbrev pub admits_secret : Method → List ℕ → List ℕ → Bool
admits_secret Pass own secret = bytes_eq own secret
admits_secret Apop own secret = false

abbrev pub admits_digest : Method → List ℕ → Stamp → List ℕ → Bool
admits_digest Pass own stamp digest = false
admits_digest Apop own stamp digest = bytes_eq (digest_of stamp own) digest

-- the account of a name, if there is one
abbrev pub account_named : List Account → List ℕ → Option Account
account_named accounts name = find (λ account. bytes_eq account.name name) accounts

-- whether a user logs in by this secret
abbrev pub passes : List Account → List ℕ → List ℕ → Bool
passes accounts name secret =
    option_map_or (λ account. admits_secret account.method account.secret secret) (account_named accounts name) false

-- whether a user logs in by this digest, after a greeting with this timestamp
abbrev pub passes_apop : List Account → List ℕ → Stamp → List ℕ → Bool
passes_apop accounts name stamp digest =
    option_map_or (λ account. admits_digest account.method account.secret stamp digest) (account_named accounts name) false
