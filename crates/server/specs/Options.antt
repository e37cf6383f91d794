-- The options of a lone session.
use Rattle.std.specs.Prelude.{ℕ, List, [], Option, None, Some, Result, Ok, IsTrue, is_some}
use Rattle.std.specs.Option.{unwrap_or, option_map}
use Rattle.apop.specs.Accounts.{Account, is_secret, method_of}
use Rattle.apop.specs.Stamp.{Stamp, IsNonce, IsHost}
use Rattle.apop.specs.declared.method.Method.TheVariants.{Pass}
use Rattle.maildrop.specs.Name.{IsName}
use Rattle.maildrop.specs.Limits.{Limits}
use Rattle.mboxrd.specs.Mailbox.{read_of}
use Rattle.mboxrd.specs.declared.error.MboxError.{MboxError}
use Rattle.server.specs.declared.options.LoneOptions.{LoneOptions}

-- the user is a name, the method one of the two, and the secret one that an account may have
abbrev pub IsAccount : LoneOptions → Type 0
IsAccount options =
    IsName options.user.now × IsTrue (is_some (method_of options.method.now)) × IsTrue (is_secret options.secret.now)

-- the nonce and the host are those of a timestamp
abbrev pub IsStamp : LoneOptions → Type 0
IsStamp options = IsNonce options.nonce.now × IsHost options.host.now

abbrev pub account_of : LoneOptions → Account
account_of options = record { name = options.user.now; method = unwrap_or (method_of options.method.now) Pass; secret = options.secret.now }

abbrev pub stamp_of : LoneOptions → Stamp
stamp_of options = record { nonce = options.nonce.now; host = options.host.now }

-- the texts of a mailbox file, if there is one
abbrev pub texts_in : Option (List ℕ) → Result (List (List (List ℕ))) MboxError
texts_in None = Ok []
texts_in (Some bytes) = read_of bytes

abbrev pub texts_of : LoneOptions → Result (List (List (List ℕ))) MboxError
texts_of options = texts_in (option_map (λ bytes. bytes.now) options.mbox)

-- the limits of the maildrop
abbrev pub lone_limits : Limits
lone_limits = record { messages = 10000; octets = 50000000; ids = 1000000000 }
