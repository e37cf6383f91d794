-- How long lines may be.
use Rattle.std.specs.Prelude.{ℕ}

-- the most bytes of a client's line, without its LF: with it, 512 octets
abbrev pub longest_line : ℕ
longest_line = 511

-- the most digits of a number
abbrev pub most_digits : ℕ
most_digits = 9

-- the most octets of a reply's line, its end included (RFC 1939 section 3)
abbrev pub longest_reply_line : ℕ
longest_reply_line = 512
