-- What is delivered if other nodes get it by frames, or if it is kept in records.
use Rattle.std.specs.Prelude.{◌≡◌, refl, Bool, true, false, ℕ, ◌+◌, ◌*◌, ◌^◌, nat_le, Option, None, Some}

-- how many bytes a file has at most, by the port of the nodes and by whether mail is kept beyond the process
abbrev pub most_file : Option ℕ → Bool → ℕ
most_file None false = 2 ^ 30
most_file None true = 240 * 2 ^ 20
most_file (Some peer_port) is_kept = 240 * 2 ^ 20

-- a line of no bytes is one byte of a file, and four of a frame or a record: a file of such lines and 16 MiB fit into 2^30 bytes
fits_a_frame : nat_le (most_file (Some 12000) false * 4 + 16 * 2 ^ 20) (2 ^ 30) ≡ true
fits_a_frame = refl

fits_a_record : nat_le (most_file None true * 4 + 4096) (2 ^ 30) ≡ true
fits_a_record = refl
