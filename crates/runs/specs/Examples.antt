-- Worked examples: a service that opens with maildrops, and what it hands on.
use Rattle.std.specs.Prelude.{◌≡◌, refl, ℕ, List, [], ◌∷◌, ◌++◌, Option, Some, None, option_map, codes}
use Rattle.std.specs.List.{concat}
use Rattle.std.specs.Fmt.{digits}
use Rattle.apop.specs.declared.method.Method.TheVariants.{Pass}
use Rattle.maildrop.specs.Kept.{KeptMaildrop, KeptTable, kept_for}
use Rattle.pop3_wire.specs.declared.line.Line.TheVariants.{Whole}
use Rattle.runs.specs.Clients.{client_of}
use Rattle.runs.specs.Lives.{handed_on}
use Rattle.runs.specs.Messages.{log_of}
use Rattle.runs.specs.Services.{Service, Happening, Occurs, run_of}
use Rattle.runs.specs.declared.config.Config.{Config}
use Rattle.runs.specs.declared.event.Event.TheVariants.{Connect, Line, Collect, Mail, Arrive, Campaign}

module _ (A : Type 0) where
  abbrev alice : List ℕ
  alice = codes "alice"

  abbrev bob : List ℕ
  bob = codes "bob"

  -- alice has got the unique ids 1 to 8 so far, and has two messages left. The key k brought the message with the id 3
  abbrev of_alice : KeptMaildrop A
  of_alice = record {
    messages = record { uid = 3; text = codes "hi" ∷ [] } ∷ record { uid = 7; text = codes "ho" ∷ [] } ∷ [];
    next_uid = 9;
    keys = (codes "k", 3) ∷ [];
  }

  -- bob has mail and no account
  abbrev of_bob : KeptMaildrop A
  of_bob = record { messages = record { uid = 1; text = codes "yo" ∷ [] } ∷ []; next_uid = 2; keys = [] }

  abbrev cfg : Config A
  cfg = record {
    accounts = record { name = alice; method = Pass; secret = codes "s" } ∷ [];
    limits = record { messages = 2; octets = 1000; ids = 1000 };
    kept = (bob, of_bob) ∷ (alice, of_alice) ∷ [];
    keys = 10;
    cluster = 1;
    window = 5;
  }

  abbrev says : List ℕ → Happening A
  says bytes = Occurs (Line 1 (Whole bytes))

  abbrev arrive : ℕ → Happening A
  arrive which = Occurs (Arrive which)

  abbrev replies_to : ℕ → Service A → Option (List ℕ)
  replies_to session w = option_map (λ c. c.replies) (client_of session w.clients)

  -- the client logs in, and its Take is decided
  abbrev until_the_lock : List (Happening A)
  until_the_lock =
      Occurs (Connect 1 1 (record { nonce = codes "1.1"; host = codes "localhost" })) ∷ says (codes "USER alice") ∷ says (codes "PASS s")
      ∷ Occurs (Campaign 1) ∷ arrive 0 ∷ arrive 1 ∷ arrive 2 ∷ arrive 3 ∷ arrive 4 ∷ arrive 5 ∷ Occurs (Collect 1) ∷ []

  -- it finds the messages under their unique ids
  opened_service : replies_to 1 (run_of cfg (until_the_lock ++ says (codes "UIDL") ∷ []))
      ≡ Some (concat (codes "+OK POP3 server ready <1.1@localhost>\r\n" ∷ codes "+OK send PASS\r\n" ∷ codes "+OK maildrop has 2 messages (8 octets)\r\n"
      ∷ codes "+OK\r\n1 3\r\n2 7\r\n.\r\n" ∷ []))
  unfolding digits
  opened_service = refl

  -- a delivery under the key k is stored already, and one without a key finds the maildrop full: all is handed on as it was
  abbrev two_deliveries : List (Happening A)
  two_deliveries =
      Occurs (Mail 1 alice (codes "hi" ∷ []) (Some (codes "k"))) ∷ Occurs (Mail 1 alice (codes "ha" ∷ []) None) ∷ Occurs (Campaign 1)
      ∷ arrive 0 ∷ arrive 1 ∷ arrive 2 ∷ arrive 3 ∷ arrive 4 ∷ arrive 5 ∷ arrive 6 ∷ arrive 7 ∷ arrive 8 ∷ arrive 9 ∷ []

  abbrev left_after : List (Happening A) → Option (KeptTable A)
  left_after happenings = option_map (handed_on cfg) (log_of 1 (run_of cfg happenings).network.logs)

  handed_on_as_it_was : left_after two_deliveries ≡ Some ((alice, of_alice) ∷ (bob, of_bob) ∷ [])
  handed_on_as_it_was = refl

  -- bob has no account, and his mail is kept
  bob_stays : option_map (kept_for bob) (left_after two_deliveries) ≡ Some of_bob
  bob_stays = refl
