-- Why events are refused, by a world's connections.
use Rattle.std.proofs.Common.{◌≡◌, ℕ, List, [], ◌∷◌, Bool, true, false, Option, Some, None, refl, ap, ◌∙◌, cond}
use Rattle.std.specs.Prelude.{option_map, is_some, ◌||◌}
use Rattle.std.specs.Str.{bytes_eq}
use Rattle.apop.specs.Accounts.{Account, has_account}
use Rattle.apop.specs.Login.{account_named}
use Rattle.node.specs.declared.log.NodeLog.{NodeLog}
use Rattle.runs.specs.Clients.{Standing, Hears, Waits, Failed, Disconnected, Over, Client, standing_as, disconnected, client_of}
use Rattle.world.specs.Connections.{client_in, shown, connection_of, service_of}
use Rattle.world.specs.Hosts.{Hosts, network_of}
use Rattle.runs.specs.Messages.{log_of, is_up}
use Rattle.runs.specs.Refusals.{line_refusal, hangup_refusal, collect_refusal, client_refusal, connect_refusal}
use Rattle.world.specs.declared.connection.Connection.{Connection}
use Rattle.runs.specs.declared.refused.Refused.{Refused}
use Rattle.runs.specs.declared.refused.Refused.TheVariants.{SessionExists, NoSession}
use Rattle.world.proofs.Shown.{client_shown}

module _ {A : Type 0} where
  -- a client that is disconnected is refused as one whose node is down
  pub line_stranded : (o : Option (NodeLog A)) (s : Standing A) → is_up o ≡ false → line_refusal o (disconnected s) ≡ line_refusal o s
  line_stranded o (Hears state) down = rw (down) refl
  line_stranded o (Waits state id) down = rw (down) refl
  line_stranded o (Failed lock) down = refl
  line_stranded o Disconnected down = refl
  line_stranded o Over down = refl

  pub hangup_stranded : (o : Option (NodeLog A)) (s : Standing A) → is_up o ≡ false → hangup_refusal o (disconnected s) ≡ hangup_refusal o s
  hangup_stranded o (Hears state) down = rw (down) refl
  hangup_stranded o (Waits state id) down = rw (down) refl
  hangup_stranded o (Failed lock) down = refl
  hangup_stranded o Disconnected down = refl
  hangup_stranded o Over down = refl

  pub collect_stranded : (o : Option (NodeLog A)) (s : Standing A) → is_up o ≡ false → collect_refusal o (disconnected s) ≡ collect_refusal o s
  collect_stranded o (Hears state) down = rw (down) refl
  collect_stranded o (Waits state id) down = rw (down) refl
  collect_stranded o (Failed lock) down = refl
  collect_stranded o Disconnected down = refl
  collect_stranded o Over down = refl

  module _ (hosts : Hosts A) (es : List (ℕ × Connection A)) (session : ℕ) where
    shown_refused : (refusal : Option (NodeLog A) → Standing A → Option Refused) → ((o : Option (NodeLog A)) (s : Standing A) → is_up o ≡ false → refusal o (disconnected s) ≡ refusal o s)
        → (c : Client A) → refusal (log_of (shown (network_of hosts).logs c).node (network_of hosts).logs) (shown (network_of hosts).logs c).standing ≡ refusal (log_of c.node (network_of hosts).logs) c.standing
    shown_refused refusal alike c =
        go (is_up (log_of c.node (network_of hosts).logs)) refl
      where
        go : (t : Bool) → is_up (log_of c.node (network_of hosts).logs) ≡ t
            → refusal (log_of (cond t c (standing_as c (disconnected c.standing))).node (network_of hosts).logs) (cond t c (standing_as c (disconnected c.standing))).standing ≡ refusal (log_of c.node (network_of hosts).logs) c.standing
        go true up = refl
        go false down = alike (log_of c.node (network_of hosts).logs) c.standing down

    pub refused_found : (refusal : Option (NodeLog A) → Standing A → Option Refused) → ((o : Option (NodeLog A)) (s : Standing A) → is_up o ≡ false → refusal o (disconnected s) ≡ refusal o s)
        → (c : Connection A) → connection_of session es ≡ Some c
        → client_refusal (service_of hosts es) (client_of session (service_of hosts es).clients) refusal ≡ refusal (log_of c.node (network_of hosts).logs) (client_in c).standing
    refused_found refusal alike c found =
        ap (λ o. client_refusal (service_of hosts es) o refusal) (client_shown (network_of hosts).logs session es ∙ ap (option_map (λ x. shown (network_of hosts).logs (client_in x))) found)
        ∙ shown_refused refusal alike (client_in c)

    pub refused_absent : (refusal : Option (NodeLog A) → Standing A → Option Refused) → connection_of session es ≡ None → client_refusal (service_of hosts es) (client_of session (service_of hosts es).clients) refusal ≡ Some NoSession
    refused_absent refusal none =
        ap (λ o. client_refusal (service_of hosts es) o refusal) (client_shown (network_of hosts).logs session es ∙ ap (option_map (λ x. shown (network_of hosts).logs (client_in x))) none)

    pub connect_known : (node : ℕ) (c : Connection A) → connection_of session es ≡ Some c → connect_refusal (service_of hosts es) node (client_of session (service_of hosts es).clients) ≡ Some SessionExists
    connect_known node c found =
        ap (connect_refusal (service_of hosts es) node) (client_shown (network_of hosts).logs session es ∙ ap (option_map (λ x. shown (network_of hosts).logs (client_in x))) found)

    pub connect_new : (node : ℕ) → connection_of session es ≡ None → connect_refusal (service_of hosts es) node (client_of session (service_of hosts es).clients) ≡ connect_refusal (service_of hosts es) node None
    connect_new node none =
        ap (connect_refusal (service_of hosts es) node) (client_shown (network_of hosts).logs session es ∙ ap (option_map (λ x. shown (network_of hosts).logs (client_in x))) none)

-- who has an account
pub named : (accounts : List Account) (user : List ℕ) → has_account accounts user ≡ is_some (account_named accounts user)
named [] user = refl
named (a ∷ accounts) user =
    go (bytes_eq a.name user) (named accounts user)
  where
    go : (t : Bool) → has_account accounts user ≡ is_some (account_named accounts user)
        → (t || has_account accounts user) ≡ is_some (cond t (Some a) (account_named accounts user))
    go true h = refl
    go false h = h
