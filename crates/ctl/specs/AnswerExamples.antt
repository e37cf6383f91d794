-- Worked examples of how an answer ends.
use Rattle.std.specs.Prelude.{◌≡◌, refl, true, false, codes, None}
use Rattle.script.specs.declared.instruction.Instruction.TheVariants.{Ask}
use Rattle.script.specs.declared.request.Request.TheVariants as request
use Rattle.ctl.specs.Answers.{is_refusal, awaits_nodes, ending_by}
use Rattle.ctl.specs.declared.answer.Ending.TheVariants.{Broken, Refused, Wrong, Done}

refused : is_refusal (codes "bad mbox") ≡ true
refused = refl

-- a node that is down, as `status` reports it, is no refusal
told : is_refusal (codes "node 3 down") ≡ false
told = refl

nobody : is_refusal (codes "no such user") ≡ false
nobody = refl

-- an answer to `status` that breaks off after a node
broken_off : ending_by (Ask request.Status) (codes "node 1 up active slot 1") ≡ Broken
broken_off = refl

whole : ending_by (Ask request.Status) (codes "end") ≡ Done
whole = refl

stopped : ending_by (Ask (request.Crash 3)) (codes "down") ≡ Refused
stopped = refl

one_line : ending_by (Ask (request.Stop false false)) (codes "stopping") ≡ Done
one_line = refl

-- a node's POP3 port was asked to stop
another_server : ending_by (Ask (request.Stop false false)) (codes "-ERR unknown command") ≡ Broken
another_server = refl

deliveries_wait : awaits_nodes (request.Put None (codes "alice") 3 None) ≡ true
deliveries_wait = refl

stops_do_not : awaits_nodes (request.Stop true true) ≡ false
stops_do_not = refl

rolls_wait : awaits_nodes request.Roll ≡ true
rolls_wait = refl

rolled : ending_by (Ask request.Roll) (codes "rolled") ≡ Done
rolled = refl

-- the service has ended, or its nodes have ports
not_rolled : ending_by (Ask request.Roll) (codes "down") ≡ Refused
not_rolled = refl

-- the accounts file has no account
roll_refused : ending_by (Ask request.Roll) (codes "roll failed: accounts: none") ≡ Refused
roll_refused = refl

reopens_do_not : awaits_nodes request.Reopen ≡ false
reopens_do_not = refl

reopened : ending_by (Ask request.Reopen) (codes "reopened") ≡ Done
reopened = refl

-- the log file couldn't be opened anew
not_reopened : ending_by (Ask request.Reopen) (codes "reopen failed: cannot open the log") ≡ Refused
not_reopened = refl

-- an answer to another request
rolled_instead : ending_by (Ask request.Reopen) (codes "rolled") ≡ Broken
rolled_instead = refl

in_order : ending_by (Ask (request.Stop false true)) (codes "audit ok") ≡ Done
in_order = refl

one_node_stopped : ending_by (Ask (request.Stop false true)) (codes "stopped") ≡ Done
one_node_stopped = refl

-- a verdict that was waited for
not_in_order : ending_by (Ask (request.Stop true true)) (codes "audit no order at node 2") ≡ Wrong
not_in_order = refl

-- the service went away before its verdict
no_verdict : ending_by (Ask (request.Stop false true)) (codes "stopping") ≡ Broken
no_verdict = refl

kicked : ending_by (Ask (request.Kick (codes "alice"))) (codes "kicked 0") ≡ Done
kicked = refl

counted : ending_by (Ask request.Stats) (codes "sessions_open 3") ≡ Broken
counted = refl

unknown : ending_by (Ask (request.Put None (codes "zoe") 3 None)) (codes "no such user") ≡ Done
unknown = refl
