use Rattle.std.proofs.Common.{◌≡◌, ◌+◌, length}
use Rattle.maildrop.specs.Office.{maildrop_of}
use Rattle.server.specs.Lone.{mails_from, are_stored}
use Rattle.server.specs.Served.{users_after_all}
use Rattle.server.proofs.mail.deliver.Given as goal

-- what the rest brings is what was to come
abbrev pub invariant-loop-text : goal.invariant-loop-text
invariant-loop-text l = record {
  stored : are_stored (maildrop_of l.user l.initial.desk.office) (mails_from l.initial.desk.next l.user l.texts) ≡ are_stored (maildrop_of l.user l.desk.office) (mails_from l.desk.next l.user l.rest);
  office : users_after_all l.initial.desk.office (mails_from l.initial.desk.next l.user l.texts) ≡ users_after_all l.desk.office (mails_from l.desk.next l.user l.rest);
  next : l.initial.desk.next + length l.texts ≡ l.desk.next + length l.rest;
}

abbrev pub decreases-loop-text : goal.decreases-loop-text
decreases-loop-text l = length l.rest
