use Rattle.std.specs.Arc.{arc_value}
use Rattle.service.proofs.epochs.run_next.Given as goal

-- what the nodes begin with
abbrev pub ghosts-run_epoch-D-Deployment : goal.ghosts-run_epoch-D-Deployment
ghosts-run_epoch-D-Deployment g a = record { setup = a.setup }

-- the book of its transcripts
abbrev pub ghosts-run_epoch-D-Ledger : goal.ghosts-run_epoch-D-Ledger
ghosts-run_epoch-D-Ledger g a = record { name = a.book.name; parts = a.book.parts }

-- the accounts that its sessions are served over
abbrev pub ghosts-run_epoch-D-Service : goal.ghosts-run_epoch-D-Service
ghosts-run_epoch-D-Service g a = record { accounts = arc_value a.accounts }
