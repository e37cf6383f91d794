use Rattle.std.specs.Arc.{arc_value}
use Rattle.service.proofs.serve_node.run_with.Given as goal

-- what the node begins with
abbrev pub ghosts-run_node-D-Deployment : goal.ghosts-run_node-D-Deployment
ghosts-run_node-D-Deployment g a = record { setup = a.setup.now }

-- the book of its transcripts
abbrev pub ghosts-run_node-D-Ledger : goal.ghosts-run_node-D-Ledger
ghosts-run_node-D-Ledger g a = record { name = a.book.name; parts = a.book.parts }

-- the accounts that its sessions are served over
abbrev pub ghosts-run_node-D-Service : goal.ghosts-run_node-D-Service
ghosts-run_node-D-Service g a = record { accounts = arc_value a.accounts }
