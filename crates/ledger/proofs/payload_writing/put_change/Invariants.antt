use Rattle.ledger.proofs.payload_writing.put_change.Given as goal

-- what the buffer had before the payload
abbrev pub ghosts-put_payload : goal.ghosts-put_payload
ghosts-put_payload g a = record { front = a.bytes.now.items }
