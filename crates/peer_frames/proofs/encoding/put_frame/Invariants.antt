use Rattle.peer_frames.proofs.encoding.put_frame.Given as goal

-- what stands before the content: what the buffer had, and the length
abbrev pub ghosts-put_content : goal.ghosts-put_content
ghosts-put_content g a = record { front = a.bytes.now.items }
