use Rattle.service.proofs.delivery.texts_in.Given as goal

-- so many bytes are left
abbrev pub decreases-loop-left : goal.decreases-loop-left
decreases-loop-left g l = l.left
