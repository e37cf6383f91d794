use Rattle.ledger.proofs.Coming.{nothing_sound, taken_sound, opened_sound, performed_sound}
use Rattle.ledger.proofs.laws.maildrops_stay_sound.Goals as goal

pub returns-clause-nothing : goal.returns-clause-nothing
returns-clause-nothing g c = nothing_sound

pub returns-clause-changed : goal.returns-clause-changed
returns-clause-changed g c = taken_sound

pub returns-clause-opened : goal.returns-clause-opened
returns-clause-opened g c = opened_sound

pub returns-clause-performed : goal.returns-clause-performed
returns-clause-performed g c = performed_sound
