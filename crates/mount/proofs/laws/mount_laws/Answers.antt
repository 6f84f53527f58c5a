use Rattle.mount.proofs.MountLaws.{accepted, shared, sound_page, tie}
use Rattle.mount.proofs.laws.mount_laws.Goals as goal

pub returns-clause-accepted : goal.returns-clause-accepted
returns-clause-accepted c = accepted

pub returns-clause-tie : goal.returns-clause-tie
returns-clause-tie c = tie

pub returns-clause-shared : goal.returns-clause-shared
returns-clause-shared c = shared

pub returns-clause-sound : goal.returns-clause-sound
returns-clause-sound c = sound_page
