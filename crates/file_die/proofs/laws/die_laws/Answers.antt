use Rattle.file_die.proofs.DieLawLemmas.{lands, wipes, copies, always, keeps, images, since_sync, adding_goes}
use Rattle.file_die.proofs.laws.die_laws.Goals as goal

pub returns-clause-lands : goal.returns-clause-lands
returns-clause-lands c = lands

pub returns-clause-wipes : goal.returns-clause-wipes
returns-clause-wipes c = wipes

pub returns-clause-copies : goal.returns-clause-copies
returns-clause-copies c = copies

pub returns-clause-always : goal.returns-clause-always
returns-clause-always c = always

pub returns-clause-keeps : goal.returns-clause-keeps
returns-clause-keeps c = keeps

pub returns-clause-images : goal.returns-clause-images
returns-clause-images c = images

pub returns-clause-since_sync : goal.returns-clause-since_sync
returns-clause-since_sync c = since_sync

pub returns-clause-adding : goal.returns-clause-adding
returns-clause-adding c = adding_goes
