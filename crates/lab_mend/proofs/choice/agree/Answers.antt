use Rattle.lab_mend.proofs.FoundLemmas.{sound_none}
use Rattle.lab_mend.proofs.choice.agree.Goals as goal

pub loop-i-init : goal.loop-i-init
loop-i-init c = sound_none c.args.geometry.now c.args.pages.now
