use Rattle.image_check.proofs.MountableLemmas.{mountable}
use Rattle.image_check.proofs.laws.mountable_law.Goals as goal

pub returns : goal.returns
returns c = λ g capacity image whole least most. mountable g capacity image whole least most
