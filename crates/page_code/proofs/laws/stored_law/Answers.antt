use Rattle.page_code.proofs.Rights.{stored_law}
use Rattle.page_code.proofs.laws.stored_law.Goals as goal

pub returns : goal.returns
returns c = stored_law
