use Rattle.corrected_laws.proofs.CodeLemmas.{code_order}
use Rattle.corrected_laws.proofs.laws.code_order_law.Goals as goal

pub returns : goal.returns
returns c = code_order
