use Rattle.page_layout.proofs.BlockLemmas.{gap_is, gap_from, pointer_is, top_is}
use Rattle.page_layout.proofs.laws.block_laws.Goals as goal

pub returns-clause-gap : goal.returns-clause-gap
returns-clause-gap c = λ ps. (gap_is ps, gap_from ps)

pub returns-clause-pointer : goal.returns-clause-pointer
returns-clause-pointer c = pointer_is

pub returns-clause-top_wear : goal.returns-clause-top_wear
returns-clause-top_wear c = top_is
