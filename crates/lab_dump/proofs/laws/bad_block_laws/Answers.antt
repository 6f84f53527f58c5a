use Rattle.lab_dump.proofs.BadLemmas.{plain_law, rewritten_law, rewritten_told_law}
use Rattle.lab_dump.proofs.ConcludeLemmas.{once_law}
use Rattle.lab_dump.proofs.laws.bad_block_laws.Goals as goal

pub returns-clause-rewritten : goal.returns-clause-rewritten
returns-clause-rewritten c = rewritten_law

pub returns-clause-told : goal.returns-clause-told
returns-clause-told c = rewritten_told_law

pub returns-clause-plain : goal.returns-clause-plain
returns-clause-plain c = plain_law

pub returns-clause-once : goal.returns-clause-once
returns-clause-once c = once_law
