use Rattle.std.proofs.Common.{refl}
use Rattle.file_die.proofs.open.name_bad.Goals as goal

pub returns-in-Ok-clause-next_pages : goal.returns-in-Ok-clause-next_pages
returns-in-Ok-clause-next_pages c = c.in-Ok.ensures.next_pages (λ block. 0) c.requires.fresh

pub returns-in-Ok-clause-named : goal.returns-in-Ok-clause-named
returns-in-Ok-clause-named c = c.in-Ok.ensures.named (λ block. 0) c.requires.fresh

pub returns-in-Err-clause-err : goal.returns-in-Err-clause-err
returns-in-Err-clause-err c = (c.in-Err.block, refl, c.in-Err.ensures.misnamed (λ block. 0) c.requires.fresh)
