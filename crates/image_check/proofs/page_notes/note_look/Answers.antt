use Rattle.std.proofs.Common.{◌<◌, length, refl, arith}
use Rattle.image_check.proofs.LookLemmas.{looks_more, bounded_set}
use Rattle.image_check.proofs.page_notes.note_look.Goals as goal

pub returns-clause-looks : goal.returns-clause-looks
returns-clause-looks c = λ image p h is er fo.
    rw (c.step.ensures.is, er, fo) (looks_more c.args.geometry.now image c.args.row c.split_row-block.result.0 c.split_row-block.result.1 c.args.looks.now p _ _ h c.split_row-block.ensures.joined c.split_row-block.ensures.page c.split_row-block.ensures.block refl is)

pub returns-clause-bounded : goal.returns-clause-bounded
returns-clause-bounded c = let room : c.split_row-block.result.0 < length c.args.looks.now = omega arith in bounded_set c.args.looks.now c.split_row-block.result.0 c.args.row c.step.result _ room c.step.ensures.counted c.requires.bounded
