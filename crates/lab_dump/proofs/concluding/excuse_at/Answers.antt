use Rattle.std.proofs.Common.{◌∙◌, false, arith}
use Rattle.std.proofs.lemmas.List.{get_or_default}
use Rattle.lab_dump.proofs.ConcludeLemmas.{excuse_seen}
use Rattle.lab_dump.proofs.concluding.excuse_at.Goals as goal

pub returns : goal.returns
returns c = λ image size seen.
    let g = c.args.geometry.now in
    let dt = c.args.doubting.now in
    let n = c.args.block in
    excuse_seen g image dt c.args.plain n c.class_of-class.result c.index.result.now c.excuse_by.result seen c.requires.within
    (c.class_of-class.ensures image size (rw c.deref.ensures.value seen.traces) (rw c.deref-2.ensures.value seen.tables))
    (c.index.ensures ∙ get_or_default dt.kept.items n c.index.result.now false (omega arith))
    c.excuse_by.ensures
