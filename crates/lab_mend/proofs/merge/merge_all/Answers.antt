use Rattle.std.proofs.Common.{map}
use Rattle.std.proofs.lemmas.Result.{err_from_is_err_and}
use Rattle.lab_dump.specs.Scan.{image_bytes}
use Rattle.lab_mend.proofs.InStepLemmas.{tell_first}
use Rattle.lab_mend.proofs.MergedLemmas.{merged, pinned_end, unmerged_end}
use Rattle.lab_mend.proofs.merge.merge_all.Goals as goal

pub returns-in_err-expect_ends-clause-err : goal.returns-in_err-expect_ends-clause-err
returns-in_err-expect_ends-clause-err g c =
    let p = err_from_is_err_and c.from_residual-in_err-expect_ends.result c.from_residual-in_err-expect_ends.ensures.1 in
    let geo = c.args.geometry.now in
    rw p.1 (λ files tell. unmerged_end geo files _ _ _
    (c.in_err-expect_ends.ensures.long files (image_bytes geo) (c.in_ok-merge_rows.ensures.read files (tell_first (map g.R.DumpReader.remaining c.args.readers.now) files tell))) p.2)

pub returns-in_err-expect_ends-clause-pinned : goal.returns-in_err-expect_ends-clause-pinned
returns-in_err-expect_ends-clause-pinned g c =
    let p = err_from_is_err_and c.from_residual-in_err-expect_ends.result c.from_residual-in_err-expect_ends.ensures.1 in
    rw p.1 (pinned_end _ _ _ _ _ c.in_err-expect_ends.ensures.failed p.2)

pub returns-clause-ok : goal.returns-clause-ok
returns-clause-ok g c = λ files tell.
    let geo = c.args.geometry.now in
    let first = tell_first (map g.R.DumpReader.remaining c.args.readers.now) files tell in
    let merging = c.merge_rows.new.merging in
    merged geo files merging.conflicts.items merging.unsound.items merging.tried.items merging.tally merging.scratch.items
    (g.T.Pieces.pieces merging.target) c.in_ok-merge_rows.ensures.stands (c.in_ok-merge_rows.ensures.shows files first)
    (c.in_ok-merge_rows.ensures.unsound files first)
    (c.in_ok-merge_rows.ensures.tried files first)
    (c.in_ok-expect_ends.ensures.ended files (image_bytes geo) (c.in_ok-merge_rows.ensures.read files first))
