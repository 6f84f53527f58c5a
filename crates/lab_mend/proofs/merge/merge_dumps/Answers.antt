use Rattle.std.proofs.Common.{ℕ, List, sym, subst}
use Rattle.lab_mend.specs.Merging.{ShowsMerge}
use Rattle.lab_mend.proofs.MergingLemmas.{the_tally, shows_first}
use Rattle.lab_mend.proofs.merge.merge_dumps.Goals as goal

pub merge_all-requires-clause-shows : goal.merge_all-requires-clause-shows
merge_all-requires-clause-shows g c = λ rows.
    let geo = c.args.geometry.now in
    let pieces = g.T.Pieces.pieces c.args.target in
    subst (λ (xs : List ℕ). ShowsMerge geo rows 0 xs (the_tally 0 0 0 0 0) pieces) (sym c.requires.room.no_conflicts) (shows_first geo rows pieces)
