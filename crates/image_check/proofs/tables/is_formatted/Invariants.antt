use Rattle.image_check.proofs.TablesLemmas.{AreThere}
use Rattle.image_check.proofs.tables.is_formatted.Given as goal

abbrev pub invariant-loop-page : goal.invariant-loop-page
invariant-loop-page l = AreThere l.geometry l.newest l.page
