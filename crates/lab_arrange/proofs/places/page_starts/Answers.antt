use Rattle.std.proofs.Common.{◌≡◌, ap, ◌∙◌, arith}
use Rattle.lab_arrange.specs.Place.{row_in_turns}
use Rattle.lab_arrange.proofs.PlaceLemmas.{few_rows, some_pages, turn_lt}
use Rattle.lab_arrange.proofs.places.page_starts.Goals as goal

pub run_starts-requires-clause-few : goal.run_starts-requires-clause-few
run_starts-requires-clause-few c =
    let g = c.args.geometry.now in
    let planes = c.args.arrangement.now.planes in
    let pages : c.from-pages.result ≡ g.pages = omega arith in
    let row : c.from.result ≡ c.args.row = omega arith in
    let stands : c.row_in_turns-stands.result ≡ row_in_turns g.pages planes c.args.row = c.row_in_turns-stands.ensures ∙ (ap (λ p. row_in_turns p planes c.from.result) pages ∙ ap (row_in_turns g.pages planes) row) in
    let lt = turn_lt g.pages g.blocks c.args.row planes (some_pages g) c.requires.row c.requires.fits.even in
    let few = few_rows g in
    omega (arith, stands, lt)
