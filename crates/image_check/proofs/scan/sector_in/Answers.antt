use Rattle.std.proofs.Common.{Some, arith, refl}
use Rattle.page_layout.specs.Page.{page}
use Rattle.page_layout.specs.Array.{content}
use Rattle.page_layout.proofs.ArrayLemmas.{latest_within}
use Rattle.image_check.proofs.SectorLemmas.{ambiguous, clear, lowest_found, none_found, of_sector, one_found, two_found}
use Rattle.image_check.proofs.scan.sector_in.Goals as goal

pub page-requires : goal.page-requires
page-requires c = latest_within _ _ _ _ _ c.in-Once.ensures

pub returns-in-Never-clause-ok : goal.returns-in-Never-clause-ok
returns-in-Never-clause-ok c =
    (none_found c.args.image.now.flash.geometry _ c.args.sector c.geometry-geometry.ensures.whole.rows c.in-Never.ensures).holds

pub returns-in-Never-clause-repeated : goal.returns-in-Never-clause-repeated
returns-in-Never-clause-repeated c =
    clear _ _ _ _ (none_found c.args.image.now.flash.geometry _ c.args.sector c.geometry-geometry.ensures.whole.rows c.in-Never.ensures)

pub returns-in-Tied-clause-rows : goal.returns-in-Tied-clause-rows
returns-in-Tied-clause-rows c =
    two_found c.args.image.now.flash.geometry _ c.args.sector _ _ _ c.geometry-geometry.ensures.whole.rows c.in-Tied.ensures

pub returns-in-Tied-clause-repeated : goal.returns-in-Tied-clause-repeated
returns-in-Tied-clause-repeated c =
    ambiguous _ _ _ _ _ (grind arith) (two_found c.args.image.now.flash.geometry _ c.args.sector _ _ _ c.geometry-geometry.ensures.whole.rows c.in-Tied.ensures)

pub returns-in-Once-clause-ok : goal.returns-in-Once-clause-ok
returns-in-Once-clause-ok c =
    (one_found c.args.image.now.flash.geometry _ c.args.sector _ _ _ _ c.geometry-geometry.ensures.whole.rows c.in-Once.ensures c.page.ensures.page
    (rw (← c.geometry-geometry.ensures.is) (c.content.ensures.is (of_sector _ c.args.sector _ _ _ _ c.in-Once.ensures c.page.ensures.page)))).holds

pub returns-in-Once-clause-repeated : goal.returns-in-Once-clause-repeated
returns-in-Once-clause-repeated c =
    let g = c.args.image.now.flash.geometry in
    clear g _ _ (content g (Some (page c.page.result.0.now c.page.result.1.now)))
    (one_found g _ c.args.sector _ _ _ _ c.geometry-geometry.ensures.whole.rows c.in-Once.ensures c.page.ensures.page refl)

pub returns-in-Tied-clause-lowest : goal.returns-in-Tied-clause-lowest
returns-in-Tied-clause-lowest c =
    lowest_found c.args.image.now.flash.geometry _ c.args.sector _ _ _ c.geometry-geometry.ensures.whole.rows c.in-Tied.ensures
