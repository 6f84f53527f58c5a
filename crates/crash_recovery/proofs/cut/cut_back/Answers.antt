use Rattle.std.proofs.Common.{◌≡◌, ◌∙◌, ap, refl, subst}
use Rattle.page_layout.specs.declared.geometry.Geometry.{Geometry}
use Rattle.page_layout.specs.Change.{erased_page}
use Rattle.nand_die.proofs.PagesLemmas.{page_of_blank}
use Rattle.onfi_cycles.specs.Cycles.{page_of}
use Rattle.crash_recovery.proofs.cut.cut_back.Goals as goal

pub cut_found-requires-clause-erased : goal.cut_found-requires-clause-erased
cut_found-requires-clause-erased g c =
    subst (λ (x : Geometry). page_of x c.deref.result.now ≡ erased_page x) c.geometry-geometry.ensures.geometry
    (ap (page_of c.geometry-geometry.result) (c.deref.ensures.value ∙ c.in_ok-erased.ensures.items_if_clones_equal (λ y e. e)) ∙ page_of_blank c.geometry-geometry.result c.page_length-2.result c.page_length-2.ensures)

pub cut_found-requires-clause-claim : goal.cut_found-requires-clause-claim
cut_found-requires-clause-claim g c = record { sizes = c.requires.sizes; whole = c.requires.whole }

pub returns-in_err-cut-clause-takes : goal.returns-in_err-cut-clause-takes
returns-in_err-cut-clause-takes g c h = (c.in_err-cut.ensures.away h).takes

pub returns-in_err-cut-clause-rose : goal.returns-in_err-cut-clause-rose
returns-in_err-cut-clause-rose g c e = c.in_err-cut.ensures.keeps.rose refl

pub returns-clause-takes : goal.returns-clause-takes
returns-clause-takes g c h = (c.in_ok-cut.ensures.away h).takes

pub returns-clause-cut : goal.returns-clause-cut
returns-clause-cut g c h = (c.in_ok-cut.ensures.away h).taken

pub returns-clause-uncut : goal.returns-clause-uncut
returns-clause-uncut g c h = (c.in_ok-cut.ensures.away h).untouched

pub returns-clause-none : goal.returns-clause-none
returns-clause-none g c h = (c.in_ok-cut.ensures.away h).none_is

pub returns-clause-settled : goal.returns-clause-settled
returns-clause-settled g c = c.in_ok-cut.ensures.keeps.settled refl
